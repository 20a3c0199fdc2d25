-- The peak of p workers, from the functions' own promises: over every list of calls from an accepted beginning, refused ones included, memory held and its highest are at most S_p of the
-- table that runs, whatever K and whatever the order of the turns (`code_peak`, `lent_code_peak`); and at most the useful limit, for b at least 1 after each front part that keeps the rule with
-- b, for b 0 after every one (`code_useful`, `lent_code_useful`); and at most C and CE, the sharper limits for every order of turns (`code_every_order`, `lent_code_every_order`).
use Rattle.std.specs.Prelude.{Ok}
use mathlib.Core.Path.{◌≡◌, sym, ap, subst, ◌∙◌}
use Prim.Native.Nat.{ℕ}
use mathlib.Core.List.{List}
use lib.ListN.{length}
use Rattle.table.specs.Format.{table_of}
use Rattle.schedule.specs.declared.Run.{Run}
use Rattle.schedule.specs.declared.Begun.{Begun}
use Rattle.schedule.specs.Begin.{begin}
use Rattle.schedule.specs.Calls.{Call, after_calls, row_of_calls, Answer}
use Rattle.filling.specs.Filled.{filled_out}
use Rattle.bounds.proofs.PeakLimit.{PeakLimit, UsefulLimit, peak_limit, useful_limit_lem}
use Rattle.sharp.proofs.QuotaLimit.{EveryOrder, every_order}
use Rattle.run_memory.specs.Memory.{Memory}
use Rattle.run_memory.specs.Memory.{Answer as Answered}
use Rattle.run_memory.specs.Stands.{run_in}
use Rattle.wivakkol.specs.Lent.{lent_begin}
use Rattle.claims.specs.LentCalls.{LentCall, table_that_runs, Returned, moves_of}
use Rattle.claims.proofs.ByValue as by_value
use Rattle.claims.proofs.LentSays as from_c
use Rattle.claims.proofs.LentLimit.{begun_record}
use Rattle.claims.proofs.FromC.{LentHistory, begun_code_refines}

-- ---- by value

module _ {s : List ℕ} {p K : ℕ} {b : Begun} (h : by_value.BeginSays s p K b) (e : b.answer ≡ Ok tt) {calls : List Call} {answers : List Answer} {row : List ℕ} {r : Run}
    (t : by_value.History b.run calls answers row r) where
  pub code_peak : PeakLimit (table_of (filled_out s K)) p K r row
  code_peak = by_value.history_holds h e t (PeakLimit (table_of (filled_out s K)) p K) (λ f. peak_limit s p K b.run f calls)

  pub code_useful : (most : ℕ) → UsefulLimit (table_of (filled_out s K)) p K most r row
  code_useful most = by_value.history_holds h e t (UsefulLimit (table_of (filled_out s K)) p K most) (λ f. useful_limit_lem s p K b.run f calls most)

  pub code_every_order : EveryOrder (table_of (filled_out s K)) p K r row
  code_every_order = by_value.history_holds h e t (EveryOrder (table_of (filled_out s K)) p K) (λ f. every_order s p K b.run f calls)

-- ---- from C

module _ {s : List ℕ} {p K : ℕ} {out filled : List ℕ} {a : Answered} (h : from_c.BeginSays s p K out a filled) (e : a.number ≡ 0) {l : List LentCall} {answers : List Returned} {row : List ℕ}
    {M : Memory} (t : LentHistory (table_that_runs s a filled) a.memory l answers row M) where
  -- what holds of the record and of the row that the definitions give, from the beginning on, holds of the record that stands in the memory left and of the turns taken
  lent_holds : (P : Run → List ℕ → Type 0)
      → (begin s p K ≡ record { answer = Ok tt; run = (begin s p K).run } → P (after_calls (moves_of l) (begin s p K).run) (row_of_calls (moves_of l) (begin s p K).run))
      → P (run_in (table_that_runs s a filled) M) row
  lent_holds P given =
      let c = begun_code_refines h e t in
      let begun : (lent_begin s p K (length out)).number ≡ 0 = ap (λ (x : Answered). x.number) (sym (from_c.begin_is h)) ∙ e in
      subst (λ (x : Run). P x row) (sym c.record_after)
      (subst (λ (x : List ℕ). P (after_calls (moves_of l) (begin s p K).run) x) (sym c.row_is) (given (begun_record s p K (length out) begun)))

  pub lent_code_peak : PeakLimit (table_of (filled_out s K)) p K (run_in (table_that_runs s a filled) M) row
  lent_code_peak = lent_holds (PeakLimit (table_of (filled_out s K)) p K) (λ f. peak_limit s p K (begin s p K).run f (moves_of l))

  pub lent_code_useful : (most : ℕ) → UsefulLimit (table_of (filled_out s K)) p K most (run_in (table_that_runs s a filled) M) row
  lent_code_useful most = lent_holds (UsefulLimit (table_of (filled_out s K)) p K most) (λ f. useful_limit_lem s p K (begin s p K).run f (moves_of l) most)

  pub lent_code_every_order : EveryOrder (table_of (filled_out s K)) p K (run_in (table_that_runs s a filled) M) row
  lent_code_every_order = lent_holds (EveryOrder (table_of (filled_out s K)) p K) (λ f. every_order s p K (begin s p K).run f (moves_of l))
