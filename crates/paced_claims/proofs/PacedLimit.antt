-- The memory limit with b and no hypothesis on the row: from an accepted beginning of a run and of a pace, over every list of paced turns, lists and rounds, refused ones included, and openings.
use mathlib.Core.Path.{◌≡◌, refl, ap, subst, ◌∙◌}
use Prim.Native.Nat.{ℕ, ◌≤◌}
use native.Mathlib.Omega.{arith}
use mathlib.Core.List.{List, [], ◌∷◌, ◌++◌, map}
use lib.ListN.{get_or}
use borrow.Author.Tests.{eq-eqb}
use Rattle.table.specs.Format.{table_of}
use Rattle.schedule.specs.declared.Run.{Run}
use Rattle.schedule.specs.Calls.{turn}
use Rattle.filling.specs.Filled.{filled_out}
use Rattle.bounds.proofs.Limit.{MemoryLimit}
use Rattle.bounds.proofs.ThreadLimit.{ThreadLimit}
use Rattle.bounds.proofs.RoundsLimit.{RoundsLimit, within_rounds}
use Rattle.run_memory.specs.Memory.{Memory, turn_in, lent_turn}
use Rattle.run_memory.specs.Stands.{run_in}
use Rattle.run_memory.proofs.ByValue.{turn_settings}
use Rattle.wivakkol.specs.Lent.{lent_begin}
use Rattle.claims.specs.LentCalls.{LentCall, moving, opening, lent_move, lent_call, lent_row_of, lent_after, lent_row}
use Rattle.claims.proofs.LentLimit.{lent_limit, lent_threads, memory_so}
use Rattle.pace.specs.Pace.{start_pace}
use Rattle.pace.specs.Stands.{StandsFor}
use Rattle.pace.proofs.Exact.{start_stands, keeps_nil}
use Rattle.paced_claims.specs.PacedCalls.{PacedCall, by_rounds, Both, paced_after, paced_row}
use Rattle.paced_claims.proofs.Keeping.{Lets, Paces, lets_keep, PacedWithin, within_so}
use Rattle.paced_claims.proofs.Keeping.{stay as nobody, step as lets}
use Rattle.paced_claims.proofs.Steps.{Steps, stay, step, opened, calls_steps, below_p, open_settings}
use Rattle.paced_claims.proofs.RoundsKeep.{paced_rounds_keep}

-- ---- paced turns are turns

-- the calls without a pace that leave the same
record AsCalls (s : List ℕ) (M : Memory) (row : List ℕ) (M' : Memory) : Type 0 where
  calls : List LentCall
  memory : lent_after s calls M ≡ M'
  row_is : lent_row s calls M ≡ row

as_calls : {s : List ℕ} {M M' : Memory} {P P' row : List ℕ} → Steps s M P row M' P' → AsCalls s M row M'
unfolding lent_after lent_row lent_row_of lent_call lent_move lent_turn
as_calls stay = record { calls = []; memory = refl; row_is = refl }
as_calls {s} (step {M} {P} {w} {row} t h) =
    let r = as_calls h in
    record { calls = moving (turn w) ∷ r.calls; memory = r.memory; row_is = rw (eq-eqb (turn_in s w M).number 0 t.number) (ap (w ∷◌) r.row_is) }
as_calls (opened h) = let r = as_calls h in record { calls = opening ∷ r.calls; memory = r.memory; row_is = r.row_is }

-- ---- they keep the rule

steps_let : {s : List ℕ} {p : ℕ} {M M' : Memory} {P P' row : List ℕ} → Steps s M P row M' P' → get_or M.settings 0 0 ≡ p → Lets p P row P'
steps_let stay n = nobody
steps_let {s} (step {M} {P} {w} t k) n = lets {w = w} (omega (arith, below_p w M t.unhindered, n)) t.let_by (steps_let k (ap (λ (x : List ℕ). get_or x 0 0) (turn_settings s w M) ∙ n))
steps_let {s} (opened {M} k) n = steps_let k (ap (λ (x : List ℕ). get_or x 0 0) (open_settings s M) ∙ n)

-- ---- what every limit of a row says of them

module _ (s : List ℕ) (p K room : ℕ) (e : (lent_begin s p K room).number ≡ 0) (P : List ℕ) (calls : List PacedCall) where
  abbrev runs : List ℕ
  runs = filled_out s K

  abbrev begun : Memory
  begun = (lent_begin s p K room).memory

  abbrev taken_row_lem : List ℕ
  taken_row_lem = paced_row runs calls begun P

  abbrev run_after : Run
  run_after = run_in runs (paced_after runs calls begun P).memory

  alike : (Q : Run → List ℕ → Type 0) → ((l : List LentCall) → Q (run_in runs (lent_after runs l begun)) (lent_row runs l begun)) → Q run_after taken_row_lem
  alike Q h =
      let a : AsCalls runs begun taken_row_lem (paced_after runs calls begun P).memory = as_calls (calls_steps runs calls begun P) in
      subst (λ (N : Memory). Q (run_in runs N) taken_row_lem) a.memory (subst (λ (k : List ℕ). Q (run_in runs (lent_after runs a.calls begun)) k) a.row_is (h a.calls))

  pub paced_memory : (b : ℕ) → 1 ≤ b → MemoryLimit (table_of runs) p K b run_after taken_row_lem
  paced_memory b i = alike (MemoryLimit (table_of runs) p K b) (λ l. lent_limit s p K room e l b i)

  pub paced_threads : (b : ℕ) → 1 ≤ b → ThreadLimit (table_of runs) p K b run_after taken_row_lem
  paced_threads b i = alike (ThreadLimit (table_of runs) p K b) (λ l. lent_threads s p K room e l b i)

-- ---- the limit

-- what a list of paced calls and openings leaves, given the table s that runs
abbrev pub PacedLimit : List ℕ → ℕ → ℕ → ℕ → List ℕ → Both → Type 0
PacedLimit s p K b row after = PacedWithin (table_of s) p K b row (run_in s after.memory) after.pace

-- for every accepted beginning of a run and of a pace, and every list of paced calls, refused ones included, and openings
pub paced_limit : (s : List ℕ) (p K room b : ℕ) (l : List ℕ) → (lent_begin s p K room).number ≡ 0 → (start_pace p b l).number ≡ 0 → (calls : List PacedCall)
    → PacedLimit (filled_out s K) p K b (paced_row (filled_out s K) calls (lent_begin s p K room).memory (start_pace p b l).pace)
    (paced_after (filled_out s K) calls (lent_begin s p K room).memory (start_pace p b l).pace)
paced_limit s p K room b l e f calls =
    let F : List ℕ = filled_out s K in
    let M : Memory = (lent_begin s p K room).memory in
    let P : List ℕ = (start_pace p b l).pace in
    let row : List ℕ = paced_row F calls M P in
    let first : StandsFor P p b [] = start_stands p b l f in
    let settled : get_or M.settings 0 0 ≡ p = ap (λ (N : Memory). get_or N.settings 0 0) (memory_so s p K room e) in
    let c : Paces p b ([] ++ row) (paced_after F calls M P).pace = lets_keep (steps_let (calls_steps F calls M P) settled) [] (record { keeps = keeps_nil b; stands = first }) in
    within_so c (paced_memory s p K room e P calls b first.some_bound) (paced_threads s p K room e P calls b first.some_bound)

-- ---- rounds

-- paced rounds in calls one after the other, of any lengths and with any b: the limits with b 1
pub paced_rounds_limit : (s : List ℕ) (p K room b : ℕ) (l : List ℕ) → (lent_begin s p K room).number ≡ 0 → (start_pace p b l).number ≡ 0 → (limits : List ℕ)
    → RoundsLimit (table_of (filled_out s K)) p K (run_in (filled_out s K) (paced_after (filled_out s K) (map by_rounds limits) (lent_begin s p K room).memory (start_pace p b l).pace).memory)
paced_rounds_limit s p K room b l e f limits =
    let P : List ℕ = (start_pace p b l).pace in
    let calls : List PacedCall = map by_rounds limits in
    within_rounds (paced_memory s p K room e P calls 1 (omega arith)) (paced_threads s p K room e P calls 1 (omega arith))
    (paced_rounds_keep (filled_out s K) p b l f (lent_begin s p K room).memory limits)
