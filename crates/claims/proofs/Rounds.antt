-- One run in rounds from an accepted beginning, by value and from C, from the functions' own promises: rounds keep the rule with 1, so that no condition on the turns is left. Short runs in
-- rounds one after the other break it (`short_rounds_break`, crates/bounds/proofs/Rounds).
use Rattle.std.specs.Prelude.{Ok}
use mathlib.Core.Path.{◌≡◌, sym, ap, subst, ◌∙◌}
use Prim.Native.Nat.{ℕ, ◌*◌, ◌≤◌}
use mathlib.Core.List.{List, [], ◌∷◌}
use lib.ListN.{length, get_or}
use Rattle.table.specs.Format.{table_of}
use Rattle.schedule.specs.declared.Run.{Run}
use Rattle.schedule.specs.declared.Begun.{Begun}
use Rattle.schedule.specs.declared.Ran.{Ran}
use Rattle.schedule.specs.declared.Report.{Report}
use Rattle.filling.specs.Filled.{filled_out}
use Rattle.schedule.specs.Begin.{begin, start_run}
use Rattle.schedule.specs.Runs.{rounds_run}
use Rattle.schedule.specs.Calls.{Call, in_rounds, after_call, after_calls, report}
use Rattle.schedule.proofs.Runs.Histories.{begin_started}
use Rattle.order.specs.Turns.{turns_of}
use Rattle.bounds.proofs.Most.{rounds_finish}
use Rattle.bounds.proofs.RoundsLimit.{RoundsLimit, rounds_limit, rounds_row_keeps}
use Rattle.quota.specs.Quota.{quoted}
use Rattle.run_memory.specs.Memory.{Memory, Answer}
use Rattle.run_memory.specs.Stands.{run_in}
use Rattle.claims.specs.LentCalls.{table_that_runs, Returned, returned, moves_of}
use Rattle.claims.specs.Answers.{in_numbers, returned_by}
use Rattle.claims.proofs.ByValue as by_value
use Rattle.claims.proofs.LentSays as from_c
use Rattle.claims.proofs.LentLimit.{begun_record}
use Rattle.claims.proofs.FromC.{none, next, by_rounds_lem, runs_so, begun_code_refines}
use Rattle.claims.proofs.Board.{quota_begins, lent_begins, quota_serves}

-- ---- the limits

-- By value: `asyncdf::begin` accepted, and `asyncdf::run_rounds` followed on its record, with any limit. Memory held and its highest are at most S1 + K·(p − 1)·(D − 1), and the threads in the
-- list at most N + (p − 1)·(D − 1), with D and N of the filled-out table.
pub code_rounds_limit : {s : List ℕ} {p K : ℕ} {b : Begun} → by_value.BeginSays s p K b → b.answer ≡ Ok tt → {turns : ℕ} {d : Ran} → by_value.RoundsSays b.run turns d
    → RoundsLimit (table_of (filled_out s K)) p K d.run
code_rounds_limit {s} {p} {K} {b} h e {turns} {d} k =
    let f : begin s p K ≡ record { answer = Ok tt; run = b.run } = sym (by_value.begin_is h) ∙ (λ i. record { answer = e i; run = b.run }) in
    subst (λ (x : Ran). RoundsLimit (table_of (filled_out s K)) p K x.run) (sym (by_value.rounds_is k)) (rounds_limit s p K b.run f turns)

-- the record that one run in rounds from C leaves is that of document 01's run
lent_rounds_after : {s : List ℕ} {p K : ℕ} {out filled : List ℕ} {a : Answer} → from_c.BeginSays s p K out a filled → a.number ≡ 0
    → {turns : ℕ} {d : Answer} → from_c.RoundsSays (table_that_runs s a filled) turns a.memory d
    → run_in (table_that_runs s a filled) d.memory ≡ (rounds_run (begin s p K).run turns).run
unfolding after_calls after_call moves_of
lent_rounds_after h e k = (begun_code_refines h e (next (by_rounds_lem k) none)).record_after

-- From C: `wivakkol_begin_on` answered 0, and `wivakkol_rounds_on` followed on its memory, given the table that runs.
pub lent_code_rounds_limit : {s : List ℕ} {p K : ℕ} {out filled : List ℕ} {a : Answer} → from_c.BeginSays s p K out a filled → a.number ≡ 0
    → {turns : ℕ} {d : Answer} → from_c.RoundsSays (table_that_runs s a filled) turns a.memory d
    → RoundsLimit (table_of (filled_out s K)) p K (run_in (table_that_runs s a filled) d.memory)
lent_code_rounds_limit {s} {p} {K} {out} {filled} {a} h e {turns} {d} k =
    let f = begun_record s p K (length out) (ap (λ (x : Answer). x.number) (sym (from_c.begin_is h)) ∙ e) in
    subst (RoundsLimit (table_of (filled_out s K)) p K) (sym (lent_rounds_after h e k)) (rounds_limit s p K (begin s p K).run f turns)

first_of : List Returned → Returned
first_of [] = returned 0 []
first_of (x ∷ l) = x

-- N8 from C: "from the beginning L = p × (m + A + J) turns in rounds always reply finished", with the table as run. The row's second number is 6, finished.
pub lent_code_finishes : {s : List ℕ} {p K : ℕ} {out filled : List ℕ} {a : Answer} → from_c.BeginSays s p K out a filled → a.number ≡ 0
    → {d : Answer} → from_c.RoundsSays (table_that_runs s a filled) (p * turns_of (table_of (filled_out s K))) a.memory d → (d.number ≡ 0) × (get_or d.row 1 0 ≡ 6)
unfolding returned_by first_of
lent_code_finishes {s} {p} {K} {out} {filled} {a} h e {d} k =
    let f = begun_record s p K (length out) (ap (λ (x : Answer). x.number) (sym (from_c.begin_is h)) ∙ e) in
    let (n, q) = rounds_finish s p K (begin s p K).run f in
    let x = ap first_of (begun_code_refines h e (next (by_rounds_lem k) none)).answers_are ∙ ap (λ (z : Report). in_numbers (report z)) q in
    (ap (λ (z : Returned). z.number) x, ap (λ (z : Returned). get_or z.row 1 0) x)

-- ---- the board

-- the record's memory held and its highest are at most M
pub record WithinMemory (M : ℕ) (r : Run) : Type 0 where
  pub held : r.held ≤ M
  pub highest : r.highest ≤ M

-- The quota that is given for p, b 1 and M serves every run in rounds from its beginning.
pub quota_serves_rounds : (s : List ℕ) (p M K : ℕ) → quoted s p 1 M ≡ Ok K → (turns : ℕ) → WithinMemory M (rounds_run (start_run s p K) turns).run
unfolding after_calls after_call start_run
quota_serves_rounds s p M K e turns =
    let i = begin_started s p K (start_run s p K) (quota_begins s p 1 M K e).begun in
    let w = ((quota_serves s p 1 M K e).1 (in_rounds turns ∷ [])).recorded (rounds_row_keeps (start_run s p K) i.some_worker turns) in
    record { held = w.0; highest = w.1 }

-- By value: the beginning with it accepts, and so it is for every run in rounds on its record.
pub record RoundsServed (M : ℕ) (b : Begun) : Type 0 where
  pub accepted : b.answer ≡ Ok tt
  pub within : {turns : ℕ} {d : Ran} → by_value.RoundsSays b.run turns d → WithinMemory M d.run

pub code_quota_serves_rounds : {s : List ℕ} {p M K : ℕ} → quoted s p 1 M ≡ Ok K → {b : Begun} → by_value.BeginSays s p K b → RoundsServed M b
code_quota_serves_rounds {s} {p} {M} {K} e {b} h =
    let a : b ≡ record { answer = Ok tt; run = start_run s p K } = by_value.begin_is h ∙ (quota_begins s p 1 M K e).begun in
    record {
      accepted = ap (λ (x : Begun). x.answer) a;
      within = λ {turns} {d} k.
          subst (λ (x : Ran). WithinMemory M x.run) (sym (by_value.rounds_is k ∙ ap (λ (x : Begun). rounds_run x.run turns) a)) (quota_serves_rounds s p M K e turns);
    }

-- From C: the beginning with it answers 0, and so it is for every run in rounds on its memory.
pub record LentRoundsServed (s : List ℕ) (M : ℕ) (a : Answer) : Type 0 where
  pub accepted : a.number ≡ 0
  pub within : {turns : ℕ} {d : Answer} → from_c.RoundsSays s turns a.memory d → WithinMemory M (run_in s d.memory)

pub lent_code_quota_serves_rounds : {s : List ℕ} {p M K : ℕ} → quoted s p 1 M ≡ Ok K → {out filled : List ℕ} {a : Answer} → from_c.BeginSays s p K out a filled → LentRoundsServed s M a
lent_code_quota_serves_rounds {s} {p} {M} {K} e {out} {filled} {a} h =
    let n : a.number ≡ 0 = ap (λ (x : Answer). x.number) (from_c.begin_is h) ∙ lent_begins s p K (quota_begins s p 1 M K e) (length out) in
    let i : table_that_runs s a filled ≡ s = runs_so h n ∙ (quota_begins s p 1 M K e).in_place in
    record {
      accepted = n;
      within = λ {turns} {d} k.
          let r = ap (λ (u : List ℕ). run_in u d.memory) (sym i) ∙ lent_rounds_after h n (subst (λ (u : List ℕ). from_c.RoundsSays u turns a.memory d) (sym i) k) ∙ ap (λ (x : Begun). (rounds_run x.run turns).run) (quota_begins s p 1 M K e).begun in
          subst (WithinMemory M) (sym r) (quota_serves_rounds s p M K e turns);
    }
