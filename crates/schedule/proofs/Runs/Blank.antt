-- Document 01's calls on the blank record: "any turn or run in rounds on it gets 30", a run over an empty list is spent, and the blank record is left.
use Rattle.std.specs.Prelude.{Err}
use mathlib.Core.Path.{◌≡◌, refl, ap}
use Prim.Native.Nat.{ℕ}
use native.Mathlib.Omega.{arith}
use mathlib.Core.List.{List, [], ◌∷◌}
use mathlib.Core.Bool.{Bool, true, false, not, ◌&&◌}
use borrow.Author.Tests.{le-ltb}
use Rattle.table.specs.Pass.{refusal, try_at}
use Rattle.schedule.specs.declared.Ran.{Ran}
use Rattle.schedule.specs.declared.Turned.{Turned}
use Rattle.schedule.specs.declared.Report.TheVariants.{Spent, Refused}
use Rattle.schedule.specs.Record.{blank}
use Rattle.schedule.specs.Sound.{sound}
use Rattle.schedule.specs.Turn.{is_blank, unsound, root_ended, no_worker, turn_checks, turned}
use Rattle.schedule.specs.Runs.{ran, drive, list_run, rounds_run}
use Rattle.schedule.specs.Calls.{Call, turn, over_list, in_rounds, after_call, Answer, turning, report, answer_of}
use Rattle.schedule.proofs.Sound.Tests.{blank_exactly}

-- a test that lets the blank record pass
pub passes_blank : (a b : Bool) → b ≡ true → (not a && not b) ≡ false
passes_blank true b e = refl
passes_blank false b e = rw e

pub blank_tested : unsound blank ≡ false
unfolding unsound
blank_tested = passes_blank (sound blank) (is_blank blank) ((blank_exactly blank).1 refl)

blank_open : root_ended blank ≡ false
unfolding root_ended blank
blank_open = refl

pub turned_blank : (w : ℕ) → turned blank w ≡ record { answer = Err (refusal 30 0); run = blank }
unfolding turned turn_checks try_at no_worker blank
turned_blank w = rw (blank_tested, le-ltb w 0 (omega arith))

pub list_none : list_run blank [] ≡ ran (Spent 0) blank
unfolding list_run drive
list_none = rw (blank_tested, blank_open)

pub list_some : (w : ℕ) (l : List ℕ) → list_run blank (w ∷ l) ≡ ran (Refused 0 (refusal 30 0)) blank
unfolding list_run drive no_worker blank
list_some w l = rw (blank_tested, blank_open, le-ltb w 0 (omega arith))

pub rounds_blank : (limit : ℕ) → rounds_run blank limit ≡ ran (Refused 0 (refusal 30 0)) blank
unfolding rounds_run blank
rounds_blank limit = rw blank_tested

-- what a call answers on it
abbrev pub on_blank : Call → Answer
on_blank (turn w) = turning (Err (refusal 30 0))
on_blank (over_list []) = report (Spent 0)
on_blank (over_list (w ∷ l)) = report (Refused 0 (refusal 30 0))
on_blank (in_rounds limit) = report (Refused 0 (refusal 30 0))

pub blank_call : (c : Call) → (answer_of c blank ≡ on_blank c) × (after_call c blank ≡ blank)
unfolding after_call
blank_call (turn w) = let e = turned_blank w in (ap (λ (x : Turned). turning x.answer) e, ap (λ (x : Turned). x.run) e)
blank_call (over_list []) = let e = list_none in (ap (λ (x : Ran). report x.report) e, ap (λ (x : Ran). x.run) e)
blank_call (over_list (w ∷ l)) = let e = list_some w l in (ap (λ (x : Ran). report x.report) e, ap (λ (x : Ran). x.run) e)
blank_call (in_rounds limit) = let e = rounds_blank limit in (ap (λ (x : Ran). report x.report) e, ap (λ (x : Ran). x.run) e)
