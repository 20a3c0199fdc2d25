use mathlib.Core.Path.{◌≡◌, ◌∙◌}
use Prim.Native.Nat.{ℕ, ◌-◌}
use mathlib.Core.List.{List}
use mathlib.Core.Bool.{Bool, false, ◌||◌, beq}
use native.Mathlib.Omega.{arith}
use borrow.Author.Rules.{rules}
use lib.Dec.{eqb}
use lib.ListN.{get_or}
use Rattle.schedule.specs.Machine.{ready, held}
use Rattle.order.specs.Words.{agree}
use Rattle.deques.specs.Lines.{is_held}
use Rattle.deques.specs.DequeWalk.{is_ready}
use Rattle.order.proofs.Every.{Passed, passed_none, passed_next, passed_stop, passed_all, beq_agree}
use Rattle.dequetest.proofs.lines.marks_right.Invariants.{test}
use Rattle.dequetest.proofs.lines.marks_right.Goals as goal

-- by what `stands` says, r
asked : (status : List ℕ) (marks : List Bool) (t : ℕ) (r : Bool) → r ≡ (eqb (get_or status t 0) ready || eqb (get_or status t 0) held)
    → beq (get_or marks t false) r ≡ test status marks t
asked status marks t r q = beq_agree (get_or marks t false) r ∙ rw q

pub loop-t-init : goal.loop-t-init
loop-t-init c = passed_none

pub bounds-marks-t : goal.bounds-marks-t
bounds-marks-t c = omega arith

pub bounds-status-t : goal.bounds-status-t
bounds-status-t c = omega arith

pub returns-then-marks-t : goal.returns-then-marks-t
returns-then-marks-t c =
    let a = c.args in
    passed_stop c.loop-t.invariant c.loop-t-test.true (asked a.status.now a.marks.now _ _ c.stands.ensures) c.if-marks-t.true

pub loop-t-preserved : goal.loop-t-preserved
loop-t-preserved c =
    passed_next c.loop-t.invariant (asked c.args.status.now c.args.marks.now _ _ c.stands.ensures) c.if-marks-t.false

pub returns : goal.returns
returns c = passed_all c.loop-t.invariant c.loop-t-test.false
