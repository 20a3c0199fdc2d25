use mathlib.Core.Path.{◌≡◌, ◌∙◌}
use Prim.Native.Nat.{ℕ}
use mathlib.Core.List.{List}
use mathlib.Core.Bool.{Bool, false, not, ◌&&◌, beq}
use native.Mathlib.Omega.{arith}
use lib.Dec.{eqb}
use lib.ListN.{get_or}
use Rattle.schedule.specs.Machine.{unborn, ended}
use Rattle.schedule.specs.Sound.{live_in}
use Rattle.order.proofs.Every.{passed_none, passed_next, passed_stop, passed_all, beq_agree}
use Rattle.soundness.proofs.listed.marks_right.Invariants.{test}
use Rattle.soundness.proofs.listed.marks_right.Goals as goal

-- by what is_live says, r
asked : (status : List ℕ) (marks : List Bool) (t : ℕ) (r : Bool) → r ≡ (not (eqb (get_or status t 0) unborn) && not (eqb (get_or status t 0) ended))
    → beq (get_or marks t false) r ≡ test status marks t
unfolding live_in
asked status marks t r q = beq_agree (get_or marks t false) r ∙ rw q

pub loop-t-init : goal.loop-t-init
loop-t-init c = passed_none

pub bounds-marks-t : goal.bounds-marks-t
bounds-marks-t c = omega arith

pub bounds-status-t : goal.bounds-status-t
bounds-status-t c = omega arith

pub returns-then-marks-t : goal.returns-then-marks-t
returns-then-marks-t c =
    let a = c.args in
    passed_stop c.loop-t.invariant c.loop-t-test.true (asked a.status.now a.marks.now _ _ c.is_live.ensures) c.if-marks-t.true

pub loop-t-preserved : goal.loop-t-preserved
loop-t-preserved c =
    passed_next c.loop-t.invariant (asked c.args.status.now c.args.marks.now _ _ c.is_live.ensures) c.if-marks-t.false

pub returns : goal.returns
returns c = passed_all c.loop-t.invariant c.loop-t-test.false
