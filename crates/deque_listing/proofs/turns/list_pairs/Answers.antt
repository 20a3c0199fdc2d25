-- `deque_listing::turns::list_pairs` meets its contract: check 32, the blank record, and on a sound record the turns as they are put.
use mathlib.Core.Path.{◌≡◌}
use mathlib.Core.Bool.{false}
use native.Mathlib.Omega.{arith}
use borrow.Author.Rules.{rules}
use Rattle.deques.specs.DequeSound.{SoundDeques}
use Rattle.deques.specs.DequeTurn.{unsound_deques}
use Rattle.dfdeques.proofs.DequesPassed.{deque_fails, deque_passes, deque_parents, deque_workers}
use Rattle.deque_listing.proofs.PairLines.{not_sound, lists, no_turns, no_workers}
use Rattle.deque_listing.proofs.turns.list_pairs.Goals as goal

pub returns-in_default : goal.returns-in_default
returns-in_default c =
    not_sound c.args.run c.args.order.now (deque_fails _ c.in_default.ensures) c.put_refused.ensures

pub returns-then-order-lt2 : goal.returns-then-order-lt2
returns-then-order-lt2 c =
    no_turns c.args.run c.args.order.now (deque_passes _ _ c.in-Some.ensures) c.if-record-eq0.true c.if-order-lt2.true c.put_last.ensures

pub returns-then-record-eq0 : goal.returns-then-record-eq0
returns-then-record-eq0 c =
    no_workers c.args.run c.args.order.now (deque_passes _ _ c.in-Some.ensures) c.if-record-eq0.true c.if-order-lt2.false c.put_refused-then-record-eq0.ensures

pub put_run-requires : goal.put_run-requires
put_run-requires c =
    let sound = deque_workers _ (deque_passes _ _ c.in-Some.ensures) (omega (arith, c.if-record-eq0.false)) in
    record { sound_deques = sound; parents = deque_parents _ _ c.in-Some.ensures sound }

pub returns : goal.returns
returns c =
    lists c.args.run c.args.order.now (deque_passes _ _ c.in-Some.ensures) c.put_run.ensures
