-- `soundness::blank::zero_arrays` meets its contract: the tests are the clauses, in their order, and each array has 1,024 places.
use Rattle.std.specs.Prelude.{◌↔◌, IsTrue, EachIndex, slice_index}
use mathlib.Core.Path.{◌≡◌, ap}
use borrow.Author.Rules.{rules}
use mathlib.Core.Bool.{not}
use lib.ListN.{replicate}
use Rattle.order.specs.Words.{same_list}
use Rattle.soundness.proofs.Chains.{off, on, cut, pass}
use Rattle.soundness.proofs.Filled.{zeros_same}
use Rattle.soundness.proofs.blank.zero_arrays.Goals.{After-all, After-all-2, After-all-3, After-all-4, After-all-5}
use Rattle.soundness.proofs.blank.zero_arrays.Goals as goal

next_zero : (c : After-all) → c.all.result ≡ same_list c.args.next.now (replicate 1024 0)
next_zero c =
    let e : IsTrue c.all.result ↔ EachIndex c.args.next.now (λ k. slice_index c.args.next.now k ≡ 0) = search rules in
    zeros_same _ _ (search rules) e

status_zero : (c : After-all-2) → c.all-2.result ≡ same_list c.args.status.now (replicate 1024 0)
status_zero c =
    let e : IsTrue c.all-2.result ↔ EachIndex c.args.status.now (λ k. slice_index c.args.status.now k ≡ 0) = search rules in
    zeros_same _ _ (search rules) e

amounts_zero : (c : After-all-3) → c.all-3.result ≡ same_list c.args.amounts.now (replicate 1024 0)
amounts_zero c =
    let e : IsTrue c.all-3.result ↔ EachIndex c.args.amounts.now (λ k. slice_index c.args.amounts.now k ≡ 0) = search rules in
    zeros_same _ _ (search rules) e

left_zero : (c : After-all-4) → c.all-4.result ≡ same_list c.args.left.now (replicate 1024 0)
left_zero c =
    let e : IsTrue c.all-4.result ↔ EachIndex c.args.left.now (λ k. slice_index c.args.left.now k ≡ 0) = search rules in
    zeros_same _ _ (search rules) e

right_zero : (c : After-all-5) → c.all-5.result ≡ same_list c.args.right.now (replicate 1024 0)
right_zero c =
    let e : IsTrue c.all-5.result ↔ EachIndex c.args.right.now (λ k. slice_index c.args.right.now k ≡ 0) = search rules in
    zeros_same _ _ (search rules) e

pub returns-then-not-all : goal.returns-then-not-all
returns-then-not-all c = cut _ (off (next_zero (goal.at.returns-then-not-all c).After-all) (ap not c.if-not-all.true))

pub returns-then-not-all-2 : goal.returns-then-not-all-2
returns-then-not-all-2 c =
    let at = goal.at.returns-then-not-all-2 c in
    pass (on (next_zero at.After-all) (ap not c.if-not-all.false)) (cut _ (off (status_zero at.After-all-2) (ap not c.if-not-all-2.true)))

pub returns-then-not-all-3 : goal.returns-then-not-all-3
returns-then-not-all-3 c =
    let at = goal.at.returns-then-not-all-3 c in
    pass (on (next_zero at.After-all) (ap not c.if-not-all.false)) (pass (on (status_zero at.After-all-2) (ap not c.if-not-all-2.false))
    (cut _ (off (amounts_zero at.After-all-3) (ap not c.if-not-all-3.true))))

pub returns-then-not-all-4 : goal.returns-then-not-all-4
returns-then-not-all-4 c =
    let at = goal.at.returns-then-not-all-4 c in
    pass (on (next_zero at.After-all) (ap not c.if-not-all.false)) (pass (on (status_zero at.After-all-2) (ap not c.if-not-all-2.false))
    (pass (on (amounts_zero at.After-all-3) (ap not c.if-not-all-3.false)) (cut _ (off (left_zero at.After-all-4) (ap not c.if-not-all-4.true)))))

pub returns : goal.returns
returns c =
    let at = goal.at.returns c in
    pass (on (next_zero at.After-all) (ap not c.if-not-all.false)) (pass (on (status_zero at.After-all-2) (ap not c.if-not-all-2.false))
    (pass (on (amounts_zero at.After-all-3) (ap not c.if-not-all-3.false)) (pass (on (left_zero at.After-all-4) (ap not c.if-not-all-4.false)) (right_zero at.After-all-5))))
