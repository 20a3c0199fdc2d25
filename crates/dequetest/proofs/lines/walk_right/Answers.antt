-- `dequetest::lines::walk_right` meets its contract: the tests are the clauses, in their order, and the marks are the threads in the row.
use Rattle.std.proofs.Common.{ap, not}
use mathlib.Core.Path.{◌≡◌, ◌∙◌}
use Prim.Native.Nat.{ℕ}
use mathlib.Core.List.{List}
use mathlib.Core.Bool.{Bool, false, ◌||◌}
use borrow.Author.Rules.{rules}
use lib.ListN.{get_or, take}
use Rattle.order.specs.Words.{all_below, member, agree}
use Rattle.soundness.proofs.Chains.{off, on, cut, pass}
use Rattle.order.proofs.Every.{all_cong}
use Rattle.deques.specs.Lines.{is_held}
use Rattle.deques.specs.DequeWalk.{is_ready}
use Rattle.dequetest.proofs.lines.walk_right.Goals as goal

-- marks that are the threads in a row
by_marks : (n : ℕ) (status row : List ℕ) (marks : List Bool) → ((t : ℕ) → get_or marks t false ≡ member t row) → {r : Bool}
    → r ≡ all_below (λ t. agree (get_or marks t false) (is_ready status t || is_held status t)) n → r ≡ all_below (λ t. agree (member t row) (is_ready status t || is_held status t)) n
by_marks n status row marks h e =
    e
    ∙ all_cong (λ t. agree (get_or marks t false) (is_ready status t || is_held status t)) (λ t. agree (member t row) (is_ready status t || is_held status t)) n (λ t p. rw (h t))

pub returns-then-not-mark_once : goal.returns-then-not-mark_once
returns-then-not-mark_once c = cut _ (off c.mark_once.ensures.value (ap not c.if-not-mark_once.true))

pub returns-then-not-in_lines : goal.returns-then-not-in_lines
returns-then-not-in_lines c =
    pass (on c.mark_once.ensures.value (ap not c.if-not-mark_once.false)) (cut _ (off c.in_lines.ensures (ap not c.if-not-in_lines.true)))

pub returns : goal.returns
returns c =
    let a = c.args in
    pass (on c.mark_once.ensures.value (ap not c.if-not-mark_once.false))
    (pass (on c.in_lines.ensures (ap not c.if-not-in_lines.false))
    (by_marks a.n a.status.now (take a.len a.row.now) c.mark_once.new.marks (c.mark_once.ensures.false_after c.if-not-mark_once.false) c.marks_right.ensures))
