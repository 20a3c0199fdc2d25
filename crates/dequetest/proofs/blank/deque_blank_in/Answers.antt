-- `dequetest::blank::deque_blank_in` meets its contract: where the first test holds, the second says no more than that the second list's links are 0.
use Rattle.std.proofs.Common.{ap, not}
use mathlib.Core.Path.{◌≡◌, ◌∙◌}
use Prim.Native.Nat.{ℕ}
use mathlib.Core.List.{List}
use mathlib.Core.Bool.{Bool, true, false, ◌&&◌, and-true}
use borrow.Author.Rules.{rules}
use lib.ListN.{length, get_or, replicate}
use lib.Dec.{eqb}
use Rattle.schedule.specs.declared.Worker.{Worker}
use Rattle.schedule.specs.Machine.{nobody}
use Rattle.schedule.specs.Links.{Links}
use Rattle.schedule.specs.Turn.{is_nobody}
use Rattle.order.specs.Words.{all_below, same_list}
use Rattle.soundness.specs.Tested.{blank_on}
use Rattle.soundness.proofs.Chains.{off, on, cut, pass, never}
use Rattle.dequetest.specs.DequeTested.{deque_blank_on}
use Rattle.dequetest.proofs.blank.deque_blank_in.Goals as goal

-- in a chain that holds, three tests are exchanged
exchanged : (p q a b c d e f t x y z : Bool) → (p && (q && (a && (b && (c && (d && (e && (f && t)))))))) ≡ true
    → (p && (q && (a && (b && (c && (x && (y && (z && t)))))))) ≡ (x && (y && z))
exchanged true true true true true true true true true x y z h = simp and-true
exchanged true true true true true true true true false x y z h = never h
exchanged true true true true true true true false t x y z h = never h
exchanged true true true true true true false f t x y z h = never h
exchanged true true true true true false e f t x y z h = never h
exchanged true true true true false d e f t x y z h = never h
exchanged true true true false c d e f t x y z h = never h
exchanged true true false b c d e f t x y z h = never h
exchanged true false a b c d e f t x y z h = never h
exchanged false q a b c d e f t x y z h = never h

module _ (p K : ℕ) (next status amounts : List ℕ) (lines bottoms : Links) (workers : List Worker) (set amount highest turns : ℕ) where
  abbrev whole : Bool
  whole = deque_blank_on p K next status amounts lines bottoms workers set amount highest turns

  abbrev with : Links → Bool
  with k = blank_on p K next status amounts k workers set amount highest turns

  not_lines : with lines ≡ false → false ≡ whole
  unfolding deque_blank_on
  not_lines e = cut _ e

  both : with lines ≡ true → {r : Bool} → r ≡ with bottoms → r ≡ whole
  unfolding blank_on deque_blank_on
  both e h =
      pass e
      (h
      ∙ exchanged (eqb p 0) (eqb K 0) (same_list next (replicate 1024 0)) (same_list status (replicate 1024 0)) (same_list amounts (replicate 1024 0))
      (same_list lines.left (replicate 1024 0)) (same_list lines.right (replicate 1024 0)) (eqb lines.head 0)
      (eqb (length workers) 16 && (all_below (λ w. is_nobody (get_or workers w nobody)) 16 && (eqb set 0 && (eqb amount 0 && (eqb highest 0 && eqb turns 0)))))
      (same_list bottoms.left (replicate 1024 0)) (same_list bottoms.right (replicate 1024 0)) (eqb bottoms.head 0) e)

pub returns-then-not-lines : goal.returns-then-not-lines
returns-then-not-lines c = not_lines _ _ _ _ _ _ _ _ _ _ _ _ (off c.blank_in-lines.ensures (ap not c.if-not-lines.true))

pub returns : goal.returns
returns c =
    both _ _ _ _ _ _ _ _ _ _ _ _ (on c.blank_in-lines.ensures (ap not c.if-not-lines.false)) c.blank_in.ensures
