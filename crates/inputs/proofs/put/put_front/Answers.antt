-- `inputs::put::put_front` meets its contract, by what the lines have given.
use native.Mathlib.Omega.{arith}
use Prim.Native.Nat.{ℕ, ◌+◌, ◌≤◌}
use mathlib.Core.Path.{◌≡◌, sym}
use mathlib.Core.List.{List}
use lib.ListN.{length, take}
use lib.Seq.{length-take-le}
use Rattle.text.proofs.Putting.{puts_none, puts_within}
use Rattle.inputs.specs.Input.{front_texts}
use Rattle.inputs.specs.Code.Steps.{Room, held_by}
use Rattle.inputs.specs.declared.front.Front.{Front as Kept}
use Rattle.inputs.specs.declared.front.Front.TheVariants.{Turns}
use Rattle.inputs.proofs.put.put_front.Goals as goal

module _ {f : Kept} (buf : List ℕ) (h : Room buf (held_by f)) where
  counted : {p K n : ℕ} → f ≡ Turns p K n → n ≤ length buf
  counted q = omega (arith, h.full, rw q at h.few)

  short : {p K n : ℕ} → f ≡ Turns p K n → 6 + length (take n buf) ≤ 4102
  short {n = n} q = omega (arith, length-take-le n buf (counted q), rw q at h.few)

pub slice_bounds-put_turns-end : goal.slice_bounds-put_turns-end
slice_bounds-put_turns-end c = sym (length-take-le _ _ (counted _ c.requires c.in-Turns.is))

pub returns-in-Nothing : goal.returns-in-Nothing
unfolding front_texts
returns-in-Nothing c = rw c.in-Nothing.is (puts_none 4102)

pub returns-in-Workers : goal.returns-in-Workers
unfolding front_texts
returns-in-Workers c = rw c.in-Workers.is (puts_none 4102)

pub returns-in-Quota : goal.returns-in-Quota
unfolding front_texts
returns-in-Quota c = rw c.in-Quota.is (puts_none 4102)

pub returns-in-Between : goal.returns-in-Between
unfolding front_texts
returns-in-Between c = rw c.in-Between.is (puts_none 4102)

pub returns-in-Turns : goal.returns-in-Turns
returns-in-Turns c = rw c.in-Turns.is (puts_within (short _ c.requires c.in-Turns.is) c.put_turns.ensures)

pub returns-in-Rounds : goal.returns-in-Rounds
returns-in-Rounds c = rw c.in-Rounds.is (puts_within (omega arith) c.put_rounds.ensures)

pub returns-in-Board : goal.returns-in-Board
returns-in-Board c = rw c.in-Board.is (puts_within (omega arith) c.put_board.ensures)
