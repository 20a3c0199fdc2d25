-- `soundness::sound::copy_sound` meets its contract: the length is that of the part in use where it is at most the size of the array.
use mathlib.Core.Path.{◌≡◌, sym, ap, ◌∙◌}
use Prim.Native.Nat.{ℕ, ◌≤◌, ◌<◌}
use mathlib.Core.List.{List}
use mathlib.Core.Bool.{Bool, true, false}
use native.Mathlib.Omega.{arith}
use native.Mathlib.Nat.{min-le_right}
use borrow.Author.Tests.{eq-eqb, ne_eqb}
use lib.ListN.{length, take, length-take}
use lib.Seq.{length-take-le}
use lib.Dec.{eqb}
use Rattle.schedule.specs.declared.Run.{Run}
use Rattle.schedule.specs.Record.{bytes_of}
use Rattle.order.specs.Words.{filled, same_list}
use Rattle.soundness.specs.Code.Checks.{copy_sound}
use Rattle.soundness.proofs.Chains.{cut, pass, never}
use borrow.Author.Rules.{rules}
use Rattle.soundness.proofs.sound.copy_sound.Goals.{Start}
use Rattle.soundness.proofs.sound.copy_sound.Goals as goal

-- more than the array has cannot be taken
short : (k size : ℕ) (l : List ℕ) → length l ≡ size → size < k → eqb (length (take k l)) k ≡ false
short k size l z h =
    ne_eqb (length (take k l)) k (λ e.
    let m : length (take k l) ≤ length l = rw (length-take k l) (min-le_right k (length l)) in
    omega (arith, e, m, z, h))

enough : (k size : ℕ) (l : List ℕ) → length l ≡ size → k ≤ size → eqb (length (take k l)) k ≡ true
enough k size l z h = eq-eqb (length (take k l)) k (length-take-le k l (omega (arith, z, h)))

module _ (r : Run) (z : length r.table ≡ 36868) where
  long_table : 36868 < r.length → false ≡ copy_sound r
  long_table h = cut _ (short r.length 36868 r.table z h)

  all_right : r.length ≤ 36868 → {t : Bool} → t ≡ same_list r.table (filled (length r.table) (bytes_of r)) → t ≡ copy_sound r
  all_right a x = pass (enough r.length 36868 r.table z a) (x ∙ ap (λ (k : ℕ). same_list r.table (filled k (bytes_of r))) z)

table_size : (c : Start) → length c.args.run.table ≡ 36868
table_size c = search rules

pub returns-then-length-gt36868 : goal.returns-then-length-gt36868
returns-then-length-gt36868 c = record { value = long_table c.args.run (table_size (goal.at.returns-then-length-gt36868 c).Start) c.if-length-gt36868.true; length_bound = never }

pub slice_bounds-bytes_rest-end : goal.slice_bounds-bytes_rest-end
slice_bounds-bytes_rest-end c = sym (table_size (goal.at.slice_bounds-bytes_rest-end c).Start)

pub returns : goal.returns
returns c = record { value = all_right c.args.run (table_size (goal.at.returns c).Start) c.if-length-gt36868.false c.bytes_rest.ensures; length_bound = (λ h. c.if-length-gt36868.false) }
