-- `assembly::unseen::is_marked` meets its contract: the first three bytes, where there are so many.
use Prim.Native.Nat.{ℕ, ◌<◌}
use native.Mathlib.Omega.{arith}
use mathlib.Core.Path.{◌≡◌, refl, sym}
use mathlib.Core.List.{List, [], ◌∷◌}
use mathlib.Core.Bool.{Bool, true, false}
use lib.Dec.{eqb}
use lib.ListN.{length, take}
use lib.Seq.{length-take-le}
use Rattle.table.specs.Sum.{pick}
use Rattle.assembly.specs.Words.{same}
use Rattle.assembly.proofs.unseen.is_marked.Goals as goal

pick_false : (t : Bool) → false ≡ pick t false false
pick_false true = refl
pick_false false = refl

-- a line of fewer bytes has no mark
short : (l : List ℕ) → length l < 3 → false ≡ same (take 3 l) (239 ∷ 187 ∷ 191 ∷ [])
unfolding same
short [] h = refl
short (a ∷ []) h = pick_false (eqb a 239)
short (a ∷ b ∷ []) h = rw (← pick_false (eqb b 187)) (pick_false (eqb a 239))
short (a ∷ b ∷ d ∷ l) h = absurd (omega arith)

pub returns-then-line-lt3 : goal.returns-then-line-lt3
returns-then-line-lt3 c = short c.args.line.now (omega (arith, c.if-line-lt3.true))

pub slice_bounds-same-end : goal.slice_bounds-same-end
slice_bounds-same-end c = sym (length-take-le 3 c.args.line.now (omega arith))
