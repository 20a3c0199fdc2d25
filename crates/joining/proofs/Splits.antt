-- The parts of bytes that are lent back to back.
use mathlib.Core.Path.{◌≡◌, refl, ap, ◌∙◌}
use Prim.Native.Nat.{ℕ, zero, suc, ◌+◌, ◌≤◌, ◌<◌}
use mathlib.Core.List.{List, [], ◌∷◌}
use native.Mathlib.Omega.{arith}
use lib.ListN.{length, get_or, take, drop}
use lib.Seq.{drop-drop}
use Rattle.joining.specs.Answers.{parts_of, sum_of}

pub parts_length : (ls s : List ℕ) → length (parts_of ls s) ≡ length ls
unfolding parts_of
parts_length [] s = refl
parts_length (l ∷ ls) s = ap suc (parts_length ls (drop l s))

-- one length more
pub sum_next : (ls : List ℕ) (i : ℕ) → i < length ls → sum_of (take (suc i) ls) ≡ sum_of (take i ls) + get_or ls i 0
unfolding sum_of
sum_next [] i h = absurd (omega arith)
sum_next (l ∷ ls) zero h = omega arith
sum_next (l ∷ ls) (suc i) h = omega (arith, sum_next ls i (omega arith))

pub sum_within : (ls : List ℕ) (i : ℕ) → sum_of (take i ls) ≤ sum_of ls
unfolding sum_of
sum_within [] zero = omega arith
sum_within [] (suc i) = omega arith
sum_within (l ∷ ls) zero = omega arith
sum_within (l ∷ ls) (suc i) = omega (arith, sum_within ls i)

-- part i begins after those before it
pub part_is : (ls s : List ℕ) (i : ℕ) → i < length ls → get_or (parts_of ls s) i [] ≡ take (get_or ls i 0) (drop (sum_of (take i ls)) s)
unfolding parts_of sum_of
part_is [] s i h = absurd (omega arith)
part_is (l ∷ ls) s zero h = refl
part_is (l ∷ ls) s (suc i) h = part_is ls (drop l s) i (omega arith) ∙ ap (take (get_or ls i 0)) (drop-drop (sum_of (take i ls)) l s)
