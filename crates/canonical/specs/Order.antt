-- Comparing two tables by the bytes of their canonical forms (change request N14).
use Rattle.std.specs.Prelude.{◌≡◌, ℕ, ◌<◌, List, [], ◌∷◌, ltb, length, get_or}
use Rattle.std.specs.declared.cmp.Ordering.{Ordering}
use Rattle.std.specs.declared.cmp.Ordering.TheVariants.{Less, Equal, Greater}
use Rattle.table.specs.Sum.{pick}
use Rattle.canonical.specs.Canonical.{canonical}

-- "before, equal or after"
abbrev pub swapped : Ordering → Ordering
swapped Less = Greater
swapped Equal = Equal
swapped Greater = Less

-- "the first difference deciding"; what ends first comes first, which two canonical forms never need (`no_front`)
unfoldable pub byte_order : List ℕ → List ℕ → Ordering
byte_order [] [] = Equal
byte_order [] (y ∷ l) = Less
byte_order (x ∷ k) [] = Greater
byte_order (x ∷ k) (y ∷ l) = pick (ltb x y) Less (pick (ltb y x) Greater (byte_order k l))

abbrev pub compare_tables : List ℕ → List ℕ → Ordering
compare_tables s u = byte_order (canonical s) (canonical u)

-- a first place at which the first list has the smaller byte
pub record SmallerAt (a b : List ℕ) : Type 0 where
  pub place : ℕ
  pub inside : place < length a
  pub inside' : place < length b
  pub same : (j : ℕ) → j < place → get_or a j 0 ≡ get_or b j 0
  pub smaller : get_or a place 0 < get_or b place 0
