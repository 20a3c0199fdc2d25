-- Lists in which no thread stands twice: a thread more and a thread less, and how long such a list can be.
use mathlib.Core.Path.{◌≡◌, refl, sym}
use Prim.Native.Nat.{ℕ, ◌≤◌, ◌<◌}
use native.Mathlib.Omega.{arith}
use mathlib.Core.List.Memᴰ
use mathlib.Core.List.{List, [], ◌∷◌, Memᴰ}
use mathlib.Core.Bool.{Bool, true, false}
use mathlib.Core.Logic.{◌⊎◌, inl, inr}
use lib.Dec.{eqb}
use lib.ListN.{length}
use borrow.Author.Tests.{eqb-true, eqb-false}
use Rattle.table.specs.Sum.{pick}
use Rattle.table.proofs.Sums.{sum_to_zero}
use Rattle.schedule.specs.Machine.{left_of, without}
use Rattle.order.specs.Words.{member, count_below}
use Rattle.order.proofs.Words.{never_true, member_exactly, Ascends}
use Rattle.order.proofs.CountBelow.{count_bound, member_more}
use Rattle.schedule.proofs.Preservation.ListMoves.{left_of_cases, without_old}
use Rattle.order.proofs.Lists.{Below}

unfoldable pub Once : List ℕ → Type 0
Once [] = Unit {0}
Once (x ∷ l) = (Memᴰ x l → ⊥) × Once l

pub ascends_once : (f : ℕ → ℕ) (l : List ℕ) → Ascends f l → Once l
unfolding Ascends Once
ascends_once f [] c = tt
ascends_once f (x ∷ l) c = ((λ m. omega (arith, c.0 x m)), ascends_once f l c.1)

-- ---- a thread more

pub once_left_of : (c t : ℕ) (l : List ℕ) → (Memᴰ c l → ⊥) → Once l → Once (left_of c t l)
unfolding Once left_of
once_left_of c t [] n o = tt
once_left_of c t (x ∷ l) n o = go (eqb x t) (once_left_of c t l (λ m. n (Memᴰ.tail m)) o.1)
  where
    at : (x ≡ c) ⊎ Memᴰ x l → ⊥
    at (inl e) = n (Memᴰ.head (sym e))
    at (inr i) = o.0 i

    go : (q : Bool) → Once (left_of c t l) → Once (pick q (c ∷ x ∷ l) (x ∷ left_of c t l))
    go true ih = (n, o)
    go false ih = ((λ m. at (left_of_cases c t x l m)), ih)

pub below_left_of : (n c t : ℕ) (l : List ℕ) → c < n → Below n l → Below n (left_of c t l)
below_left_of n c t l h b u m = go (left_of_cases c t u l m)
  where
    go : (u ≡ c) ⊎ Memᴰ u l → u < n
    go (inl e) = rw e h
    go (inr i) = b u i

-- ---- a thread less

pub once_without : (t : ℕ) (l : List ℕ) → Once l → Once (without t l)
unfolding Once without
once_without t [] o = tt
once_without t (x ∷ l) o = go (eqb x t) (once_without t l o.1)
  where
    go : (q : Bool) → Once (without t l) → Once (pick q l (x ∷ without t l))
    go true ih = o.1
    go false ih = ((λ m. o.0 (without_old t x l m)), ih)

pub once_gone : (t : ℕ) (l : List ℕ) → Once l → Memᴰ t (without t l) → ⊥
unfolding Once without
once_gone t [] o m = Memᴰ.not-nil m
once_gone t (x ∷ l) o m = go (eqb x t) refl (once_gone t l o.1) m
  where
    go : (q : Bool) → eqb x t ≡ q → (Memᴰ t (without t l) → ⊥) → Memᴰ t (pick q l (x ∷ without t l)) → ⊥
    go true q ih i = o.0 (rw (eqb-true x t q) i)
    go false q ih i = at (Memᴰ.cases_cons i)
      where
        at : (t ≡ x) ⊎ Memᴰ t (without t l) → ⊥
        at (inl e) = eqb-false x t q (sym e)
        at (inr j) = ih j

-- ---- its length

once_count : (n : ℕ) (l : List ℕ) → Once l → Below n l → count_below (λ t. member t l) n ≡ length l
unfolding member Once
once_count n [] o b = sum_to_zero (λ t. 0) n (λ t i. refl)
once_count n (x ∷ l) o b =
    let new : member x l ≡ false = never_true (member x l) (λ e. o.0 ((member_exactly x l).0 e)) in
    omega (arith, member_more n x l (b x (Memᴰ.head refl)) new, once_count n l o.1 (λ t m. b t (Memᴰ.tail m)))

pub once_short : (n : ℕ) (l : List ℕ) → Once l → Below n l → length l ≤ n
once_short n l o b = omega (arith, once_count n l o b, count_bound (λ t. member t l) n)
