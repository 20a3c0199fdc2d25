-- The place of an element in a list, and lists along which a function climbs: it has the value k at the first element, and one more at each next.
use mathlib.Core.Path.{◌≡◌, refl, ap}
use Prim.Native.Nat.{ℕ, zero, suc, ◌+◌, ◌≤◌, ◌<◌}
use mathlib.Core.List.Memᴰ
use mathlib.Core.List.{List, [], ◌∷◌, ◌++◌, Memᴰ}
use mathlib.Core.Bool.{Bool, true, false}
use mathlib.Core.Logic.{◌⊎◌, inl, inr}
use native.Mathlib.Omega.{arith}
use lib.ListN.{length, get_or}
use lib.Dec.{eqb}
use borrow.Author.Tests.{eqb-true, eqb-false}
use Rattle.table.specs.Sum.{pick}
use Rattle.order.specs.Words.{place_in}

-- ---- places

-- an element is what stands at its place
pub place_of_lem : (a : ℕ) (l : List ℕ) → Memᴰ a l → get_or l (place_in a l) 0 ≡ a
unfolding place_in
place_of_lem a [] m = absurd (Memᴰ.not-nil m)
place_of_lem a (x ∷ l) m = go (eqb a x) refl (place_of_lem a l) (Memᴰ.cases_cons m)
  where
    go : (t : Bool) → eqb a x ≡ t → (Memᴰ a l → get_or l (place_in a l) 0 ≡ a) → (a ≡ x) ⊎ Memᴰ a l
        → get_or (x ∷ l) (pick t 0 (suc (place_in a l))) 0 ≡ a
    go true e ih o = cc (eqb-true a x e)
    go false e ih (inl q) = absurd (eqb-false a x e q)
    go false e ih (inr i) = ih i

-- ---- climbing

abbrev pub Climbs : (ℕ → ℕ) → ℕ → List ℕ → Type 0
Climbs f k [] = Unit {0}
Climbs f k (x ∷ l) = (f x ≡ k) × Climbs f (suc k) l

module _ (f : ℕ → ℕ) where
  pub climbs_append : (k j : ℕ) (l r : List ℕ) → k + length l ≡ j → Climbs f k l → Climbs f j r → Climbs f k (l ++ r)
  climbs_append k j [] r e p q =
      let z : k ≡ j = omega arith in
      rw z q
  climbs_append k j (x ∷ l) r e p q = (p.0, climbs_append (suc k) j l r (omega arith) p.1 q)

  -- from 0 on the place of an element is its value
  pub climbs_place : (k a : ℕ) (l : List ℕ) → Climbs f k l → Memᴰ a l → place_in a l + k ≡ f a
  unfolding place_in
  climbs_place k a [] p m = absurd (Memᴰ.not-nil m)
  climbs_place k a (x ∷ l) p m = go (eqb a x) refl (climbs_place (suc k) a l p.1) (Memᴰ.cases_cons m)
    where
      go : (t : Bool) → eqb a x ≡ t → (Memᴰ a l → place_in a l + suc k ≡ f a) → (a ≡ x) ⊎ Memᴰ a l → pick t 0 (suc (place_in a l)) + k ≡ f a
      go true e ih o = omega (arith, p.0, ap f (eqb-true a x e))
      go false e ih (inl q) = absurd (eqb-false a x e q)
      go false e ih (inr i) = omega (arith, ih i)

  -- the values of the elements are those from k on, as many as there are elements
  pub climbs_within : (k a : ℕ) (l : List ℕ) → Climbs f k l → Memᴰ a l → (k ≤ f a) × (f a < k + length l)
  climbs_within k a [] p m = absurd (Memᴰ.not-nil m)
  climbs_within k a (x ∷ l) p m = go (climbs_within (suc k) a l p.1) (Memᴰ.cases_cons m)
    where
      go : (Memᴰ a l → (suc k ≤ f a) × (f a < suc k + length l)) → (a ≡ x) ⊎ Memᴰ a l → (k ≤ f a) × (f a < k + suc (length l))
      go ih (inl q) =
          let e : f a ≡ k = cc p.0 in
          (omega arith, omega arith)
      go ih (inr i) = (omega (arith, ih i), omega (arith, ih i))

  pub climbs_at : (k i : ℕ) (l : List ℕ) → Climbs f k l → i < length l → f (get_or l i 0) ≡ k + i
  climbs_at k i [] p h = absurd (omega arith)
  climbs_at k zero (x ∷ l) p h = omega (arith, p.0)
  climbs_at k (suc i) (x ∷ l) p h = omega (arith, climbs_at (suc k) i l p.1 (omega arith))
