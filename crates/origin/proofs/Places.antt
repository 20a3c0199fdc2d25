-- Where the actions of the table as given stand in the filled-out table: each at a place of its own, in their order.
use Prim.Native.Nat.{ℕ, zero, suc, ◌+◌, ◌-◌, ◌≤◌, ◌<◌}
use native.Mathlib.Omega.{arith}
use native.Mathlib.Decide.{dec_lt, ℕ_discrete}
use mathlib.Core.Path.{◌≡◌, refl, ap, ◌∙◌}
use mathlib.Core.List.{[], ◌∷◌}
use mathlib.Core.Bool.{Bool, true, false}
use lib.Dec.{eqb}
use lib.ListN.{length, length-append}
use borrow.Author.Tests.{eq-eqb, ne_eqb, eqb-true}
use Rattle.table.specs.Sum.{pick}
use Rattle.table.specs.Format.{Table}
use Rattle.table.specs.Written.{action_at}
use Rattle.filling.specs.Filled.{big, in_front, filled_from}
use Rattle.filling.proofs.OldThreads.{filled_append}
use Rattle.origin.specs.Origin.{no_action, written_to, place_of, origin_below}

module _ (T : Table) (K : ℕ) where
  pub written_none : written_to T K 0 ≡ 0
  unfolding filled_from
  written_none = refl

  pub written_append : (a k : ℕ) → written_to T K (a + k) ≡ written_to T K a + length (filled_from T K a k)
  written_append a k =
      let z : 0 + a ≡ a = omega arith in
      rw (filled_append T K a k 0, z) (length-append (filled_from T K 0 a) (filled_from T K a k))

  pub written_next : (a : ℕ) → written_to T K (suc a) ≡ suc (place_of T K a)
  unfolding filled_from
  written_next a =
      let z : suc a ≡ a + 1 = omega arith in
      let e : written_to T K (suc a) ≡ written_to T K a + length (filled_from T K a 1) = ap (λ (x : ℕ). written_to T K x) z ∙ written_append a 1 in
      omega (arith, e, length-append (in_front T K a) (action_at T a ∷ []))

  pub front_big : (a : ℕ) → big T K a ≡ true → length (in_front T K a) ≡ 2
  front_big a e = rw e

  pub front_small : (a : ℕ) → big T K a ≡ false → length (in_front T K a) ≡ 0
  front_small a e = rw e

  pub written_part : (a b : ℕ) → a ≤ b → written_to T K a ≤ written_to T K b
  written_part a b h =
      let z : a + (b - a) ≡ b = omega arith in
      let e : written_to T K b ≡ written_to T K a + length (filled_from T K a (b - a)) = rw z at (written_append a (b - a)) in
      omega (arith, e)

  -- in order
  pub place_rise : (a b : ℕ) → a < b → place_of T K a < place_of T K b
  place_rise a b h = omega (arith, written_part (suc a) b h, written_next a)

  -- so no two at one place
  pub place_apart : (a b : ℕ) → (a ≡ b → ⊥) → place_of T K a ≡ place_of T K b → ⊥
  place_apart a b h e = go (dec_lt a b)
    where
      go : Dec (a < b) → ⊥
      go (yes p) = absurd (omega (arith, place_rise a b p, e))
      go (no p) = absurd (omega (arith, place_rise b a (omega (arith, h, p)), e))

  -- every place below what is written for k actions belongs to one of them, with what it gets in front of it
  pub record Group (k i : ℕ) : Type 0 where
    pub whose : ℕ
    pub known : whose < k
    pub from : written_to T K whose ≤ i
    pub to : i ≤ place_of T K whose

  pub group : (k i : ℕ) → i < written_to T K k → Group k i
  group zero i h = absurd (omega (arith, written_none))
  group (suc k) i h = go (dec_lt i (written_to T K k)) (λ p. group k i p)
    where
      go : Dec (i < written_to T K k) → (i < written_to T K k → Group k i) → Group (suc k) i
      go (yes p) ih = let g = ih p in record { whose = g.whose; known = omega (arith, g.known); from = g.from; to = g.to }
      go (no p) ih = record { whose = k; known = omega arith; from = omega (arith, p); to = omega (arith, written_next k) }

  -- ---- the search

  pub origin_place : (k a : ℕ) → a < k → origin_below T K (place_of T K a) k ≡ a
  unfolding origin_below
  origin_place zero a h = absurd (omega arith)
  origin_place (suc k) a h = go (ℕ_discrete k a) (λ p. origin_place k a p)
    where
      go : Dec (k ≡ a) → (a < k → origin_below T K (place_of T K a) k ≡ a) → origin_below T K (place_of T K a) (suc k) ≡ a
      go (yes e) ih = rw (e, eq-eqb (place_of T K a) (place_of T K a) refl)
      go (no e) ih = rw (ne_eqb (place_of T K k) (place_of T K a) (place_apart k a e)) (ih (omega (arith, e)))

  pub origin_none : (k i : ℕ) → ((a : ℕ) → a < k → place_of T K a ≡ i → ⊥) → origin_below T K i k ≡ no_action
  unfolding origin_below
  origin_none zero i h = refl
  origin_none (suc k) i h = rw (ne_eqb (place_of T K k) i (h k (omega arith))) (origin_none k i (λ a p. h a (omega arith)))

  -- what is found below 65,535 stands there
  pub origin_only : (k i a : ℕ) → origin_below T K i k ≡ a → a < no_action → (a < k) × (place_of T K a ≡ i)
  unfolding origin_below
  origin_only zero i a e h = absurd (omega (arith, e))
  origin_only (suc k) i a e h = go (eqb (place_of T K k) i) refl e (λ d. origin_only k i a d h)
    where
      go : (q : Bool) → eqb (place_of T K k) i ≡ q → pick q k (origin_below T K i k) ≡ a → (origin_below T K i k ≡ a → (a < k) × (place_of T K a ≡ i))
          → (a < suc k) × (place_of T K a ≡ i)
      go true p d ih = (omega (arith, d), rw (← d) (eqb-true (place_of T K k) i p))
      go false p d ih = let (b, q) = ih d in (omega (arith, b), q)
