-- The order of lists of bytes: total, and decided at the first difference.
use Prim.Native.Nat.{ℕ, zero, suc, ◌<◌}
use native.Mathlib.Omega.{arith}
use native.Mathlib.Decide.{dec_lt}
use mathlib.Core.Path.{◌≡◌, refl, sym, ap, ◌∙◌}
use mathlib.Core.List.{List, [], ◌∷◌}
use mathlib.Core.Logic.{◌⊎◌, inl, inr}
use lib.ListN.{length, get_or}
use borrow.Author.Tests.{lt-ltb, le-ltb, eq-eqb, ne_eqb}
use Rattle.std.specs.Ordering.{nat_cmp}
use Rattle.std.specs.Cmp.Lexicographic.{slice_cmp}
use Rattle.table.proofs.Tests.{no_way}
use Rattle.std.specs.declared.cmp.Ordering.TheVariants.{Less, Equal, Greater}
use Rattle.canonical.specs.Order.{swapped, byte_order, SmallerAt}

-- three ways that two numbers stand
data Stand (x y : ℕ) : Type 0 where
  lower : x < y → Stand x y
  level : x ≡ y → Stand x y
  higher : y < x → Stand x y

stand : (x y : ℕ) → Stand x y
stand x y = go (dec_lt x y) (dec_lt y x)
  where
    go : Dec (x < y) → Dec (y < x) → Stand x y
    go (yes p) d = lower p
    go (no p) (yes d) = higher d
    go (no p) (no d) = level (omega (arith, p, d))

module _ (x y : ℕ) (k l : List ℕ) where
  pub order_lower : x < y → byte_order (x ∷ k) (y ∷ l) ≡ Less
  unfolding byte_order
  order_lower h = rw (lt-ltb x y h)

  pub order_higher : y < x → byte_order (x ∷ k) (y ∷ l) ≡ Greater
  unfolding byte_order
  order_higher h = rw (le-ltb x y (omega arith), lt-ltb y x h)

  pub order_level : x ≡ y → byte_order (x ∷ k) (y ∷ l) ≡ byte_order k l
  unfolding byte_order
  order_level h = rw (le-ltb x y (omega arith), le-ltb y x (omega arith))

pub order_refl : (a : List ℕ) → byte_order a a ≡ Equal
unfolding byte_order
order_refl [] = refl
order_refl (x ∷ a) = order_level x x a a refl ∙ order_refl a

pub order_equal : (a b : List ℕ) → byte_order a b ≡ Equal → a ≡ b
unfolding byte_order
order_equal [] [] h = refl
order_equal [] (y ∷ b) h = no_way (cc)
order_equal (x ∷ a) [] h = no_way (cc)
order_equal (x ∷ a) (y ∷ b) h = go (stand x y) (order_equal a b)
  where
    go : Stand x y → (byte_order a b ≡ Equal → a ≡ b) → x ∷ a ≡ y ∷ b
    go (lower p) ih = no_way (cc (order_lower x y a b p))
    go (level p) ih = let q : a ≡ b = ih (sym (order_level x y a b p) ∙ h) in rw (p, q)
    go (higher p) ih = no_way (cc (order_higher x y a b p))

pub order_swap : (a b : List ℕ) → byte_order b a ≡ swapped (byte_order a b)
unfolding byte_order
order_swap [] [] = refl
order_swap [] (y ∷ b) = refl
order_swap (x ∷ a) [] = refl
order_swap (x ∷ a) (y ∷ b) = go (stand x y) (order_swap a b)
  where
    go : Stand x y → byte_order b a ≡ swapped (byte_order a b) → byte_order (y ∷ b) (x ∷ a) ≡ swapped (byte_order (x ∷ a) (y ∷ b))
    go (lower p) ih = order_higher y x b a p ∙ ap swapped (sym (order_lower x y a b p))
    go (level p) ih = order_level y x b a (sym p) ∙ ih ∙ ap swapped (sym (order_level x y a b p))
    go (higher p) ih = order_lower y x b a p ∙ ap swapped (sym (order_higher x y a b p))

pub order_trans : (a b c : List ℕ) → byte_order a b ≡ Less → byte_order b c ≡ Less → byte_order a c ≡ Less
unfolding byte_order
order_trans [] [] c h k = no_way (cc)
order_trans [] (y ∷ b) [] h k = no_way (cc)
order_trans [] (y ∷ b) (z ∷ c) h k = refl
order_trans (x ∷ a) [] c h k = no_way (cc)
order_trans (x ∷ a) (y ∷ b) [] h k = no_way (cc)
order_trans (x ∷ a) (y ∷ b) (z ∷ c) h k = go (stand x y) (stand y z) (order_trans a b c)
  where
    go : Stand x y → Stand y z → (byte_order a b ≡ Less → byte_order b c ≡ Less → byte_order a c ≡ Less) → byte_order (x ∷ a) (z ∷ c) ≡ Less
    go (lower p) (lower q) ih = order_lower x z a c (omega arith)
    go (lower p) (level q) ih = order_lower x z a c (omega arith)
    go (level p) (lower q) ih = order_lower x z a c (omega arith)
    go (level p) (level q) ih = order_level x z a c (omega arith) ∙ ih (sym (order_level x y a b p) ∙ h) (sym (order_level y z b c q) ∙ k)
    go (higher p) q ih = no_way (cc (order_higher x y a b p))
    go (lower p) (higher q) ih = no_way (cc (order_higher y z b c q))
    go (level p) (higher q) ih = no_way (cc (order_higher y z b c q))

-- ---- the first difference

pub record Front (a b : List ℕ) : Type 0 where
  pub shorter : length a < length b
  pub same : (j : ℕ) → j < length a → get_or a j 0 ≡ get_or b j 0

later : (x y : ℕ) (a b : List ℕ) → x ≡ y → SmallerAt a b → SmallerAt (x ∷ a) (y ∷ b)
later x y a b e z =
    record { place = suc z.place; inside = omega (arith, z.inside); inside' = omega (arith, z.inside'); same = same; smaller = z.smaller }
  where
    same : (j : ℕ) → j < suc z.place → get_or (x ∷ a) j 0 ≡ get_or (y ∷ b) j 0
    same zero h = e
    same (suc j) h = z.same j (omega arith)

front_later : (x y : ℕ) (a b : List ℕ) → x ≡ y → Front a b → Front (x ∷ a) (y ∷ b)
front_later x y a b e z = record { shorter = omega (arith, z.shorter); same = same }
  where
    same : (j : ℕ) → j < suc (length a) → get_or (x ∷ a) j 0 ≡ get_or (y ∷ b) j 0
    same zero h = e
    same (suc j) h = z.same j (omega arith)

pub order_found : (a b : List ℕ) → byte_order a b ≡ Less → SmallerAt a b ⊎ Front a b
unfolding byte_order
order_found [] [] h = no_way (cc)
order_found [] (y ∷ b) h = inr (record { shorter = omega arith; same = λ j l. absurd (omega arith) })
order_found (x ∷ a) [] h = no_way (cc)
order_found (x ∷ a) (y ∷ b) h = go (stand x y) (order_found a b)
  where
    wrap : x ≡ y → SmallerAt a b ⊎ Front a b → SmallerAt (x ∷ a) (y ∷ b) ⊎ Front (x ∷ a) (y ∷ b)
    wrap p (inl z) = inl (later x y a b p z)
    wrap p (inr z) = inr (front_later x y a b p z)

    go : Stand x y → (byte_order a b ≡ Less → SmallerAt a b ⊎ Front a b) → SmallerAt (x ∷ a) (y ∷ b) ⊎ Front (x ∷ a) (y ∷ b)
    go (lower p) ih = inl (record { place = 0; inside = omega arith; inside' = omega arith; same = λ j l. absurd (omega arith); smaller = p })
    go (level p) ih = wrap p (ih (sym (order_level x y a b p) ∙ h))
    go (higher p) ih = no_way (cc (order_higher x y a b p))

pub order_smaller : (a b : List ℕ) → SmallerAt a b → byte_order a b ≡ Less
order_smaller [] b z = absurd (omega (arith, z.inside))
order_smaller (x ∷ a) [] z = absurd (omega (arith, z.inside'))
order_smaller (x ∷ a) (y ∷ b) z = go z.place refl (order_smaller a b)
  where
    go : (i : ℕ) → z.place ≡ i → (SmallerAt a b → byte_order a b ≡ Less) → byte_order (x ∷ a) (y ∷ b) ≡ Less
    go zero e ih = order_lower x y a b (rw e at z.smaller)
    go (suc i) e ih =
        order_level x y a b (z.same 0 (omega arith))
        ∙ ih (record { place = i; inside = omega (arith, z.inside); inside' = omega (arith, z.inside'); same = λ j l. z.same (suc j) (omega arith); smaller = rw e at z.smaller })

-- ---- the library's order of slices

pub by_slices : (a b : List ℕ) → slice_cmp nat_cmp a b ≡ byte_order a b
unfolding byte_order
by_slices [] [] = refl
by_slices [] (y ∷ b) = refl
by_slices (x ∷ a) [] = refl
by_slices (x ∷ a) (y ∷ b) = go (stand x y) (by_slices a b)
  where
    go : Stand x y → slice_cmp nat_cmp a b ≡ byte_order a b → slice_cmp nat_cmp (x ∷ a) (y ∷ b) ≡ byte_order (x ∷ a) (y ∷ b)
    go (lower p) ih = rw (order_lower x y a b p, lt-ltb x y p)
    go (level p) ih = rw (order_level x y a b p, ← ih, p, le-ltb y y (omega arith), eq-eqb y y refl)
    go (higher p) ih = rw (order_higher x y a b p, le-ltb x y (omega arith), ne_eqb x y (λ e. omega arith))
