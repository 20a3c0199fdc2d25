-- The thread list after a fork and after an end: what stands in it, and that it still ascends.
use mathlib.Core.Path.{◌≡◌, refl, sym, ◌∙◌}
use Prim.Native.Nat.{ℕ, ◌<◌}
use mathlib.Core.List.{List, [], ◌∷◌}
use mathlib.Core.List.Memᴰ
use mathlib.Core.List.{Memᴰ}
use mathlib.Core.Bool.{Bool, true, false}
use mathlib.Core.Logic.{◌⊎◌, inl, inr}
use native.Mathlib.Decide.{ℕ_discrete}
use native.Mathlib.Omega.{arith}
use lib.Dec.{eqb}
use borrow.Author.Tests.{eqb-true, eqb-false}
use Rattle.table.specs.Sum.{pick}
use Rattle.schedule.specs.Machine.{left_of, without}
use Rattle.order.proofs.Words.{Ascends}

-- where g keeps the order of f, it ascends too
pub ascends_along : (f g : ℕ → ℕ) (l : List ℕ) → ((x y : ℕ) → Memᴰ x l → Memᴰ y l → f x < f y → g x < g y) → Ascends f l → Ascends g l
unfolding Ascends
ascends_along f g [] e c = tt
ascends_along f g (x ∷ l) e c =
    (λ y m. e x y (Memᴰ.head refl) (Memᴰ.tail m) (c.0 y m), ascends_along f g l (λ u v m n. e u v (Memᴰ.tail m) (Memᴰ.tail n)) c.1)

pub ascends_same : (f g : ℕ → ℕ) (l : List ℕ) → ((u : ℕ) → Memᴰ u l → g u ≡ f u) → Ascends f l → Ascends g l
ascends_same f g l e = ascends_along f g l (λ x y m n h. omega (arith, e x m, e y n))

-- ---- one more thread

pub left_of_new : (c t : ℕ) (l : List ℕ) → Memᴰ t l → Memᴰ c (left_of c t l)
unfolding left_of
left_of_new c t [] m = absurd (Memᴰ.not-nil m)
left_of_new c t (x ∷ l) m = go (eqb x t) refl (λ (i : Memᴰ t l). left_of_new c t l i) (Memᴰ.cases_cons m)
  where
    go : (q : Bool) → eqb x t ≡ q → (Memᴰ t l → Memᴰ c (left_of c t l)) → (t ≡ x) ⊎ Memᴰ t l
        → Memᴰ c (pick q (c ∷ x ∷ l) (x ∷ left_of c t l))
    go true q ih s = Memᴰ.head refl
    go false q ih (inl e) = absurd (eqb-false x t q (sym e))
    go false q ih (inr i) = Memᴰ.tail (ih i)

pub left_of_old : (c t u : ℕ) (l : List ℕ) → Memᴰ u l → Memᴰ u (left_of c t l)
unfolding left_of
left_of_old c t u [] m = absurd (Memᴰ.not-nil m)
left_of_old c t u (x ∷ l) m = go (eqb x t) (λ (i : Memᴰ u l). left_of_old c t u l i) (Memᴰ.cases_cons m)
  where
    go : (q : Bool) → (Memᴰ u l → Memᴰ u (left_of c t l)) → (u ≡ x) ⊎ Memᴰ u l
        → Memᴰ u (pick q (c ∷ x ∷ l) (x ∷ left_of c t l))
    go true ih s = Memᴰ.tail m
    go false ih (inl e) = Memᴰ.head e
    go false ih (inr i) = Memᴰ.tail (ih i)

pub left_of_cases : (c t u : ℕ) (l : List ℕ) → Memᴰ u (left_of c t l) → (u ≡ c) ⊎ Memᴰ u l
unfolding left_of
left_of_cases c t u [] m = absurd (Memᴰ.not-nil m)
left_of_cases c t u (x ∷ l) m = go (eqb x t) (λ (i : Memᴰ u (left_of c t l)). left_of_cases c t u l i) m
  where
    keep : (u ≡ c) ⊎ Memᴰ u l → (u ≡ c) ⊎ Memᴰ u (x ∷ l)
    keep (inl e) = inl e
    keep (inr i) = inr (Memᴰ.tail i)

    old : (Memᴰ u (left_of c t l) → (u ≡ c) ⊎ Memᴰ u l) → (u ≡ x) ⊎ Memᴰ u (left_of c t l) → (u ≡ c) ⊎ Memᴰ u (x ∷ l)
    old ih (inl e) = inr (Memᴰ.head e)
    old ih (inr i) = keep (ih i)

    go : (q : Bool) → (Memᴰ u (left_of c t l) → (u ≡ c) ⊎ Memᴰ u l) → Memᴰ u (pick q (c ∷ x ∷ l) (x ∷ left_of c t l))
        → (u ≡ c) ⊎ Memᴰ u (x ∷ l)
    go true ih i = Memᴰ.cases_cons i
    go false ih i = old ih (Memᴰ.cases_cons i)

-- c fits in directly left of t, and t itself moves up to below the next one right of it
module _ (f g : ℕ → ℕ) (c t : ℕ) (up : f t < g c) (past : g c < g t) where
  pub ascends_left_of : (l : List ℕ) → ((u : ℕ) → Memᴰ u l → (u ≡ t → ⊥) → g u ≡ f u) → ((u : ℕ) → Memᴰ u l → f t < f u → g t < f u)
      → Memᴰ t l → Ascends f l → Ascends g (left_of c t l)
  unfolding Ascends left_of
  ascends_left_of [] same above m k = absurd (Memᴰ.not-nil m)
  ascends_left_of (x ∷ l) same above m k =
      go (eqb x t) refl (ascends_left_of l (λ u i. same u (Memᴰ.tail i)) (λ u i. above u (Memᴰ.tail i)))
    where
      go : (q : Bool) → eqb x t ≡ q → (Memᴰ t l → Ascends f l → Ascends g (left_of c t l)) → Ascends g (pick q (c ∷ x ∷ l) (x ∷ left_of c t l))
      go true q ih = (first, (second, ascends_same f g l rest k.1))
        where
          here : x ≡ t
          here = eqb-true x t q

          higher : (u : ℕ) → Memᴰ u l → f t < f u
          higher u i = rw (← here) (k.0 u i)

          rest : (u : ℕ) → Memᴰ u l → g u ≡ f u
          rest u i = same u (Memᴰ.tail i) (λ e. let p : f u ≡ f t = cc in omega (arith, higher u i))

          beyond : (u : ℕ) → Memᴰ u l → g t < g u
          beyond u i = rw (rest u i) (above u (Memᴰ.tail i) (higher u i))

          second : (y : ℕ) → Memᴰ y l → g x < g y
          second y i = rw here (beyond y i)

          first : (y : ℕ) → Memᴰ y (x ∷ l) → g c < g y
          first y i = at (Memᴰ.cases_cons i)
            where
              at : (y ≡ x) ⊎ Memᴰ y l → g c < g y
              at (inl e) = let p : g y ≡ g t = cc here in omega arith
              at (inr j) = omega (arith, beyond y j)
      go false q ih = (first, ih later k.1)
        where
          other : x ≡ t → ⊥
          other = eqb-false x t q

          later : Memᴰ t l
          later = at (Memᴰ.cases_cons m)
            where
              at : (t ≡ x) ⊎ Memᴰ t l → Memᴰ t l
              at (inl e) = absurd (other (sym e))
              at (inr i) = i

          first : (y : ℕ) → Memᴰ y (left_of c t l) → g x < g y
          first y i = at (left_of_cases c t y l i) (ℕ_discrete y t)
            where
              low : g x < g c
              low = omega (arith, same x (Memᴰ.head refl) other, k.0 t later)

              at : (y ≡ c) ⊎ Memᴰ y l → Dec (y ≡ t) → g x < g y
              at (inl e) d = rw e low
              at (inr j) (yes e) = let p : g y ≡ g t = cc in omega (arith, low)
              at (inr j) (no e) = omega (arith, same x (Memᴰ.head refl) other, same y (Memᴰ.tail j) e, k.0 y j)

-- ---- one thread less

pub without_old : (t u : ℕ) (l : List ℕ) → Memᴰ u (without t l) → Memᴰ u l
unfolding without
without_old t u [] m = m
without_old t u (x ∷ l) m = go (eqb x t) (λ (i : Memᴰ u (without t l)). without_old t u l i) m
  where
    go : (q : Bool) → (Memᴰ u (without t l) → Memᴰ u l) → Memᴰ u (pick q l (x ∷ without t l)) → Memᴰ u (x ∷ l)
    go true ih i = Memᴰ.tail i
    go false ih i = at (Memᴰ.cases_cons i)
      where
        at : (u ≡ x) ⊎ Memᴰ u (without t l) → Memᴰ u (x ∷ l)
        at (inl e) = Memᴰ.head e
        at (inr j) = Memᴰ.tail (ih j)

pub without_other : (t u : ℕ) (l : List ℕ) → (u ≡ t → ⊥) → Memᴰ u l → Memᴰ u (without t l)
unfolding without
without_other t u [] n m = m
without_other t u (x ∷ l) n m = go (eqb x t) refl (without_other t u l n) (Memᴰ.cases_cons m)
  where
    go : (q : Bool) → eqb x t ≡ q → (Memᴰ u l → Memᴰ u (without t l)) → (u ≡ x) ⊎ Memᴰ u l → Memᴰ u (pick q l (x ∷ without t l))
    go true q ih (inl e) = absurd (n (e ∙ eqb-true x t q))
    go true q ih (inr i) = i
    go false q ih (inl e) = Memᴰ.head e
    go false q ih (inr i) = Memᴰ.tail (ih i)

module _ (f : ℕ → ℕ) (t : ℕ) where
  pub ascends_without : (l : List ℕ) → Ascends f l → Ascends f (without t l)
  unfolding Ascends without
  ascends_without [] k = tt
  ascends_without (x ∷ l) k = go (eqb x t) (ascends_without l k.1)
    where
      go : (q : Bool) → Ascends f (without t l) → Ascends f (pick q l (x ∷ without t l))
      go true ih = k.1
      go false ih = (λ y m. k.0 y (without_old t y l m), ih)

  -- it stood there once
  pub without_gone : (l : List ℕ) → Ascends f l → Memᴰ t (without t l) → ⊥
  unfolding Ascends without
  without_gone [] k m = Memᴰ.not-nil m
  without_gone (x ∷ l) k m = go (eqb x t) refl (without_gone l k.1) m
    where
      go : (q : Bool) → eqb x t ≡ q → (Memᴰ t (without t l) → ⊥) → Memᴰ t (pick q l (x ∷ without t l)) → ⊥
      go true q ih i = let p : f x ≡ f t = cc (eqb-true x t q) in omega (arith, k.0 t i)
      go false q ih i = at (Memᴰ.cases_cons i)
        where
          at : (t ≡ x) ⊎ Memᴰ t (without t l) → ⊥
          at (inl e) = eqb-false x t q (sym e)
          at (inr j) = ih j
