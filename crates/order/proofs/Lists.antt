-- Laws on the lists that a record keeps: their elements, those with one place set, those filled up with 0, and the values of a function laid out in a row.
use mathlib.Core.Path.{◌≡◌, refl, ap, sym, ◌∙◌}
use Prim.Native.Nat.{ℕ, zero, suc, ◌+◌, ◌-◌, ◌≤◌, ◌<◌}
use native.Mathlib.Decide.{ℕ_discrete}
use native.Mathlib.Omega.{arith}
use mathlib.Core.List.{List, [], ◌∷◌, ◌++◌, Memᴰ}
use lib.ListN.{length, get_or, set, take, replicate, length-append, length-replicate}
use lib.Seq.{get_or-set_same, get_or-set_other, length-take-le, take-append_seam, get_or-take, ext_get_or}
use Rattle.order.specs.Words.{filled}
use Rattle.order.specs.Firsts.{firsts}

-- the numbers in a list are below n: threads of a table, workers of a row
abbrev pub Below : ℕ → List ℕ → Type 0
Below n l = (x : ℕ) → Memᴰ x l → x < n

-- what a list reads within its length is an element
pub get_d_member {ℓ} : {A : Type ℓ} (l : List A) (i : ℕ) (d : A) → i < length l → Memᴰ (get_or l i d) l
get_d_member [] i d h = absurd (omega arith)
get_d_member (x ∷ l) zero d h = Memᴰ.head refl
get_d_member (x ∷ l) (suc i) d h = Memᴰ.tail (get_d_member l i d (omega arith))

-- what holds at every place of a list after one place is set: of the new element there, and of the old ones elsewhere
pub set_each : {A : Type 0} (xs : List A) (i : ℕ) (x z : A) (P : ℕ → A → Type 0) → i < length xs → P i x → ((j : ℕ) → (j ≡ i → ⊥) → P j (get_or xs j z))
    → (j : ℕ) → P j (get_or (set xs i x) j z)
set_each xs i x z P h p q j = go (ℕ_discrete j i)
  where
    go : Dec (j ≡ i) → P j (get_or (set xs i x) j z)
    go (yes e) = rw (e, get_or-set_same xs i x z h) p
    go (no d) = rw (get_or-set_other xs i j x z d) (q j d)

-- ---- filled up

-- of a list of one value alone, any place reads as that value
pub get_d_alike {ℓ} : {A : Type ℓ} (n i : ℕ) (a : A) → get_or (replicate n a) i a ≡ a
get_d_alike zero i a = refl
get_d_alike (suc n) zero a = refl
get_d_alike (suc n) (suc i) a = get_d_alike n i a

padded_at : (l : List ℕ) (m i : ℕ) → get_or (l ++ replicate m 0) i 0 ≡ get_or l i 0
padded_at [] m i = get_d_alike m i 0
padded_at (x ∷ l) m zero = refl
padded_at (x ∷ l) m (suc i) = padded_at l m i

pub filled_at : (size : ℕ) (l : List ℕ) (i : ℕ) → get_or (filled size l) i 0 ≡ get_or l i 0
filled_at size l i = padded_at l (size - length l) i

pub filled_length : (size : ℕ) (l : List ℕ) → length l ≤ size → length (filled size l) ≡ size
filled_length size l h = simp (length-append, length-replicate) (omega arith)

-- what was filled up is its front part
pub filled_front : (size : ℕ) (l : List ℕ) → take (length l) (filled size l) ≡ l
filled_front size l = take-append_seam l (replicate (size - length l) 0)

-- ---- the values of a function

pub firsts_length : (f : ℕ → ℕ) (a k : ℕ) → length (firsts f a k) ≡ k
unfolding firsts
firsts_length f a zero = refl
firsts_length f a (suc k) = ap suc (firsts_length f (suc a) k)

pub firsts_at : (f : ℕ → ℕ) (a k i : ℕ) → i < k → get_or (firsts f a k) i 0 ≡ f (a + i)
unfolding firsts
firsts_at f a zero i h = absurd (omega arith)
firsts_at f a (suc k) zero h = let e : a + 0 ≡ a = omega arith in rw e
firsts_at f a (suc k) (suc i) h =
    let e : a + suc i ≡ suc a + i = omega arith in
    firsts_at f (suc a) k i (omega arith) ∙ ap f (sym e)

pub firsts_past : (f : ℕ → ℕ) (a k i : ℕ) → k ≤ i → get_or (firsts f a k) i 0 ≡ 0
unfolding firsts
firsts_past f a zero i h = refl
firsts_past f a (suc k) zero h = absurd (omega arith)
firsts_past f a (suc k) (suc i) h = firsts_past f (suc a) k i (omega arith)

-- a front part of a list is the row of its elements
pub firsts_take : (l : List ℕ) (j : ℕ) → j ≤ length l → firsts (λ i. get_or l i 0) 0 j ≡ take j l
firsts_take l j h =
    let n : length (firsts (λ i. get_or l i 0) 0 j) ≡ j = firsts_length (λ i. get_or l i 0) 0 j in
    ext_get_or 0 (firsts (λ i. get_or l i 0) 0 j) (take j l) (n ∙ sym (length-take-le j l h))
    (λ i b.
    let e : 0 + i ≡ i = omega arith in
    let c : i < j = omega arith in
    firsts_at (λ i. get_or l i 0) 0 j i c ∙ rw e (sym (get_or-take j l i 0 c)))
