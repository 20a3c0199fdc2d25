-- What a counted turn leaves at each place.
use mathlib.Core.Path.{◌≡◌, refl, ap, ◌∙◌}
use mathlib.Core.Logic.{◌⊎◌, inl, inr, ◌≢◌}
use Prim.Native.Nat.{ℕ, zero, suc, ◌+◌, ◌*◌, ◌-◌, ◌<◌, ◌≤◌, max}
use native.Mathlib.Omega.{arith}
use native.Mathlib.Decide.{ℕ_discrete, dec_lt}
use native.Mathlib.Nat.{max-le, le-max_left, le-max_right}
use mathlib.Core.List.{List}
use lib.ListN.{length, get_or, set, length-set}
use lib.Seq.{get_or-set_same, get_or-set_other}
use Rattle.pace.specs.Pace.{most_from, counted, renewed, one_more, took}
use Rattle.pace.proofs.Steps.{took_in}

-- ---- the greatest

pub most_least : (n i : ℕ) (l : List ℕ) (c : ℕ) → ((k : ℕ) → k < n → get_or l (i + k) 0 ≤ c) → most_from n i l ≤ c
unfolding most_from
most_least zero i l c h = omega arith
most_least (suc n) i l c h =
    let z : i + 0 ≡ i = omega arith in
    max-le (rw z at (h 0 (omega arith))) (most_least n (suc i) l c (λ k j. let e : i + suc k ≡ suc i + k = omega arith in rw e at (h (suc k) (omega arith))))

pub most_each : (n i : ℕ) (l : List ℕ) (k : ℕ) → k < n → get_or l (i + k) 0 ≤ most_from n i l
unfolding most_from
most_each zero i l k h = absurd (omega arith)
most_each (suc n) i l zero h = let z : i + 0 ≡ i = omega arith in rw z (omega (arith, le-max_left (get_or l i 0) (most_from n (suc i) l)))
most_each (suc n) i l (suc k) h =
    let e : i + suc k ≡ suc i + k = omega arith in
    rw e (omega (arith, most_each n (suc i) l k (omega arith), le-max_right (get_or l i 0) (most_from n (suc i) l)))

-- ---- counted

pub length_counted : (n i : ℕ) (l : List ℕ) → length (counted n i l) ≡ length l
unfolding counted
length_counted zero i l = refl
length_counted (suc n) i l = length_counted n (suc i) (set l i (one_more (get_or l i 0))) ∙ simp length-set

pub counted_out : (n i : ℕ) (l : List ℕ) (j : ℕ) → (j < i) ⊎ (i + n ≤ j) → get_or (counted n i l) j 0 ≡ get_or l j 0
unfolding counted
counted_out zero i l j h = refl
counted_out (suc n) i l j h =
    counted_out n (suc i) (set l i (one_more (get_or l i 0))) j (next h) ∙ get_or-set_other l i j (one_more (get_or l i 0)) 0 (apart h)
  where
    next : (j < i) ⊎ (i + suc n ≤ j) → (j < suc i) ⊎ (suc i + n ≤ j)
    next (inl a) = inl (omega arith)
    next (inr a) = inr (omega arith)

    apart : (j < i) ⊎ (i + suc n ≤ j) → j ≢ i
    apart (inl a) e = omega arith
    apart (inr a) e = omega arith

pub counted_in : (n i : ℕ) (l : List ℕ) (j : ℕ) → i ≤ j → j < i + n → j < length l → get_or (counted n i l) j 0 ≡ one_more (get_or l j 0)
unfolding counted
counted_in zero i l j a b h = absurd (omega arith)
counted_in (suc n) i l j a b h = go (ℕ_discrete j i) (counted_in n (suc i) (set l i (one_more (get_or l i 0))) j)
  where
    go : Dec (j ≡ i)
        → (suc i ≤ j → j < suc i + n → j < length (set l i (one_more (get_or l i 0))) → get_or (counted n (suc i) (set l i (one_more (get_or l i 0)))) j 0 ≡ one_more (get_or (set l i (one_more (get_or l i 0))) j 0))
        → get_or (counted n (suc i) (set l i (one_more (get_or l i 0)))) j 0 ≡ one_more (get_or l j 0)
    go (yes e) ih =
        counted_out n (suc i) (set l i (one_more (get_or l i 0))) j (inl (omega arith)) ∙ rw e (get_or-set_same l i (one_more (get_or l i 0)) 0 (omega arith))
    go (no d) ih = ih (omega arith) (omega arith) (simp length-set h) ∙ ap (λ (v : ℕ). one_more v) (get_or-set_other l i j (one_more (get_or l i 0)) 0 d)

-- ---- renewed

pub length_renewed : (n i : ℕ) (l : List ℕ) → length (renewed n i l) ≡ length l
unfolding renewed
length_renewed zero i l = refl
length_renewed (suc n) i l = length_renewed n (i + 16) (set l i 1) ∙ simp length-set

pub renewed_out : (n i : ℕ) (l : List ℕ) (j : ℕ) → ((k : ℕ) → k < n → j ≡ i + 16 * k → ⊥) → get_or (renewed n i l) j 0 ≡ get_or l j 0
unfolding renewed
renewed_out zero i l j h = refl
renewed_out (suc n) i l j h =
    renewed_out n (i + 16) (set l i 1) j (λ k a e. h (suc k) (omega arith) (omega arith)) ∙ get_or-set_other l i j 1 0 (λ e. h 0 (omega arith) (omega arith))

pub renewed_in : (n i : ℕ) (l : List ℕ) (k : ℕ) → k < n → i + 16 * k < length l → get_or (renewed n i l) (i + 16 * k) 0 ≡ 1
unfolding renewed
renewed_in zero i l k a h = absurd (omega arith)
renewed_in (suc n) i l zero a h =
    let z : i + 16 * 0 ≡ i = omega arith in
    rw z (renewed_out n (i + 16) (set l i 1) i (λ k b e. omega arith) ∙ get_or-set_same l i 1 0 (omega arith))
renewed_in (suc n) i l (suc k) a h =
    let e : i + 16 * suc k ≡ i + 16 + 16 * k = omega arith in
    rw e (renewed_in n (i + 16) (set l i 1) k (omega arith) (simp length-set (omega arith)))

-- ---- a turn

module _ (l : List ℕ) (long : length l ≡ 260) (u : ℕ) (few : u < 16) where
  abbrev most : ℕ
  most = max (get_or l 258 0) (most_from 16 (16 * u) l)

  abbrev first : List ℕ
  first = set (set l 258 most) 259 (u + 1)

  abbrev second : List ℕ
  second = counted 16 (16 * u) first

  abbrev third : List ℕ
  third = renewed 16 u second

  first_long : length first ≡ 260
  first_long = simp length-set long

  second_long : length second ≡ 260
  second_long = length_counted 16 (16 * u) first ∙ first_long

  pub took_long : length (took l u) ≡ 260
  took_long = rw (took_in l u few) (simp length-set (length_renewed 16 u second ∙ second_long))

  first_other : (j : ℕ) → (j ≡ 258 → ⊥) → (j ≡ 259 → ⊥) → get_or first j 0 ≡ get_or l j 0
  first_other j d e = get_or-set_other (set l 258 most) 259 j (u + 1) 0 e ∙ get_or-set_other l 258 j most 0 d

  -- the places after the counters
  third_past : (j : ℕ) → 256 ≤ j → get_or third j 0 ≡ get_or first j 0
  third_past j h = renewed_out 16 u second j (λ k a e. omega arith) ∙ counted_out 16 (16 * u) first j (inr (omega arith))

  pub took_past_counters : (j : ℕ) → 256 ≤ j → (j ≡ 258 → ⊥) → (j ≡ 259 → ⊥) → get_or (took l u) j 0 ≡ get_or l j 0
  took_past_counters j h d e =
      rw (took_in l u few) (get_or-set_other third (17 * u) j 0 0 (λ f. omega arith) ∙ third_past j h ∙ first_other j d e)

  pub took_kept : get_or (took l u) 258 0 ≡ most
  took_kept =
      rw (took_in l u few) (get_or-set_other third (17 * u) 258 0 0 (λ e. omega arith) ∙ third_past 258 (omega arith) ∙ get_or-set_other (set l 258 most) 259 258 (u + 1) 0 (λ e. omega arith) ∙ get_or-set_same l 258 most 0 (omega arith))

  pub took_after : get_or (took l u) 259 0 ≡ u + 1
  took_after =
      rw (took_in l u few) (get_or-set_other third (17 * u) 259 0 0 (λ e. omega arith) ∙ third_past 259 (omega arith) ∙ get_or-set_same (set l 258 most) 259 (u + 1) 0 (simp length-set (omega arith)))

  -- the counters
  pub took_self : get_or (took l u) (16 * u + u) 0 ≡ 0
  took_self =
      let e : 16 * u + u ≡ 17 * u = omega arith in
      rw (took_in l u few, e) (get_or-set_same third (17 * u) 0 0 (omega (arith, length_renewed 16 u second, second_long)))

  module _ (w x : ℕ) (a : w < 16) (b : x < 16) where
    pub took_latest : x ≡ u → (w ≡ u → ⊥) → get_or (took l u) (16 * w + x) 0 ≡ 1
    took_latest e d =
        let f : 16 * w + x ≡ u + 16 * w = omega arith in
        rw (took_in l u few, f) (get_or-set_other third (17 * u) (u + 16 * w) 0 0 (λ g. d (omega arith)) ∙ renewed_in 16 u second w a (omega (arith, second_long)))

    third_other : (x ≡ u → ⊥) → get_or (took l u) (16 * w + x) 0 ≡ get_or second (16 * w + x) 0
    third_other d =
        rw (took_in l u few) (
        get_or-set_other third (17 * u) (16 * w + x) 0 0 (λ g. d (omega arith)) ∙ renewed_out 16 u second (16 * w + x) (λ k i g. d (omega arith))
        )

    pub took_counts : (x ≡ u → ⊥) → w ≡ u → get_or (took l u) (16 * w + x) 0 ≡ one_more (get_or l (16 * w + x) 0)
    took_counts d e =
        third_other d ∙ counted_in 16 (16 * u) first (16 * w + x) (omega arith) (omega arith) (omega (arith, first_long))
        ∙ ap (λ (v : ℕ). one_more v) (first_other (16 * w + x) (λ g. omega arith) (λ g. omega arith))

    pub took_others : (x ≡ u → ⊥) → (w ≡ u → ⊥) → get_or (took l u) (16 * w + x) 0 ≡ get_or l (16 * w + x) 0
    took_others d e =
        third_other d ∙ counted_out 16 (16 * u) first (16 * w + x) (out (dec_lt w u)) ∙ first_other (16 * w + x) (λ g. omega arith) (λ g. omega arith)
      where
        out : Dec (w < u) → (16 * w + x < 16 * u) ⊎ (16 * u + 16 ≤ 16 * w + x)
        out (yes i) = inl (omega arith)
        out (no i) = inr (omega arith)
