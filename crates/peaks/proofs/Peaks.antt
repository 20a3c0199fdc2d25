-- The peak without fuel; it rises with the load allowed.
use mathlib.Core.Path.{◌≡◌, refl, ap}
use Prim.Native.Nat.{ℕ, zero, suc, ◌+◌, ◌-◌, ◌≤◌, ◌<◌, max}
use native.Mathlib.Omega.{arith}
use mathlib.Core.List.{List, [], ◌∷◌, Memᴰ}
use mathlib.Core.Bool.{Bool, true, false}
use Rattle.table.specs.Sum.{pick, greatest_to}
use Rattle.table.specs.Format.{Table}
use Rattle.table.specs.Checks.{open_before}
use Rattle.table.proofs.NestedThreads.{greatest_at, greatest_under}
use Rattle.schedule.specs.Sound.{balance_to}
use Rattle.order.proofs.Lawful.{Lawful}
use Rattle.peaks.specs.Peak.{fresh, final, gain, one_more, most, peak_there, peak_within, peak_on, workers_peak}
use Rattle.peaks.proofs.Opens.{open_child}
use Rattle.table.proofs.Sums.{greatest_to_cong}

-- ---- peaks of the children that agree, or are below

module _ (T U : Table) (v w : ℕ → ℕ → ℕ) where
  -- of two tables, children that end with the same and can hold the same
  abbrev pub Same : List ℕ → Type 0
  Same l = (d : ℕ) → Memᴰ d l → (final U d ≡ final T d) × ((s : ℕ) → v d s ≡ w d s)

  gain_same : (r : ℕ) (l : List ℕ) (j : ℕ) → Same l → gain U v r l j ≡ gain T w r l j
  unfolding gain
  gain_same r [] j h = refl
  gain_same r (c ∷ l) zero h = omega (arith, gain_same r l zero (λ d m. h d (Memᴰ.tail m)), (h c (Memᴰ.head refl)).0)
  gain_same r (c ∷ l) (suc j) h =
      omega (
        arith,
        gain_same r l (suc j) (λ d m. h d (Memᴰ.tail m)),
        gain_same r l j (λ d m. h d (Memᴰ.tail m)),
        (h c (Memᴰ.head refl)).0,
        (h c (Memᴰ.head refl)).1 (r - j),
      )

  one_same : (r : ℕ) (l : List ℕ) → Same l → one_more U v r l ≡ one_more T w r l
  one_same r [] h = refl
  one_same r (c ∷ l) h = omega (arith, gain_same r l r (λ d m. h d (Memᴰ.tail m)), (h c (Memᴰ.head refl)).1 0)

  pub most_same : (r : ℕ) (f : Bool) (l : List ℕ) → Same l → most U v r f l ≡ most T w r f l
  unfolding most
  most_same r f l h = rw (greatest_to_cong (gain U v r l) (gain T w r l) (suc r) (λ j i. gain_same r l j h), one_same r l h)

module _ (T : Table) (v w : ℕ → ℕ → ℕ) where
  gain_le : (r s : ℕ) → r ≤ s → (l : List ℕ) (j : ℕ) → ((d x y : ℕ) → Memᴰ d l → x ≤ y → v d x ≤ w d y) → gain T v r l j ≤ gain T w s l j
  unfolding gain
  gain_le r s b [] j h = omega arith
  gain_le r s b (c ∷ l) zero h = omega (arith, gain_le r s b l zero (λ d x y m. h d x y (Memᴰ.tail m)))
  gain_le r s b (c ∷ l) (suc j) h =
      omega (
        arith,
        gain_le r s b l (suc j) (λ d x y m. h d x y (Memᴰ.tail m)),
        gain_le r s b l j (λ d x y m. h d x y (Memᴰ.tail m)),
        h c (r - j) (s - j) (Memᴰ.head refl) (omega arith),
      )

-- an ended child in front, and an unended one
pub gain_ended : (T : Table) (peak : ℕ → ℕ → ℕ) (r c : ℕ) (l : List ℕ) (j : ℕ) → final T c + gain T peak r l j ≤ gain T peak r (c ∷ l) j
unfolding gain
gain_ended T peak r c l zero = omega arith
gain_ended T peak r c l (suc j) = omega arith

pub gain_unended : (T : Table) (peak : ℕ → ℕ → ℕ) (r c : ℕ) (l : List ℕ) (j : ℕ) → peak c (r - j) + gain T peak r l j ≤ gain T peak r (c ∷ l) (suc j)
unfolding gain
gain_unended T peak r c l j = omega arith

-- where the load allowed rises by one, the one more right after a fork is among the others
most_rises : (T : Table) (v : ℕ → ℕ → ℕ) (r s : ℕ) → r ≤ s → (f : Bool) (l : List ℕ) → ((d x y : ℕ) → Memᴰ d l → x ≤ y → v d x ≤ v d y)
    → most T v r f l ≤ most T v s f l
unfolding most
most_rises T v r s b f l h =
    let g : greatest_to (gain T v r l) (suc r) ≤ greatest_to (gain T v s l) (suc s) =
    greatest_under (gain T v r l) (suc r) _ (λ j i. omega (arith, gain_le T v v r s b l j h, greatest_at (gain T v s l) (suc s) j (omega arith))) in
    omega (arith, g, go f l h)
  where
    more : (l : List ℕ) → ((d x y : ℕ) → Memᴰ d l → x ≤ y → v d x ≤ v d y) → Dec (r ≡ s) → one_more T v r l ≤ max (greatest_to (gain T v s l) (suc s)) (one_more T v s l)
    more [] h d = omega arith
    more (c ∷ l) h (yes e) = rw e (omega arith)
    more (c ∷ l) h (no n) =
        omega (
          arith,
          gain_unended T v s c l r,
          gain_le T v v r s b l r (λ d x y m. h d x y (Memᴰ.tail m)),
          h c 0 (s - r) (Memᴰ.head refl) (omega arith),
          greatest_at (gain T v s (c ∷ l)) (suc s) (suc r) (omega (arith, n, b)),
        )

    go : (f : Bool) (l : List ℕ) → ((d x y : ℕ) → Memᴰ d l → x ≤ y → v d x ≤ v d y) → pick f (one_more T v r l) 0 ≤ max (greatest_to (gain T v s l) (suc s)) (pick f (one_more T v s l) 0)
    go true l h = more l h (native.Mathlib.Decide.ℕ_discrete r s)
    go false l h = omega arith

-- ---- without fuel

module _ (T : Table) (l : Lawful T) (stop : ℕ → Bool) where
  abbrev stands : (ℕ → ℕ → ℕ) → ℕ → ℕ → ℕ → ℕ
  stands v t r k = pick (stop (T.first t + k)) (peak_there T v t r k) 0

  there_same : (v w : ℕ → ℕ → ℕ) (t r : ℕ) → t < T.threads → ((d s : ℕ) → t < d → d < T.threads → v d s ≡ w d s)
      → greatest_to (stands v t r) (suc (T.count t)) ≡ greatest_to (stands w t r) (suc (T.count t))
  unfolding peak_there
  there_same v w t r h e =
      greatest_to_cong _ _ (suc (T.count t))
      (λ k i.
      ap (λ x. pick (stop (T.first t + k)) (balance_to T t k + x) 0)
      (most_same T T v w r (fresh T (T.first t + k)) (open_before T (T.first t + k)) (λ d m. let (a, b) = open_child T l t k d h (omega arith) m in (refl, λ s. e d s a b))))

  peak_fuel : (f g t r : ℕ) → t < T.threads → T.threads ≤ f + t → T.threads ≤ g + t → peak_within f T stop t r ≡ peak_within g T stop t r
  unfolding peak_within
  peak_fuel zero g t r h i j = absurd (omega arith)
  peak_fuel (suc f) zero t r h i j = absurd (omega arith)
  peak_fuel (suc f) (suc g) t r h i j = there_same (peak_within f T stop) (peak_within g T stop) t r h (λ d s a b. peak_fuel f g d s b (omega arith) (omega arith))

  pub peak_is : (t r : ℕ) → t < T.threads → peak_on T stop t r ≡ greatest_to (λ k. pick (stop (T.first t + k)) (peak_there T (peak_on T stop) t r k) 0) (suc (T.count t))
  unfolding peak_within
  peak_is t r h = peak_fuel T.threads (suc T.threads) t r h (omega arith) (omega arith)

  -- wherever the thread may stand
  pub peak_at_lem : (t r k : ℕ) → t < T.threads → k ≤ T.count t → stop (T.first t + k) ≡ true
      → balance_to T t k + most T (peak_on T stop) r (fresh T (T.first t + k)) (open_before T (T.first t + k)) ≤ peak_on T stop t r
  unfolding peak_there
  peak_at_lem t r k h i e = rw (peak_is t r h) (rw e at (greatest_at (stands (peak_on T stop) t r) (suc (T.count t)) k (omega arith)))

  -- ---- it rises with the load allowed

  pub peak_rises : (t r s : ℕ) → t < T.threads → r ≤ s → peak_on T stop t r ≤ peak_on T stop t s
  unfolding peak_there
  peak_rises t r s h b = go T.threads t r s (omega arith) h b
    where
      go : (fuel t r s : ℕ) → T.threads ≤ fuel + t → t < T.threads → r ≤ s → peak_on T stop t r ≤ peak_on T stop t s
      go zero t r s e h b = absurd (omega arith)
      go (suc fuel) t r s e h b =
          rw (peak_is t r h) (greatest_under (stands (peak_on T stop) t r) (suc (T.count t)) _ (λ k i. each k i (stop (T.first t + k)) refl (λ d x y c q m. go fuel d x y m c q)))
        where
          each : (k : ℕ) → k < suc (T.count t) → (q : Bool) → stop (T.first t + k) ≡ q
              → ((d x y : ℕ) → d < T.threads → x ≤ y → T.threads ≤ fuel + d → peak_on T stop d x ≤ peak_on T stop d y) → pick q (peak_there T (peak_on T stop) t r k) 0 ≤ peak_on T stop t s
          each k i false z ih = omega arith
          each k i true z ih =
              omega (
                arith,
                peak_at_lem t s k h (omega arith) z,
                most_rises T (peak_on T stop) r s b (fresh T (T.first t + k)) (open_before T (T.first t + k))
                    (λ d x y m q. let (a, c) = open_child T l t k d h (omega arith) m in ih d x y c q (omega arith)),
              )

module _ (T : Table) (l : Lawful T) where
  pub workers_rise : (p q : ℕ) → p ≤ q → workers_peak T p ≤ workers_peak T q
  unfolding workers_peak
  workers_rise p q h = peak_rises T l (λ a. true) 0 (p - 1) (q - 1) l.some_thread (omega arith)
