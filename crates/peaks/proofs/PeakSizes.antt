-- How large the numbers of a computation get: no peak is above what the thread and its descendants draw.
use mathlib.Core.Path.{◌≡◌, refl}
use Prim.Native.Nat.{ℕ, zero, suc, ◌+◌, ◌-◌, ◌*◌, ◌≤◌, ◌<◌}
use native.Mathlib.Omega.{arith}
use native.Mathlib.Decide.{dec_lt}
use mathlib.Core.List.{List, [], ◌∷◌, Memᴰ}
use mathlib.Core.Bool.{Bool, true, false}
use Rattle.table.specs.Sum.{pick, sum_over}
use Rattle.table.specs.Format.{Table}
use Rattle.table.specs.declared.kinds.Kind.TheVariants.{Fork as fork}
use Rattle.table.specs.Checks.{open_before, alloc_of, with_child, whole}
use Rattle.table.proofs.Sums.{sum_to_part}
use Rattle.table.proofs.Amounts.{fork_part_open, fork_part_whole, whole_is, whole_bound}
use Rattle.table.proofs.NestedThreads.{greatest_under}
use Rattle.schedule.specs.Sound.{balance_to}
use Rattle.order.proofs.Lawful.{Lawful}
use Rattle.peaks.specs.Peak.{fresh, final, gain, one_more, most, peak_there, peak_on}
use Rattle.peaks.proofs.Opens.{open_child, open_over}
use Rattle.peaks.proofs.Peaks.{peak_is}

module _ (T : Table) (peak : ℕ → ℕ → ℕ) (B : ℕ → ℕ) where
  abbrev Under : List ℕ → Type 0
  Under l = (d : ℕ) → Memᴰ d l → (final T d ≤ B d) × ((s : ℕ) → peak d s ≤ B d)

  pub gain_under : (r : ℕ) (l : List ℕ) (j : ℕ) → Under l → gain T peak r l j ≤ sum_over B l
  unfolding gain sum_over
  gain_under r [] j h = omega arith
  gain_under r (c ∷ l) zero h = omega (arith, gain_under r l zero (λ d m. h d (Memᴰ.tail m)), (h c (Memᴰ.head refl)).0)
  gain_under r (c ∷ l) (suc j) h =
      omega (
        arith,
        gain_under r l (suc j) (λ d m. h d (Memᴰ.tail m)),
        gain_under r l j (λ d m. h d (Memᴰ.tail m)),
        (h c (Memᴰ.head refl)).0,
        (h c (Memᴰ.head refl)).1 (r - j),
      )

  pub most_under : (r : ℕ) (f : Bool) (l : List ℕ) → Under l → most T peak r f l ≤ sum_over B l
  unfolding most sum_over
  most_under r f l h = omega (arith, greatest_under (gain T peak r l) (suc r) (sum_over B l) (λ j i. gain_under r l j h), go f l h)
    where
      go : (f : Bool) (l : List ℕ) → Under l → pick f (one_more T peak r l) 0 ≤ sum_over B l
      go false l h = omega arith
      go true [] h = omega arith
      go true (c ∷ l) h = omega (arith, gain_under r l r (λ d m. h d (Memᴰ.tail m)), (h c (Memᴰ.head refl)).1 0)

module _ (T : Table) (l : Lawful T) where
  pub final_whole : (t : ℕ) → t < T.threads → final T t ≤ whole T (alloc_of T) t
  final_whole t h = omega (arith, whole_is T l.contents l.bodies (alloc_of T) t h)

  -- at any place of a thread
  pub reach_whole : (t k : ℕ) → t < T.threads → k ≤ T.count t
      → balance_to T t k + sum_over (whole T (alloc_of T)) (open_before T (T.first t + k)) ≤ whole T (alloc_of T) t
  unfolding sum_over
  reach_whole t k h i = go (dec_lt k (T.count t))
    where
      go : Dec (k < T.count t) → balance_to T t k + sum_over (whole T (alloc_of T)) (open_before T (T.first t + k)) ≤ whole T (alloc_of T) t
      go (yes j) =
          omega (
            arith,
            fork_part_open T l.contents l.bodies l.nesting (alloc_of T) t k h j,
            sum_to_part (λ i. with_child T fork (alloc_of T) (whole T (alloc_of T)) (T.first t + i)) k (T.count t) i,
            fork_part_whole T l.contents l.bodies l.nesting (alloc_of T) t h,
          )
      go (no j) =
          let e : k ≡ T.count t = omega (arith, i, j) in
          rw (e, open_over T l t h) (omega (arith, final_whole t h))

  there_whole : (stop : ℕ → Bool) (t r k : ℕ) → t < T.threads → k ≤ T.count t → ((d s : ℕ) → t < d → d < T.threads → peak_on T stop d s ≤ whole T (alloc_of T) d)
      → peak_there T (peak_on T stop) t r k ≤ whole T (alloc_of T) t
  unfolding peak_there
  there_whole stop t r k h i ih =
      omega (
        arith,
        reach_whole t k h i,
        most_under T (peak_on T stop) (whole T (alloc_of T)) r (fresh T (T.first t + k)) (open_before T (T.first t + k))
            (λ d m. let (a, b) = open_child T l t k d h i m in (final_whole d b, λ s. ih d s a b)),
      )

  pub peak_whole : (stop : ℕ → Bool) (t r : ℕ) → t < T.threads → peak_on T stop t r ≤ whole T (alloc_of T) t
  peak_whole stop t r h = go T.threads t r (omega arith) h
    where
      go : (fuel t r : ℕ) → T.threads ≤ fuel + t → t < T.threads → peak_on T stop t r ≤ whole T (alloc_of T) t
      go zero t r b h = absurd (omega arith)
      go (suc fuel) t r b h = rw (peak_is T l stop t r h) (greatest_under _ (suc (T.count t)) _ (λ k i. each k (omega arith) (stop (T.first t + k)) (λ d s a c. go fuel d s (omega arith) c)))
        where
          each : (k : ℕ) → k ≤ T.count t → (q : Bool) → ((d s : ℕ) → t < d → d < T.threads → peak_on T stop d s ≤ whole T (alloc_of T) d)
              → pick q (peak_there T (peak_on T stop) t r k) 0 ≤ whole T (alloc_of T) t
          each k i true ih = there_whole stop t r k h i ih
          each k i false ih = omega arith

  pub place_whole : (stop : ℕ → Bool) (t r k : ℕ) → t < T.threads → k ≤ T.count t → peak_there T (peak_on T stop) t r k ≤ whole T (alloc_of T) t
  place_whole stop t r k h i = there_whole stop t r k h i (λ d s a b. peak_whole stop d s b)

  pub open_whole : (stop : ℕ → Bool) (t r k j : ℕ) → t < T.threads → k ≤ T.count t → gain T (peak_on T stop) r (open_before T (T.first t + k)) j ≤ whole T (alloc_of T) t
  open_whole stop t r k j h i =
      omega (
        arith,
        reach_whole t k h i,
        gain_under T (peak_on T stop) (whole T (alloc_of T)) r (open_before T (T.first t + k)) j
            (λ d m. let (a, b) = open_child T l t k d h i m in (final_whole d b, λ s. peak_whole stop d s b)),
      )

  -- with no alloc above B, at most B for each action
  pub peak_bound : (B : ℕ) → ((a : ℕ) → a < T.actions → alloc_of T a ≤ B) → (stop : ℕ → Bool) (t r : ℕ) → t < T.threads → peak_on T stop t r ≤ B * T.actions
  peak_bound B h stop t r i = omega (arith, peak_whole stop t r i, whole_bound T l.contents l.bodies l.nesting (alloc_of T) B h t i)
