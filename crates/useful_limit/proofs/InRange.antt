-- Over the quotas in the range, none of which is below an alloc: a stretch draws the same whatever K, so that the useful limit rises with K but for the step to where every stretch is covered.
use mathlib.Core.Path.{◌≡◌, refl, sym, ap, ◌∙◌}
use mathlib.Core.Logic.{◌↔◌, ◌⊎◌, inl, inr, by_cases}
use Prim.Native.Nat.{ℕ, zero, suc, ◌+◌, ◌≤◌, ◌<◌, min, max}
use native.Mathlib.Omega.{arith}
use native.Mathlib.Decide.{dec_lt}
use mathlib.Core.List.{List}
use mathlib.Core.Bool.{Bool, true, false, ◌&&◌}
use lib.Dec.{leb, ltb, eqb}
use borrow.Author.Tests.{le-ltb, leb-true, leb-false, le-leb, lt-leb, ltb-true, ltb-false, eqb-false}
use Rattle.table.specs.Sum.{pick, greatest_to}
use Rattle.table.specs.Format.{is, Table, kind, table_of}
use Rattle.table.specs.declared.kinds.Kind.TheVariants.{Alloc as alloc}
use Rattle.table.specs.Checks.{alloc_of}
use Rattle.table.proofs.ReadBack.{argument_short}
use Rattle.schedule.specs.Begin.{max_quota}
use Rattle.schedule.specs.Memory.{limit}
use Rattle.peaks.specs.Peak.{workers_peak}
use Rattle.peaks.specs.Rests.{stretch_begins, drawn_at, drawn_before, stretch, covered, resting_peak, useful_limit}
use Rattle.table.proofs.Sums.{greatest_to_cong}
use Rattle.peaks.proofs.Useful.{useful_rises}
use Rattle.quota.specs.Quota.{least_quota, InRange}
use Rattle.quota.proofs.Least.{least_exactly}
use Rattle.useful_limit.specs.Fit.{IsLeast, unruled, cover_quota, least_need}

-- ---- the range of a table that is read from bytes

pub alloc_short : (s : List ℕ) (a : ℕ) → alloc_of (table_of s) a ≤ max_quota
unfolding alloc_of
alloc_short s a = go (is alloc (kind (table_of s) a))
  where
    go : (q : Bool) → pick q ((table_of s).argument a) 0 ≤ max_quota
    go true = omega (arith, argument_short s a)
    go false = omega arith

pub least_in_range : (s : List ℕ) → InRange (table_of s) (least_quota (table_of s))
least_in_range s =
    let T : Table = table_of s in
    record { low = omega arith; high = (least_exactly T max_quota).1 (omega arith, λ a h. alloc_short s a) }

-- ---- the largest draw of a stretch

module _ (T : Table) (K L : ℕ) (k : InRange T K) (l : InRange T L) where
  drawn_same : (a : ℕ) → a < T.actions → drawn_at T K a ≡ drawn_at T L a
  drawn_same a h = rw (le-ltb K (alloc_of T a) (((least_exactly T K).0 k.low).1 a h), le-ltb L (alloc_of T a) (((least_exactly T L).0 l.low).1 a h))

  before_same : (a : ℕ) → a ≤ T.actions → drawn_before T K a ≡ drawn_before T L a
  unfolding drawn_before
  before_same zero h = refl
  before_same (suc a) h = rw (before_same a (omega arith), drawn_same a (omega arith))

  pub stretch_same : stretch T K ≡ stretch T L
  unfolding stretch
  stretch_same = greatest_to_cong _ _ T.actions (λ a h. rw (before_same a (omega arith), drawn_same a h))

-- the largest of all is in a range that has any
pub top_in_range : (T : Table) (K : ℕ) → InRange T K → InRange T max_quota
top_in_range T K k = record { low = omega (arith, k.low, k.high); high = omega arith }

-- a quota in the range covers every stretch exactly from `cover_quota` on
module _ (T : Table) (K : ℕ) (k : InRange T K) where
  stretch_top : stretch T K ≡ stretch T max_quota
  stretch_top = stretch_same T K max_quota k (top_in_range T K k)

  covered_from : cover_quota T ≤ K → covered T K ≡ true
  unfolding covered cover_quota
  covered_from h = rw stretch_top (le-leb (stretch T max_quota) K (omega arith))

  covered_not : K < cover_quota T → covered T K ≡ false
  unfolding covered cover_quota
  covered_not h = rw stretch_top (lt-leb (stretch T max_quota) K (omega (arith, k.low)))

-- ---- the rule with b

-- the useful limit with b is the lesser of that without and, for b at least 1, demand 3's
module _ (T : Table) (p K b : ℕ) where
  pub useful_unruled : useful_limit T p K b ≤ useful_limit T p K 0
  unfolding useful_limit
  useful_unruled = omega arith

  pub useful_either : (M : ℕ) → useful_limit T p K b ≤ M → (useful_limit T p K 0 ≤ M) ⊎ ((1 ≤ b) × (limit T p K b ≤ M))
  unfolding useful_limit
  useful_either M h = go (eqb b 0) refl h
    where
      rest : ℕ
      rest = pick (covered T K) (resting_peak T p) (workers_peak T p)

      go : (q : Bool) → eqb b 0 ≡ q → min (workers_peak T p) (min (pick q (workers_peak T p) (limit T p K b)) rest) ≤ M
          → (min (workers_peak T p) (min (workers_peak T p) rest) ≤ M) ⊎ ((1 ≤ b) × (limit T p K b ≤ M))
      go true e g = inl g
      go false e g =
          by_cases (dec_lt M (limit T p K b)) (λ n. inl (omega arith)) (λ n. inr (omega (arith, eqb-false b 0 e), omega (arith, n)))

-- without b the largest quota of all needs least
pub unruled_least : (T : Table) (p K : ℕ) → InRange T K → unruled T p ≤ useful_limit T p K 0
unfolding useful_limit
unruled_least T p K k =
    by_cases (dec_lt K (cover_quota T)) (λ h. rw (covered_not T K k h) (omega arith))
    (λ h. rw (covered_from T K k (omega (arith, h)), covered_from T max_quota (top_in_range T K k) (omega (arith, h, k.high))) (omega arith))

-- ---- the least that any needs

pub cover_low : (T : Table) → least_quota T ≤ cover_quota T
unfolding cover_quota
cover_low T = omega arith

module _ (T : Table) (p b : ℕ) (r : InRange T (least_quota T)) where
  abbrev need : ℕ → ℕ
  need K = useful_limit T p K b

  below_cover : (K : ℕ) → InRange T K → K < cover_quota T → need (least_quota T) ≤ need K
  below_cover K k h = useful_rises T p (least_quota T) K b k.low (covered_not T (least_quota T) r (omega (arith, k.low)) ∙ sym (covered_not T K k h))

  from_cover : (K : ℕ) → InRange T K → cover_quota T ≤ K → need (cover_quota T) ≤ need K
  from_cover K k h =
      let c : InRange T (cover_quota T) = record { low = cover_low T; high = omega (arith, k.high) } in
      useful_rises T p (cover_quota T) K b h (covered_from T (cover_quota T) c (omega arith) ∙ sym (covered_from T K k h))

  -- one in the range needs what the least of it does, or covers every stretch and needs what the least that does so
  abbrev Either : ℕ → Type 0
  Either K = (need (least_quota T) ≤ need K) ⊎ ((cover_quota T ≤ K) × (need (cover_quota T) ≤ need K))

  either : (K : ℕ) → InRange T K → Either K
  either K k = by_cases (dec_lt K (cover_quota T)) (λ h. inl (below_cover K k h)) (λ h. inr (omega (arith, h), from_cover K k (omega (arith, h))))

  pub least_need_lem : IsLeast T p b (least_need T p b)
  unfolding least_need
  least_need_lem = go (leb (cover_quota T) max_quota) refl (ltb (need (cover_quota T)) (need (least_quota T))) refl
    where
      at_least : ((K : ℕ) → InRange T K → need (least_quota T) ≤ need K) → IsLeast T p b (least_quota T)
      at_least h = record { in_range = r; least = h; first = λ L less l. absurd (omega (arith, l.low)) }

      out : max_quota < cover_quota T → (K : ℕ) → InRange T K → Either K → need (least_quota T) ≤ need K
      out e K k (inl h) = h
      out e K k (inr h) = absurd (omega (arith, h.0, k.high))

      no_less : need (least_quota T) ≤ need (cover_quota T) → (K : ℕ) → Either K → need (least_quota T) ≤ need K
      no_less d K (inl h) = h
      no_less d K (inr h) = omega (arith, h.1)

      lower : need (cover_quota T) < need (least_quota T) → (K : ℕ) → Either K → need (cover_quota T) ≤ need K
      lower d K (inl h) = omega (arith, h)
      lower d K (inr h) = h.1

      go : (x : Bool) → leb (cover_quota T) max_quota ≡ x → (y : Bool) → ltb (need (cover_quota T)) (need (least_quota T)) ≡ y
          → IsLeast T p b (pick (x && y) (cover_quota T) (least_quota T))
      go false e y d = at_least (λ K k. out (leb-false (cover_quota T) max_quota e) K k (either K k))
      go true e false d = at_least (λ K k. no_less (ltb-false (need (cover_quota T)) (need (least_quota T)) d) K (either K k))
      go true e true d =
          let l : need (cover_quota T) < need (least_quota T) = ltb-true (need (cover_quota T)) (need (least_quota T)) d in
          record {
            in_range = record { low = cover_low T; high = leb-true (cover_quota T) max_quota e };
            least = λ K k. lower l K (either K k);
            first = λ K h k. omega (arith, l, below_cover K k h);
          }
