-- A walk over a thread's body with the bests of the threads above comes to its best and its final balance. The invariant: the balance is the thread's so far, the children are those that stand
-- open at their best, and the most is that of the places so far.
use Rattle.std.proofs.Common.{◌≡◌, ℕ, zero, suc, ◌+◌, ◌-◌, ◌^◌, ◌<◌, ◌≤◌, max, false, List, [], ◌∷◌, get_or, sym, refl, ◌∙◌, add-zero, add-suc, arith}
use mathlib.Core.List.{Memᴰ}
use Rattle.table.specs.Sum.{sum_to, sum_over, greatest_to}
use Rattle.table.specs.Format.{code_of, is, Table, kind}
use Rattle.table.specs.declared.kinds.Kind.{Kind}
use Rattle.table.specs.declared.kinds.Kind.TheVariants.{End as end, Work as work, Alloc as alloc, Free as free, Fork as fork, Join as join, Unknown as unknown}
use Rattle.table.specs.Checks.{open_before, alloc_of, whole}
use Rattle.table.proofs.Nesting.{open_first, open_end, open_fork, open_join, open_same}
use Rattle.table.proofs.NestedThreads.{greatest_under}
use Rattle.schedule.specs.Sound.{balance_to}
use Rattle.order.proofs.Lawful.{Lawful}
use Rattle.peaks.specs.Peak.{final}
use Rattle.peaks.specs.Rests.{best}
use Rattle.peaks.proofs.Opens.{open_child}
use Rattle.peaks.proofs.Parallel.{best_is}
use Rattle.peaks.proofs.PeakSizes.{reach_whole}
use Rattle.peak_walk.specs.Code.Walk.{cut, balance_after}
use Rattle.peak_walk.specs.Code.Parallel.{children_after, Passed, pass, passed_on, passed, Bests}
use Rattle.peak_walk.proofs.OpenRows.{cut_small}
use Rattle.peak_walk.proofs.BalanceAlong.{thread_small, inside, child_fork, child_join, balance_next}
use Rattle.peak_walk.proofs.Walked.{greatest_next}

-- ---- no best is above what the thread and its descendants draw

sum_under : (f g : ℕ → ℕ) (l : List ℕ) → ((x : ℕ) → Memᴰ x l → f x ≤ g x) → sum_over f l ≤ sum_over g l
unfolding sum_over
sum_under f g [] h = omega arith
sum_under f g (x ∷ l) h = omega (arith, sum_under f g l (λ y m. h y (Memᴰ.tail m)), h x (Memᴰ.head refl))

module _ (T : Table) (l : Lawful T) where
  reached : (t k : ℕ) → t < T.threads → k ≤ T.count t → ((d : ℕ) → t < d → d < T.threads → best T d ≤ whole T (alloc_of T) d)
      → balance_to T t k + sum_over (best T) (open_before T (T.first t + k)) ≤ whole T (alloc_of T) t
  reached t k h i under =
      omega (
        arith,
        reach_whole T l t k h i,
        sum_under (best T) (whole T (alloc_of T)) (open_before T (T.first t + k)) (λ d m. let (a, b) = open_child T l t k d h i m in under d a b),
      )

  best_whole : (t : ℕ) → t < T.threads → best T t ≤ whole T (alloc_of T) t
  best_whole t h = go T.threads t (omega arith) h
    where
      go : (fuel t : ℕ) → T.threads ≤ fuel + t → t < T.threads → best T t ≤ whole T (alloc_of T) t
      go zero t b h = absurd (omega arith)
      go (suc fuel) t b h = rw (best_is T l t h) (greatest_under _ (suc (T.count t)) _ (λ k i. reached t k h (omega arith) (λ d a c. go fuel d (omega arith) c)))

  pub place_under : (t k : ℕ) → t < T.threads → k ≤ T.count t → balance_to T t k + sum_over (best T) (open_before T (T.first t + k)) ≤ whole T (alloc_of T) t
  place_under t k h i = reached t k h i (λ d a b. best_whole d b)

-- ---- the walk

module _ (T : Table) (l : Lawful T) (small : (a : ℕ) → T.argument a < 16777216) (bests finals : List ℕ) (t : ℕ) (h : t < T.threads) (right : Bests T bests finals (suc t)) where
  abbrev place : ℕ → ℕ
  place k = balance_to T t k + sum_over (best T) (open_before T (T.first t + k))

  place_small : (k : ℕ) → k ≤ T.count t → balance_to T t k + sum_over (best T) (open_before T (T.first t + k)) < 2 ^ 40
  place_small k i = omega (arith, place_under T l t k h i, thread_small T l small t h)

  pub record Holds (k : ℕ) (w : Passed) : Type 0 where
    pub balance : w.balance ≡ balance_to T t k
    pub children : w.children ≡ sum_over (best T) (open_before T (T.first t + k))
    pub most : w.most ≡ greatest_to place (suc k)

  none_open : sum_over (best T) (open_before T (T.first t + 0)) ≡ 0
  unfolding sum_over
  none_open = rw (add-zero (T.first t), open_first T l.contents l.bodies l.nesting t h)

  start : Holds 0 (pass 0 0 0)
  unfolding sum_to greatest_to
  start = record { balance = refl; children = sym none_open; most = omega (arith, none_open) }

  -- one action more
  module _ (k : ℕ) (i : k < T.count t) (w : Passed) (v : Holds k w) where
    abbrev a : ℕ
    a = T.first t + k

    abbrev x : ℕ
    x = T.argument a

    abbrev cs : List ℕ
    cs = open_before T (suc a)

    next_small : balance_to T t (suc k) + sum_over (best T) (open_before T (suc (T.first t + k))) < 2 ^ 40
    next_small = rw (add-suc (T.first t) k) at (place_small (suc k) i)

    balance_is : balance_after finals (kind T (T.first t + k)) (T.argument (T.first t + k)) w.balance ≡ balance_to T t (suc k)
    balance_is = balance_next T l t h k i small finals right.balances w.balance v.balance (kind T a) refl

    same : is end (kind T (T.first t + k)) ≡ false → is fork (kind T (T.first t + k)) ≡ false → is join (kind T (T.first t + k)) ≡ false → w.children ≡ sum_over (best T) (open_before T (suc (T.first t + k)))
    same p q r = rw (open_same T l.contents l.bodies l.nesting a p q r) v.children

    -- an end leaves none open, a fork opens its child, a join closes the latest
    after_end : kind T (T.first t + k) ≡ end → w.children ≡ sum_over (best T) (open_before T (suc (T.first t + k)))
    unfolding sum_over open_before
    after_end e = rw e (rw (open_end T l.contents l.bodies l.nesting a (inside T l t h k i) e) at v.children)

    after_fork : kind T (T.first t + k) ≡ fork → cut (w.children + get_or bests (T.argument (T.first t + k)) 0) ≡ sum_over (best T) (open_before T (suc (T.first t + k)))
    unfolding sum_over
    after_fork e =
        let (p, q) = child_fork T l t h k i e in
        let z : sum_over (best T) cs ≡ best T x + sum_over (best T) (open_before T a) = rw (open_fork T l.contents l.bodies l.nesting a e) in
        let y : get_or bests x 0 ≡ best T x = right.here x p q in
        cut_small (w.children + get_or bests x 0) (omega (arith, z, y, v.children, next_small)) ∙ omega (arith, z, y, v.children)

    after_join : kind T (T.first t + k) ≡ join → w.children - get_or bests (T.argument (T.first t + k)) 0 ≡ sum_over (best T) (open_before T (suc (T.first t + k)))
    unfolding sum_over
    after_join e =
        let (p, q) = child_join T l t h k i e in
        let z : sum_over (best T) (open_before T a) ≡ best T x + sum_over (best T) cs = rw (open_join T l.contents l.bodies l.nesting a (inside T l t h k i) e) in
        let y : get_or bests x 0 ≡ best T x = right.here x p q in
        omega (arith, z, y, v.children)

    children_next : (K : Kind) → kind T (T.first t + k) ≡ K
        → children_after bests K (T.argument (T.first t + k)) w.children ≡ sum_over (best T) (open_before T (suc (T.first t + k)))
    unfolding children_after is code_of
    children_next end e = after_end e
    children_next work e = same (rw e) (rw e) (rw e)
    children_next alloc e = same (rw e) (rw e) (rw e)
    children_next free e = same (rw e) (rw e) (rw e)
    children_next fork e = after_fork e
    children_next join e = after_join e
    children_next unknown e = same (rw e) (rw e) (rw e)

    step : Holds (suc k) (passed_on bests finals (kind T (T.first t + k)) (T.argument (T.first t + k)) w)
    unfolding passed_on
    step =
        let c : children_after bests (kind T a) x w.children ≡ sum_over (best T) cs = children_next (kind T a) refl in
        let s : cut (balance_after finals (kind T a) x w.balance + children_after bests (kind T a) x w.children) ≡ place (suc k) =
        cut_small _ (omega (arith, balance_is, c, next_small)) ∙ rw (add-suc (T.first t) k) (omega (arith, balance_is, c)) in
        record {
          balance = balance_is;
          children = rw (add-suc (T.first t) k) c;
          most = omega (arith, greatest_next place (suc k), v.most, s);
        }

  holds : (k : ℕ) → k ≤ T.count t → Holds k (passed T.code T.argument bests finals (T.first t) k)
  unfolding passed
  holds zero i = start
  holds (suc k) i = step k i _ (holds k (omega arith))

  -- the whole body
  pub record Found (w : Passed) : Type 0 where
    pub most : w.most ≡ best T t
    pub balance : w.balance ≡ final T t

  pub pass_right : Found (passed T.code T.argument bests finals (T.first t) (T.count t))
  pass_right =
      let v = holds (T.count t) (omega arith) in
      record { most = v.most ∙ sym (best_is T l t h); balance = v.balance }
