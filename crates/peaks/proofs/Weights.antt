-- Held memory against weights of threads: each open thread's balance and its open children's weights within its own weight, and held is within the root's.
use mathlib.Core.Path.{◌≡◌, refl, sym}
use Prim.Native.Nat.{ℕ, zero, suc, ◌+◌, ◌≤◌, ◌<◌}
use native.Mathlib.Omega.{arith}
use native.Mathlib.Nat.{add-zero}
use native.Mathlib.Decide.{ℕ_discrete}
use mathlib.Core.Bool.{Bool, true, false, ◌&&◌}
use lib.Dec.{eqb}
use borrow.Author.Tests.{eq-eqb, ne_eqb}
use Rattle.table.specs.Sum.{pick, sum_to, sum_over, any_below}
use Rattle.table.specs.Format.{is, Table, kind}
use Rattle.table.specs.declared.kinds.Kind.{Kind}
use Rattle.table.specs.declared.kinds.Kind.TheVariants.{Fork as fork, Join as join}
use Rattle.table.specs.Checks.{open_before}
use Rattle.table.proofs.Tests.{is_true, same_is}
use Rattle.table.proofs.Sums.{sum_to_le}
use Rattle.table.proofs.Bodies.{body_within, fork_below_lem, join_below}
use Rattle.table.proofs.Nesting.{open_first, some_any_below, fork_exists}
use Rattle.schedule.specs.Machine.{State, unborn, ended, status_of}
use Rattle.schedule.specs.Sound.{joined_in, share_in, balance_to, is_done, progress, is_joined, share}
use Rattle.order.proofs.Lawful.{Lawful}
use Rattle.order.proofs.Joins.{weight_of, forked_weight, forks_one, joins_one}
use Rattle.order.proofs.Totals.{sum_to_add, sum_to_append, sum_targets}
use Rattle.schedule.proofs.Sound.Facts.{Facts}
use Rattle.schedule.proofs.Sound.Done.{unborn_first, born_forked}
use Rattle.schedule.proofs.Sound.Shares.{progress_ended, progress_next, progress_within, joined_ended, done_sum, held_shares}
use Rattle.peaks.proofs.Opens.{reach, open_over}

-- the weights of the children at the actions of kind k among the first n of thread t
abbrev children_to : Table → Kind → (ℕ → ℕ) → ℕ → ℕ → ℕ
children_to T k weight t n = sum_to (λ i. pick (is k (kind T (T.first t + i))) (weight (T.argument (T.first t + i))) 0) n

-- a fork of thread t is done
unfoldable pub is_forked : Table → State → ℕ → Bool
is_forked T st t = any_below (λ a. is fork (kind T a) && (eqb (T.argument a) t && is_done T st a)) T.actions

-- at the root alone
root_sum : (x k : ℕ) → sum_to (λ t. pick (eqb t 0) x 0) k ≤ x
unfolding sum_to
root_sum x zero = omega arith
root_sum x (suc zero) = omega arith
root_sum x (suc (suc k)) = rw (ne_eqb (suc k) 0 (λ e. omega arith)) (omega (arith, root_sum x (suc k)))

module _ (T : Table) (l : Lawful T) (weight : ℕ → ℕ) where
  -- the children forked and not joined stand open
  open_weight : (t k : ℕ) → t < T.threads → k ≤ T.count t
      → children_to T fork weight t k ≡ children_to T join weight t k + sum_over weight (open_before T (T.first t + k))
  unfolding sum_over
  open_weight t k h i =
      let b : T.first t + k ≤ T.actions = omega (arith, body_within T l.contents t h) in
      let e : weight_of T fork weight (T.first t + k) ≡ weight_of T join weight (T.first t + k) + sum_over weight (open_before T (T.first t + k)) =
      forked_weight T l.contents l.bodies l.nesting weight (T.first t + k) b in
      let z : weight_of T fork weight (T.first t) ≡ weight_of T join weight (T.first t) + 0 =
      rw (open_first T l.contents l.bodies l.nesting t h) at (forked_weight T l.contents l.bodies l.nesting weight (T.first t) (omega arith)) in
      omega (
        arith,
        sum_to_append (λ i. pick (is fork (kind T i)) (weight (T.argument i)) 0) (T.first t) k,
        sum_to_append (λ i. pick (is join (kind T i)) (weight (T.argument i)) 0) (T.first t) k,
      )

module _ (T : Table) (l : Lawful T) (p K : ℕ) (st : State) (f : Facts T p K st) where
  -- the weights of the children that stand open in thread t
  abbrev pub open_now : (ℕ → ℕ) → ℕ → ℕ
  open_now weight t = sum_over weight (open_before T (T.first t + progress T st t))

  -- every thread forked and not joined stands open in one
  pub opens_sum : (weight : ℕ → ℕ)
      → sum_to (λ t. pick (is_forked T st t) (weight t) 0) T.threads
      ≡ sum_to (λ t. pick (is_joined T st t) (weight t) 0) T.threads + sum_to (open_now weight) T.threads
  unfolding is_forked joined_in
  opens_sum weight =
      omega (
        arith,
        sum_to_add (λ t. children_to T join weight t (progress T st t)) (open_now weight) (λ t. children_to T fork weight t (progress T st t)) T.threads
            (λ t h. sym (open_weight T l weight t (progress T st t) h (progress_within T l p K st f t h))),
        done_sum T l p K st f (λ a. pick (is fork (kind T a)) (weight (T.argument a)) 0),
        done_sum T l p K st f (λ a. pick (is join (kind T a)) (weight (T.argument a)) 0),
        sum_targets (λ a. is fork (kind T a)) (is_done T st) T.argument weight T.threads T.actions
            (λ a h k. fork_below_lem T l.contents l.bodies a h (is_true fork (kind T a) k))
            (λ c. forks_one T l.contents l.bodies l.nesting c T.actions (omega arith)),
        sum_targets (λ a. is join (kind T a)) (is_done T st) T.argument weight T.threads T.actions
            (λ a h k. join_below T l.contents l.bodies a h (is_true join (kind T a) k))
            (joins_one T l.contents l.bodies l.nesting),
      )

  born_is_forked : (t : ℕ) → 0 < t → t < T.threads → (status_of st t ≡ unborn → ⊥) → is_forked T st t ≡ true
  unfolding is_forked
  born_is_forked t z h n =
      let (x, i, k, e) = fork_exists T l.contents l.bodies l.nesting l.forking t z h in
      some_any_below (λ a. is fork (kind T a) && (eqb (T.argument a) t && is_done T st a)) T.actions x i
      (rw (same_is fork (kind T x) k, eq-eqb (T.argument x) t e, born_forked T l p K st f x i k (rw e n)))

  none : (weight : ℕ → ℕ) (t : ℕ) → t < T.threads → progress T st t ≡ T.count t → open_now weight t ≡ 0
  unfolding sum_over
  none weight t h e = rw (e, open_over T l t h)

  nothing : (weight : ℕ → ℕ) (t : ℕ) → t < T.threads → progress T st t ≡ 0 → open_now weight t ≡ 0
  unfolding sum_over
  nothing weight t h e = rw (e, add-zero, open_first T l.contents l.bodies l.nesting t h)

  zero_balance : (t : ℕ) → progress T st t ≡ 0 → balance_to T t (progress T st t) ≡ 0
  unfolding sum_to
  zero_balance t z = rw z

  -- Each thread that is born and not joined: its balance and its open children's weights are within its own weight and something extra.
  pub within_weights : (weight extra : ℕ → ℕ)
      → ((t : ℕ) → t < T.threads → (status_of st t ≡ unborn → ⊥) → is_joined T st t ≡ false → reach T weight t (progress T st t) ≤ weight t + extra t)
      → st.held ≤ weight 0 + sum_to extra T.threads
  unfolding reach share_in
  within_weights weight extra each =
      let forked : ℕ → ℕ = λ t. pick (is_forked T st t) (weight t) 0 in
      let joined : ℕ → ℕ = λ t. pick (is_joined T st t) (weight t) 0 in
      let root : ℕ → ℕ = λ t. pick (eqb t 0) (weight 0) 0 in
      omega (
        arith,
        held_shares T l p K st f,
        opens_sum weight,
        root_sum (weight 0) T.threads,
        sum_to_add (share T st) (open_now weight) (λ t. share T st t + open_now weight t) T.threads (λ t h. refl),
        sum_to_add (λ t. share T st t + open_now weight t) joined (λ t. share T st t + open_now weight t + joined t) T.threads (λ t h. refl),
        sum_to_add forked extra (λ t. forked t + extra t) T.threads (λ t h. refl),
        sum_to_add (λ t. forked t + extra t) root (λ t. forked t + extra t + root t) T.threads (λ t h. refl),
        sum_to_le (λ t. share T st t + open_now weight t + joined t) (λ t. forked t + extra t + root t) T.threads
            (λ t h. by_status t h (ℕ_discrete (status_of st t) unborn) (is_joined T st t) refl),
      )
    where
      counts : (t : ℕ) → t < T.threads → (status_of st t ≡ unborn → ⊥) → weight t ≤ pick (is_forked T st t) (weight t) 0 + extra t + pick (eqb t 0) (weight 0) 0
      counts zero h n = omega arith
      counts (suc t) h n = rw (born_is_forked (suc t) (omega arith) h n) (omega arith)

      counts' : (t : ℕ) → t < T.threads → (status_of st t ≡ unborn → ⊥) → weight t + extra t ≤ pick (is_forked T st t) (weight t) 0 + extra t + pick (eqb t 0) (weight 0) 0
      counts' zero h n = omega arith
      counts' (suc t) h n = rw (born_is_forked (suc t) (omega arith) h n) (omega arith)

      by_status : (t : ℕ) → t < T.threads → Dec (status_of st t ≡ unborn) → (j : Bool) → is_joined T st t ≡ j
          → share T st t + open_now weight t + pick (is_joined T st t) (weight t) 0 ≤ pick (is_forked T st t) (weight t) 0 + extra t + pick (eqb t 0) (weight 0) 0
      by_status t h d true q =
          let e : status_of st t ≡ ended = joined_ended T l p K st f t h q in
          rw q (omega (arith, none weight t h (progress_ended T l p K st f t e), counts t h (λ u. omega arith)))
      by_status t h (yes u) false q =
          let n : status_of st t ≡ ended → ⊥ = λ e. omega arith in
          let z : progress T st t ≡ 0 = omega (arith, progress_next T l p K st f t h n, unborn_first T l p K st f t h u) in
          let s : balance_to T t (progress T st t) ≡ 0 = zero_balance t z in
          rw q (omega (arith, nothing weight t h z))
      by_status t h (no u) false q = let w = each t h u q in rw q (omega (arith, counts' t h u))
