-- The children that stand open: they have higher numbers, and each was forked when those below it in the list stood open.
use mathlib.Core.Path.{◌≡◌, refl, ◌∙◌}
use Prim.Native.Nat.{ℕ, zero, suc, ◌+◌, ◌≤◌, ◌<◌}
use native.Mathlib.Omega.{arith}
use native.Mathlib.Nat.{add-suc, add-zero}
use native.Mathlib.Decide.{dec_lt}
use mathlib.Core.List.Memᴰ
use mathlib.Core.List.{List, [], ◌∷◌, Memᴰ}
use mathlib.Core.Bool.{Bool, true, false}
use Rattle.table.specs.Sum.{sum_over}
use Rattle.table.specs.Format.{is, Table, kind}
use Rattle.table.specs.declared.kinds.Kind.TheVariants.{End as end, Fork as fork, Join as join}
use Rattle.table.specs.Checks.{open_before, owner}
use Rattle.table.proofs.Tests.{is_true}
use Rattle.table.proofs.Bodies.{after_end, end_kind, owner_at, fork_above}
use Rattle.table.proofs.Nesting.{open_first, open_fork, open_join, open_same, open_forked, open_below}
use Rattle.table.proofs.Amounts.{action_within, action_last}
use Rattle.schedule.specs.Sound.{balance_to}
use Rattle.order.proofs.Lawful.{Lawful}

-- with k of its actions done, thread t's balance and a weight for each child that stands open
unfoldable pub reach : Table → (ℕ → ℕ) → ℕ → ℕ → ℕ
reach T weight t k = balance_to T t k + sum_over weight (open_before T (T.first t + k))

-- ---- the children that stand open

-- the head of a list of open children was forked by thread t when the others stood open
pub record Forked (T : Table) (t c : ℕ) (others : List ℕ) : Type 0 where
  pub action : ℕ
  pub within : action < T.actions
  pub forks : kind T action ≡ fork
  pub names : T.argument action ≡ c
  pub owned : owner T action ≡ t
  pub stood : open_before T action ≡ others

abbrev pub Stacked : Table → ℕ → List ℕ → Type 0
Stacked T t [] = Unit {0}
Stacked T t (c ∷ l) = Forked T t c l × Stacked T t l

module _ (T : Table) (l : Lawful T) where
  -- none once the thread has ended
  pub open_over : (t : ℕ) → t < T.threads → open_before T (T.first t + T.count t) ≡ []
  unfolding open_before
  open_over t h = rw (← after_end T l.contents t h, open_before, end_kind T l.contents l.bodies t h)

  -- a child that stands open has the higher number
  pub open_child : (t k d : ℕ) → t < T.threads → k ≤ T.count t → Memᴰ d (open_before T (T.first t + k)) → (t < d) × (d < T.threads)
  open_child t k d h i m = go (dec_lt k (T.count t))
    where
      go : Dec (k < T.count t) → (t < d) × (d < T.threads)
      go (yes j) =
          let w : T.first t + k < T.actions = action_within T l.contents l.bodies t k h j in
          let (x, q, y, e, o) = open_forked T l.contents l.bodies l.nesting (T.first t + k) d w m in
          let a : owner T x ≡ t = o ∙ owner_at T l.contents t k h j in
          (rw (a, e) at (fork_above T l.contents l.bodies x (omega arith) y), open_below T l.contents l.bodies l.nesting (T.first t + k) d w m)
      go (no j) =
          let e : k ≡ T.count t = omega (arith, j) in
          absurd (Memᴰ.not-nil (rw (e, open_over t h) at m))

  -- along a thread, by what its actions do to the open children
  module _ (t : ℕ) (h : t < T.threads) (P : ℕ → Type 0)
      (first : P (T.first t))
      (forks : (k : ℕ) → suc k < T.count t → T.first t + k < T.actions → kind T (T.first t + k) ≡ fork → open_before T (suc (T.first t + k)) ≡ T.argument (T.first t + k) ∷ open_before T (T.first t + k) → P (T.first t + k) → P (suc (T.first t + k)))
      (joins : (k : ℕ) → suc k < T.count t → T.first t + k < T.actions → open_before T (T.first t + k) ≡ T.argument (T.first t + k) ∷ open_before T (suc (T.first t + k)) → P (T.first t + k) → P (suc (T.first t + k)))
      (stays : (k : ℕ) → suc k < T.count t → T.first t + k < T.actions → open_before T (suc (T.first t + k)) ≡ open_before T (T.first t + k) → P (T.first t + k) → P (suc (T.first t + k))) where
    pub along : (k : ℕ) → k < T.count t → P (T.first t + k)
    along zero i = rw add-zero first
    along (suc k) i = rw add-suc (go (is end (kind T a)) (is fork (kind T a)) (is join (kind T a)) refl refl refl (along k (omega arith)))
      where
        a : ℕ
        a = T.first t + k

        w : a < T.actions
        w = action_within T l.contents l.bodies t k h (omega arith)

        go : (e f j : Bool) → is end (kind T a) ≡ e → is fork (kind T a) ≡ f → is join (kind T a) ≡ j → P a → P (suc a)
        go true f j p q r ih = absurd (omega (arith, i, action_last T l.contents l.bodies t k h (omega arith) (is_true end (kind T a) p)))
        go false true j p q r ih =
            let y : kind T a ≡ fork = is_true fork (kind T a) q in
            forks k i w y (open_fork T l.contents l.bodies l.nesting a y) ih
        go false false true p q r ih = joins k i w (open_join T l.contents l.bodies l.nesting a w (is_true join (kind T a) r)) ih
        go false false false p q r ih = stays k i w (open_same T l.contents l.bodies l.nesting a p q r) ih

  pub stacked : (t k : ℕ) → t < T.threads → k < T.count t → Stacked T t (open_before T (T.first t + k))
  stacked t k h i =
      along t h (λ (a : ℕ). Stacked T t (open_before T a)) (rw (open_first T l.contents l.bodies l.nesting t h) tt)
      (λ k j w y e s.
      rw e (record { action = T.first t + k; within = w; forks = y; names = refl; owned = owner_at T l.contents t k h (omega arith); stood = refl }, s))
      (λ k j w e s. (rw e at s).1)
      (λ k j w e s. rw e s)
      k i
