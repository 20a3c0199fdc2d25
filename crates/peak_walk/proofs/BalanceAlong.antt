-- The balance along a body where the children's final balances are known; and that no number of a walk is too large.
use Rattle.std.proofs.Common.{◌≡◌, ℕ, suc, ◌+◌, ◌^◌, ◌<◌, ◌≤◌, Bool, true, false, List, get_or, ◌∙◌, arith}
use Rattle.table.specs.Sum.{pick}
use Rattle.table.specs.Format.{code_of, is, Table, kind}
use Rattle.table.specs.declared.kinds.Kind.{Kind}
use Rattle.table.specs.declared.kinds.Kind.TheVariants.{End as end, Work as work, Alloc as alloc, Free as free, Fork as fork, Join as join, Unknown as unknown}
use Rattle.table.specs.Checks.{owner, alloc_of, free_of, whole}
use Rattle.table.proofs.Bodies.{owner_at, fork_above, fork_below_lem, join_above, join_below}
use Rattle.table.proofs.Amounts.{action_within, whole_bound}
use Rattle.schedule.specs.Sound.{balance_to}
use Rattle.order.proofs.Lawful.{Lawful}
use Rattle.schedule.proofs.Sound.Balances.{balance_step, balance_join, balance_free}
use Rattle.peaks.specs.Peak.{final}
use Rattle.peaks.proofs.PeakSizes.{reach_whole}
use Rattle.peak_walk.specs.Code.Walk.{balance_after}
use Rattle.peak_walk.proofs.OpenRows.{cut_small}

module _ (T : Table) (l : Lawful T) (small : (a : ℕ) → T.argument a < 16777216) where
  pub thread_small : (d : ℕ) → d < T.threads → whole T (alloc_of T) d < 2 ^ 40
  unfolding alloc_of
  thread_small d i =
      omega (arith, whole_bound T l.contents l.bodies l.nesting (alloc_of T) 16777215 (λ a w. own a (is alloc (kind T a))) d i, l.few_actions)
    where
      own : (a : ℕ) (q : Bool) → pick q (T.argument a) 0 ≤ 16777215
      own a true = omega (arith, small a)
      own a false = omega arith

module _ (T : Table) (l : Lawful T) (t : ℕ) (h : t < T.threads) (k : ℕ) (i : k < T.count t) where
  pub inside : T.first t + k < T.actions
  inside = action_within T l.contents l.bodies t k h i

  own : owner T (T.first t + k) ≡ t
  own = owner_at T l.contents t k h i

  -- a child that is forked or joined
  pub child_fork : kind T (T.first t + k) ≡ fork → (t < T.argument (T.first t + k)) × (T.argument (T.first t + k) < T.threads)
  child_fork e = (rw own at (fork_above T l.contents l.bodies (T.first t + k) inside e), fork_below_lem T l.contents l.bodies (T.first t + k) inside e)

  pub child_join : kind T (T.first t + k) ≡ join → (t < T.argument (T.first t + k)) × (T.argument (T.first t + k) < T.threads)
  child_join e = (rw own at (join_above T l.contents l.bodies (T.first t + k) inside e), join_below T l.contents l.bodies (T.first t + k) inside e)

  module _ (small : (a : ℕ) → T.argument a < 16777216) (finals : List ℕ) (known : (d : ℕ) → t < d → d < T.threads → get_or finals d 0 ≡ final T d) (b : ℕ) (now-is : b ≡ balance_to T t k) where
    next_small : balance_to T t (suc k) < 2 ^ 40
    next_small = omega (arith, reach_whole T l t (suc k) h i, thread_small T l small t h)

    pub balance_next : (K : Kind) → kind T (T.first t + k) ≡ K → balance_after finals K (T.argument (T.first t + k)) b ≡ balance_to T t (suc k)
    unfolding balance_after alloc_of free_of is code_of
    balance_next end e = let z = rw e at (balance_step T l t h k i (rw e)) in omega (arith, z, now-is)
    balance_next work e = let z = rw e at (balance_step T l t h k i (rw e)) in omega (arith, z, now-is)
    balance_next alloc e =
        let z = rw e at (balance_step T l t h k i (rw e)) in
        cut_small (b + T.argument (T.first t + k)) (omega (arith, z, now-is, next_small)) ∙ omega (arith, z, now-is)
    balance_next free e = let z = rw e at (balance_step T l t h k i (rw e)) in omega (arith, z, now-is, balance_free T l t h k i e)
    balance_next fork e = let z = rw e at (balance_step T l t h k i (rw e)) in omega (arith, z, now-is)
    balance_next join e =
        let x : ℕ = T.argument (T.first t + k) in
        let (p, q) = child_join e in
        let z : get_or finals x 0 ≡ final T x = known x p q in
        let s = balance_join T l t h k i e in
        cut_small (b + get_or finals x 0) (omega (arith, z, s, now-is, next_small)) ∙ omega (arith, z, s, now-is)
    balance_next unknown e = let z = rw e at (balance_step T l t h k i (rw e)) in omega (arith, z, now-is)
