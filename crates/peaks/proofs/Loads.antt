-- Unended elders without fuel.
use mathlib.Core.Path.{◌≡◌, refl, ap, ◌∙◌}
use Prim.Native.Nat.{ℕ, zero, suc, ◌+◌, ◌≤◌, ◌<◌}
use native.Mathlib.Omega.{arith}
use mathlib.Core.List.{List, [], ◌∷◌}
use mathlib.Core.Bool.{Bool, true, false}
use Rattle.table.specs.Sum.{pick, sum_over}
use Rattle.table.specs.Format.{Table, kind}
use Rattle.table.specs.declared.kinds.Kind.TheVariants.{Fork as fork}
use Rattle.table.specs.Checks.{owner, open_before, tail}
use Rattle.table.specs.Level.{fork_below}
use Rattle.table.proofs.Bodies.{fork_above, fork_below_lem}
use Rattle.table.proofs.Nesting.{fork_found}
use Rattle.table.proofs.NestedThreads.{parent_lower}
use Rattle.order.proofs.Lawful.{Lawful}
use Rattle.peaks.specs.Peak.{unended_in, elders, outer_within, outer, fresh, past}

module _ (T : Table) (l : Lawful T) (status : List ℕ) where
  outer_enough : (k j t : ℕ) → t < T.threads → t < k → t < j → outer_within k T status t ≡ outer_within j T status t
  unfolding outer_within
  outer_enough zero j t h p q = absurd (omega arith)
  outer_enough (suc k) zero t h p q = absurd (omega arith)
  outer_enough (suc k) (suc j) zero h p q = refl
  outer_enough (suc k) (suc j) (suc t) h p q =
      let i = parent_lower T l.contents l.bodies l.nesting l.forking (suc t) (omega arith) h in
      ap (elders T status (suc t) +◌) (outer_enough k j (owner T (fork_below T T.actions (suc t))) (omega arith) (omega arith) (omega arith))

  pub outer_root : outer T status 0 ≡ 0
  unfolding outer_within
  outer_root = outer_enough T.threads 1 0 l.some_thread l.some_thread (omega arith)

  pub outer_child : (a : ℕ) → a < T.actions → kind T a ≡ fork → outer T status (T.argument a) ≡ unended_in status (open_before T a) + outer T status (owner T a)
  unfolding outer_within
  outer_child a h k = outer_enough T.threads (suc T.threads) (T.argument a) i i (omega (arith, i)) ∙ go (T.argument a) refl
    where
      i : T.argument a < T.threads
      i = fork_below_lem T l.contents l.bodies a h k

      go : (t : ℕ) → T.argument a ≡ t → outer_within (suc T.threads) T status t ≡ unended_in status (open_before T a) + outer T status (owner T a)
      go zero e = absurd (omega (arith, fork_above T l.contents l.bodies a h k))
      go (suc t) e = rw (← e, fork_found T l.contents l.bodies l.nesting a h k)

-- what stands open but for a child forked directly before is at most what stands open
pub tail_fewer : (status l : List ℕ) → unended_in status (tail l) ≤ unended_in status l
unfolding sum_over
tail_fewer status [] = omega arith
tail_fewer status (c ∷ l) = omega arith

pub past_fewer : (T : Table) (status : List ℕ) (a : ℕ) → unended_in status (past T a) ≤ unended_in status (open_before T a)
past_fewer T status a = go (fresh T a)
  where
    go : (q : Bool) → unended_in status (pick q (tail (open_before T a)) (open_before T a)) ≤ unended_in status (open_before T a)
    go true = tail_fewer status (open_before T a)
    go false = omega arith
