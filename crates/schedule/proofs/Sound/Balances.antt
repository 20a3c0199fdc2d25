-- A thread's balance, action by action: it moves by the argument at an alloc and a free, by the child's final balance at a join, and not otherwise.
use mathlib.Core.Path.{◌≡◌, refl}
use Prim.Native.Nat.{ℕ, suc, ◌+◌, ◌*◌, ◌≤◌, ◌<◌}
use mathlib.Core.Bool.{false}
use native.Mathlib.Omega.{arith}
use Rattle.table.specs.Sum.{sum_to}
use Rattle.table.specs.Format.{code_of, is, Table, kind}
use Rattle.table.specs.declared.kinds.Kind.TheVariants.{Free as free, Join as join}
use Rattle.table.specs.Checks.{alloc_of, free_of, with_child, whole, part_of}
use Rattle.table.proofs.Bodies.{join_below}
use Rattle.table.proofs.Amounts.{action_within, whole_is, part_of_bound}
use Rattle.table.proofs.Peaks.{part_held}
use Rattle.schedule.specs.Sound.{balance_to}
use Rattle.order.proofs.Lawful.{Lawful}

module _ (T : Table) (l : Lawful T) (t : ℕ) (h : t < T.threads) where
  -- with no alloc above B, no balance is above B for each action of the table
  pub balance_bound : (B : ℕ) → ((a : ℕ) → a < T.actions → alloc_of T a ≤ B) → (k : ℕ) → k ≤ T.count t → balance_to T t k ≤ B * T.actions
  balance_bound B b k i = omega (arith, part_of_bound T l.contents l.bodies l.nesting (alloc_of T) B b t k h i)

  frees_within : (k : ℕ) → k ≤ T.count t → part_of T (free_of T) t k ≤ part_of T (alloc_of T) t k
  frees_within k i = part_held T l.contents l.bodies l.nesting l.balances t k h i

  -- past action i of the thread
  module _ (i : ℕ) (b : i < T.count t) where
    part_next : (own : ℕ → ℕ) → part_of T own t (suc i) ≡ part_of T own t i + with_child T join own (whole T own) (T.first t + i)
    unfolding sum_to
    part_next own = refl

    pub balance_step : is join (kind T (T.first t + i)) ≡ false → balance_to T t (suc i) + free_of T (T.first t + i) ≡ balance_to T t i + alloc_of T (T.first t + i)
    balance_step k =
        omega (arith, rw k at (part_next (alloc_of T)), rw k at (part_next (free_of T)), frees_within i (omega arith), frees_within (suc i) b)

    pub balance_free : kind T (T.first t + i) ≡ free → T.argument (T.first t + i) ≤ balance_to T t i
    unfolding alloc_of free_of is code_of
    balance_free k = omega (arith, rw k at (part_next (alloc_of T)), rw k at (part_next (free_of T)), frees_within i (omega arith), frees_within (suc i) b)

    pub balance_join : kind T (T.first t + i) ≡ join
        → balance_to T t (suc i) ≡ balance_to T t i + balance_to T (T.argument (T.first t + i)) (T.count (T.argument (T.first t + i)))
    unfolding alloc_of free_of is code_of
    balance_join k =
        let c : ℕ = T.argument (T.first t + i) in
        let below : c < T.threads = join_below T l.contents l.bodies (T.first t + i) (action_within T l.contents l.bodies t i h b) k in
        omega (
          arith,
          rw k at (part_next (alloc_of T)),
          rw k at (part_next (free_of T)),
          frees_within i (omega arith),
          whole_is T l.contents l.bodies (alloc_of T) c below,
          whole_is T l.contents l.bodies (free_of T) c below,
          part_held T l.contents l.bodies l.nesting l.balances c (T.count c) below (omega arith),
        )
