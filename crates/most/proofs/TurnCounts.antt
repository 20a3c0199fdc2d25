-- m + A + J action by action, at most twice the actions; of the table that runs, from the counts of its threads and actions.
use Rattle.std.specs.Prelude.{Ok}
use mathlib.Core.Path.{◌≡◌, refl}
use Prim.Native.Nat.{ℕ, zero, suc, ◌+◌, ◌-◌, ◌*◌, ◌≤◌}
use native.Mathlib.Omega.{arith}
use mathlib.Core.List.{List}
use mathlib.Core.Bool.{Bool, true, false}
use lib.Dec.{eqb}
use borrow.Author.Tests.{eq-eqb, ne_eqb, eqb-true}
use Rattle.table.specs.Sum.{pick, sum_to}
use Rattle.table.specs.Format.{code_of, is, Table, kind, table_of}
use Rattle.table.specs.declared.kinds.Kind.{Kind}
use Rattle.table.specs.declared.kinds.Kind.TheVariants.{End as end, Work as work, Alloc as alloc, Free as free, Fork as fork, Join as join, Unknown as unknown}
use Rattle.table.specs.Pass.{try_pass}
use Rattle.table.specs.Rules.{Rules}
use Rattle.table.proofs.Tests.{other_is}
use Rattle.order.specs.Turns.{turns_of}
use Rattle.order.proofs.Lawful.{Lawful, lawful}
use Rattle.order.proofs.Totals.{sum_to_bound}
use Rattle.filling.specs.Filled.{filled_out, threads_to, actions_to, fill_pass}
use Rattle.filling.proofs.FilledTable.{Fits, room_exactly}
use Rattle.filling.proofs.Turns.{turns_counted}
use Rattle.filling.proofs.Runs.{fill_runs}
use Rattle.most.specs.Code.Steps.{turns_at, Counted}

-- ---- action by action

module _ (T : Table) (a : ℕ) (k : Kind) (e : k ≡ kind T a) where
  pub at_alloc : k ≡ alloc → 2 ≡ turns_at T a
  unfolding turns_at is code_of
  at_alloc h = rw (← e, h)

  pub at_join : k ≡ join → 2 ≡ turns_at T a
  unfolding turns_at is code_of
  at_join h = rw (← e, h)

  pub at_other : (k ≡ alloc → ⊥) → (k ≡ join → ⊥) → 1 ≡ turns_at T a
  unfolding turns_at
  at_other h j = rw (← e, other_is alloc k h, other_is join k j)

-- m + A + J as a loop adds it up
pub turns_sum : (T : Table) → sum_to (turns_at T) T.actions ≡ turns_of T
unfolding turns_of sum_to turns_at
turns_sum T = go T.actions
  where
    go : (k : ℕ) → sum_to (turns_at T) k ≡ k + sum_to (λ a. pick (is alloc (kind T a)) 1 0) k + sum_to (λ a. pick (is join (kind T a)) 1 0) k
    go zero = refl
    go (suc k) = omega (arith, go k)

pub turns_at_few : (T : Table) (a : ℕ) → turns_at T a ≤ 2
unfolding turns_at is code_of
turns_at_few T a = go (kind T a)
  where
    go : (k : Kind) → 1 + pick (is alloc k) 1 0 + pick (is join k) 1 0 ≤ 2
    go end = omega arith
    go work = omega arith
    go alloc = omega arith
    go free = omega arith
    go fork = omega arith
    go join = omega arith
    go unknown = omega arith

-- no action is an alloc and a join
pub turns_few : (T : Table) → turns_of T ≤ 2 * T.actions
turns_few T = omega (arith, turns_sum T, sum_to_bound (turns_at T) 2 T.actions (λ a h. turns_at_few T a))

-- ---- of the filled-out table

module _ (s : List ℕ) (K : ℕ) (rules : Rules s) (some : 1 ≤ K) (e : try_pass (fill_pass (table_of s) K) ≡ Ok tt) where
  abbrev T : Table
  T = table_of s

  pub counted : {n m : ℕ} → n ≡ threads_to T K T.actions → m ≡ actions_to T K T.actions → Counted T n m
  counted p q =
      let l : Lawful T = lawful s rules in
      let f : Fits T K = (room_exactly T K l.few_threads l.few_actions).0 e in
      record { more_threads = omega (arith, p); few_threads = omega (arith, p, f.threads); more_actions = omega (arith, q); few_actions = omega (arith, q, f.actions) }

  -- each new action counts 1, and each new thread is joined once
  pub turns_filled : {n m : ℕ} → n ≡ threads_to T K T.actions → m ≡ actions_to T K T.actions → turns_of T + (n - T.threads) + (m - T.actions) ≡ turns_of (table_of (filled_out s K))
  turns_filled p q = omega (arith, p, q, (fill_runs s K rules some e).turns, turns_counted T K some T.actions)
