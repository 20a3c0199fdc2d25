-- `filling::numbers::note_size` meets its contract.
use mathlib.Core.Path.{◌≡◌}
use Prim.Native.Nat.{ℕ, ◌+◌, ◌-◌, ◌/◌, ◌≤◌, ◌<◌}
use mathlib.Core.List.{List}
use mathlib.Core.Bool.{true}
use native.Mathlib.Omega.{arith}
use lib.ListN.{set}
use borrow.Author.Tests.{lt-ltb, le-ltb}
use Rattle.table.specs.Sum.{pick}
use Rattle.table.specs.Format.{Table, table_of}
use Rattle.table.specs.Checks.{alloc_of}
use Rattle.filling.specs.Filled.{big, dummies}
use Rattle.filling.proofs.numbers.note_size.Goals as goal

module _ (T : Table) (K a x : ℕ) (e : x ≡ alloc_of T a) where
  is_big : K < x → big T K a ≡ true
  unfolding big
  is_big h = rw (← e) (lt-ltb K x h)

  sized : (sums : List ℕ) (root d : ℕ) → K < x → d ≡ (x + K - 1) / K → set sums root d ≡ pick (big T K a) (set sums root (dummies T K a)) sums
  unfolding dummies
  sized sums root d h q = rw (is_big h, ← e, q)

  other : (sums : List ℕ) (root : ℕ) → x ≤ K → sums ≡ pick (big T K a) (set sums root (dummies T K a)) sums
  unfolding big
  other sums root h = rw (← e, le-ltb K x h)

pub offset_bounds-sums-root : goal.offset_bounds-sums-root
offset_bounds-sums-root c = omega (arith, c.requires.root_bound (is_big (table_of c.args.table.now) _ _ _ c.amount-x.ensures.value c.if-quota-x.true))

pub bounds-sums-root : goal.bounds-sums-root
bounds-sums-root c = c.requires.root_bound (is_big (table_of c.args.table.now) _ _ _ c.amount-x.ensures.value c.if-quota-x.true)

pub returns-then-quota-x : goal.returns-then-quota-x
returns-then-quota-x c =
    sized (table_of c.args.table.now) _ _ _ c.amount-x.ensures.value c.args.sums.now _ _ c.if-quota-x.true c.dummies_of.ensures.value

pub returns-else-quota-x : goal.returns-else-quota-x
returns-else-quota-x c =
    other (table_of c.args.table.now) _ _ _ c.amount-x.ensures.value c.args.sums.now _ c.if-quota-x.false
