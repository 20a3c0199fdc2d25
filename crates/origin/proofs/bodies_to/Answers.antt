-- `origin::bodies_to` meets its contract.
use mathlib.Core.Path.{◌≡◌}
use Prim.Native.Nat.{ℕ, ◌≤◌, ◌<◌}
use mathlib.Core.List.{List}
use borrow.Author.Tests.{lt-ltb, le-ltb}
use Rattle.table.specs.Format.{actions_of, table_of}
use Rattle.origin.specs.Origin.{bodies_to}
use Rattle.origin.proofs.bodies_to.Goals as goal

module _ (s : List ℕ) (n t r : ℕ) (e : n ≡ (table_of s).threads) where
  inside : t < n → r ≡ (table_of s).first t → r ≡ bodies_to (table_of s) t
  inside h f = rw (← e, lt-ltb t n h) f

  beyond : n ≤ t → r ≡ actions_of s → r ≡ bodies_to (table_of s) t
  unfolding table_of
  beyond h f = rw (← e, le-ltb t n h) f

pub returns-then-t-n : goal.returns-then-t-n
returns-then-t-n c = inside c.args.table.now _ _ _ c.requires c.if-t-n.true c.first.ensures.value

pub returns : goal.returns
returns c = beyond c.args.table.now _ _ _ c.requires c.if-t-n.false c.actions.ensures.value
