-- An action is one of the table's where its number is below m, as the code reads it.
use mathlib.Core.Path.{◌≡◌}
use Prim.Native.Nat.{ℕ, ◌≤◌, ◌<◌}
use native.Mathlib.Omega.{arith}
use mathlib.Core.List.{List}
use borrow.Author.Tests.{lt-ltb, le-ltb}
use lib.Dec.{ltb}
use Rattle.table.specs.Sum.{Read, pick}
use Rattle.table.specs.Format.{threads_of, actions_of, table_of}
use Rattle.table.specs.JobTable.{WellFormed}
use Rattle.wivakkol_turn.specs.Actions.{kind_code, argument_of}

module _ (s : List ℕ) (a : ℕ) {m : ℕ} (r : Read (actions_of s) 65536 m) where
  pub no_action_lem : m ≤ a → (x y : ℕ) → y ≡ pick (ltb a (actions_of s)) x y
  no_action_lem h x y = rw (← r.value, le-ltb a m h)

  pub an_action : a < m → (x y : ℕ) → x ≡ pick (ltb a (actions_of s)) x y
  an_action h x y = rw (← r.value, lt-ltb a m h)

pub threads_read : (s : List ℕ) {n : ℕ} → Read (threads_of s) 65536 n → n ≡ (table_of s).threads
unfolding table_of
threads_read s r = r.value

-- Of an action of the table the answers are the table's own; in a well-formed one the kind is then none but the six, so that 255 says that there is no such action.
module _ (s : List ℕ) (a : ℕ) (h : a < actions_of s) where
  pub own_kind : kind_code s a ≡ (table_of s).code a
  unfolding kind_code
  own_kind = rw (lt-ltb a (actions_of s) h)

  pub own_argument : argument_of s a ≡ (table_of s).argument a
  unfolding argument_of
  own_argument = rw (lt-ltb a (actions_of s) h)

  within : a < (table_of s).actions
  unfolding table_of
  within = h

  pub known_kind : WellFormed (table_of s) → kind_code s a ≤ 5
  known_kind w = omega (arith, own_kind, w.kinds a within)
