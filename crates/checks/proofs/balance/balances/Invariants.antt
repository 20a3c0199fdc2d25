-- `checks::balance::balances` meets its contract. The invariant: the arrays are filled from thread t on, and what is found from that thread's first action on is at `lowest`.
use Rattle.std.specs.Prelude.{Some, Option}
use mathlib.Core.Path.{◌≡◌}
use Prim.Native.Nat.{ℕ, ◌-◌, ◌<◌, ◌≤◌}
use mathlib.Core.List.{List}
use lib.ListN.{get_or}
use Rattle.table.specs.Format.{table_of}
use Rattle.table.specs.Pass.{try_from}
use Rattle.table.specs.Checks.{counts_below, alloc_of, free_of, whole, balance_pass}
use Rattle.table.specs.Code.Steps.{Nested, Filled}
use Rattle.table.proofs.Sizes.{Sizes}
use Rattle.checks.proofs.Least.{says_at}
use Rattle.checks.proofs.balance.balances.Given as goal

pub record Inv (s : List ℕ) (n m : ℕ) (rises falls : List ℕ) (lowest : Option ℕ) (t : ℕ) : Type 0 where
  pub nested : Nested s n m
  pub sizes : Sizes s n m
  pub bytes : (i : ℕ) → get_or s i 0 < 256
  pub within : t ≤ n
  pub rises_done : Filled (table_of s) (whole (table_of s) (alloc_of (table_of s))) rises t
  pub falls_done : Filled (table_of s) (whole (table_of s) (free_of (table_of s))) falls t
  pub inside : (i : ℕ) → lowest ≡ Some i → i < m
  pub found : try_from (balance_pass (table_of s)).checks (counts_below (table_of s) t) (m - counts_below (table_of s) t) ≡ says_at 10 lowest

abbrev pub invariant-loop-t : goal.invariant-loop-t
invariant-loop-t l = Inv l.table l.n l.m l.rises l.falls l.lowest l.t
