-- `checks::contents::contents` meets its contract. The invariant: `sum` is the sum of the earlier counts, and what is found from entry t on is what is found in all.
use mathlib.Core.Path.{◌≡◌}
use Prim.Native.Nat.{ℕ, ◌-◌, ◌*◌, ◌≤◌}
use mathlib.Core.List.{List}
use Rattle.table.specs.Format.{table_of}
use Rattle.table.specs.Pass.{try_from, try_pass}
use Rattle.table.specs.Checks.{counts_below, entries_pass}
use Rattle.table.specs.Code.Steps.{Headed}
use Rattle.table.proofs.Sizes.{Sizes}
use Rattle.checks.proofs.contents.contents.Given as goal

pub record Inv (s : List ℕ) (n m sum t : ℕ) : Type 0 where
  pub sizes : Sizes s n m
  pub headed : Headed s n m
  pub within : t ≤ n
  pub counted : sum ≡ counts_below (table_of s) t
  pub small : sum ≤ 65535 * t
  pub remains : try_from (entries_pass (table_of s)).checks t (n - t) ≡ try_pass (entries_pass (table_of s))

abbrev pub invariant-loop-t : goal.invariant-loop-t
invariant-loop-t l = Inv l.table l.n l.m l.sum l.t
