-- `checks::balance::balance_walk` meets its contract. The invariant: rise and fall are the sums up to action i, and below is the least action before i at which the body is overdrawn.
use Rattle.std.specs.Prelude.{Option}
use mathlib.Core.Path.{◌≡◌}
use Prim.Native.Nat.{ℕ, ◌≤◌}
use mathlib.Core.List.{List}
use Rattle.table.specs.Sum.{sum_to}
use Rattle.table.specs.declared.kinds.Kind.TheVariants.{Alloc as alloc, Free as free, Join as join}
use Rattle.table.specs.Code.Steps.{WalkReady, amount_at}
use Rattle.checks.specs.Code.Steps.{first_that, overdrawn}
use Rattle.checks.proofs.balance.balance_walk.Given as goal

pub record Inv (l : List ℕ) (count : ℕ) (rises falls : List ℕ) (rise fall : ℕ) (below : Option ℕ) (i : ℕ) : Type 0 where
  pub ready : WalkReady join l count rises falls
  pub within : i ≤ count
  pub rise_is : rise ≡ sum_to (amount_at alloc join l rises) i
  pub fall_is : fall ≡ sum_to (amount_at free join l falls) i
  pub below_is : below ≡ first_that (overdrawn l rises falls) i

abbrev pub invariant-loop-i : goal.invariant-loop-i
invariant-loop-i l = Inv l.body l.count l.rises l.falls l.rise l.fall l.below l.i × (l.stop ≡ l.count)
