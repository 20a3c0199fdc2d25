-- `origin::names_thread` meets its contract.
use mathlib.Core.Path.{◌≡◌}
use mathlib.Core.Bool.{true, ◌||◌}
use mathlib.Core.Logic.{◌⊎◌, inl, inr}
use Rattle.table.specs.Format.{is}
use Rattle.table.specs.declared.kinds.Kind.{Kind}
use Rattle.table.specs.declared.kinds.Kind.TheVariants.{Fork as fork, Join as join}
use Rattle.table.proofs.Tests.{other_is}
use Rattle.origin.proofs.names_thread.Goals as goal

either : (k : Kind) → (k ≡ fork) ⊎ (k ≡ join) → true ≡ (is fork k || is join k)
unfolding is
either k (inl e) = rw e
either k (inr e) = rw e

pub returns-in-Fork : goal.returns-in-Fork
returns-in-Fork c = either _ c.in-Fork.is

pub returns-in_default : goal.returns-in_default
returns-in_default c = rw (other_is fork _ c.in_default.not-Fork, other_is join _ c.in_default.not-Join)
