-- `rows::named` meets its contract.
use mathlib.Core.Path.{◌≡◌, refl, ◌∙◌}
use Prim.Native.Nat.{ℕ}
use mathlib.Core.List.{List}
use mathlib.Core.Logic.{◌⊎◌, inl, inr}
use Rattle.table.specs.declared.kinds.Kind.{Kind}
use Rattle.table.specs.declared.kinds.Kind.TheVariants.{Fork as fork, Join as join}
use Rattle.parts.specs.Copies.{renamed}
use Rattle.rows.specs.Rows.{named_by}
use Rattle.rows.proofs.Renamed.{named_thread, unnamed}
use Rattle.rows.proofs.named.Goals as goal

pub returns-in-Fork : goal.returns-in-Fork
returns-in-Fork c = named_thread _ (named_by c.args.names.now) c.args.x _ c.in-Fork.is c.name_of.ensures.value

pub returns-in_default : goal.returns-in_default
returns-in_default c = unnamed _ (named_by c.args.names.now) c.args.x c.in_default.not-Fork c.in_default.not-Join
