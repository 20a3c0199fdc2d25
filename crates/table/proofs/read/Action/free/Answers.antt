-- `table::read::Action::free` meets its contract.
use mathlib.Core.Path.{sym, ◌∙◌}
use Rattle.table.specs.declared.kinds.Kind.TheVariants.{Free as free}
use Rattle.table.proofs.Tests.{same_is, other_is}
use Rattle.table.proofs.read.Action.free.Goals as goal

pub returns-in-Free : goal.returns-in-Free
returns-in-Free c = rw (same_is free _ (sym c.kind.ensures ∙ c.in-Free.is))

pub returns-in_default : goal.returns-in_default
returns-in_default c = rw (other_is free _ (λ e. c.in_default.not-Free (c.kind.ensures ∙ e)))
