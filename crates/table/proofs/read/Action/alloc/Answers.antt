-- `table::read::Action::alloc` meets its contract.
use mathlib.Core.Path.{sym, ◌∙◌}
use Rattle.table.specs.declared.kinds.Kind.TheVariants.{Alloc as alloc}
use Rattle.table.proofs.Tests.{same_is, other_is}
use Rattle.table.proofs.read.Action.alloc.Goals as goal

pub returns-in-Alloc : goal.returns-in-Alloc
returns-in-Alloc c = rw (same_is alloc _ (sym c.kind.ensures ∙ c.in-Alloc.is))

pub returns-in_default : goal.returns-in_default
returns-in_default c = rw (other_is alloc _ (λ e. c.in_default.not-Alloc (c.kind.ensures ∙ e)))
