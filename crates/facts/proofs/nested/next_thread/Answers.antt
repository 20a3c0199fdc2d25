-- `facts::nested::next_thread` meets its contract.
use native.Mathlib.Numerals.{add-one}
use Rattle.table.specs.declared.kinds.Kind.TheVariants.{End as end}
use Rattle.table.proofs.Tests.{same_is, other_is}
use Rattle.facts.proofs.nested.next_thread.Goals as goal

pub returns-in-End : goal.returns-in-End
returns-in-End c = rw (same_is end _ c.in-End.is, add-one)

pub returns-in_default : goal.returns-in_default
returns-in_default c = rw (other_is end _ c.in_default.not-End)
