-- `facts::nested::fork_level` meets its contract.
use native.Mathlib.Numerals.{add-one}
use native.Mathlib.Omega.{arith}
use Rattle.table.specs.declared.kinds.Kind.TheVariants.{Fork as fork}
use Rattle.table.proofs.Tests.{same_is, other_is}
use Rattle.facts.proofs.nested.fork_level.Goals as goal

pub offset_bounds-levels-c : goal.offset_bounds-levels-c
offset_bounds-levels-c c = omega (arith, c.requires.1 c.in-Fork.is)

pub bounds-levels-c : goal.bounds-levels-c
bounds-levels-c c = c.requires.1 c.in-Fork.is

pub returns-in-Fork : goal.returns-in-Fork
returns-in-Fork c =
    let e = same_is fork _ c.in-Fork.is in
    record { value = rw e (omega (arith, c.max.ensures)); levels_after = rw (e, add-one) }

pub returns-in_default : goal.returns-in_default
returns-in_default c =
    let e = other_is fork _ c.in_default.not-Fork in
    record { value = rw e; levels_after = rw e }
