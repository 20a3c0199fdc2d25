-- `assembly::check::counted` meets its contract, by what the line says.
use native.Mathlib.Omega.{arith}
use borrow.Author.Tests.{eq-eqb, ne_eqb}
use Rattle.assembly.proofs.check.counted.Goals as goal

pub overflow_add-result : goal.overflow_add-result
overflow_add-result c = omega (arith, c.requires.threads)

pub overflow_add-result-else-n-eq0 : goal.overflow_add-result-else-n-eq0
overflow_add-result-else-n-eq0 c = omega (arith, c.requires.actions)

pub returns-in-Nothing : goal.returns-in-Nothing
returns-in-Nothing c = rw c.in-Nothing.is

pub returns-then-t-n : goal.returns-then-t-n
returns-then-t-n c = rw (c.in-Thread.is, eq-eqb _ _ c.if-t-n.true)

pub returns-else-t-n : goal.returns-else-t-n
returns-else-t-n c = rw (c.in-Thread.is, ne_eqb _ _ c.if-t-n.false)

pub returns-then-n-eq0 : goal.returns-then-n-eq0
returns-then-n-eq0 c = rw (c.in-Action.is, eq-eqb _ _ c.if-n-eq0.true)

pub returns-else-n-eq0 : goal.returns-else-n-eq0
returns-else-n-eq0 c = rw (c.in-Action.is, ne_eqb _ _ c.if-n-eq0.false)

pub returns-in-Expects : goal.returns-in-Expects
returns-in-Expects c = rw c.in-Expects.is
