-- `inputs::later` meets its contract: no line, or one after the front's.
use native.Mathlib.Omega.{arith}
use borrow.Author.Tests.{eq-eqb, ne_eqb}
use Rattle.inputs.proofs.later.Goals as goal

pub overflow_add-result : goal.overflow_add-result
overflow_add-result c = omega (arith, c.requires.front, c.requires.back)

pub returns-then-line-eq0 : goal.returns-then-line-eq0
returns-then-line-eq0 c = rw (eq-eqb c.args.line 0 c.if-line-eq0.true)

pub returns-else-line-eq0 : goal.returns-else-line-eq0
returns-else-line-eq0 c = rw (ne_eqb c.args.line 0 c.if-line-eq0.false)
