-- `assembly::fault::put_line` meets its contract: no line, or its number.
use native.Mathlib.Omega.{arith}
use borrow.Author.Tests.{eq-eqb, ne_eqb}
use Rattle.text.specs.Text.{ascii}
use Rattle.text.proofs.Putting.{puts_none, puts_labelled, puts_within}
use Rattle.assembly.proofs.fault.put_line.Goals as goal

pub returns-then-line-eq0 : goal.returns-then-line-eq0
returns-then-line-eq0 c = rw (eq-eqb c.args.line 0 c.if-line-eq0.true) (puts_none 26)

pub returns-else-line-eq0 : goal.returns-else-line-eq0
returns-else-line-eq0 c = rw (ne_eqb c.args.line 0 c.if-line-eq0.false) (puts_within (omega arith) (puts_labelled (ascii " line ") c.args.line 19 (omega arith) c.put_labelled.ensures))
