-- `lines::put_pair` meets its contract: two numbers of at most five digits, each after a space.
use native.Mathlib.Omega.{arith}
use Rattle.text.specs.Text.{space}
use Rattle.text.proofs.Putting.{puts_labelled, puts_more}
use Rattle.lines.proofs.put_pair.Goals as goal

pub returns : goal.returns
returns c =
    puts_more (puts_labelled space c.args.thread 4 (omega (arith, c.well_formed)) c.put_labelled-at.ensures)
    (puts_labelled space c.args.action 4 (omega (arith, c.well_formed)) c.put_labelled.ensures)
