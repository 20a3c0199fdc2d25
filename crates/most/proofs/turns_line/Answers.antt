-- `most::turns_line` meets its contract: the line of the answer to the input.
use native.Mathlib.Omega.{arith}
use mathlib.Core.Path.{ap}
use lib.ListN.{length, length-append}
use Rattle.text.proofs.Placing.{counts}
use Rattle.most.proofs.turns_line.Goals as goal

pub returns : goal.returns
returns c = record {
  value = rw (← c.answer_to.ensures) c.answer_line.ensures.value;
  out_after = rw (← c.answer_to.ensures) c.answer_line.ensures.out_after;
  prefix_len = counts _ _ (omega (arith, c.answer_line.ensures.value, simp length-append at (ap length c.answer_line.ensures.out_after)));
}
