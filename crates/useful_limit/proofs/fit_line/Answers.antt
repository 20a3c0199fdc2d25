-- `useful_limit::fit_line` meets its contract: the line of the answer to the input.
use native.Mathlib.Omega.{arith}
use mathlib.Core.Path.{ap}
use lib.ListN.{length, length-append}
use Rattle.text.proofs.Placing.{counts}
use borrow.Author.Rules.{rules}
use Rattle.useful_limit.proofs.fit_line.Goals as goal

pub returns : goal.returns
returns c =
    let e = c.answer_line.ensures in
    record {
      value = rw (← c.answer_to.ensures) e.value;
      out_after = rw (← c.answer_to.ensures) e.out_after;
      prefix_len = counts _ _ (omega (arith, e.value, simp length-append at (ap length e.out_after)));
    }
