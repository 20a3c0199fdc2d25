-- `lines::put_answer` meets its contract: what the line's buffer has at its front is the line.
use mathlib.Core.Path.{◌≡◌, sym, ap, ◌∙◌}
use native.Mathlib.Omega.{arith}
use lib.ListN.{take}
use lib.Seq.{take_at}
use Rattle.text.specs.Text.{line_of}
use Rattle.text.proofs.Putting.{puts_word, puts_within}
use Rattle.lines.proofs.put_answer.Goals as goal

pub returns : goal.returns
returns c =
    let t = c.table_line-k in
    let whole : take t.result _ ≡ line_of c.args.answer = ap (take t.result) t.ensures.out_after ∙ take_at _ _ t.result (sym t.ensures.value) in
    puts_within (omega (arith, t.ensures.value, t.ensures.upper_bound)) (puts_word _ (rw whole at c.put_word.ensures))
