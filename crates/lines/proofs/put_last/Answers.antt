-- `lines::put_last` meets its contract: the word goes by whether the root has ended.
use native.Mathlib.Omega.{arith}
use Rattle.text.specs.Text.{newline}
use Rattle.lines.specs.Lines.{last_texts}
use Rattle.text.proofs.Putting.{puts_word, puts_more, puts_within}
use Rattle.lines.proofs.put_last.Goals as goal

pub returns-then-ended : goal.returns-then-ended
unfolding last_texts
returns-then-ended c =
    rw c.if-ended.true (puts_within (omega arith) (puts_more c.put_totals-at.ensures (puts_word newline c.put_word.ensures)))

pub returns-else-ended : goal.returns-else-ended
unfolding last_texts
returns-else-ended c =
    rw c.if-ended.false (puts_within (omega arith) (puts_more c.put_totals-at-else-ended.ensures (puts_word newline c.put_word-else-ended.ensures)))
