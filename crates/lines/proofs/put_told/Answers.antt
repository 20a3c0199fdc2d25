-- `lines::put_told` meets its contract: each sort of reply has its texts, at most 18 bytes.
use native.Mathlib.Omega.{arith}
use Rattle.lines.specs.Lines.{idle_word, quota_word, wait_word, told_texts}
use Rattle.text.proofs.Putting.{puts_word, puts_more, puts_within}
use Rattle.lines.proofs.put_told.Goals as goal

pub returns-in-Idle : goal.returns-in-Idle
unfolding told_texts
returns-in-Idle c = rw c.in-Idle.is (puts_within (omega arith) (puts_word idle_word c.put_word.ensures))

pub returns-in-Done : goal.returns-in-Done
unfolding told_texts
returns-in-Done c =
    rw c.in-Done.is (puts_more c.put_pair-at.ensures c.put_kind.ensures)

pub returns-in-Quota : goal.returns-in-Quota
unfolding told_texts
returns-in-Quota c =
    rw c.in-Quota.is (puts_more c.put_pair-at-in-Quota.ensures (puts_word quota_word c.put_word-in-Quota.ensures))

pub returns-in-Wait : goal.returns-in-Wait
unfolding told_texts
returns-in-Wait c =
    rw c.in-Wait.is (puts_within (omega arith) (puts_more c.put_pair-at-in-Wait.ensures (puts_word wait_word c.put_word-in-Wait.ensures)))
