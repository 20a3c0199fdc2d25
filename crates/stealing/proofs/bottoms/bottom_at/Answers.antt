use Rattle.run_memory.specs.Blocks.{words_in}
use Rattle.stealing.proofs.Along.{passed_start, passed_on, passed_out, passed_over, passed_read}
use Rattle.stealing.proofs.bottoms.bottom_at.Goals as goal

pub loop-i-init : goal.loop-i-init
loop-i-init c =
    let d = c.args in
    passed_read ((words_in d.words.now).rows 5) (words_in d.words.now).first d.c 0 c.head_at-b.ensures (passed_start _ _ _)

pub loop-i-preserved : goal.loop-i-preserved
loop-i-preserved c =
    let a = c.args in
    passed_read ((words_in a.words.now).rows 5) (words_in a.words.now).first a.c _ c.row_at-b.ensures
    (passed_on _ _ _ _ _ c.loop-i.invariant c.loop-i-test.true c.if-b-ge-NO_THREAD.false)

pub returns-after-loop-i : goal.returns-after-loop-i
returns-after-loop-i c = passed_over _ _ _ _ _ c.loop-i.invariant c.loop-i-test.false

pub returns-then-b-ge-NO_THREAD : goal.returns-then-b-ge-NO_THREAD
returns-then-b-ge-NO_THREAD c = passed_out _ _ _ _ _ c.loop-i.invariant c.if-b-ge-NO_THREAD.true
