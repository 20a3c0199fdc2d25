-- `stealing::moves::steal` meets its contract.
use mathlib.Core.Path.{ap, ◌∙◌}
use Prim.Native.Nat.{ℕ}
use mathlib.Core.Bool.{true, false}
use Rattle.array_machine.specs.Counted.{busy_after}
use Rattle.run_memory.specs.Blocks.{bytes_in, words_in, numbers_in}
use Rattle.run_memory.specs.Places.{threaded, headed, quotaed}
use Rattle.stealing.specs.StealingMemory.{robbed_words}
use Rattle.stealing.proofs.Leavings.{gathered_as, stolen}
use Rattle.stealing.proofs.moves.steal.Goals as goal

pub returns : goal.returns
returns c =
    let d = c in
    let B = bytes_in d.args.bytes.now in
    let W = words_in d.args.words.now in
    let N = numbers_in d.args.numbers.now in
    let w = d.args.w in
    let b = d.args.b in
    λ S.
    gathered_as S c.hold.ensures.bytes_after
    (c.hold.ensures.words_after
    ∙ ap (threaded w b)
    (c.rob.ensures ∙ ap (robbed_words b) (c.put_head.ensures ∙ ap (λ (n : ℕ). headed 2 n W) (c.including-busy.ensures ∙ ap (λ (n : ℕ). busy_after n false true w) c.head_at.ensures))))
    (c.put_quota.ensures ∙ ap (λ (n : ℕ). quotaed w n N) c.setting_at-quota.ensures) (stolen B W N S w b d.requires.1.0)
