-- `stealing::moves::end` meets its contract.
use mathlib.Core.Path.{ap, ◌∙◌}
use Rattle.schedule.specs.Machine.{ended}
use Rattle.array_machine.specs.Turn.{waits_in}
use Rattle.run_memory.specs.Blocks.{Bytes, bytes_in, words_in, numbers_in, gathered}
use Rattle.run_memory.specs.Places.{holds_in}
use Rattle.stealing.specs.Code.{woken_up, left_behind}
use Rattle.stealing.proofs.Leavings.{ends_woken, ends_left}
use Rattle.stealing.proofs.moves.end.Goals as goal

pub wake-requires : goal.wake-requires
wake-requires c =
    (c.requires.0, ap (holds_in c.args.w) c.put_status.ensures ∙ c.requires.1)

pub returns-then-waits : goal.returns-then-waits
returns-then-waits c =
    let B = bytes_in c.args.bytes.now in
    let W = words_in c.args.words.now in
    let N = numbers_in c.args.numbers.now in
    let w = c.args.w in
    let t = c.args.t in
    let u = c.row_at-u.result in
    λ T S p q.
    c.wake.ensures S ∙ ap (λ (X : Bytes). woken_up t u w (gathered X W N S)) c.put_status.ensures
    ∙ ends_woken B W N S w t c.requires.1 T c.row_at-u.ensures (c.waits.ensures T p q ∙ ap (λ (X : Bytes). waits_in T (W.rows 1) X.status u t) c.put_status.ensures) c.if-waits.true

pub leave-requires : goal.leave-requires
leave-requires c =
    (c.requires.0, ap (holds_in c.args.w) c.put_status.ensures ∙ c.requires.1)

pub returns : goal.returns
returns c =
    let B = bytes_in c.args.bytes.now in
    let W = words_in c.args.words.now in
    let N = numbers_in c.args.numbers.now in
    let w = c.args.w in
    let t = c.args.t in
    let u = c.row_at-u.result in
    λ T S p q.
    c.leave.ensures S ∙ ap (λ (X : Bytes). left_behind t ended w (gathered X W N S)) c.put_status.ensures
    ∙ ends_left B W N S w t c.requires.1 T c.row_at-u.ensures (c.waits.ensures T p q ∙ ap (λ (X : Bytes). waits_in T (W.rows 1) X.status u t) c.put_status.ensures) c.if-waits.false
