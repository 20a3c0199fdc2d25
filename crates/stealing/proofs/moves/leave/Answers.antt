-- `stealing::moves::leave` meets its contract.
use mathlib.Core.Path.{refl, ap, ◌∙◌}
use Rattle.schedule.specs.Machine.{held}
use Rattle.run_memory.specs.Blocks.{Bytes, Words, bytes_in, words_in, numbers_in}
use mathlib.Core.Bool.{true, false}
use Rattle.array_machine.specs.Counted.{busy_after}
use Rattle.run_memory.specs.Places.{statused, holding, threaded, headed}
use Rattle.run_memory.specs.Code.Writes.{unlinked}
use Rattle.stealing.proofs.Leavings.{gathered_as, leaves_last, leaves_pop}
use Rattle.stealing.proofs.moves.leave.Goals as goal

pub returns-then-last : goal.returns-then-last
returns-then-last c =
    let d = c in
    let B = bytes_in d.args.bytes.now in
    let W = words_in d.args.words.now in
    let N = numbers_in d.args.numbers.now in
    let w = d.args.w in
    let t = d.args.t in
    λ S.
    gathered_as S (c.let_go.ensures.bytes_after ∙ ap (holding w 0) c.put_status.ensures)
    (c.let_go.ensures.words_after ∙ ap (λ (X : Words). threaded w 0 (headed 2 (busy_after X.busy true false w) X)) (c.unlink-then-last.ensures ∙ ap (unlinked 4 1 t) c.unlink.ensures))
    c.let_go.ensures.numbers_after (leaves_last B W N S w t d.requires.1 d.args.status c.row_at-next.ensures c.is_last-last.ensures c.if-last.true)

pub returns : goal.returns
returns c =
    let B = bytes_in c.args.bytes.now in
    let W = words_in c.args.words.now in
    let N = numbers_in c.args.numbers.now in
    let w = c.args.w in
    let t = c.args.t in
    let r = c.row_at-next.result in
    λ S.
    gathered_as S (c.hold.ensures.bytes_after ∙ ap (λ (X : Bytes). holding w 1 (statused r held X)) c.put_status.ensures)
    (c.hold.ensures.words_after ∙ ap (threaded w r) c.unlink.ensures) refl
    (leaves_pop B W N S w t c.requires.1 c.args.status c.row_at-next.ensures c.is_last-last.ensures c.if-last.false)
