-- `stealing::moves::wake` meets its contract.
use mathlib.Core.Path.{refl, ap, ◌∙◌}
use Rattle.schedule.specs.Machine.{held}
use Rattle.run_memory.specs.Blocks.{Bytes, Words, bytes_in, words_in, numbers_in}
use Rattle.run_memory.specs.Places.{statused, holding}
use Rattle.run_memory.specs.Code.Writes.{linked_left, unlinked}
use Rattle.stealing.proofs.Leavings.{gathered_as, wakes_last, wakes_above}
use Rattle.stealing.proofs.moves.wake.Goals as goal

pub returns-then-last : goal.returns-then-last
returns-then-last c =
    let B = bytes_in c.args.bytes.now in
    let W = words_in c.args.words.now in
    let N = numbers_in c.args.numbers.now in
    let w = c.args.w in
    let t = c.args.t in
    let u = c.args.u in
    λ S.
    gathered_as S (c.hold.ensures.bytes_after ∙ ap (λ (X : Bytes). holding w 1 (statused u held X)) c.put_status.ensures)
    (c.replace-then-last.ensures ∙ ap (λ (X : Words). unlinked 4 1 t (linked_left 4 1 u t X)) (c.replace.ensures ∙ ap (λ (X : Words). unlinked 2 0 t (linked_left 2 0 u t X)) c.hold.ensures.words_after)) refl
    (wakes_last B W N S w t c.requires.1 u c.is_bottom-last.ensures c.if-last.true)

pub returns-else-last : goal.returns-else-last
returns-else-last c =
    let B = bytes_in c.args.bytes.now in
    let W = words_in c.args.words.now in
    let N = numbers_in c.args.numbers.now in
    let w = c.args.w in
    let t = c.args.t in
    let u = c.args.u in
    λ S.
    gathered_as S (c.hold.ensures.bytes_after ∙ ap (λ (X : Bytes). holding w 1 (statused u held X)) c.put_status.ensures)
    (c.replace.ensures ∙ ap (λ (X : Words). unlinked 2 0 t (linked_left 2 0 u t X)) c.hold.ensures.words_after) refl
    (wakes_above B W N S w t c.requires.1 u c.is_bottom-last.ensures c.if-last.false)
