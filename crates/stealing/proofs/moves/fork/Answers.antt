-- `stealing::moves::fork` meets its contract.
use mathlib.Core.Path.{refl, ap, ◌∙◌}
use Rattle.schedule.specs.Machine.{held}
use Rattle.run_memory.specs.Blocks.{Bytes, bytes_in, words_in, numbers_in}
use Rattle.run_memory.specs.Places.{statused, holding, threaded}
use Rattle.run_memory.specs.Code.Writes.{linked_left}
use Rattle.stealing.proofs.Leavings.{gathered_as, forks}
use Rattle.stealing.proofs.moves.fork.Goals as goal

pub returns : goal.returns
returns c =
    let B = bytes_in c.args.bytes.now in
    let W = words_in c.args.words.now in
    let N = numbers_in c.args.numbers.now in
    let w = c.args.w in
    let t = c.args.t in
    let x = c.args.c in
    λ S.
    gathered_as S (c.hold.ensures.bytes_after ∙ ap (λ (X : Bytes). holding w 1 (statused x held X)) c.put_status.ensures)
    (c.hold.ensures.words_after ∙ ap (threaded w x) (c.link_left.ensures ∙ ap (linked_left 2 0 x t) c.put_row.ensures)) refl
    (forks B W N S w t c.requires.holder.1 c.args.a x c.requires.a_bound.0 c.requires.a_bound.1.0 c.requires.a_bound.1.1)
