-- `run_memory::act::act_work` meets its contract: the thread stands at the action after it, if that has a number.
use mathlib.Core.Path.{refl, ap}
use Rattle.array_machine.proofs.Leaves.{fits16, fits_next}
use Rattle.std.specs.Prelude.{Some}
use Rattle.schedule.specs.declared.Reply.TheVariants.{Done}
use Rattle.run_memory.specs.Code.Writes.{having}
use Rattle.run_memory.specs.Blocks.{Words, bytes_in, words_in, numbers_in, sums_in}
use Rattle.run_memory.proofs.Acts.{gone_as, kept_words_as, room_in, work_unfit, work_done}
use Rattle.run_memory.proofs.act.act_work.Goals as goal

pub returns-then-not-next_fits : goal.returns-then-not-next_fits
returns-then-not-next_fits c =
    let B = bytes_in c.args.bytes.now in
    let W = words_in c.args.words.now in
    let N = numbers_in c.args.numbers.now in
    let S = sums_in c.args.sums.now in
    let w = c.args.w in
    let t = c.args.t in
    let a = c.args.a in
    λ T x.
    (work_unfit B W N S T w t a x c.if-not-next_fits.true c.next_fits.ensures)

pub overflow_add-a : goal.overflow_add-a
overflow_add-a c = fits16 (fits_next _ c.if-not-next_fits.false c.next_fits.ensures)

pub keep-requires : goal.keep-requires
keep-requires c =
    room_in c.requires refl (ap (λ (W : Words). W.busy) c.put_row.ensures)

pub returns : goal.returns
returns c =
    let B = bytes_in c.args.bytes.now in
    let W = words_in c.args.words.now in
    let N = numbers_in c.args.numbers.now in
    let S = sums_in c.args.sums.now in
    let w = c.args.w in
    let t = c.args.t in
    let a = c.args.a in
    λ T x.
    gone_as (Some (Done t a)) c.keep.new.bytes c.keep.new.words c.keep.new.numbers c.args.sums.now c.keep.ensures.bytes_after
    (kept_words_as B w (having t c.quota_left-quota.result) c.put_row.ensures c.keep.ensures.words_after) c.keep.ensures.numbers_after refl
    (work_done B W N S T w t a x c.quota_left-quota.ensures c.if-not-next_fits.false c.next_fits.ensures c.requires)
