-- `run_memory::act::act_free` meets its contract: no more than is held, with numbers that fit.
use mathlib.Core.Path.{refl, ap, ◌∙◌}
use Prim.Native.Nat.{◌+◌, ◌-◌, ◌≤◌, ◌<◌}
use Rattle.array_machine.proofs.Leaves.{fits16}
use Rattle.std.specs.Prelude.{Some}
use Rattle.schedule.specs.declared.Reply.TheVariants.{Done}
use Rattle.run_memory.specs.Blocks.{Words, Sums, bytes_in, words_in, numbers_in, sums_in}
use Rattle.run_memory.specs.Code.Writes.{held_sums, having}
use Rattle.run_memory.proofs.Acts.{gone_as, kept_words_as, room_in, free_room, free_unfit, free_done}
use Rattle.run_memory.proofs.act.act_free.Goals.{Else-not-free_fits}
use Rattle.run_memory.proofs.act.act_free.Goals as goal

-- the test passed
passed : (c : Else-not-free_fits) → (c.args.a + 1 < 65536) × ((c.args.x ≤ c.total_at-all.result) × (c.args.x ≤ c.amount_at-own.result))
passed c =
    free_room c.args.a c.total_at-all.result c.amount_at-own.result c.args.x c.if-not-free_fits.false c.free_fits.ensures

pub returns-then-not-free_fits : goal.returns-then-not-free_fits
returns-then-not-free_fits c =
    let B = bytes_in c.args.bytes.now in
    let W = words_in c.args.words.now in
    let N = numbers_in c.args.numbers.now in
    let S = sums_in c.args.sums.now in
    let w = c.args.w in
    let t = c.args.t in
    let a = c.args.a in
    λ T.
    (free_unfit B W N S T w t a c.args.x c.amount_at-own.ensures c.total_at-all.ensures c.free_fits.ensures c.if-not-free_fits.true)

pub overflow_add-a : goal.overflow_add-a
overflow_add-a c = fits16 (passed (goal.at.overflow_add-a c).Else-not-free_fits).0

pub overflow_sub-own : goal.overflow_sub-own
overflow_sub-own c = (passed (goal.at.overflow_sub-own c).Else-not-free_fits).1.1

pub overflow_sub-all : goal.overflow_sub-all
overflow_sub-all c = (passed (goal.at.overflow_sub-all c).Else-not-free_fits).1.0

pub keep-requires : goal.keep-requires
keep-requires c =
    room_in c.requires refl (ap (λ (W : Words). W.busy) c.put_row.ensures)

pub returns : goal.returns
returns c =
    let B = bytes_in c.args.bytes.now in
    let W = words_in c.args.words.now in
    let N = numbers_in c.args.numbers.now in
    let S = sums_in c.args.sums.now in
    let w = c.args.w in
    let t = c.args.t in
    let a = c.args.a in
    let x = c.args.x in
    λ T.
    gone_as (Some (Done t a)) c.keep.new.bytes c.keep.new.words c.keep.new.numbers c.hold.new.sums c.keep.ensures.bytes_after
    (kept_words_as B w (having t c.quota_left-left.result) c.put_row.ensures c.keep.ensures.words_after) c.keep.ensures.numbers_after
    (c.hold.ensures ∙ ap (λ (Y : Sums). held_sums (c.total_at-all.result - x) Y) c.put_amount.ensures)
    (free_done B W N S T w t a x c.amount_at-own.ensures c.total_at-all.ensures c.free_fits.ensures c.quota_left-left.ensures c.if-not-free_fits.false c.requires)
