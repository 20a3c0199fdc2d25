-- `run_memory::act::act_alloc` meets its contract: beyond the quota, where a number does not fit, and within both.
use mathlib.Core.Path.{refl, ap, ◌∙◌}
use Prim.Native.Nat.{◌+◌, ◌-◌, ◌^◌, ◌<◌}
use Rattle.array_machine.proofs.Leaves.{fits16, fits64}
use Rattle.std.specs.Prelude.{Some}
use Rattle.schedule.specs.declared.Reply.TheVariants.{Done, Quota}
use Rattle.run_memory.specs.Blocks.{Words, Sums, bytes_in, words_in, numbers_in, sums_in}
use Rattle.run_memory.specs.Code.Writes.{held_sums, having}
use Rattle.run_memory.proofs.Acts.{gone_as, written_as, kept_words_as, room_in, share, alloc_room, alloc_beyond, alloc_unfit, alloc_done}
use Rattle.run_memory.proofs.act.act_alloc.Goals.{Else-not-alloc_fits}
use Rattle.run_memory.proofs.act.act_alloc.Goals as goal

-- the test passed
passed : (c : Else-not-alloc_fits) → (c.args.a + 1 < 65536) × ((c.total_at-all.result + c.args.x < 2 ^ 64) × (c.amount_at-own.result + c.args.x < 2 ^ 64))
passed c =
    alloc_room c.args.a c.total_at-all.result c.amount_at-own.result c.args.x c.if-not-alloc_fits.false c.alloc_fits.ensures

pub put_back-requires : goal.put_back-requires
put_back-requires c = room_in c.requires refl refl

pub returns-then-quota-share : goal.returns-then-quota-share
returns-then-quota-share c =
    let B = bytes_in c.args.bytes.now in
    let W = words_in c.args.words.now in
    let N = numbers_in c.args.numbers.now in
    let S = sums_in c.args.sums.now in
    let w = c.args.w in
    let t = c.args.t in
    let a = c.args.a in
    λ T.
    written_as (Some (Quota t c.args.x)) S c.put_back.ensures.bytes_after c.put_back.ensures.words_after c.put_back.ensures.numbers_after
    (alloc_beyond B W N S T w t a c.args.x c.quota_left-quota.ensures (share c.args.x c.setting_at.ensures c.drawn-share.ensures) c.if-quota-share.true)

pub returns-then-not-alloc_fits : goal.returns-then-not-alloc_fits
returns-then-not-alloc_fits c =
    let B = bytes_in c.args.bytes.now in
    let W = words_in c.args.words.now in
    let N = numbers_in c.args.numbers.now in
    let S = sums_in c.args.sums.now in
    let w = c.args.w in
    let t = c.args.t in
    let a = c.args.a in
    λ T.
    (alloc_unfit B W N S T w t a c.args.x c.amount_at-own.ensures c.total_at-all.ensures c.quota_left-quota.ensures (share c.args.x c.setting_at.ensures c.drawn-share.ensures) c.if-quota-share.false c.alloc_fits.ensures c.if-not-alloc_fits.true)

pub overflow_add-a : goal.overflow_add-a
overflow_add-a c = fits16 (passed (goal.at.overflow_add-a c).Else-not-alloc_fits).0

pub overflow_add-own : goal.overflow_add-own
overflow_add-own c = fits64 (passed (goal.at.overflow_add-own c).Else-not-alloc_fits).1.1

pub overflow_add-all : goal.overflow_add-all
overflow_add-all c = fits64 (passed (goal.at.overflow_add-all c).Else-not-alloc_fits).1.0

pub keep-requires : goal.keep-requires
keep-requires c =
    room_in c.requires refl (ap (λ (W : Words). W.busy) c.put_row.ensures)

pub returns : goal.returns
returns c =
    let B = bytes_in c.args.bytes.now in
    let W = words_in c.args.words.now in
    let N = numbers_in c.args.numbers.now in
    let S = sums_in c.args.sums.now in
    let w = c.args.w in
    let t = c.args.t in
    let a = c.args.a in
    let x = c.args.x in
    λ T.
    gone_as (Some (Done t a)) c.keep.new.bytes c.keep.new.words c.keep.new.numbers c.hold.new.sums c.keep.ensures.bytes_after
    (kept_words_as B w (having t (c.quota_left-quota.result - c.drawn-share.result)) c.put_row.ensures c.keep.ensures.words_after) c.keep.ensures.numbers_after
    (c.hold.ensures ∙ ap (λ (Y : Sums). held_sums (c.total_at-all.result + x) Y) c.put_amount.ensures)
    (alloc_done B W N S T w t a x c.amount_at-own.ensures c.total_at-all.ensures c.quota_left-quota.ensures (share c.args.x c.setting_at.ensures c.drawn-share.ensures) c.if-quota-share.false c.alloc_fits.ensures c.if-not-alloc_fits.false c.requires)
