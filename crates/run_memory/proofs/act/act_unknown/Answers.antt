-- `run_memory::act::act_unknown` meets its contract: an idle turn, with which the worker keeps its thread.
use mathlib.Core.Path.{refl}
use Rattle.std.specs.Prelude.{Some}
use Rattle.schedule.specs.declared.Reply.TheVariants.{Idle}
use Rattle.run_memory.specs.Blocks.{bytes_in, words_in, numbers_in, sums_in}
use Rattle.run_memory.proofs.Acts.{gone_as, room_in, unknown_kept}
use Rattle.run_memory.proofs.act.act_unknown.Goals as goal

pub keep-requires : goal.keep-requires
keep-requires c = room_in c.requires refl refl

pub returns : goal.returns
returns c =
    let B = bytes_in c.args.bytes.now in
    let W = words_in c.args.words.now in
    let N = numbers_in c.args.numbers.now in
    let S = sums_in c.args.sums.now in
    let w = c.args.w in
    let t = c.args.t in
    let a = c.args.a in
    λ T x.
    gone_as (Some Idle) c.keep.new.bytes c.keep.new.words c.keep.new.numbers c.args.sums.now c.keep.ensures.bytes_after c.keep.ensures.words_after c.keep.ensures.numbers_after refl
    (unknown_kept B W N S T w t a x c.quota_left-quota.ensures)
