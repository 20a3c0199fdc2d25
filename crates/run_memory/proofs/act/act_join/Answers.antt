-- `run_memory::act::act_join` meets its contract: a child that is none of the arrays', one that has ended, and one that has not.
use mathlib.Core.Path.{◌≡◌, refl, ap, ◌∙◌}
use Prim.Native.Nat.{ℕ}
use Rattle.schedule.specs.Machine.{ended}
use Rattle.std.specs.Prelude.{Some}
use Rattle.schedule.specs.declared.Reply.TheVariants.{Wait}
use Rattle.run_memory.specs.Blocks.{bytes_in, words_in, numbers_in, sums_in}
use Rattle.run_memory.specs.Code.Writes.{unlinked}
use Rattle.run_memory.proofs.Acts.{written_as, room_in}
use Rattle.run_memory.proofs.ListActs.{join_outside, join_waits}
use Rattle.run_memory.proofs.act.act_join.Goals as goal

-- the status read is no end
not_ended : {s r : ℕ} → r ≡ s → (r ≡ ended → ⊥) → s ≡ ended → ⊥
not_ended e f g = f (e ∙ g)

pub returns-then-x-ge1024 : goal.returns-then-x-ge1024
returns-then-x-ge1024 c =
    let B = bytes_in c.args.bytes.now in
    let W = words_in c.args.words.now in
    let N = numbers_in c.args.numbers.now in
    let S = sums_in c.args.sums.now in
    λ T. (join_outside B W N S T c.args.w c.args.t c.args.a c.args.x c.if-x-ge1024.true)

pub put_back-requires : goal.put_back-requires
put_back-requires c = room_in c.requires refl refl

pub returns : goal.returns
returns c =
    let B = bytes_in c.args.bytes.now in
    let W = words_in c.args.words.now in
    let N = numbers_in c.args.numbers.now in
    let S = sums_in c.args.sums.now in
    let w = c.args.w in
    let t = c.args.t in
    λ T.
    written_as (Some (Wait t c.args.x)) S c.put_back.ensures.bytes_after (c.unlink.ensures ∙ ap (unlinked 4 1 t) c.put_back.ensures.words_after) c.put_back.ensures.numbers_after
    (join_waits B W N S T w t c.args.a c.args.x c.requires c.if-x-ge1024.false (not_ended c.status_at.ensures c.if-status_at-eq-ENDED.false))
