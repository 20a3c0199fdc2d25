-- `run_memory::act::act_joined` meets its contract: where the sum does not fit, and otherwise.
use mathlib.Core.Path.{◌≡◌, refl, ap, ◌∙◌}
use Prim.Native.Nat.{ℕ, ◌+◌, ◌^◌, ◌<◌}
use mathlib.Core.Bool.{Bool, true, ◌&&◌}
use borrow.Author.Tests.{ltb-true}
use Rattle.array_machine.specs.Turn.{next_fits, amount_fits}
use Rattle.array_machine.proofs.Leaves.{fits16, fits64, fits_and}
use Rattle.std.specs.Prelude.{Some}
use Rattle.schedule.specs.declared.Reply.TheVariants.{Done}
use Rattle.run_memory.specs.Blocks.{Words, bytes_in, words_in, numbers_in, sums_in}
use Rattle.run_memory.specs.Places.{amounted}
use Rattle.run_memory.specs.Code.Writes.{having}
use Rattle.run_memory.proofs.Acts.{gone_as, kept_words_as, room_in}
use Rattle.run_memory.proofs.ListActs.{join_unfit, join_done_lem}
use Rattle.run_memory.proofs.act.act_joined.Goals.{Else-not-join_fits}
use Rattle.run_memory.proofs.act.act_joined.Goals as goal

-- what the test says
room : {f : Bool} (a s : ℕ) → f ≡ true → f ≡ (next_fits a && amount_fits s) → (a + 1 < 65536) × (s < 2 ^ 64)
room a s e d =
    let p : (a + 1 < 65536) × (amount_fits s ≡ true) = fits_and a (amount_fits s) e d in
    (p.0, ltb-true s (2 ^ 64) p.1)

-- the test passed
passed : (c : Else-not-join_fits) → (c.args.a + 1 < 65536) × (c.amount_at-own.result + c.amount_at-child.result < 2 ^ 64)
passed c =
    room c.args.a (c.amount_at-own.result + c.amount_at-child.result) c.if-not-join_fits.false c.join_fits.ensures

pub returns-then-not-join_fits : goal.returns-then-not-join_fits
returns-then-not-join_fits c =
    let B = bytes_in c.args.bytes.now in
    let W = words_in c.args.words.now in
    let N = numbers_in c.args.numbers.now in
    let S = sums_in c.args.sums.now in
    λ T.
    (join_unfit B W N S T c.args.w c.args.t c.args.a c.args.c c.requires.seated c.requires.c_bound.0 c.requires.c_bound.1 c.amount_at-own.ensures c.amount_at-child.ensures
    c.join_fits.ensures c.if-not-join_fits.true)

pub overflow_add-a : goal.overflow_add-a
overflow_add-a c = fits16 (passed (goal.at.overflow_add-a c).Else-not-join_fits).0

pub overflow_add-own : goal.overflow_add-own
overflow_add-own c = fits64 (passed (goal.at.overflow_add-own c).Else-not-join_fits).1

pub keep-requires : goal.keep-requires
keep-requires c =
    room_in c.requires.seated refl (ap (λ (W : Words). W.busy) c.put_row.ensures)

pub returns : goal.returns
returns c =
    let B = bytes_in c.args.bytes.now in
    let W = words_in c.args.words.now in
    let N = numbers_in c.args.numbers.now in
    let S = sums_in c.args.sums.now in
    let w = c.args.w in
    let t = c.args.t in
    λ T.
    gone_as (Some (Done t c.args.a)) c.keep.new.bytes c.keep.new.words c.keep.new.numbers c.put_amount-2.new.sums c.keep.ensures.bytes_after
    (kept_words_as B w (having t c.quota_left-quota.result) c.put_row.ensures c.keep.ensures.words_after) c.keep.ensures.numbers_after
    (c.put_amount-2.ensures ∙ ap (amounted c.args.c 0) c.put_amount.ensures)
    (join_done_lem B W N S T w t c.args.a c.args.c c.requires.seated c.requires.c_bound.0 c.requires.c_bound.1 c.amount_at-own.ensures c.amount_at-child.ensures c.join_fits.ensures
    c.quota_left-quota.ensures c.if-not-join_fits.false)
