-- `run_memory::act::act_fork` meets its contract: the records after each write, one after the other, are those of a fork.
use mathlib.Core.Path.{◌≡◌, refl, ap, ◌∙◌}
use Prim.Native.Nat.{ℕ, ◌+◌, ◌<◌}
use mathlib.Core.Bool.{Bool, true, ◌&&◌}
use native.Mathlib.Omega.{arith}
use borrow.Author.Tests.{ltb-true}
use lib.Dec.{ltb}
use Rattle.schedule.specs.Machine.{ready, nobody}
use Rattle.array_machine.specs.Turn.{next_fits}
use Rattle.array_machine.proofs.Leaves.{fits16, fits_and}
use Rattle.std.specs.Prelude.{Some}
use Rattle.schedule.specs.declared.Reply.TheVariants.{Done}
use Rattle.run_memory.specs.Blocks.{Words, bytes_in, words_in, numbers_in, sums_in}
use Rattle.run_memory.specs.Places.{statused}
use Rattle.run_memory.specs.Code.Writes.{linked_left}
use Rattle.run_memory.proofs.Acts.{written_as, kept_words_as, room_in}
use Rattle.run_memory.proofs.ListActs.{fork_unfit, fork_done}
use Rattle.run_memory.proofs.act.act_fork.Goals.{Else-not-fork_fits}
use Rattle.run_memory.proofs.act.act_fork.Goals as goal

small : {x : ℕ} → x < 1024 → x < 65536
small h = omega (arith, h)

-- what the test says
inside : {f : Bool} (a x : ℕ) → f ≡ true → f ≡ (next_fits a && ltb x 1024) → (a + 1 < 65536) × (x < 1024)
inside a x e d =
    let p : (a + 1 < 65536) × (ltb x 1024 ≡ true) = fits_and a (ltb x 1024) e d in
    (p.0, ltb-true x 1024 p.1)

-- the test passed
passed : (c : Else-not-fork_fits) → (c.args.a + 1 < 65536) × (c.args.x < 1024)
passed c =
    inside c.args.a c.args.x c.if-not-fork_fits.false c.fork_fits.ensures

pub returns-then-not-fork_fits : goal.returns-then-not-fork_fits
returns-then-not-fork_fits c =
    let B = bytes_in c.args.bytes.now in
    let W = words_in c.args.words.now in
    let N = numbers_in c.args.numbers.now in
    let S = sums_in c.args.sums.now in
    λ T. (fork_unfit B W N S T c.args.w c.args.t c.args.a c.args.x c.if-not-fork_fits.true c.fork_fits.ensures)

pub overflow_cast-c : goal.overflow_cast-c
overflow_cast-c c = fits16 (small (passed (goal.at.overflow_cast-c c).Else-not-fork_fits).1)

pub overflow_add-a : goal.overflow_add-a
overflow_add-a c = fits16 (passed (goal.at.overflow_add-a c).Else-not-fork_fits).0

pub put_back-requires : goal.put_back-requires
put_back-requires c =
    room_in c.requires refl (ap (λ (W : Words). W.busy) c.put_row.ensures)

pub returns : goal.returns
returns c =
    let B = bytes_in c.args.bytes.now in
    let W = words_in c.args.words.now in
    let N = numbers_in c.args.numbers.now in
    let S = sums_in c.args.sums.now in
    let w = c.args.w in
    let t = c.args.t in
    let x = c.args.x in
    let q = kept_words_as B w nobody c.put_row.ensures c.put_back.ensures.words_after in
    λ T.
    written_as (Some (Done t c.args.a)) S (c.put_status.ensures ∙ ap (statused x ready) c.put_back.ensures.bytes_after)
    (c.link_left-2.ensures ∙ ap (linked_left 4 1 x t) (c.link_left.ensures ∙ ap (linked_left 2 0 x t) q)) c.put_back.ensures.numbers_after
    (fork_done B W N S T w t c.args.a x c.requires c.if-not-fork_fits.false c.fork_fits.ensures)
