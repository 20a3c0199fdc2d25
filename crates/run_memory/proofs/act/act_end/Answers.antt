-- `run_memory::act::act_end` meets its contract: the statuses and the links after each write, one after the other, are those of an end.
use mathlib.Core.Path.{◌≡◌, refl, sym, ap, ◌∙◌}
use Prim.Native.Nat.{ℕ}
use mathlib.Core.Bool.{Bool, true, false}
use lib.ListN.{get_or, set}
use Rattle.table.specs.Sum.{pick}
use Rattle.table.specs.Format.{Table}
use Rattle.schedule.specs.Machine.{ready, ended, nobody}
use Rattle.array_machine.specs.Turn.{waits_in}
use Rattle.std.specs.Prelude.{Some}
use Rattle.schedule.specs.declared.Reply.TheVariants.{Done}
use Rattle.run_memory.specs.Blocks.{bytes_in, words_in, numbers_in, sums_in, Bytes, Words}
use Rattle.run_memory.specs.Places.{statused, holds_in}
use Rattle.run_memory.specs.Code.Writes.{linked_left, unlinked, settled, settled_words}
use Rattle.run_memory.proofs.Acts.{written_as, room_in}
use Rattle.run_memory.proofs.ListActs.{end_done}
use Rattle.run_memory.proofs.act.act_end.Goals.{Joined-waits, then-waits, else-waits}
use Rattle.run_memory.proofs.act.act_end.Goals as goal

-- the one of two that a test chooses
chosen : {A : Type 0} {r : Bool} (x y : A) → r ≡ true → pick r x y ≡ x
chosen x y e = rw e

passed_by : {A : Type 0} {r : Bool} (x y : A) → r ≡ false → pick r x y ≡ y
passed_by x y e = rw e

-- whether the parent waits, from the memory before the thread ended
waits_then : (T : Table) (u t w : ℕ) (W : Words) (B : Bytes) {r : Bool} {X : Bytes} {Y : Words} → r ≡ waits_in T (Y.rows 1) X.status u t → X ≡ settled w nobody (statused t ended B)
    → Y ≡ settled_words w (holds_in w B) nobody W → r ≡ waits_in T (W.rows 1) (set B.status t ended) u t
waits_then T u t w W B e p q = e ∙ (λ i. waits_in T ((q i).rows 1) (p i).status u t)

-- the bytes and the words where the parent may have been woken
bytes_there : (c : Joined-waits) → let B : Bytes = settled c.args.w nobody (statused c.args.t ended (bytes_in c.args.bytes.now)) in
    bytes_in c.if-waits.bytes ≡ pick c.waits.result (statused c.row_at-u.result ready B) B
bytes_there c =
    elim c.if-waits.branch [
      | then-waits z ↦ ap bytes_in z.bytes-is ∙ (z.put_status.ensures ∙ (ap (statused c.row_at-u.result ready) c.put_back.ensures.bytes_after ∙ sym (chosen _ _ z.if-waits.true)))
      | else-waits z ↦ ap bytes_in z.bytes-is ∙ (c.put_back.ensures.bytes_after ∙ sym (passed_by _ _ z.if-waits.false))
    ]

words_there : (c : Joined-waits) → let W : Words = settled_words c.args.w (holds_in c.args.w (bytes_in c.args.bytes.now)) nobody (words_in c.args.words.now) in
    words_in c.if-waits.words ≡ pick c.waits.result (linked_left 4 1 c.row_at-u.result c.args.t W) W
words_there c =
    elim c.if-waits.branch [
      | then-waits z ↦ ap words_in z.words-is ∙ (z.link_left.ensures ∙ (ap (linked_left 4 1 c.row_at-u.result c.args.t) c.put_back.ensures.words_after ∙ sym (chosen _ _ z.if-waits.true)))
      | else-waits z ↦ ap words_in z.words-is ∙ (c.put_back.ensures.words_after ∙ sym (passed_by _ _ z.if-waits.false))
    ]

pub put_back-requires : goal.put_back-requires
put_back-requires c = room_in c.requires refl refl

pub returns : goal.returns
returns c =
    let B = bytes_in c.args.bytes.now in
    let W = words_in c.args.words.now in
    let N = numbers_in c.args.numbers.now in
    let S = sums_in c.args.sums.now in
    let w = c.args.w in
    let t = c.args.t in
    let u = c.row_at-u.result in
    λ T x p q.
    written_as (Some (Done t c.args.a)) S (bytes_there (goal.at.returns c).Joined-waits) (c.unlink-2.ensures ∙ ap (unlinked 4 1 t) (c.unlink.ensures ∙ ap (unlinked 2 0 t) (words_there (goal.at.returns c).Joined-waits))) c.put_back.ensures.numbers_after
    (end_done B W N S T w t c.args.a x u c.waits.result (c.row_at-u.ensures ∙ ap (λ (Y : Words). get_or (Y.rows 0) t 0) c.put_back.ensures.words_after)
    (waits_then T u t w W B (c.waits.ensures T p q) c.put_back.ensures.bytes_after c.put_back.ensures.words_after))
