-- `wivakkol_turn::wivakkol_turn_on` meets its contract: what the turn says is put into the row.
use mathlib.Core.Path.{◌≡◌, refl, ap, ◌∙◌}
use Prim.Native.Nat.{ℕ}
use mathlib.Core.List.{List}
use borrow.Author.Tests.{ne_eqb}
use lib.Dec.{eqb}
use Rattle.table.specs.Sum.{pick}
use Rattle.run_memory.specs.Memory.{Memory, no_row, reply_row, answer, Told, turn_in, passed_over, lent_turn}
use Rattle.run_memory.specs.Blocks.{memory_of}
use Rattle.wivakkol_turn.proofs.wivakkol_turn_on.Goals as goal

module _ (s : List ℕ) (w : ℕ) (M : Memory) {y : Told} (e : y ≡ turn_in s w M) where
  refuses : (y.number ≡ 0 → ⊥) → answer y.number no_row y.memory ≡ lent_turn s w M
  unfolding lent_turn
  refuses d = rw (← e, ne_eqb y.number 0 d)

  tells : {p : ℕ} {row : List ℕ} → y.number ≡ 0 → p ≡ pick (eqb y.number 0) (passed_over M w) 0 → row ≡ reply_row y.reply p → answer 0 row y.memory ≡ lent_turn s w M
  unfolding lent_turn
  tells {p} {row} d q r =
      let here : p ≡ passed_over M w = rw d at q in
      ap (λ (x : List ℕ). answer 0 x y.memory) (r ∙ ap (reply_row y.reply) here) ∙ rw (← e, d)

pub returns-in-Ok : goal.returns-in-Ok
returns-in-Ok c =
    let a = c.args in
    tells a.table.now a.w (memory_of a.bytes.now a.words.now a.numbers.now a.sums.now) c.in-Ok.ensures.sums_after refl c.in-Ok.ensures.passed_value c.put_reply.ensures

pub returns-in-Err : goal.returns-in-Err
returns-in-Err c =
    let a = c.args in
    refuses a.table.now a.w (memory_of a.bytes.now a.words.now a.numbers.now a.sums.now) c.in-Err.ensures.sums_after (c.in-Err.ensures.nonzero _ refl)
