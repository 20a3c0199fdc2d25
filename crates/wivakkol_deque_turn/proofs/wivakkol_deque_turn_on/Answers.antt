-- `wivakkol_deque_turn::wivakkol_deque_turn_on` meets its contract: what the turn says is put into the row.
use mathlib.Core.Path.{◌≡◌, refl, ap, ◌∙◌}
use Prim.Native.Nat.{ℕ}
use mathlib.Core.List.{List}
use borrow.Author.Rules.{rules}
use borrow.Author.Tests.{ne_eqb}
use Rattle.run_memory.specs.Memory.{Memory, no_row, reply_row, answer, Told}
use Rattle.run_memory.specs.Blocks.{memory_of}
use Rattle.stealing.specs.StealingMemory.{deque_turn_in}
use Rattle.wivakkol_deques.specs.DequeLent.{lent_deque_turn}
use Rattle.wivakkol_deque_turn.proofs.wivakkol_deque_turn_on.Goals as goal

module _ (s : List ℕ) (w c : ℕ) (M : Memory) {y : Told} (e : y ≡ deque_turn_in s w c M) where
  refuses : (y.number ≡ 0 → ⊥) → answer y.number no_row y.memory ≡ lent_deque_turn s w c M
  unfolding lent_deque_turn
  refuses d = rw (← e, ne_eqb y.number 0 d)

  tells : {row : List ℕ} → y.number ≡ 0 → row ≡ reply_row y.reply 0 → answer 0 row y.memory ≡ lent_deque_turn s w c M
  unfolding lent_deque_turn
  tells {row} d r = ap (λ (x : List ℕ). answer 0 x y.memory) r ∙ rw (← e, d)

pub returns-in-Ok : goal.returns-in-Ok
returns-in-Ok c =
    let a = c.args in
    tells a.table.now a.w a.c (memory_of a.bytes.now a.words.now a.numbers.now a.sums.now) c.in-Ok.ensures.turn_value refl c.tell.ensures

pub returns-in-Err : goal.returns-in-Err
returns-in-Err c =
    let a = c.args in
    refuses a.table.now a.w a.c (memory_of a.bytes.now a.words.now a.numbers.now a.sums.now) c.in-Err.ensures.turn_value (c.in-Err.ensures.nonzero _ refl)
