-- `filling::input::fill_input` meets its contract.
use Rattle.std.specs.Prelude.{Err, Result}
use Rattle.table.specs.declared.Refusal.{Refusal}
use mathlib.Core.Path.{◌≡◌}
use Prim.Native.Nat.{ℕ, ◌-◌, ◌≤◌, ◌<◌}
use mathlib.Core.List.{List}
use lib.ListN.{length, take, drop}
use borrow.Author.Tests.{lt-ltb, le-ltb}
use Rattle.table.specs.Format.{u24_at}
use Rattle.table.specs.Pass.{refusal}
use Rattle.table.proofs.Parts.{rest_part}
use Rattle.filling.specs.Filling.{answer_of, whole_into, answer_to, answered_in}
use Rattle.filling.proofs.input.fill_input.Goals as goal

short : (input out : List ℕ) → length input < 3 → (Err (refusal 33 0) ≡ answer_to input) × (out ≡ answered_in input out)
unfolding answer_to answered_in
short input out h = let z = lt-ltb (length input) 3 h in (rw z, rw z)

long : (input out o : List ℕ) (K : ℕ) (r : Result ℕ Refusal) → 3 ≤ length input → K ≡ u24_at input 0 → r ≡ answer_of (take (length input - 3) (drop 3 input)) K
    → o ≡ whole_into (take (length input - 3) (drop 3 input)) K out → (r ≡ answer_to input) × (o ≡ answered_in input out)
unfolding answer_to answered_in
long input out o K r h e p q =
    let z = le-ltb (length input) 3 h in
    let w : take (length input - 3) (drop 3 input) ≡ drop 3 input = rest_part input 3 in
    (rw (z, ← e) (rw w at p), rw (z, ← e) (rw w at q))

pub returns-then-input-lt3 : goal.returns-then-input-lt3
returns-then-input-lt3 c =
    let both = short c.args.input.now c.args.out.now c.if-input-lt3.true in
    record { value = rw c.new.ensures both.0; out_after = both.1 }

pub returns : goal.returns
returns c = let both = long c.args.input.now c.args.out.now _ _ _ c.if-input-lt3.false c.three_bytes.ensures c.fill_whole.ensures.value c.fill_whole.ensures.out_after in record { value = both.0; out_after = both.1 }
