-- `listing::rounds_line` meets its contract: the line fits the buffer, so that its texts stand at the buffer's start.
use mathlib.Core.Path.{◌≡◌}
use Prim.Native.Nat.{ℕ, ◌-◌}
use mathlib.Core.List.{List}
use mathlib.Core.Bool.{true, false}
use native.Mathlib.Omega.{arith}
use borrow.Author.Tests.{lt-ltb, le-ltb}
use borrow.Author.Rules.{rules}
use lib.ListN.{length, take, drop}
use lib.Dec.{ltb}
use Rattle.table.specs.Format.{u32_at}
use Rattle.table.proofs.Parts.{rest_part}
use Rattle.listing.specs.Listing.{workers_in, quota_in, limit_in, wrong_input, rounded_texts, rounds_of}
use Rattle.text.specs.Puts.{Puts}
use Rattle.listing.proofs.Written.{Written, written}
use Rattle.listing.proofs.rounds_line.Goals as goal

-- L, as two numbers of 16 bits
limit_is : (s : List ℕ) {L : ℕ} → L ≡ u32_at s 4 → L ≡ limit_in s
limit_is s e = omega (arith, e)

module _ (s : List ℕ) {out o : List ℕ} {r : ℕ} where
  wrong : ltb (length s) 8 ≡ true → length out ≡ 96 → Puts out 0 o r wrong_input 64 → Written out o r (rounds_of s)
  unfolding rounds_of
  wrong h l p = rw h (written (omega arith) p)

  rounded : {p K L : ℕ} → ltb (length s) 8 ≡ false → length out ≡ 96 → p ≡ workers_in s → K ≡ quota_in s → L ≡ limit_in s
      → Puts out 0 o r (rounded_texts (take (length s - 8) (drop 8 s)) p K L) 96 → Written out o r (rounds_of s)
  unfolding rounds_of
  rounded h l ep eK eL u = rw h (written (omega arith) (rw (rest_part s 8) at (rw (ep, eK, eL) at u)))

pub returns-then-input-lt8 : goal.returns-then-input-lt8
returns-then-input-lt8 c = let both = wrong c.args.input.now (lt-ltb _ _ c.if-input-lt8.true) (omega (arith, c.put_wrong-arg-1.given)) c.put_wrong.ensures in record { value = both.0; out_after = both.1.0; prefix_len = both.1.1 }

pub returns : goal.returns
returns c = let both = rounded c.args.input.now (le-ltb _ _ c.if-input-lt8.false) (omega (arith, c.put_rounds-arg-2-1.given)) c.byte.ensures c.three_bytes.ensures
    (limit_is c.args.input.now c.four_bytes.ensures) c.put_rounds.ensures in record { value = both.0; out_after = both.1.0; prefix_len = both.1.1 }
