-- `deque_listing::deque_listing` meets its contract: the text of 2,050 lines at most fits the buffer.
use Prim.Native.Nat.{ℕ}
use mathlib.Core.Path.{◌≡◌}
use mathlib.Core.List.{List}
use native.Mathlib.Omega.{arith}
use borrow.Author.Rules.{rules}
use lib.ListN.{length}
use Rattle.text.specs.Puts.{Puts}
use Rattle.listing.proofs.Written.{Written, written}
use Rattle.deque_listing.specs.DequeListing.{deque_listing_by, deque_listing_of, input_texts}
use Rattle.deque_listing.proofs.deque_listing.Goals as goal

printed : (s : List ℕ) {out o : List ℕ} {r : ℕ} → length out ≡ 131200 → Puts out 0 o r (input_texts s) 131200 → Written out o r (deque_listing_of s)
unfolding input_texts deque_listing_by
printed s l p = written (omega arith) p

pub returns : goal.returns
returns c = let both = printed c.args.input.now (omega (arith, c.put_text-arg-1.given)) c.put_text.ensures in record { value = both.0; out_after = both.1.0; prefix_len = both.1.1 }
