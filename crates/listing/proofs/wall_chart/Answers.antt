-- `listing::wall_chart` meets its contract: the text of 4,098 lines at most fits the buffer.
use Prim.Native.Nat.{ℕ, ◌*◌}
use mathlib.Core.Path.{◌≡◌}
use mathlib.Core.List.{List}
use mathlib.Core.Bool.{true}
use native.Mathlib.Omega.{arith}
use borrow.Author.Rules.{rules}
use lib.ListN.{length}
use Rattle.text.specs.Puts.{Puts}
use Rattle.listing.specs.Listing.{printed_texts, wall_by, wall_of}
use Rattle.listing.proofs.Written.{Written, written}
use Rattle.listing.proofs.wall_chart.Goals as goal

printed : (s : List ℕ) {out o : List ℕ} {r : ℕ} → length out ≡ 348330 → Puts out 0 o r (printed_texts true s) (85 * 4098) → Written out o r (wall_of s)
unfolding printed_texts wall_by
printed s l p = written (omega arith) p

pub returns : goal.returns
returns c = let both = printed c.args.input.now (omega (arith, c.put_text-arg-1.given)) c.put_text.ensures in record { value = both.0; out_after = both.1.0; prefix_len = both.1.1 }
