-- `listing::turns::put_end` meets its contract: turns taken and the highest memory are read where they stand.
use mathlib.Core.Path.{◌≡◌, subst}
use Prim.Native.Nat.{ℕ}
use mathlib.Core.List.{List}
use mathlib.Core.Bool.{Bool}
use borrow.Author.Rules.{rules}
use Rattle.schedule.specs.Listing.{Last, last_with}
use Rattle.text.specs.Puts.{Puts}
use Rattle.listing.specs.Sheets.{over_texts}
use Rattle.listing.proofs.turns.put_end.Goals as goal

same_last : (chart : Bool) {x y : Last} {s o : List ℕ} {at r : ℕ} → x ≡ y → Puts s at o r (over_texts chart x) 64 → Puts s at o r (over_texts chart y) 64
same_last chart {s = s} {o} {at} {r} e p = subst (λ (z : Last). Puts s at o r (over_texts chart z) 64) e p

pub returns : goal.returns
returns c =
    let a = c.args in
    same_last a.chart (λ i. last_with a.ended (c.total_at.ensures i) (c.total_at-highest.ensures i)) c.put_over.ensures
