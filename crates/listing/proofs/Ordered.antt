-- The texts of the turns of an order, of a listing or of a chart, turn by turn, and what the loop over the order keeps: whoever puts the texts of the rest puts those of the whole.
use Rattle.std.specs.Prelude.{Err, Ok}
use Rattle.schedule.specs.Turn.{taken_turn}
use Prim.Native.Nat.{ℕ, suc, ◌+◌, ◌*◌, ◌≤◌, ◌<◌}
use native.Mathlib.Numerals.{add-one}
use native.Mathlib.Omega.{arith}
use mathlib.Core.Path.{◌≡◌, refl}
use mathlib.Core.List.{List, [], ◌∷◌, ◌++◌}
use mathlib.Core.Bool.{Bool, true, false}
use lib.ListN.{length, get_or, drop, drop_of_length-le}
use lib.Seq.{drop-cons}
use Rattle.table.specs.declared.Refusal.{Refusal}
use Rattle.text.specs.Text.{refused_line}
use Rattle.schedule.specs.declared.Run.{Run}
use Rattle.schedule.specs.declared.Reply.{Reply}
use Rattle.schedule.specs.declared.Turned.{Turned}
use Rattle.schedule.specs.Turn.{root_ended, turned}
use Rattle.schedule.specs.Listing.{line, told_by, last_with, last_of}
use Rattle.lines.specs.Lines.{last_texts, lines_then}
use Rattle.text.specs.Puts.{Puts}
use Rattle.text.proofs.Putting.{puts_within, puts_more}
use Rattle.chart.specs.Chart.{figures, charted}
use Rattle.listing.specs.Sheets.{turns_texts, widest, after_texts, over_texts}

-- ---- the texts

texts_none : (chart : Bool) (r : Run) → turns_texts chart r [] ≡ over_texts chart (last_of r)
unfolding turns_texts lines_then
texts_none true r = refl
texts_none false r = refl

texts_ended : (chart : Bool) (r : Run) (order : List ℕ) → root_ended r ≡ true → turns_texts chart r order ≡ over_texts chart (last_of r)
unfolding turns_texts lines_then
texts_ended true r [] e = refl
texts_ended true r (w ∷ order) e = rw e
texts_ended false r [] e = refl
texts_ended false r (w ∷ order) e = rw e

module _ (r : Run) (w : ℕ) {t : Turned} (going : root_ended r ≡ false) (e : t ≡ turned r w) where
  pub texts_refused : (chart : Bool) (order : List ℕ) {x : Refusal} → t.answer ≡ Err x → turns_texts chart r (w ∷ order) ≡ refused_line x ∷ []
  unfolding turns_texts lines_then last_texts
  texts_refused true order q = rw (going, ← e, q)
  texts_refused false order q = rw (going, ← e, q)

  module _ {x : Reply} {k : ℕ} (q : t.answer ≡ taken_turn x k) where
    -- a chart's line of the record after the turn is refused
    pub texts_many : (order : List ℕ) {z : Refusal} → charted t.run ≡ Err z → turns_texts true r (w ∷ order) ≡ refused_line z ∷ []
    unfolding turns_texts
    texts_many order h = rw (going, ← e, q, h)

    texts_taken : (chart : Bool) (order : List ℕ) → (chart ≡ true → charted t.run ≡ Ok tt)
        → turns_texts chart r (w ∷ order) ≡ after_texts chart (figures t.run) (line t.run.turns w (told_by x t.run) t.run.held) ++ turns_texts chart t.run order
    unfolding turns_texts lines_then
    texts_taken true order h = rw (going, ← e, q, h refl)
    texts_taken false order h = rw (going, ← e, q)

-- ---- their length

no_lines : (chart : Bool) (m : ℕ) → m ≤ widest chart * 0 + m
no_lines true m = omega arith
no_lines false m = omega arith

one_line : (chart : Bool) (i m : ℕ) → widest chart * i + (widest chart + m) ≤ widest chart * (i + 1) + m
one_line true i m = omega arith
one_line false i m = omega arith

last_line : (chart : Bool) (i n : ℕ) → i ≤ n → widest chart * i + 64 ≤ widest chart * (n + 1)
last_line true i n h = omega arith
last_line false i n h = omega arith

-- ---- the loop

-- what is put so far is whole with the rest, and at most one line for each turn
pub record Listed (chart : Bool) (order out₀ : List ℕ) (at₀ : ℕ) (run₀ : Run) (out : List ℕ) (run : Run) (at i : ℕ) : Type 0 where
  pub within : i ≤ length order
  pub long : length out ≡ length out₀
  pub rest : (o : List ℕ) (r m : ℕ) → Puts out at o r (turns_texts chart run (drop i order)) m → Puts out₀ at₀ o r (turns_texts chart run₀ order) (widest chart * i + m)

pub start : (chart : Bool) (order out : List ℕ) (at : ℕ) (run : Run) → Listed chart order out at run out run at 0
start chart order out at run = record { within = omega arith; long = refl; rest = λ o r m p. puts_within (no_lines chart m) p }

module _ {chart : Bool} {order out₀ : List ℕ} {at₀ : ℕ} {run₀ : Run} {out : List ℕ} {run : Run} {at i : ℕ} (v : Listed chart order out₀ at₀ run₀ out run at i) where
  whole : {o : List ℕ} {r : ℕ} {texts : List (List ℕ)} → turns_texts chart run (drop i order) ≡ texts → Puts out at o r texts 64
      → Puts out₀ at₀ o r (turns_texts chart run₀ order) (widest chart * (length order + 1))
  whole {o} {r} e p = puts_within (last_line chart i (length order) v.within) (v.rest o r 64 (rw e p))

  -- the root's end
  pub ended : {o : List ℕ} {r : ℕ} → root_ended run ≡ true → Puts out at o r (over_texts chart (last_with true run.turns run.highest)) 64
      → Puts out₀ at₀ o r (turns_texts chart run₀ order) (widest chart * (length order + 1))
  ended e p = whole (texts_ended chart run (drop i order) e) (rw e p)

  -- the order's end
  pub exhausted : {o : List ℕ} {r : ℕ} → root_ended run ≡ false → length order ≤ i → Puts out at o r (over_texts chart (last_with false run.turns run.highest)) 64
      → Puts out₀ at₀ o r (turns_texts chart run₀ order) (widest chart * (length order + 1))
  exhausted e h p = whole {texts = over_texts chart (last_of run)} (rw (drop_of_length-le order h) (texts_none chart run)) (rw e p)

  module _ (h : i < length order) where
    -- a refusal, of the turn or of the line after it
    pub refused : (x : Refusal) {o : List ℕ} {r : ℕ} → ((rest : List ℕ) → turns_texts chart run (get_or order i 0 ∷ rest) ≡ refused_line x ∷ [])
        → Puts out at o r (refused_line x ∷ []) 64 → Puts out₀ at₀ o r (turns_texts chart run₀ order) (widest chart * (length order + 1))
    refused x q p = whole (rw (drop-cons order i 0 h) (q (drop (suc i) order))) p

    -- a turn
    pub again : {t : Turned} {o : List ℕ} {r : ℕ} {x : Reply} {k : ℕ} → root_ended run ≡ false → t ≡ turned run (get_or order i 0) → t.answer ≡ taken_turn x k
        → (chart ≡ true → charted t.run ≡ Ok tt) → length o ≡ length out
        → Puts out at o r (after_texts chart (figures t.run) (line t.run.turns (get_or order i 0) (told_by x t.run) t.run.held)) (widest chart)
        → Listed chart order out₀ at₀ run₀ o t.run r (i + 1)
    again going e q c l p =
        record {
          within = omega arith;
          long = omega (arith, v.long);
          rest = λ z k m u.
              puts_within (one_line chart i m)
              (v.rest z k (widest chart + m)
              (rw (drop-cons order i 0 h, texts_taken run (get_or order i 0) going e q chart (drop (suc i) order) c) (puts_more p (rw add-one at u))));
        }
