-- What is foreseen of a turn, as number and row: the preview of the call.
use mathlib.Core.Path.{◌≡◌, refl, sym, ap, ◌∙◌}
use Prim.Native.Nat.{ℕ}
use mathlib.Core.List.{List, [], ◌∷◌, ◌++◌}
use mathlib.Core.Bool.{Bool, true, false}
use borrow.Author.Tests.{eqb-true}
use lib.Dec.{eqb}
use lib.ListN.{get_or}
use Rattle.table.specs.Sum.{pick}
use Rattle.std.specs.Prelude.{Err, Ok, Result}
use Rattle.run_memory.specs.declared.preview.Foreseen.{Foreseen}
use Rattle.run_memory.specs.Memory.{Memory, reply_row, no_row, Told, turn_in, passed_over, lent_turn}
use Rattle.run_memory.specs.Preview.{would, foreseen_in}
use Rattle.wivakkol.specs.Preview.{Preview, preview, amounts_in, no_amounts, lent_preview}

abbrev row_of : Result Foreseen ℕ → Preview
row_of (Ok x) = preview 0 (reply_row x.reply x.passed ++ (x.held ∷ x.highest ∷ x.quota ∷ []))
row_of (Err n) = preview n (no_row ++ no_amounts)

module _ (s : List ℕ) (w : ℕ) (M : Memory) where
  abbrev t : Told
  t = turn_in s w M

  -- a turn's answer, by whether it is refused
  abbrev by_test : Bool → Preview
  by_test b = preview t.number (pick b (reply_row t.reply (passed_over M w)) no_row ++ pick b (amounts_in t.memory w) no_amounts)

  abbrev foreseen_by : Bool → Result Foreseen ℕ
  foreseen_by b = pick b (would t.reply (passed_over M w) (get_or t.memory.totals 0 0) (get_or t.memory.totals 1 0) (get_or t.memory.quotas w 0)) (Err t.number)

  row_foreseen : row_of (foreseen_in s w M) ≡ lent_preview s w M
  unfolding foreseen_in lent_preview lent_turn
  row_foreseen = go (eqb t.number 0) refl
    where
      go : (b : Bool) → eqb t.number 0 ≡ b → row_of (foreseen_by (eqb t.number 0)) ≡ by_test (eqb t.number 0)
      go true d =
          ap (λ (b : Bool). row_of (foreseen_by b)) d
          ∙ ap (λ (n : ℕ). preview n (reply_row t.reply (passed_over M w) ++ amounts_in t.memory w)) (sym (eqb-true t.number 0 d)) ∙ ap by_test (sym d)
      go false d = ap (λ (b : Bool). row_of (foreseen_by b)) d ∙ ap by_test (sym d)

  module _ {f : Result Foreseen ℕ} (e : f ≡ foreseen_in s w M) where
    pub shows : {x : Foreseen} {row : List ℕ} → f ≡ Ok x → row ≡ reply_row x.reply x.passed ++ (x.held ∷ x.highest ∷ x.quota ∷ []) → preview 0 row ≡ lent_preview s w M
    shows d r = ap (preview 0) r ∙ (ap row_of (sym d ∙ e) ∙ row_foreseen)

    pub refuses : {n : ℕ} → f ≡ Err n → preview n (no_row ++ no_amounts) ≡ lent_preview s w M
    refuses d = ap row_of (sym d ∙ e) ∙ row_foreseen
