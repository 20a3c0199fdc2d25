use Prim.Native.Nat.{ℕ, suc, ◌+◌, ◌≤◌, ◌<◌}
use native.Mathlib.Numerals.{add-one}
use native.Mathlib.Omega.{arith}
use mathlib.Core.Path.{◌≡◌, refl, sym, ap, ◌∙◌}
use mathlib.Core.List.{List, ◌∷◌, foldl-append}
use borrow.Author.Rules.{rules}
use lib.ListN.{length, get_or, drop, drop_of_length-le}
use lib.Seq.{drop-cons}
use Rattle.text.specs.Text.{Buffer, buffer_at, placed_next}
use Rattle.text.specs.Puts.{put_all}
use Rattle.schedule.specs.declared.Worker.{Worker}
use Rattle.schedule.specs.Machine.{nobody}
use Rattle.chart.specs.Chart.{cell_of, cells_from, cell_texts, cells_texts}
use Rattle.chart.proofs.line.put_cells.Invariants.{Inv, cells_after}
use Rattle.chart.proofs.line.put_cells.Goals as goal

module _ {p : ℕ} {workers : List Worker} {out₀ : List ℕ} {at₀ : ℕ} {out : List ℕ} {at w : ℕ} (sixteen : length workers ≡ 16) (v : Inv p workers out₀ at₀ out at w) where
  all : 16 ≤ w → buffer_at out at ≡ put_all (buffer_at out₀ at₀) (cells_texts (cells_from p 0 workers))
  unfolding cells_from cells_texts
  all h = rw (drop_of_length-le workers {i = w} (omega (arith, sixteen, h))) at v.rest

  again : {o : List ℕ} {k : ℕ} → w < 16 → length o ≡ length out → buffer_at o k ≡ put_all (buffer_at out at) (cell_texts (cell_of p w (get_or workers w nobody))) → Inv p workers out₀ at₀ o k (w + 1)
  unfolding cells_from cells_texts
  again {o} {k} h l e =
      let c : List (List ℕ) = cell_texts (cell_of p w (get_or workers w nobody)) in
      let d : drop w workers ≡ get_or workers w nobody ∷ drop (suc w) workers = drop-cons workers w nobody (omega (arith, sixteen, h)) in
      record {
        within = omega arith;
        long = l ∙ v.long;
        rest =
            rw add-one
            (ap (λ (b : Buffer). put_all b (cells_after p workers (suc w))) e
            ∙ sym (foldl-append placed_next (buffer_at out at) c (cells_after p workers (suc w)))
            ∙ ap (λ (x : List Worker). put_all (buffer_at out at) (cells_texts (cells_from p w x))) (sym d)
            ∙ v.rest);
      }

pub loop-w-init : goal.loop-w-init
loop-w-init c = record { within = omega arith; long = refl; rest = refl }

pub loop-w-preserved : goal.loop-w-preserved
loop-w-preserved c =
    again (search rules) c.loop-w.invariant (omega arith) (omega arith) c.put_cell-at.ensures

pub shape_of-out : goal.shape_of-out
shape_of-out c = omega arith

pub returns : goal.returns
returns c = all (search rules) c.loop-w.invariant (omega arith)
