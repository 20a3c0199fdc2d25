-- On memory in which a record stands, a preview shows what document 01's turn of the record says and leaves.
use Rattle.std.specs.Prelude.{Err, Ok, Result, ⊤}
use Rattle.table.specs.declared.Refusal.{Refusal}
use mathlib.Core.Path.{◌≡◌, refl, sym, ap, ◌∙◌}
use Prim.Native.Nat.{ℕ, ◌<◌}
use mathlib.Core.List.{List, [], ◌∷◌, ◌++◌}
use borrow.Author.Tests.{ne_eqb}
use lib.Dec.{eqb}
use lib.ListN.{get_or}
use Rattle.table.specs.Sum.{pick}
use Rattle.table.specs.Pass.{try_at}
use Rattle.table.specs.Load.{found_number, if_found}
use Rattle.table.proofs.Tests.{no_way}
use Rattle.schedule.specs.declared.Run.{Run}
use Rattle.schedule.specs.Machine.{nobody, worker_of}
use Rattle.schedule.specs.Record.{stored}
use Rattle.schedule.specs.Turn.{turn_checks, step_run, turned}
use Rattle.schedule.specs.Values.{turn_values}
use Rattle.schedule.specs.Shown.{preview_values}
use Rattle.run_memory.specs.Memory.{Memory, worker_in, Answer, lent_turn}
use Rattle.run_memory.specs.Stands.{run_in, Stands}
use Rattle.wivakkol.specs.Preview.{preview, amounts_in, no_amounts, lent_preview, shown_as}
use Rattle.wivakkol.proofs.Numbered.{turn_numbered}
use Rattle.run_memory.proofs.Foreseeing.{few}
use Rattle.run_memory.proofs.Refines.{own_worker, Turns, turn_refines}

module _ (s : List ℕ) (M : Memory) (h : Stands s M) (w : ℕ) where
  abbrev r : Run
  r = run_in s M

  abbrev a : Answer
  a = lent_turn s w M

  small : a.number ≡ 0 → w < 16
  unfolding lent_turn
  small e = few s w M e

  found_number_lem : a.number ≡ found_number (try_at (turn_checks r w) 0)
  unfolding turn_values
  found_number_lem = (turn_refines s M h w).number

  run_after : try_at (turn_checks r w) 0 ≡ Ok tt → run_in s a.memory ≡ stored r (step_run r w).state
  unfolding turned
  run_after e = (turn_refines s M h w).record_after ∙ rw e

  -- the three amounts are those of the record after the turn
  amounts : (f : Result ⊤ Refusal) → try_at (turn_checks r w) 0 ≡ f
      → pick (eqb (found_number f) 0) (amounts_in a.memory w) no_amounts
      ≡ if_found f 0 (step_run r w).state.held ∷ if_found f 0 (step_run r w).state.highest ∷ if_found f 0 (worker_of (step_run r w).state w).quota ∷ []
  amounts (Ok _) e =
      let after = run_after e in
      let worker : worker_in a.memory w ≡ worker_of (step_run r w).state w =
      sym (own_worker a.memory w (small (found_number_lem ∙ ap found_number e))) ∙ ap (λ (x : Run). get_or x.worker w nobody) after in
      λ i. (after i).held ∷ (after i).highest ∷ (worker i).quota ∷ []
  amounts (Err y) e =
      rw (ne_eqb y.number 0 (λ d. let n : Err y ≡ (Ok tt) = (rw e at (turn_numbered r w)) d in no_way (cc)))

  -- the law of refinement
  pub preview_refines : lent_preview s w M ≡ shown_as (preview_values r w)
  unfolding lent_preview preview_values
  preview_refines =
      let t : Turns s M w a = turn_refines s M h w in
      let m = ap (λ (k : ℕ). pick (eqb k 0) (amounts_in a.memory w) no_amounts) found_number_lem ∙ amounts (try_at (turn_checks r w) 0) refl in
      λ i. preview (t.number i) (t.row i ++ m i)
