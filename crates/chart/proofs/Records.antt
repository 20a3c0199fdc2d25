-- The line of every record that passes 32 and 43: each number fits its columns, so that the line has its width and is read back; and the call's answer, check by check.
use Rattle.std.specs.Prelude.{Err, Ok, Result, ⊤}
use Rattle.table.specs.declared.Refusal.{Refusal}
use mathlib.Core.Path.{◌≡◌, refl, sym, ap, ◌∙◌}
use Prim.Native.Nat.{ℕ, suc, ◌+◌, ◌^◌, ◌≤◌, ◌<◌}
use native.Mathlib.Omega.{arith}
use mathlib.Core.List.{List, [], ◌∷◌, ◌++◌, append-nil}
use mathlib.Core.Bool.{Bool, true, false}
use borrow.Author.Tests.{lt-ltb, le-ltb, ltb-true, ltb-false}
use lib.Dec.{ltb}
use lib.ListN.{length, get_or, drop_of_length-le}
use Rattle.table.specs.Sum.{pick}
use Rattle.table.specs.Pass.{refusal, try_at}
use Rattle.table.specs.Load.{found_number, found_place}
use Rattle.text.specs.Text.{buffer_at}
use Rattle.text.specs.Puts.{put_all, Puts}
use Rattle.text.proofs.Putting.{puts_whole}
use Rattle.schedule.specs.declared.Worker.{Worker}
use Rattle.schedule.specs.declared.Run.{Run}
use Rattle.schedule.specs.Machine.{nobody}
use Rattle.schedule.specs.Record.{blank}
use Rattle.schedule.specs.Sound.{Steady}
use Rattle.schedule.specs.Turn.{unsound}
use Rattle.schedule.proofs.Sound.Tests.{sound_exactly}
use Rattle.schedule.proofs.Stores.{steady_lawful, steady_facts}
use Rattle.schedule.proofs.Soundness.{held_fits}
use Rattle.soundness.proofs.Passed.{has_workers, no_workers}
use Rattle.chart.specs.Chart.{thread, none, absent, cells_from, figures, line_texts, line_of, read_back, most_turns, too_many, chart_checks, charted_as, charted, charted_values, line_values}
use Rattle.chart.proofs.Reading.{CellFits, CellsFit, Fits, line_width, line_newline, line_read}

-- ---- the cells

cells_count : (p w : ℕ) (l : List Worker) → length (cells_from p w l) ≡ length l
unfolding cells_from
cells_count p w [] = refl
cells_count p w (x ∷ l) = ap suc (cells_count p (suc w) l)

cell_fits : (s t : Bool) (x : ℕ) → (t ≡ true → x < 10 ^ 4) → CellFits (pick s (pick t (thread x) none) absent)
cell_fits true true x h = h refl
cell_fits true false x h = tt
cell_fits false t x h = tt

cells_fit : (p w : ℕ) (l : List Worker) → ((i : ℕ) → i < length l → (get_or l i nobody).holds ≡ true → (get_or l i nobody).thread < 10 ^ 4) → CellsFit (cells_from p w l)
unfolding cells_from
cells_fit p w [] h = tt
cells_fit p w (x ∷ l) h = (cell_fits (ltb w p) x.holds x.thread (h 0 (omega arith)), cells_fit p (suc w) l (λ i b. h (suc i) (omega (arith, b))))

-- ---- the numbers

-- of a record that is sound but for its turns taken
pub steady_figures : (r : Run) → Steady r → r.turns ≤ most_turns → Fits (figures r)
steady_figures r h t =
    let f = (steady_facts r h).holding in
    record {
      turns = omega arith;
      sixteen = cells_count r.workers 0 r.worker ∙ f.worker_size;
      cells = cells_fit r.workers 0 r.worker (λ i b e. omega (arith, f.holder_thread i (omega (arith, b, f.worker_size)) e, (steady_lawful r h).few_threads));
      held = omega (arith, held_fits r h);
    }

blank_figures : Fits (figures blank)
unfolding blank cells_from
blank_figures = record { turns = omega arith; sixteen = refl; cells = (tt, (tt, (tt, (tt, (tt, (tt, (tt, (tt, (tt, (tt, (tt, (tt, (tt, (tt, (tt, (tt, tt)))))))))))))))); held = omega arith }

pub steady_passes : (r : Run) → Steady r → r.turns ≤ most_turns → unsound r ≡ false
unfolding unsound
steady_passes r h t = rw ((sound_exactly r).1 (record { steady = h; turns = omega arith }))

module _ (r : Run) (e : unsound r ≡ false) (t : too_many r ≡ false) where
  few_turns : r.turns ≤ most_turns
  unfolding too_many
  few_turns = ltb-false most_turns r.turns t

  pub fits : Fits (figures r)
  fits = go (ltb 0 r.workers) refl
    where
      go : (b : Bool) → ltb 0 r.workers ≡ b → Fits (figures r)
      go true i = steady_figures r (has_workers r e (ltb-true 0 r.workers i)).steady few_turns
      go false i = rw (no_workers r e (omega (arith, ltb-false 0 r.workers i))) blank_figures

  -- "Every line has exactly that width": 84 characters and a newline
  pub wall_width : length (line_of r) ≡ 85
  wall_width = line_width (figures r) fits

  pub wall_newline : get_or (line_of r) 84 0 ≡ 10
  wall_newline = line_newline (figures r) fits

  -- "from a line each shown number can be read back"
  pub wall_read : read_back (line_of r) ≡ figures r
  wall_read = line_read (figures r) fits

-- ---- the answer

module _ (r : Run) where
  pub charted_unsound : unsound r ≡ true → Err (refusal 32 0) ≡ charted r
  unfolding charted chart_checks try_at
  charted_unsound e = rw e

  module _ (e : unsound r ≡ false) where
    pub many : most_turns < r.turns → too_many r ≡ true
    unfolding too_many
    many h = lt-ltb most_turns r.turns h

    pub few : r.turns ≤ most_turns → too_many r ≡ false
    unfolding too_many
    few h = le-ltb most_turns r.turns h

    pub charted_many : too_many r ≡ true → Err (refusal 43 0) ≡ charted r
    unfolding charted chart_checks try_at
    charted_many t = rw (e, t)

    pub charted_written : too_many r ≡ false → (Ok tt) ≡ charted r
    unfolding charted chart_checks try_at
    charted_written t = rw (e, t)

  -- number and place of the answer are those of the first check that applies
  pub charted_values_lem : charted_values (charted r) ≡ line_values r
  unfolding charted line_values
  charted_values_lem = go (try_at (chart_checks r) 0)
    where
      go : (f : Result ⊤ Refusal) → charted_values (charted_as f) ≡ record { number = found_number f; place = found_place f }
      go (Ok _) = refl
      go (Err x) = refl

-- a record that is sound but for its turns taken, of which there are not too many, has its line
pub steady_written : (r : Run) → Steady r → r.turns ≤ most_turns → charted r ≡ Ok tt
steady_written r h t = let e = steady_passes r h t in sym (charted_written r e (few r e t))

-- the line fills a buffer of its width
pub line_filled : (r : Run) (s o : List ℕ) (k : ℕ)
    → unsound r ≡ false → too_many r ≡ false → length s ≡ 85 → buffer_at o k ≡ put_all (buffer_at s 0) (line_texts (figures r)) → o ≡ line_of r
line_filled r s o k u t l e =
    let w = wall_width r u t in
    let p : Puts s 0 o k (line_texts (figures r)) 85 = record { put = e; short = omega (arith, w) } in
    let q = puts_whole (omega (arith, l)) p in
    q.1 ∙ ap (λ (x : List ℕ). line_of r ++ x) (drop_of_length-le s {i = k} (omega (arith, q.0, w, l))) ∙ append-nil (line_of r)
