-- A run's line from the memory lent: the checks, the text that fills the lent line, that it has its width and is read back (`lent_line`), and that on a run that stands number and line are the
-- record's (N5).
use Rattle.std.specs.Prelude.{Result, ⊤}
use Rattle.table.specs.declared.Refusal.{Refusal}
use mathlib.Core.Path.{◌≡◌, refl, sym, ap, ◌∙◌}
use Prim.Native.Nat.{ℕ, min, ◌≤◌, ◌<◌}
use native.Mathlib.Omega.{arith}
use native.Mathlib.Nat.{min-eq_left}
use mathlib.Core.List.{List, []}
use mathlib.Core.Bool.{Bool, true, false, not, ◌&&◌}
use borrow.Author.Tests.{lt-ltb, le-ltb, ne_eqb}
use lib.Dec.{ltb}
use lib.ListN.{length, get_or}
use Rattle.table.specs.Sum.{pick}
use Rattle.text.specs.Text.{buffer_at}
use Rattle.text.specs.Puts.{put_all}
use Rattle.schedule.specs.declared.Worker.{Worker}
use Rattle.schedule.specs.declared.Run.{Run}
use Rattle.schedule.specs.Turn.{unsound}
use Rattle.schedule.proofs.Stores.{steady_fits}
use Rattle.schedule.proofs.Sound.Tests.{sound_exactly}
use Rattle.chart.specs.Chart.{Figures, most_turns, figures_of, figures, line_texts, line_text, read_back, too_many, charted, charted_in, charted_values, line_values}
use Rattle.chart.proofs.Records.{wall_width, wall_newline, wall_read, line_filled, charted_unsound, charted_many, charted_written, charted_values_lem}
use Rattle.run_memory.specs.Memory.{Memory, moved_in}
use Rattle.run_memory.specs.Stands.{workers_in, run_in, Stands}
use Rattle.wivakkol.specs.Opened.{sound_in, blank_in, line_fault, figures_in, line_after}
use Rattle.wivakkol.specs.declared.standing.Standing.{Standing}
use Rattle.wivakkol.specs.declared.standing.Standing.TheVariants.{Neither}
use Rattle.wivakkol.specs.Code.Standing.{standing_of, standing}
use Rattle.wivakkol.proofs.Opens.{sound_in_lem, no_workers, blank_passed, stands_worked, stands_unsound}

-- ---- the checks, as the code asks them

module _ (s : List ℕ) (M : Memory) {n : Standing} (e : n ≡ standing s M) where
  neither : n ≡ Neither → (not (sound_in s M) && not (blank_in M)) ≡ true
  unfolding standing
  neither h = go (sound_in s M) (blank_in M) (sym e ∙ h)
    where
      go : (a b : Bool) → standing_of a b ≡ Neither → (not a && not b) ≡ true
      go true b h = cc
      go false true h = cc
      go false false h = refl

  either : (n ≡ Neither → ⊥) → (not (sound_in s M) && not (blank_in M)) ≡ false
  unfolding standing
  either h = go (sound_in s M) (blank_in M) (λ q. h (e ∙ q))
    where
      go : (a b : Bool) → (standing_of a b ≡ Neither → ⊥) → (not a && not b) ≡ false
      go true b h = refl
      go false true h = refl
      go false false h = absurd (h refl)

  pub line_refused : n ≡ Neither → 32 ≡ line_fault s M
  unfolding line_fault
  line_refused h = rw (neither h)

  pub line_long : (n ≡ Neither → ⊥) → most_turns < get_or M.totals 2 0 → 43 ≡ line_fault s M
  unfolding line_fault
  line_long h t = rw (either h, lt-ltb most_turns (get_or M.totals 2 0) t)

  pub line_passes : (n ≡ Neither → ⊥) → get_or M.totals 2 0 ≤ most_turns → 0 ≡ line_fault s M
  unfolding line_fault
  line_passes h t = rw (either h, le-ltb most_turns (get_or M.totals 2 0) t)

-- ---- the text

-- "one line, 84 characters and a newline"; "from a line each shown number can be read back"
pub record WallLine (x : Figures) (line : List ℕ) : Type 0 where
  pub width : length line ≡ 85
  pub newline : get_or line 84 0 ≡ 10
  pub read : read_back line ≡ x

-- a record that passes both checks, with the memory's numbers
record Shows (M : Memory) : Type 0 where
  run : Run
  same : figures run ≡ figures_in M
  passes : unsound run ≡ false
  few_turns : too_many run ≡ false
  few_workers : get_or M.settings 0 0 ≤ 16

module _ (s : List ℕ) (M : Memory) where
  sound_shows : sound_in s M ≡ true → ltb most_turns (moved_in M).turns ≡ false → Shows M
  unfolding unsound too_many
  sound_shows e f =
      let r : Run = run_in s M in
      record { run = r; same = refl; passes = rw ((sound_exactly r).1 (sound_in_lem s M e)); few_turns = f; few_workers = (steady_fits r (sound_in_lem s M e).steady).few_workers }

  -- the blank record has no table
  blank_shows : blank_in M ≡ true → ltb most_turns (moved_in M).turns ≡ false → Shows M
  unfolding too_many
  blank_shows e f =
      record { run = run_in [] M; same = refl; passes = blank_passed s M e; few_turns = f; few_workers = omega (arith, no_workers s M e) }

  shows : line_fault s M ≡ 0 → Shows M
  unfolding line_fault
  shows h = go (sound_in s M) refl (blank_in M) refl (ltb most_turns (moved_in M).turns) refl h
    where
      go : (a : Bool) → sound_in s M ≡ a → (b : Bool) → blank_in M ≡ b → (t : Bool) → ltb most_turns (moved_in M).turns ≡ t → ◌≡◌ {A = ℕ} (pick (not a && not b) 32 (pick t 43 0)) 0 → Shows M
      go true e b f false g h = sound_shows e g
      go false e true f false g h = blank_shows f g
      go true e b f true g h = absurd (omega (arith, h))
      go false e true f true g h = absurd (omega (arith, h))
      go false e false f t g h = absurd (omega (arith, h))

  -- the line after the call, where it answers 0, whatever is lent: a sound record stands there or the blank one
  pub lent_line : line_fault s M ≡ 0 → (line : List ℕ) → WallLine (figures_in M) (line_after (line_fault s M) M line)
  unfolding line_after
  lent_line e line =
      let g : Shows M = shows e in
      rw (e, ← g.same)
      (record { width = wall_width g.run g.passes g.few_turns; newline = wall_newline g.run g.passes g.few_turns; read = wall_read g.run g.passes g.few_turns })

  pub line_written : {n : ℕ} → n ≡ line_fault s M → n ≡ 0 → {p : ℕ} → p ≡ min (get_or M.settings 0 0) 17 → {workers : List Worker} → workers ≡ workers_in M → (line out : List ℕ) (k : ℕ) → length line ≡ 85
      → buffer_at out k ≡ put_all (buffer_at line 0) (line_texts (figures_of (get_or M.totals 2 0) p workers (get_or M.totals 0 0))) → out ≡ line_after 0 M line
  unfolding line_after
  line_written e z {p} h {workers} w line out k size put =
      let g = shows (sym e ∙ z) in
      let q : p ≡ get_or M.settings 0 0 = h ∙ min-eq_left (omega (arith, g.few_workers)) in
      let x : figures_of (get_or M.totals 2 0) p workers (get_or M.totals 0 0) ≡ figures g.run = (λ i. figures_of (get_or M.totals 2 0) (q i) (w i) (get_or M.totals 0 0)) ∙ sym g.same in
      line_filled g.run line out k g.passes g.few_turns size (put ∙ ap (λ (y : Figures). put_all (buffer_at line 0) (line_texts y)) x) ∙ ap line_text g.same

pub line_kept : (M : Memory) {n : ℕ} → (n ≡ 0 → ⊥) → (line : List ℕ) → line ≡ line_after n M line
unfolding line_after
line_kept M {n} h line = rw (ne_eqb n 0 h)

-- ---- on a run that stands

pub record Lines (s : List ℕ) (M : Memory) (n : ℕ) : Type 0 where
  pub number : n ≡ (line_values (run_in s M)).number
  pub line : (out : List ℕ) → line_after n M out ≡ charted_in (charted (run_in s M)) (run_in s M) out

as_charted : (s : List ℕ) (M : Memory) (n : ℕ) (x : Result ⊤ Refusal) → x ≡ charted (run_in s M) → n ≡ (charted_values x).number
    → ((out : List ℕ) → line_after n M out ≡ charted_in x (run_in s M) out) → Lines s M n
as_charted s M n x e d f =
    record {
      number = d ∙ ap (λ (y : Result ⊤ Refusal). (charted_values y).number) e ∙ ap (λ y. y.number) (charted_values_lem (run_in s M));
      line = λ out. f out ∙ ap (λ (y : Result ⊤ Refusal). charted_in y (run_in s M) out) e;
    }

-- number and line are those of the record
pub line_refines : (s : List ℕ) (M : Memory) → Stands s M → Lines s M (line_fault s M)
unfolding line_fault line_after too_many
line_refines s M h = rw (stands_unsound s M h, stands_worked s M h) (go (unsound r) refl (too_many r) refl)
  where
    r : Run
    r = run_in s M

    go : (u : Bool) → unsound r ≡ u → (t : Bool) → too_many r ≡ t → Lines s M (pick (u && not false) 32 (pick t 43 0))
    go true e t f = as_charted s M 32 _ (charted_unsound r e) refl (λ out. refl)
    go false e true f = as_charted s M 43 _ (charted_many r e f) refl (λ out. refl)
    go false e false f = as_charted s M 0 _ (charted_written r e f) refl (λ out. refl)
