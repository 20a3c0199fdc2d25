-- A paced run goes turn by turn.
use mathlib.Core.Path.{◌≡◌, refl, sym, ap, subst, ◌∙◌}
use Prim.Native.Nat.{ℕ, zero, suc, ◌+◌, ◌-◌, ◌≤◌, ◌<◌}
use native.Mathlib.Omega.{arith}
use mathlib.Core.List.{List, []}
use mathlib.Core.Bool.{Bool, true, false, ◌&&◌}
use borrow.Author.Tests.{eq-eqb, ne_eqb}
use lib.Dec.{eqb}
use lib.ListN.{length, get_or}
use Rattle.table.specs.Sum.{pick}
use Rattle.table.specs.Format.{table_of}
use Rattle.schedule.specs.declared.Reply.TheVariants.{Idle, Done}
use Rattle.schedule.specs.Machine.{ended}
use Rattle.run_memory.specs.declared.runs.Stop.{Stop}
use Rattle.run_memory.specs.Memory.{Memory, moved_in, told, turn_in, number_in, said_at, run_row, Answer, answer}
use Rattle.run_memory.specs.Runs.{stopped, stopped_at, ends_root, over_in}
use Rattle.run_memory.proofs.Drives.{Going, refused_same}
use Rattle.run_memory.proofs.Endings.{Undone, Unending, Ends, says_no_end, says_end}
use Rattle.run_memory.proofs.Stopping.{Numbered, stopped_answers}
use Rattle.pace.specs.Pace.{took, next_in}
use Rattle.wivakkol_pace.specs.Paced.{held_back, PacedTold, paced_told, paced_in, kept}
use Rattle.wivakkol_pace.specs.PacedRuns.{PacedStop, paced_stop, paced_worker, paced_drive, paced_run, kept_as, paced_list, paced_rounds}
use Rattle.wivakkol_pace.proofs.PacedTurns.{paced_ends}

-- a paced turn that is refused moves nothing, and the pace stays too
pub paced_same : (s : List ℕ) (w : ℕ) (M : Memory) (P : List ℕ) → let t : PacedTold = paced_in s w M P in
    (t.told.number ≡ 0 → ⊥) → (t.told.memory ≡ M) × (t.pace ≡ P)
unfolding paced_in
paced_same s w M P = go (eqb (held_back w M P) 0)
  where
    go : (b : Bool) → let t : PacedTold = pick b (paced_told (turn_in s w M) (pick (eqb (turn_in s w M).number 0) (took P w) P)) (paced_told (told (held_back w M P) Idle M) P) in
        (t.told.number ≡ 0 → ⊥) → (t.told.memory ≡ M) × (t.pace ≡ P)
    go true d = (refused_same s w M d, rw (ne_eqb (turn_in s w M).number 0 d))
    go false d = (refl, refl)

-- the answer is the one given
pub stopped_as_lem : {x : Stop} (y : Stop) (M : Memory) (P : List ℕ) {d : PacedStop} → x ≡ y → paced_stop (stopped_at y M) P ≡ d → paced_stop (stopped_at x M) P ≡ d
stopped_as_lem y M P e h = rw e h

-- what is left of a run of at most `limit` turns after i of them is the whole; the root has a place, and has not ended
pub record Along (s : List ℕ) (who : ℕ → List ℕ → ℕ) (limit : ℕ) (M₀ : Memory) (P₀ : List ℕ) (M : Memory) (P : List ℕ) (i : ℕ) : Type 0 where
  pub within : i ≤ limit
  pub rooted : 0 < length M.arrays.status
  pub going : Going M
  pub remains : paced_drive s who (limit - i) i M P ≡ paced_drive s who limit 0 M₀ P₀

pub first_along : (s : List ℕ) (who : ℕ → List ℕ → ℕ) (limit : ℕ) (M : Memory) (P : List ℕ) → 0 < length M.arrays.status → Going M → Along s who limit M P M P 0
first_along s who limit M P r g = let e : limit - 0 ≡ limit = omega arith in record { within = omega arith; rooted = r; going = g; remains = rw e }

-- "a run stops at the root's end"
pub root_stops : (s : List ℕ) (who : ℕ → List ℕ → ℕ) (k i : ℕ) (M : Memory) (P : List ℕ) → over_in M ≡ true → paced_stop (stopped 0 true i M) P ≡ paced_drive s who k i M P
unfolding paced_drive
root_stops s who zero i M P e = rw e
root_stops s who (suc k) i M P e = rw e

module _ {s : List ℕ} {who : ℕ → List ℕ → ℕ} {limit : ℕ} {M₀ : Memory} {P₀ : List ℕ} {M : Memory} {P : List ℕ} {i : ℕ} (v : Along s who limit M₀ P₀ M P i) where
  abbrev whole : PacedStop
  whole = paced_drive s who limit 0 M₀ P₀

  open_here : over_in M ≡ false
  open_here = ne_eqb (get_or M.arrays.status 0 0) ended v.going

  pub spent : limit ≤ i → paced_stop (stopped 0 false i M) P ≡ whole
  unfolding paced_drive
  spent h =
      let z : limit - i ≡ 0 = omega (arith, h) in
      rw (z, open_here) at v.remains

  pub spent_at : limit ≤ i → paced_stop (stopped 0 false limit M) P ≡ whole
  spent_at h = let e : limit ≡ i = omega (arith, h, v.within) in ap (λ (j : ℕ). paced_stop (stopped 0 false j M) P) e ∙ spent h

  module _ (h : i < limit) {w : ℕ} (q : w ≡ who i P) {t : PacedTold} (e : t ≡ paced_in s w M P) where
    here : paced_drive s who (suc (limit - (i + 1))) i M P ≡ whole
    here = let n : limit - i ≡ suc (limit - (i + 1)) = omega (arith, h) in ap (λ (k : ℕ). paced_drive s who k i M P) (sym n) ∙ v.remains

    there : t ≡ paced_in s (who i P) M P
    there = e ∙ ap (λ (x : ℕ). paced_in s x M P) q

    pub hindered : (t.told.number ≡ 0 → ⊥) → paced_stop (stopped t.told.number false i t.told.memory) t.pace ≡ whole
    unfolding paced_drive
    hindered d =
        let m = paced_same s w M P (λ z. d (ap (λ (x : PacedTold). x.told.number) e ∙ z)) in
        let a : t.told.memory ≡ M = ap (λ (x : PacedTold). x.told.memory) e ∙ m.0 in
        let b : t.pace ≡ P = ap (λ (x : PacedTold). x.pace) e ∙ m.1 in
        (λ j. paced_stop (stopped t.told.number false i (a j)) (b j)) ∙ (rw (open_here, ← there, ne_eqb t.told.number 0 d) at here)

    module _ (d : t.told.number ≡ 0) where
      rest : paced_drive s who (limit - (i + 1)) (i + 1) t.told.memory t.pace ≡ whole
      unfolding paced_drive
      rest =
          let n : suc i ≡ i + 1 = omega arith in
          ap (λ (k : ℕ). paced_drive s who (limit - (i + 1)) k t.told.memory t.pace) (sym n) ∙ (rw (open_here, ← there, d) at here)

      -- what the turn did to the root
      told_ends : Ends (table_of s) 0 M.arrays.status t.told.reply t.told.memory.arrays.status
      told_ends = subst (λ (x : PacedTold). Ends (table_of s) 0 M.arrays.status x.told.reply x.told.memory.arrays.status) (sym e) (paced_ends s w M P 0)

      again : Unending (table_of s) 0 t.told.reply → Along s who limit M₀ P₀ t.told.memory t.pace (i + 1)
      again u =
          let n : length t.told.memory.arrays.status ≡ length M.arrays.status = told_ends.long in
          record { within = omega (arith, h); rooted = omega (arith, n, v.rooted); going = told_ends.keep u v.going; remains = rest }

      -- no action was done
      pub undone : Undone t.told.reply → Along s who limit M₀ P₀ t.told.memory t.pace (i + 1)
      undone u = again (λ a f k. u 0 a f)

      -- one was done
      module _ {x a : ℕ} (f : t.told.reply ≡ Done x a) where
        pub goes_on : ends_root (table_of s) x a ≡ false → Along s who limit M₀ P₀ t.told.memory t.pace (i + 1)
        goes_on z = again (says_no_end (table_of s) f z)

        pub finished : ends_root (table_of s) x a ≡ true → paced_stop (stopped 0 true (i + 1) t.told.memory) t.pace ≡ whole
        finished z =
            let (g, k) = says_end (table_of s) f z in
            root_stops s who (limit - (i + 1)) (i + 1) t.told.memory t.pace (eq-eqb _ ended (told_ends.ends a g k v.rooted)) ∙ rest

-- ---- the worker

pub worker_next : (l : List ℕ) (i : ℕ) (P : List ℕ) {b : Bool} → b ≡ true → next_in P ≡ paced_worker l b i P
unfolding paced_worker
worker_next l i P e = rw e

pub worker_listed : (l : List ℕ) (i : ℕ) (P : List ℕ) {b : Bool} → b ≡ false → get_or l i 0 ≡ paced_worker l b i P
unfolding paced_worker
worker_listed l i P e = rw e

-- ---- the calls

module _ (s : List ℕ) (who : ℕ → List ℕ → ℕ) (rounds : Bool) (limit : ℕ) (M : Memory) (P : List ℕ) where
  -- no turn can be counted
  pub full : (moved_in M).turns ≡ 18446744073709551615 → paced_stop (stopped 32 false 0 M) P ≡ paced_run s who rounds limit M P
  unfolding paced_run
  full h = rw (eq-eqb (moved_in M).turns 18446744073709551615 h)

  module _ (h : (moved_in M).turns ≡ 18446744073709551615 → ⊥) {b : Bool} (f : b ≡ rounds && eqb (get_or M.settings 0 0) 0) where
    -- rounds with no worker
    pub no_worker_lem : b ≡ true → paced_stop (stopped 30 false 0 M) P ≡ paced_run s who rounds limit M P
    unfolding paced_run
    no_worker_lem e = rw (ne_eqb (moved_in M).turns 18446744073709551615 h, ← f, e)

    pub driven : b ≡ false → {d : PacedStop} → d ≡ paced_drive s who limit 0 M P → d ≡ paced_run s who rounds limit M P
    unfolding paced_run
    driven z e = e ∙ rw (ne_eqb (moved_in M).turns 18446744073709551615 h, ← f, z)

-- where a run stopped is put into the row
pub put : (x : Stop) (M : Memory) (P : List ℕ) {d : PacedStop} {number : ℕ} {row : List ℕ} → paced_stop (stopped_at x M) P ≡ d → Numbered x.finished
    → number ≡ number_in x.finished → row ≡ run_row (said_at x.finished) x.turns → kept (answer number row M) P ≡ kept_as d
put x M P e h n r = ap (λ (a : Answer). kept a P) (stopped_answers x M refl h n r) ∙ ap kept_as e

pub list_is : (s l : List ℕ) (M : Memory) (P : List ℕ) → kept_as (paced_run s (paced_worker l false) false (length l) M P) ≡ paced_list s l M P
unfolding paced_list
list_is s l M P = refl

pub rounds_is : (s : List ℕ) (limit : ℕ) (M : Memory) (P : List ℕ) → kept_as (paced_run s (paced_worker [] true) true limit M P) ≡ paced_rounds s limit M P
unfolding paced_rounds
rounds_is s limit M P = refl
