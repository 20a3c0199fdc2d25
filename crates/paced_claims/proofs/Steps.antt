-- Every list of paced calls is a row of turns, each of which the pace let through, with openings between them; refused calls and the ends of runs leave nothing else.
use mathlib.Core.Path.{◌≡◌, refl, sym, ap, subst}
use Prim.Native.Nat.{ℕ, zero, suc, ◌+◌, ◌-◌, ◌^◌, ◌<◌, ◌≤◌}
use native.Mathlib.Omega.{arith}
use mathlib.Core.List.{List, [], ◌∷◌, ◌++◌}
use mathlib.Core.Bool.{Bool, true, false, ◌&&◌}
use lib.ListN.{length, get_or}
use lib.Dec.{eqb, ltb}
use borrow.Author.Tests.{eq-eqb, eqb-true, eqb-false, ltb-true}
use Rattle.table.specs.Sum.{pick}
use Rattle.table.proofs.Tests.{no_way}
use Rattle.schedule.specs.declared.Reply.TheVariants.{Idle}
use Rattle.order.specs.Firsts.{firsts}
use Rattle.schedule.specs.Machine.{ended}
use Rattle.run_memory.specs.Memory.{Memory, moved_in, told, taken_in, turn_in, hindrance}
use Rattle.run_memory.specs.Runs.{stopped, over_in}
use Rattle.wivakkol.specs.Opened.{sound_in, blank_in, opened_as, lent_open}
use Rattle.pace.specs.Pace.{may, took}
use Rattle.wivakkol_pace.specs.Paced.{hindrance_in, held_back, paced_told, paced_in, Kept, paced_turn}
use Rattle.wivakkol_pace.specs.PacedRuns.{PacedStop, paced_stop, paced_worker, paced_drive, paced_run, paced_list, paced_rounds}
use Rattle.wivakkol_pace.proofs.PacedDrives.{paced_same}
use Rattle.wivakkol_pace.proofs.PacedNumbers.{number_lets}
use Rattle.paced_claims.specs.PacedCalls.{PacedCall, by_turn, by_list, by_rounds, by_opening, paced_call, workers_of, taken_by, paced_after, paced_row}

-- ---- a turn that is taken

-- nothing hinders it, the pace lets it through, and it is counted
pub record Taken (s : List ℕ) (w : ℕ) (M : Memory) (P : List ℕ) : Type 0 where
  pub number : (turn_in s w M).number ≡ 0
  pub unhindered : hindrance_in M w ≡ 0
  pub let_by : may P w ≡ true
  pub memory : (paced_in s w M P).told.memory ≡ (turn_in s w M).memory
  pub pace : (paced_in s w M P).pace ≡ took P w

unhindered_so : (s : List ℕ) (w : ℕ) (M : Memory) → (turn_in s w M).number ≡ 0 → hindrance_in M w ≡ 0
unfolding turn_in
unhindered_so s w M e = go (hindrance_in M w) (eqb (hindrance_in M w) 0) refl e
  where
    go : (n : ℕ) (q : Bool) → eqb n 0 ≡ q → (pick q (taken_in s w M) (told n Idle M)).number ≡ 0 → n ≡ 0
    go n true f e = eqb-true n 0 f
    go n false f e = e

let_by_so : (w : ℕ) (M : Memory) (P : List ℕ) → held_back w M P ≡ 0 → hindrance_in M w ≡ 0 → may P w ≡ true
unfolding held_back
let_by_so w M P e z = number_lets P w (rw (eq-eqb (hindrance_in M w) 0 z) at e)

pub taken : (s : List ℕ) (w : ℕ) (M : Memory) (P : List ℕ) → (paced_in s w M P).told.number ≡ 0 → Taken s w M P
unfolding paced_in
taken s w M P = go (eqb (held_back w M P) 0) refl
  where
    go : (q : Bool) → eqb (held_back w M P) 0 ≡ q → (pick q (paced_told (turn_in s w M) (pick (eqb (turn_in s w M).number 0) (took P w) P)) (paced_told (told (held_back w M P) Idle M) P)).told.number ≡ 0
        → Taken s w M P
    go false f e = absurd (eqb-false (held_back w M P) 0 f e)
    go true f e =
        record {
          number = e;
          unhindered = unhindered_so s w M e;
          let_by = let_by_so w M P (eqb-true (held_back w M P) 0 f) (unhindered_so s w M e);
          memory = rw f;
          pace = rw (f, eq-eqb (turn_in s w M).number 0 e);
        }

-- ---- rows of them

pub data Steps (s : List ℕ) : Memory → List ℕ → List ℕ → Memory → List ℕ → Type 0 where
  stay : {M : Memory} {P : List ℕ} → Steps s M P [] M P
  step : {M : Memory} {P : List ℕ} {w : ℕ} {row : List ℕ} {M' : Memory} {P' : List ℕ} → Taken s w M P → Steps s (turn_in s w M).memory (took P w) row M' P' → Steps s M P (w ∷ row) M' P'
  opened : {M : Memory} {P row : List ℕ} {M' : Memory} {P' : List ℕ} → Steps s (lent_open s M).memory P row M' P' → Steps s M P row M' P'

pub then : {s : List ℕ} {M M' M'' : Memory} {P P' P'' row rest : List ℕ} → Steps s M P row M' P' → Steps s M' P' rest M'' P'' → Steps s M P (row ++ rest) M'' P''
then stay k = k
then (step t h) k = step t (then h k)
then (opened h) k = opened (then h k)

nothing : {s : List ℕ} {M M' : Memory} {P P' : List ℕ} → M' ≡ M → P' ≡ P → Steps s M P [] M' P'
nothing {s} {M} {M'} {P} {P'} e f = subst (λ (x : Memory). Steps s M P [] x P') (sym e) (subst (λ (y : List ℕ). Steps s M P [] M y) (sym f) stay)

-- ---- a single turn

turn_steps : (s : List ℕ) (w : ℕ) (M : Memory) (P : List ℕ) → Steps s M P (taken_by (by_turn w) P (paced_turn s w M P).answer) (paced_turn s w M P).answer.memory (paced_turn s w M P).pace
unfolding taken_by paced_turn
turn_steps s w M P = go (eqb (paced_in s w M P).told.number 0) refl
  where
    go : (q : Bool) → eqb (paced_in s w M P).told.number 0 ≡ q → Steps s M P (pick q (w ∷ []) []) (paced_in s w M P).told.memory (paced_in s w M P).pace
    go true e =
        let t : Taken s w M P = taken s w M P (eqb-true (paced_in s w M P).told.number 0 e) in
        step t (nothing t.memory t.pace)
    go false e = let m = paced_same s w M P (eqb-false (paced_in s w M P).told.number 0 e) in nothing m.0 m.1

-- ---- a run

-- what a run from turn i on leaves: as many turns as it reports
record Driven (s : List ℕ) (who : ℕ → List ℕ → ℕ) (i : ℕ) (M : Memory) (P : List ℕ) (d : PacedStop) : Type 0 where
  within : i ≤ d.stop.turns
  steps : Steps s M P (workers_of who i (d.stop.turns - i) P) d.stop.memory d.pace

module _ (s : List ℕ) (who : ℕ → List ℕ → ℕ) where
  here : (i : ℕ) (M : Memory) (P : List ℕ) (n : ℕ) (q : Bool) → Driven s who i M P (paced_stop (stopped n q i M) P)
  unfolding workers_of
  here i M P n q = let z : i - i ≡ 0 = omega arith in record { within = omega arith; steps = rw z stay }

  onward : (i : ℕ) (M : Memory) (P : List ℕ) (d : PacedStop) → Taken s (who i P) M P → Driven s who (suc i) (turn_in s (who i P) M).memory (took P (who i P)) d → Driven s who i M P d
  unfolding workers_of
  onward i M P d t r =
      let n : d.stop.turns - i ≡ suc (d.stop.turns - suc i) = omega (arith, r.within) in
      record { within = omega (arith, r.within); steps = rw n (step t r.steps) }

  drive_steps : (k i : ℕ) (M : Memory) (P : List ℕ) → Driven s who i M P (paced_drive s who k i M P)
  unfolding paced_drive
  drive_steps zero i M P = here i M P 0 (over_in M)
  drive_steps (suc k) i M P = go (over_in M) (eqb (paced_in s (who i P) M P).told.number 0) refl (drive_steps k (suc i))
    where
      go : (o q : Bool) → eqb (paced_in s (who i P) M P).told.number 0 ≡ q → ((M : Memory) (P : List ℕ) → Driven s who (suc i) M P (paced_drive s who k (suc i) M P))
          → Driven s who i M P (pick o (paced_stop (stopped 0 true i M) P)
          (pick q (paced_drive s who k (suc i) (paced_in s (who i P) M P).told.memory (paced_in s (who i P) M P).pace) (paced_stop (stopped (paced_in s (who i P) M P).told.number false i M) P)))
      go true q e ih = here i M P 0 true
      go false false e ih = here i M P (paced_in s (who i P) M P).told.number false
      go false true e ih =
          let t : Taken s (who i P) M P = taken s (who i P) M P (eqb-true (paced_in s (who i P) M P).told.number 0 e) in
          rw (t.memory, t.pace) (onward i M P (paced_drive s who k (suc i) (turn_in s (who i P) M).memory (took P (who i P))) t (ih (turn_in s (who i P) M).memory (took P (who i P))))

  run_steps : (rounds : Bool) (limit : ℕ) (M : Memory) (P : List ℕ) → let d : PacedStop = paced_run s who rounds limit M P in Steps s M P (workers_of who 0 d.stop.turns P) d.stop.memory d.pace
  unfolding paced_run
  run_steps rounds limit M P = go (eqb (moved_in M).turns (2 ^ 64 - 1)) (rounds && eqb (get_or M.settings 0 0) 0)
    where
      whole : (d : PacedStop) → Driven s who 0 M P d → Steps s M P (workers_of who 0 d.stop.turns P) d.stop.memory d.pace
      whole d r = let z : d.stop.turns - 0 ≡ d.stop.turns = omega arith in rw z at r.steps

      go : (q b : Bool) → let d : PacedStop = pick q (paced_stop (stopped 32 false 0 M) P) (pick b (paced_stop (stopped 30 false 0 M) P) (paced_drive s who limit 0 M P)) in
          Steps s M P (workers_of who 0 d.stop.turns P) d.stop.memory d.pace
      go true b = whole (paced_stop (stopped 32 false 0 M) P) (here 0 M P 32 false)
      go false true = whole (paced_stop (stopped 30 false 0 M) P) (here 0 M P 30 false)
      go false false = whole (paced_drive s who limit 0 M P) (drive_steps limit 0 M P)

-- the workers of a run over a list are the list's, from its front
pub listed_front : (l : List ℕ) (n i : ℕ) (P : List ℕ) → workers_of (paced_worker l false) i n P ≡ firsts (λ j. get_or l j 0) i n
unfolding workers_of paced_worker firsts
listed_front l zero i P = refl
listed_front l (suc n) i P = ap (get_or l i 0 ∷◌) (listed_front l n (suc i) (took P (get_or l i 0)))

-- ---- lists of calls

pub call_steps : (s : List ℕ) (c : PacedCall) (M : Memory) (P : List ℕ) → let k : Kept = paced_call s c M P in Steps s M P (taken_by c P k.answer) k.answer.memory k.pace
unfolding paced_call taken_by paced_list paced_rounds
call_steps s (by_turn w) M P = turn_steps s w M P
call_steps s (by_list l) M P = run_steps s (paced_worker l false) false (length l) M P
call_steps s (by_rounds limit) M P = run_steps s (paced_worker [] true) true limit M P
call_steps s by_opening M P = opened stay

pub calls_steps : (s : List ℕ) (calls : List PacedCall) (M : Memory) (P : List ℕ) → Steps s M P (paced_row s calls M P) (paced_after s calls M P).memory (paced_after s calls M P).pace
unfolding paced_row paced_after
calls_steps s [] M P = stay
calls_steps s (c ∷ l) M P = then (call_steps s c M P) (calls_steps s l (paced_call s c M P).answer.memory (paced_call s c M P).pace)

-- ---- what no turn changes

-- its worker is below p
pub below_p : (w : ℕ) (M : Memory) → hindrance_in M w ≡ 0 → w < get_or M.settings 0 0
unfolding hindrance
below_p w M e =
    ltb-true w (get_or M.settings 0 0) (
    go (eqb (moved_in M).turns (2 ^ 64 - 1)) (ltb w (get_or M.settings 0 0)) (eqb (get_or M.arrays.status 0 0) ended) e
    )
  where
    go : (q r t : Bool) → ◌≡◌ {A = ℕ} (pick q 32 (pick r (pick t 31 0) 30)) 0 → r ≡ true
    go true r t e = no_way (omega arith)
    go false true t e = refl
    go false false t e = no_way (omega arith)

-- an opening leaves p as it was (a turn: run_memory's turn-settings)
pub open_settings : (s : List ℕ) (M : Memory) → (lent_open s M).memory.settings ≡ M.settings
unfolding lent_open
open_settings s M = go (sound_in s M) (blank_in M)
  where
    go : (a b : Bool) → (opened_as a b s M).memory.settings ≡ M.settings
    go true b = refl
    go false true = refl
    go false false = refl
