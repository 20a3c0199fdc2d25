-- A paced run in memory is refused with 30, 31, 32 or 60, whatever the memory and the pace hold.
use mathlib.Core.Path.{◌≡◌, refl}
use Prim.Native.Nat.{ℕ, zero, suc, ◌-◌, ◌^◌, ◌≤◌}
use native.Mathlib.Omega.{arith}
use mathlib.Core.List.{List}
use mathlib.Core.Bool.{Bool, true, false, ◌&&◌}
use lib.Dec.{ltb, eqb}
use lib.ListN.{get_or}
use Rattle.table.specs.Sum.{pick}
use Rattle.run_memory.specs.Memory.{Memory, moved_in}
use Rattle.run_memory.specs.Runs.{over_in}
use Rattle.run_memory.proofs.Refusals.{turn_number}
use Rattle.pace.specs.Pace.{workers_in, may, may_number}
use Rattle.wivakkol_pace.specs.Paced.{hindrance_in, held_back, PacedTold, paced_in}
use Rattle.wivakkol_pace.specs.PacedRuns.{PacedStop, paced_drive, paced_run}

turn_either : (b : Bool) (x y : PacedTold) → x.told.number ≤ 60 → y.told.number ≤ 60 → (pick b x y).told.number ≤ 60
turn_either true x y h k = h
turn_either false x y h k = k

-- the pace's number: 0, 30 or 60, and 0 where it lets the turn through
pub may_small : (P : List ℕ) (w : ℕ) → may_number P w ≤ 60
unfolding may_number
may_small P w = go (ltb w (workers_in P)) (may P w)
  where
    go : (b c : Bool) → pick b (pick c 0 60) 30 ≤ 60
    go true true = omega arith
    go true false = omega arith
    go false c = omega arith

pub number_lets : (P : List ℕ) (w : ℕ) → may_number P w ≡ 0 → may P w ≡ true
unfolding may_number
number_lets P w = go (ltb w (workers_in P)) (may P w)
  where
    go : (b c : Bool) → ◌≡◌ {A = ℕ} (pick b (pick c 0 60) 30) 0 → c ≡ true
    go true true e = refl
    go true false e = absurd (omega (arith, e))
    go false c e = absurd (omega (arith, e))

held_small : (w : ℕ) (M : Memory) (P : List ℕ) → held_back w M P ≤ 60
unfolding held_back
held_small w M P = go (eqb (hindrance_in M w) 0)
  where
    go : (b : Bool) → pick b (may_number P w) 0 ≤ 60
    go true = may_small P w
    go false = omega arith

paced_number : (s : List ℕ) (w : ℕ) (M : Memory) (P : List ℕ) → (paced_in s w M P).told.number ≤ 60
unfolding paced_in
paced_number s w M P = turn_either (eqb (held_back w M P) 0) _ _ (omega (arith, turn_number s w M)) (held_small w M P)

either : (b : Bool) (x y : PacedStop) → x.stop.number ≤ 60 → y.stop.number ≤ 60 → (pick b x y).stop.number ≤ 60
either true x y h k = h
either false x y h k = k

drive_number : (s : List ℕ) (who : ℕ → List ℕ → ℕ) (k i : ℕ) (M : Memory) (P : List ℕ) → (paced_drive s who k i M P).stop.number ≤ 60
unfolding paced_drive
drive_number s who zero i M P = omega arith
drive_number s who (suc k) i M P =
    let t : PacedTold = paced_in s (who i P) M P in
    either (over_in M) _ _ (omega arith) (either (eqb t.told.number 0) _ _ (drive_number s who k (suc i) t.told.memory t.pace) (paced_number s (who i P) M P))

pub run_number : (s : List ℕ) (who : ℕ → List ℕ → ℕ) (rounds : Bool) (limit : ℕ) (M : Memory) (P : List ℕ) → (paced_run s who rounds limit M P).stop.number ≤ 60
unfolding paced_run
run_number s who rounds limit M P =
    either (eqb (moved_in M).turns (2 ^ 64 - 1)) _ _ (omega arith) (either (rounds && eqb (get_or M.settings 0 0) 0) _ _ (omega arith) (drive_number s who limit 0 M P))
