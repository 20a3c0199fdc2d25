-- A turn or a run in memory is refused with 30, 31 or 32, whatever the memory holds.
use Prim.Native.Nat.{ℕ, zero, suc, ◌-◌, ◌^◌, ◌≤◌}
use native.Mathlib.Omega.{arith}
use mathlib.Core.List.{List, []}
use mathlib.Core.Bool.{Bool, true, false}
use lib.Dec.{ltb, eqb}
use lib.ListN.{length, get_or}
use Rattle.table.specs.Sum.{pick}
use Rattle.table.specs.Format.{table_of}
use Rattle.schedule.specs.declared.Reply.TheVariants.{Idle}
use Rattle.schedule.specs.Machine.{ended}
use Rattle.schedule.specs.Runs.{worker_at}
use Rattle.array_machine.specs.Counted.{Left, turn_on}
use Rattle.run_memory.specs.Memory.{Memory, worker_in, moved_in, memory_after, hindrance, told, turn_left, turn_in}
use Rattle.run_memory.specs.Runs.{Stopped, over_in, drive_in, list_run_in, rounds_run_in}

hindrance_number : (turns p w root : ℕ) → hindrance turns p w root ≤ 32
unfolding hindrance
hindrance_number turns p w root = go (eqb turns (2 ^ 64 - 1)) (ltb w p) (eqb root ended)
  where
    go : (a b c : Bool) → pick a 32 (pick b (pick c 31 0) 30) ≤ 32
    go true b c = omega arith
    go false true true = omega arith
    go false true false = omega arith
    go false false c = omega arith

pub turn_number : (s : List ℕ) (w : ℕ) (M : Memory) → (turn_in s w M).number ≤ 32
unfolding turn_in turn_left
turn_number s w M =
    go (eqb (hindrance (moved_in M).turns (get_or M.settings 0 0) w (get_or M.arrays.status 0 0)) 0)
    (turn_on (table_of s) (get_or M.settings 1 0) M.parents w M.arrays (moved_in M) (worker_in M w)).fits
    (hindrance (moved_in M).turns (get_or M.settings 0 0) w (get_or M.arrays.status 0 0))
    (hindrance_number (moved_in M).turns (get_or M.settings 0 0) w (get_or M.arrays.status 0 0))
    (turn_on (table_of s) (get_or M.settings 1 0) M.parents w M.arrays (moved_in M) (worker_in M w))
  where
    go : (b c : Bool) (n : ℕ) → n ≤ 32 → (z : Left) → (pick b (pick c (told 0 z.reply (memory_after M w z)) (told 32 Idle M)) (told n Idle M)).number ≤ 32
    go true true n h z = omega arith
    go true false n h z = omega arith
    go false c n h z = h

either : (b : Bool) (x y : Stopped) → x.number ≤ 32 → y.number ≤ 32 → (pick b x y).number ≤ 32
either true x y h k = h
either false x y h k = k

drive_number : (s : List ℕ) (who : ℕ → ℕ) (k i : ℕ) (M : Memory) → (drive_in s who k i M).number ≤ 32
unfolding drive_in
drive_number s who zero i M = omega arith
drive_number s who (suc k) i M =
    either (over_in M) _ _ (omega arith) (either (eqb (turn_in s (who i) M).number 0) _ _ (drive_number s who k (suc i) (turn_in s (who i) M).memory) (turn_number s (who i) M))

pub list_number : (s l : List ℕ) (M : Memory) → (list_run_in s l M).number ≤ 32
unfolding list_run_in
list_number s l M = either (eqb (moved_in M).turns (2 ^ 64 - 1)) _ _ (omega arith) (drive_number s (worker_at l false (get_or M.settings 0 0)) (length l) 0 M)

pub rounds_number : (s : List ℕ) (limit : ℕ) (M : Memory) → (rounds_run_in s limit M).number ≤ 32
unfolding rounds_run_in
rounds_number s limit M =
    either (eqb (moved_in M).turns (2 ^ 64 - 1)) _ _ (omega arith)
    (either (eqb (get_or M.settings 0 0) 0) _ _ (omega arith) (drive_number s (worker_at [] true (get_or M.settings 0 0)) limit 0 M))
