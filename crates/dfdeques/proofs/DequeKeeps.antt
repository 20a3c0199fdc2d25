-- A turn or a run in memory, whatever it holds, leaves p and K as they are, and is refused with a number of at most 49.
use mathlib.Core.Path.{◌≡◌, refl, ◌∙◌}
use Prim.Native.Nat.{ℕ, zero, suc, ◌-◌, ◌^◌, ◌/◌, ◌≤◌, ◌<◌}
use native.Mathlib.Omega.{arith}
use mathlib.Core.List.{List}
use mathlib.Core.Bool.{Bool, true, false}
use borrow.Author.Tests.{ne_eqb, le-ltb, lt-ltb}
use lib.Dec.{ltb, eqb}
use lib.ListN.{length, get_or}
use Rattle.table.specs.Sum.{pick}
use Rattle.table.specs.Format.{table_of}
use Rattle.schedule.specs.declared.Reply.TheVariants.{Idle}
use Rattle.schedule.specs.Machine.{ended}
use Rattle.array_machine.specs.Counted.{Left}
use Rattle.run_memory.specs.Memory.{Memory, worker_in, moved_in, memory_after, Told, told, turn_left}
use Rattle.run_memory.specs.Runs.{Stopped, stopped, over_in}
use Rattle.deques.specs.DequeRuns.{Pair, pair_at}
use Rattle.stealing.specs.Stealing.{deque_turn_on}
use Rattle.stealing.specs.StealingMemory.{deque_hindrance, deque_turn_in, deque_drive_in, deque_list_in}

pub record Keeps (M : Memory) (number : ℕ) (M' : Memory) : Type 0 where
  pub settings : M'.settings ≡ M.settings
  pub small : number ≤ 49

hindrance_small : (turns p w c root : ℕ) → deque_hindrance turns p w c root ≤ 49
unfolding deque_hindrance
hindrance_small turns p w c root = go (eqb turns (2 ^ 64 - 1)) (ltb w p) (eqb root ended) (ltb c p)
  where
    go : (a b e f : Bool) → pick a 32 (pick b (pick e 31 (pick f 0 49)) 30) ≤ 49
    go true b e f = omega arith
    go false true true f = omega arith
    go false true false true = omega arith
    go false true false false = omega arith
    go false false e f = omega arith

-- what is told of a turn
abbrev left : Memory → ℕ → Bool → Bool → ℕ → Left → Told
left M w b f n z = pick b (pick f (told 0 z.reply (memory_after M w z)) (told 32 Idle M)) (told n Idle M)

pub turn_keeps : (s : List ℕ) (w c : ℕ) (M : Memory) → Keeps M (deque_turn_in s w c M).number (deque_turn_in s w c M).memory
unfolding deque_turn_in turn_left
turn_keeps s w c M =
    go (eqb (deque_hindrance (moved_in M).turns (get_or M.settings 0 0) w c (get_or M.arrays.status 0 0)) 0)
    (deque_turn_on (table_of s) (get_or M.settings 1 0) M.parents w c M.arrays (moved_in M) (worker_in M w)).fits
    (deque_hindrance (moved_in M).turns (get_or M.settings 0 0) w c (get_or M.arrays.status 0 0))
    (hindrance_small (moved_in M).turns (get_or M.settings 0 0) w c (get_or M.arrays.status 0 0))
    (deque_turn_on (table_of s) (get_or M.settings 1 0) M.parents w c M.arrays (moved_in M) (worker_in M w))
  where
    go : (b f : Bool) (n : ℕ) → n ≤ 49 → (z : Left) → Keeps M (left M w b f n z).number (left M w b f n z).memory
    go true true n h z = record { settings = refl; small = omega arith }
    go true false n h z = record { settings = refl; small = omega arith }
    go false f n h z = record { settings = refl; small = h }

abbrev Keeping : Memory → Stopped → Type 0
Keeping M d = Keeps M d.number d.memory

here : (M : Memory) (number : ℕ) → number ≤ 49 → Keeps M number M
here M number h = record { settings = refl; small = h }

either : (M : Memory) (b : Bool) (x y : Stopped) → Keeping M x → Keeping M y → Keeping M (pick b x y)
either M true x y e f = e
either M false x y e f = f

drive_on : (s : List ℕ) (who : ℕ → Pair) (k i : ℕ) (M : Memory) (t : Told) → Keeps M t.number t.memory → Keeping t.memory (deque_drive_in s who k (suc i) t.memory)
    → Keeping M (pick (over_in M) (stopped 0 true i M) (pick (eqb t.number 0) (deque_drive_in s who k (suc i) t.memory) (stopped t.number false i M)))
drive_on s who k i M t v rest =
    either M (over_in M) _ _ (here M 0 (omega arith))
    (either M (eqb t.number 0) _ _ (record { settings = rest.settings ∙ v.settings; small = rest.small }) (here M t.number v.small))

drive_keeps : (s : List ℕ) (who : ℕ → Pair) (k i : ℕ) (M : Memory) → Keeping M (deque_drive_in s who k i M)
unfolding deque_drive_in
drive_keeps s who zero i M = here M 0 (omega arith)
drive_keeps s who (suc k) i M =
    drive_on s who k i M (deque_turn_in s (who i).worker (who i).choice M) (turn_keeps s (who i).worker (who i).choice M)
    (drive_keeps s who k (suc i) (deque_turn_in s (who i).worker (who i).choice M).memory)

pub list_keeps : (s l : List ℕ) (M : Memory) → Keeping M (deque_list_in s l M)
unfolding deque_list_in
list_keeps s l M = either M (eqb (moved_in M).turns (2 ^ 64 - 1)) _ _ (here M 32 (omega arith)) (drive_keeps s (pair_at l) (length l / 2) 0 M)

-- ---- a run of no workers, as the blank record is, whatever stands beside it

module _ (s : List ℕ) (M : Memory) (n : get_or M.settings 0 0 ≡ 0) (k : (moved_in M).turns ≡ 2 ^ 64 - 1 → ⊥) where
  pub no_deque_turn : (w c : ℕ) → deque_turn_in s w c M ≡ told 30 Idle M
  unfolding deque_turn_in deque_hindrance
  no_deque_turn w c = rw (ne_eqb (moved_in M).turns (2 ^ 64 - 1) k, n, le-ltb w 0 (omega arith))

  no_drive : over_in M ≡ false → (who : ℕ → Pair) (m : ℕ) → deque_drive_in s who m 0 M ≡ pick (ltb 0 m) (stopped 30 false 0 M) (stopped 0 false 0 M)
  unfolding deque_drive_in
  no_drive o who zero = rw o
  no_drive o who (suc m) = rw (o, no_deque_turn (who 0).worker (who 0).choice, lt-ltb 0 (suc m) (omega arith))

  pub no_pairs : over_in M ≡ false → (l : List ℕ) → deque_list_in s l M ≡ pick (ltb 0 (length l / 2)) (stopped 30 false 0 M) (stopped 0 false 0 M)
  unfolding deque_list_in
  no_pairs o l = rw (ne_eqb (moved_in M).turns (2 ^ 64 - 1) k) (no_drive o (pair_at l) (length l / 2))
