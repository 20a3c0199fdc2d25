-- The set of the workers that hold a thread, one bit for each.
use mathlib.Core.Path.{◌≡◌, refl}
use Prim.Native.Nat.{ℕ, zero, suc, ◌+◌, ◌*◌, ◌^◌, ◌≤◌, ◌<◌}
use native.Mathlib.Omega.{arith}
use native.Mathlib.Nat.{le_of_suc-le-suc}
use mathlib.Core.List.{List, [], ◌∷◌}
use mathlib.Core.Bool.{Bool, true, false}
use lib.ListN.{length, get_or, set}
use Rattle.table.specs.Sum.{pick}
use Rattle.schedule.specs.declared.Worker.{Worker}
use Rattle.schedule.specs.Machine.{nobody}
use Rattle.schedule.specs.Record.{set_of}
use Rattle.array_machine.specs.Counted.{busy_after}

-- bit w is in the set where the worker holds a thread, and there is room for it where not
pub record Bit (busy : ℕ) (holds : Bool) (w : ℕ) : Type 0 where
  pub below : w < 16
  pub has : holds ≡ true → 2 ^ w ≤ busy
  pub room : holds ≡ false → busy + 2 ^ w < 65536

power_more : (w : ℕ) → 2 ^ suc w ≡ 2 * 2 ^ w
power_more w = omega arith

-- one worker's bit
bit_has : (l : List Worker) (w : ℕ) → w < length l → (get_or l w nobody).holds ≡ true → 2 ^ w ≤ set_of l
unfolding set_of
bit_has [] w h e = omega arith
bit_has (x ∷ l) zero h e = rw e (omega arith)
bit_has (x ∷ l) (suc w) h e = let i = bit_has l w (le_of_suc-le-suc h) e in omega (arith, power_more w)

set_below : (l : List Worker) → set_of l < 2 ^ length l
unfolding set_of
set_below [] = omega arith
set_below (x ∷ l) = go x.holds (set_below l)
  where
    go : (q : Bool) → set_of l < 2 ^ length l → pick q 1 0 + 2 * set_of l < 2 ^ suc (length l)
    go true h = omega (arith, power_more (length l))
    go false h = omega (arith, power_more (length l))

bit_room : (l : List Worker) (w : ℕ) → w < length l → (get_or l w nobody).holds ≡ false → set_of l + 2 ^ w < 2 ^ length l
unfolding set_of
bit_room [] w h e = omega arith
bit_room (x ∷ l) zero h e = rw e (omega (arith, power_more (length l), set_below l))
bit_room (x ∷ l) (suc w) h e = go x.holds (bit_room l w (le_of_suc-le-suc h) e)
  where
    go : (q : Bool) → set_of l + 2 ^ w < 2 ^ length l → pick q 1 0 + 2 * set_of l + 2 ^ suc w < 2 ^ suc (length l)
    go true i = omega (arith, power_more (length l), power_more w)
    go false i = omega (arith, power_more (length l), power_more w)

pub set_bit : (l : List Worker) (w : ℕ) → length l ≡ 16 → w < 16 → Bit (set_of l) (get_or l w nobody).holds w
set_bit l w n h = record { below = h; has = bit_has l w (omega arith); room = λ e. rw n at (bit_room l w (omega arith) e) }

pub set_busy : (l : List Worker) (w : ℕ) (x : Worker) → w < length l → set_of (set l w x) ≡ busy_after (set_of l) (get_or l w nobody).holds x.holds w
unfolding set_of busy_after
set_busy [] w x h = omega arith
set_busy (y ∷ l) zero x h = go y.holds x.holds
  where
    go : (q z : Bool) → pick z 1 0 + 2 * set_of l ≡ busy_after (pick q 1 0 + 2 * set_of l) q z 0
    go true true = refl
    go true false = omega arith
    go false true = omega arith
    go false false = refl
set_busy (y ∷ l) (suc w) x h = go y.holds (get_or l w nobody).holds x.holds (bit_has l w (le_of_suc-le-suc h)) (set_busy l w x (le_of_suc-le-suc h))
  where
    go : (q b z : Bool) → (b ≡ true → 2 ^ w ≤ set_of l) → set_of (set l w x) ≡ busy_after (set_of l) b z w
        → pick q 1 0 + 2 * set_of (set l w x) ≡ busy_after (pick q 1 0 + 2 * set_of l) b z (suc w)
    go q true true i e = rw e
    go q true false i e = let j : 2 ^ w ≤ set_of l = i refl in rw e (omega (arith, power_more w))
    go q false true i e = rw e (omega (arith, power_more w))
    go q false false i e = rw e
