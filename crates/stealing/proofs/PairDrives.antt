-- A run over pairs in lent memory goes turn by turn.
use mathlib.Core.Path.{◌≡◌, sym, ap, ◌∙◌}
use Prim.Native.Nat.{ℕ, suc, ◌+◌, ◌-◌, ◌*◌, ◌/◌, ◌≤◌, ◌<◌}
use native.Mathlib.Omega.{arith}
use mathlib.Core.List.{List}
use mathlib.Core.Bool.{Bool, true, false}
use borrow.Author.Tests.{eq-eqb, ne_eqb}
use lib.Dec.{eqb}
use lib.ListN.{length, get_or}
use Rattle.table.specs.Format.{table_of}
use Rattle.run_memory.specs.Memory.{Memory, worker_in, moved_in, Told}
use Rattle.run_memory.proofs.Drives.{nothing_moved}
use Rattle.run_memory.specs.Runs.{Stopped, stopped, over_in}
use Rattle.deques.specs.DequeRuns.{Pair, pair_at}
use Rattle.stealing.specs.Stealing.{deque_turn_on}
use Rattle.stealing.specs.StealingMemory.{deque_hindrance, deque_turn_in, deque_drive_in, deque_list_in}

-- a turn that is refused moves nothing
pub refused_same : (s : List ℕ) (w c : ℕ) (M : Memory) → ((deque_turn_in s w c M).number ≡ 0 → ⊥) → (deque_turn_in s w c M).memory ≡ M
unfolding deque_turn_in
refused_same s w c M =
    let number : ℕ = deque_hindrance (moved_in M).turns (get_or M.settings 0 0) w c (get_or M.arrays.status 0 0) in
    nothing_moved M w (eqb number 0) number (deque_turn_on (table_of s) (get_or M.settings 1 0) M.parents w c M.arrays (moved_in M) (worker_in M w))

-- what is left of a run of at most `limit` turns after i of them is the whole
pub record Along (s : List ℕ) (who : ℕ → Pair) (limit : ℕ) (M₀ M : Memory) (i : ℕ) : Type 0 where
  pub within : i ≤ limit
  pub remains : deque_drive_in s who (limit - i) i M ≡ deque_drive_in s who limit 0 M₀

pub first_along : (s : List ℕ) (who : ℕ → Pair) (limit : ℕ) (M : Memory) → Along s who limit M M 0
first_along s who limit M = let e : limit - 0 ≡ limit = omega arith in record { within = omega arith; remains = rw e }

module _ {s : List ℕ} {who : ℕ → Pair} {limit : ℕ} {M₀ M : Memory} {i : ℕ} (v : Along s who limit M₀ M i) where
  abbrev whole : Stopped
  whole = deque_drive_in s who limit 0 M₀

  pub spent : {q : Bool} → q ≡ over_in M → limit ≤ i → stopped 0 q i M ≡ whole
  unfolding deque_drive_in
  spent {q} e h =
      let z : limit - i ≡ 0 = omega (arith, h) in
      ap (λ (b : Bool). stopped 0 b i M) e ∙ (rw z at v.remains)

  -- as the loop's end says it
  pub spent_at : {q : Bool} {n : ℕ} → q ≡ over_in M → n ≡ limit → limit ≤ i → stopped 0 q n M ≡ whole
  spent_at {q} e d h = let z : limit ≡ i = omega (arith, h, v.within) in ap (λ (j : ℕ). stopped 0 q j M) (d ∙ z) ∙ spent e h

  module _ (h : i < limit) where
    here : deque_drive_in s who (suc (limit - (i + 1))) i M ≡ whole
    here = let n : limit - i ≡ suc (limit - (i + 1)) = omega (arith, h) in ap (λ (k : ℕ). deque_drive_in s who k i M) (sym n) ∙ v.remains

    -- "a run stops at the root's end"
    pub root_stops : over_in M ≡ true → stopped 0 true i M ≡ whole
    unfolding deque_drive_in
    root_stops e = rw e at here

    module _ (g : over_in M ≡ false) {w c : ℕ} (q : w ≡ (who i).worker) (p : c ≡ (who i).choice) {t : Told} (e : t ≡ deque_turn_in s w c M) where
      there : t ≡ deque_turn_in s (who i).worker (who i).choice M
      there = e ∙ (λ j. deque_turn_in s (q j) (p j) M)

      pub hindered : (t.number ≡ 0 → ⊥) → stopped t.number false i t.memory ≡ whole
      unfolding deque_drive_in
      hindered d =
          let m : t.memory ≡ M = ap (λ (x : Told). x.memory) e ∙ refused_same s w c M (λ z. d (ap (λ (x : Told). x.number) e ∙ z)) in
          ap (stopped t.number false i) m ∙ (rw (g, ← there, ne_eqb t.number 0 d) at here)

      pub again : t.number ≡ 0 → Along s who limit M₀ t.memory (i + 1)
      unfolding deque_drive_in
      again d =
          let n : suc i ≡ i + 1 = omega arith in
          record { within = omega (arith, h); remains = ap (λ (k : ℕ). deque_drive_in s who (limit - (i + 1)) k t.memory) (sym n) ∙ (rw (g, ← there, d) at here) }

-- the pair of bytes that was read
pub worker_read : (l : List ℕ) (i : ℕ) {x : ℕ} → x ≡ get_or l (2 * i) 0 → x ≡ (pair_at l i).worker
unfolding pair_at
worker_read l i e = e

pub choice_read : (l : List ℕ) (i : ℕ) {x : ℕ} → x ≡ get_or l (2 * i + 1) 0 → x ≡ (pair_at l i).choice
unfolding pair_at
choice_read l i e = let n : 2 * i + 1 ≡ suc (2 * i) = omega arith in e ∙ ap (λ (k : ℕ). get_or l k 0) n

-- ---- the call

module _ (s l : List ℕ) (M : Memory) where
  -- no turn can be counted
  pub full_list : (moved_in M).turns ≡ 18446744073709551615 → stopped 32 false 0 M ≡ deque_list_in s l M
  unfolding deque_list_in
  full_list h = rw (eq-eqb (moved_in M).turns 18446744073709551615 h)

  pub driven_list : ((moved_in M).turns ≡ 18446744073709551615 → ⊥) → {d : Stopped} → d ≡ deque_drive_in s (pair_at l) (length l / 2) 0 M → d ≡ deque_list_in s l M
  unfolding deque_list_in
  driven_list h e = e ∙ rw (ne_eqb (moved_in M).turns 18446744073709551615 h)
