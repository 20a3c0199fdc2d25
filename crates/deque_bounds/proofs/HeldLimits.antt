-- Every limit on memory of a row of turns of DFDeques from the beginning, of what is held after it and of the highest so far.
use mathlib.Core.Path.{◌≡◌, subst}
use Prim.Native.Nat.{ℕ, suc, ◌+◌, ◌-◌, ◌*◌, ◌≤◌, ◌<◌}
use native.Mathlib.Omega.{arith}
use native.Mathlib.Nat.{mul-le-mul_left}
use mathlib.Core.List.Memᴰ
use mathlib.Core.List.{List, [], ◌∷◌, ◌++◌, Memᴰ}
use mathlib.Core.Bool.{true}
use Rattle.table.specs.Format.{Table}
use Rattle.table.specs.Level.{D}
use Rattle.table.specs.Nested.{N}
use Rattle.table.specs.Serial.{S1}
use Rattle.order.proofs.Lawful.{Lawful, Within}
use Rattle.schedule.specs.Memory.{Keeps, limit}
use Rattle.schedule.specs.Begin.{start_state}
use Rattle.schedule.proofs.Preservation.Starts.{start_held}
use Rattle.peaks.specs.Peak.{peak_at, workers_peak}
use Rattle.peaks.proofs.Peaks.{peak_rises}
use Rattle.deques.specs.Deques.{Deques, start_deques, deque_turn}
use Rattle.deques.specs.DequeRuns.{Pair}
use Rattle.deques.specs.DequeCalls.{row_deques}
use Rattle.deque_bounds.specs.DequeRows.{far, leaps}
use Rattle.deque_bounds.specs.Deepest.{deepest}
use Rattle.deque_bounds.proofs.SerialLinesTurns.{BelowAll}
use Rattle.deque_bounds.proofs.StealsWithinTurns.{workers_of}
use Rattle.deque_bounds.proofs.DequeLimits.{held_far, held_near}
use Rattle.deque_bounds.proofs.LeapLimits.{held_leaps, held_within}
use Rattle.deque_bounds.proofs.Peaks.{peak_within_lem, keeps_front, leaps_front}
use Rattle.deque_bounds.proofs.DequePeaks.{deepest_under, deque_peak}

-- every choice of the row is below c
abbrev pub Choices : ℕ → List Pair → Type 0
Choices c row = (g : Pair) → Memᴰ g row → g.choice < c

-- the limits of a row of p workers, on a number x of memory
pub record HeldLimits (T : Table) (p K : ℕ) (row : List Pair) (x : ℕ) : Type 0 where
  -- whatever K: by the greatest place robbed, by the choices given, by the workers
  pub deep : x ≤ peak_at T 0 (deepest T K (start_deques T) row)
  pub choices : (c : ℕ) → Choices c row → x ≤ peak_at T 0 c
  pub workers : x ≤ workers_peak T (suc p)
  -- where no alloc is above K: by the steals at places from 1 on, so with choices 0 or one worker from the table alone
  pub places : Within T K → x ≤ S1 T + K * (N T - 1 + far T K (start_deques T) row)
  pub near : Within T K → Choices 1 row → x ≤ S1 T + K * (N T - 1)
  pub alone : Within T K → p ≡ 1 → x ≤ S1 T + K * (N T - 1)
  -- .. and by the leaps, where the row keeps the rule with b: without any it is demand 3's own limit
  pub leaping : Within T K → 2 ≤ p → (b : ℕ) → 1 ≤ b → Keeps b (workers_of row) → x ≤ S1 T + K * (b * (p - 1) * (D T - 1) + leaps T K (start_deques T) row)
  pub within : Within T K → 2 ≤ p → (b : ℕ) → 1 ≤ b → Keeps b (workers_of row) → leaps T K (start_deques T) row ≡ 0 → x ≤ limit T p K b

far_front : (T : Table) (K : ℕ) (front rest : List Pair) (d : Deques) → far T K d front ≤ far T K d (front ++ rest)
unfolding far
far_front T K [] rest d = omega arith
far_front T K (g ∷ front) rest d = omega (arith, far_front T K front rest (deque_turn T K g.worker g.choice d).after)

pub deepest_front : (T : Table) (K : ℕ) (front rest : List Pair) (d : Deques) → deepest T K d front ≤ deepest T K d (front ++ rest)
unfolding deepest
deepest_front T K [] rest d = omega arith
deepest_front T K (g ∷ front) rest d = omega (arith, deepest_front T K front rest (deque_turn T K g.worker g.choice d).after)

module _ (T : Table) (l : Lawful T) (p K : ℕ) (few : p ≤ 16) where
  rises : (r r' : ℕ) → r ≤ r' → peak_at T 0 r ≤ peak_at T 0 r'
  rises r r' h = peak_rises T l (λ a. true) 0 r r' l.some_thread h

  -- what is held after the row
  held_limits : (row : List Pair) → BelowAll p row → HeldLimits T p K row (row_deques T K (start_deques T) row).state.held
  unfolding workers_peak
  held_limits row h =
      let deep : (row_deques T K (start_deques T) row).state.held ≤ peak_at T 0 (deepest T K (start_deques T) row) = deque_peak T l p K few row h in
      let by : (c : ℕ) → Choices c row → (row_deques T K (start_deques T) row).state.held ≤ peak_at T 0 c =
      λ c b. omega (arith, deep, rises (deepest T K (start_deques T) row) c (deepest_under T K c row b (start_deques T))) in
      let near : Within T K → Choices 1 row → (row_deques T K (start_deques T) row).state.held ≤ S1 T + K * (N T - 1) =
      λ s b. held_near T l p K few s row h (λ g m. omega (arith, b g m)) in
      record {
        deep = deep;
        choices = by;
        workers = let e : suc p - 1 ≡ p = omega arith in rw e (by p (λ g m. (h g m).1));
        places = λ s. held_far T l p K few s row h;
        near = near;
        alone = λ s e. near s (λ g m. omega (arith, (h g m).1, e));
        leaping = λ s two b some k. held_leaps T l p K b few s two some row h k;
        within = λ s two b some k z. held_within T l p K b few s two some row h k z;
      }

  -- what limits a front part limits the row
  grown : (front rest : List Pair) (x : ℕ) → HeldLimits T p K front x → HeldLimits T p K (front ++ rest) x
  grown front rest x f =
      record {
        deep = omega (arith, f.deep, rises (deepest T K (start_deques T) front) (deepest T K (start_deques T) (front ++ rest)) (deepest_front T K front rest (start_deques T)));
        choices = λ c b. f.choices c (part c b);
        workers = f.workers;
        places = λ s.
            let y : N T - 1 + far T K (start_deques T) front ≤ N T - 1 + far T K (start_deques T) (front ++ rest) = omega (arith, far_front T K front rest (start_deques T)) in
            omega (arith, f.places s, mul-le-mul_left K y);
        near = λ s b. f.near s (part 1 b);
        alone = f.alone;
        leaping = λ s two b some k.
            let y : b * (p - 1) * (D T - 1) + leaps T K (start_deques T) front ≤ b * (p - 1) * (D T - 1) + leaps T K (start_deques T) (front ++ rest) = omega (arith, leaps_front T K front rest (start_deques T)) in
            omega (arith, f.leaping s two b some (keeps_front b front rest k), mul-le-mul_left K y);
        within = λ s two b some k z. f.within s two b some (keeps_front b front rest k) (omega (arith, z, leaps_front T K front rest (start_deques T)));
      }
    where
      part : (c : ℕ) → Choices c (front ++ rest) → Choices c front
      part c b g m = b g (Memᴰ.append_left rest m)

  module _ (row : List Pair) (h : BelowAll p row) where
    fronts : (front rest : List Pair) → front ++ rest ≡ row → HeldLimits T p K row (row_deques T K (start_deques T) front).state.held
    fronts front rest e =
        subst (λ (k : List Pair). HeldLimits T p K k (row_deques T K (start_deques T) front).state.held) e
        (grown front rest _ (held_limits front (λ g m. h g (subst (λ (k : List Pair). Memᴰ g k) e (Memᴰ.append_left rest m)))))

    most : (x : ℕ) → ((front rest : List Pair) → front ++ rest ≡ row → (row_deques T K (start_deques T) front).state.held ≤ x) → (row_deques T K (start_deques T) row).state.highest ≤ x
    most x f = peak_within_lem T K x row (start_deques T) (let z : (start_state T).highest ≡ 0 = (start_held T l).1 in omega (arith, z)) f

    -- the highest so far
    highest_limits : HeldLimits T p K row (row_deques T K (start_deques T) row).state.highest
    highest_limits =
        record {
          deep = most _ (λ front rest e. (fronts front rest e).deep);
          choices = λ c b. most _ (λ front rest e. (fronts front rest e).choices c b);
          workers = most _ (λ front rest e. (fronts front rest e).workers);
          places = λ s. most _ (λ front rest e. (fronts front rest e).places s);
          near = λ s b. most _ (λ front rest e. (fronts front rest e).near s b);
          alone = λ s i. most _ (λ front rest e. (fronts front rest e).alone s i);
          leaping = λ s two b some k. most _ (λ front rest e. (fronts front rest e).leaping s two b some k);
          within = λ s two b some k z. most _ (λ front rest e. (fronts front rest e).within s two b some k z);
        }

  -- both
  pub row_limits : (row : List Pair) → BelowAll p row
      → HeldLimits T p K row (row_deques T K (start_deques T) row).state.held × HeldLimits T p K row (row_deques T K (start_deques T) row).state.highest
  row_limits row h = (held_limits row h, highest_limits row h)
