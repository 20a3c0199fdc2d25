-- DFDeques: from a beginning, whatever the order and the choices, every live thread that nobody holds stands at its first action, right after a fork, at a join or at an alloc; so at most p
-- threads stand elsewhere, and held is within the root's peak at load c with p threads off.
use mathlib.Core.Path.{◌≡◌, refl, subst}
use Prim.Native.Nat.{ℕ, zero, suc, ◌+◌, ◌≤◌, ◌<◌}
use native.Mathlib.Omega.{arith}
use mathlib.Core.List.Memᴰ
use mathlib.Core.List.{List, [], ◌∷◌, ◌++◌, Memᴰ}
use mathlib.Core.Bool.{Bool, true, false}
use lib.ListN.{length, get_or}
use lib.Seq.{get_or-set_same}
use Rattle.table.specs.Format.{Table, kind}
use Rattle.table.specs.declared.kinds.Kind.{Kind}
use Rattle.table.specs.declared.kinds.Kind.TheVariants.{End as end, Work as work, Alloc as alloc, Free as free, Fork as fork, Join as join, Unknown as unknown}
use Rattle.schedule.specs.declared.Worker.{Worker}
use Rattle.schedule.specs.Machine.{State, ready, next_of, status_of, worker_of, nobody, parent_of, waits_for, with_list, Stepped, act, taken, counted}
use Rattle.schedule.specs.Begin.{start_state}
use Rattle.order.proofs.Lawful.{Lawful}
use Rattle.schedule.proofs.Sound.Facts.{Facts}
use Rattle.schedule.proofs.SerialLive.{serial_live}
use Rattle.schedule.proofs.Preservation.Turns.{either}
use Rattle.schedule.proofs.Preservation.Starts.{start_next_lem, start_unborn, start_held}
use Rattle.peaks.proofs.Unpreempted.{Stands}
use Rattle.sharp.specs.Off.{rests_any, peak_off}
use Rattle.sharp.proofs.OffRests.{any_alloc, under_any, under_first, under_fork, under_join, under_end}
use Rattle.sharp.proofs.OffPeaks.{peak_off_rises}
use Rattle.sharp.proofs.OffHeld.{off_common}
use Rattle.sharp.proofs.Placed.{Placed, Rests, placed_act, placed_taken}
use Rattle.deques.specs.Deques.{Deque, Deques, over, nothing, is_empty, bottom, place_of, robbed, goes_to, goes_on, let_go, DequeStep, act_deques, steal, deque_turn, start_deques}
use Rattle.deques.specs.DequeRuns.{Pair}
use Rattle.deques.specs.DequeCalls.{row_deques}
use Rattle.deques.proofs.ActCommon.{CommonIn, Beside, beside, act_common}
use Rattle.deques.proofs.DequeTurns.{Kept, with_serial, serial_facts, taken_common, b_below, b_ready}
use Rattle.deque_bounds.specs.Deepest.{deepest}
use Rattle.deque_bounds.proofs.SerialLines.{SerialLines}
use Rattle.deque_bounds.proofs.SerialLinesTurns.{BelowAll, turn_serial_lines, start_serial_lines, from_start}
use Rattle.deque_bounds.specs.DequeRows.{steals_beyond, steals_far}
use Rattle.deque_bounds.proofs.Peaks.{peak_within_lem}
use Rattle.deque_bounds.proofs.DequePeaks.{deepest_under, deque_light}
use Rattle.deque_bounds.proofs.HeldLimits.{Choices, deepest_front}

-- ---- places of rest, whatever K

any_rests : (T : Table) (l : Lawful T) → Rests T (rests_any T)
any_rests T l =
    record {
      first = λ t h. under_any T 0 (T.first t) (under_first T 0 l t h);
      forked = λ a k. under_any T 0 (suc a) (under_fork T 0 a k);
      joins = λ a k. under_any T 0 a (under_join T 0 a k);
    }

abbrev PlacedAny : Table → State → Type 0
PlacedAny T st = Placed T (rests_any T) st

-- ---- a turn

module _ (T : Table) (l : Lawful T) (p K : ℕ) (few : p ≤ 16) (w : ℕ) (below : w < p) where
  wide : (st : State) → CommonIn T p K st → T.threads ≤ length st.status
  wide st c = omega (arith, (serial_facts T l p K st c).status_size, l.few_threads)

  takes : (q t : ℕ) (st : State) → CommonIn T p K st → PlacedAny T st → PlacedAny T (taken q w t st)
  takes q t st c x = placed_taken T (rests_any T) q w t st (wide st c) x

  goes_to_lem : (q : ℕ) (st : State) (ds : List Deque) (k : List ℕ) → CommonIn T p K st → PlacedAny T st → PlacedAny T (goes_to q w st ds k).state
  goes_to_lem q st ds [] c x = x
  goes_to_lem q st ds (t ∷ k) c x = takes q t st c x

  -- a worker that was released may take another thread
  lets_go : (k : Kind) (wakes : Bool) (q t y u : ℕ) (st : State) (ds : List Deque) → CommonIn T p K st → PlacedAny T st → PlacedAny T (let_go k wakes q w t y u st ds).state
  unfolding let_go goes_on
  lets_go end true q t y u st ds c x = takes q u st c x
  lets_go end false q t y u st ds c x = goes_to_lem q st ds (get_or ds (place_of w ds) nothing).threads c x
  lets_go work b q t y u st ds c x = x
  lets_go alloc b q t y u st ds c x = x
  lets_go free b q t y u st ds c x = x
  lets_go fork b q t y u st ds c x = takes q y st c x
  lets_go join b q t y u st ds c x = goes_to_lem q st ds (get_or ds (place_of w ds) nothing).threads c x
  lets_go unknown b q t y u st ds c x = x

  acts : (st : State) → CommonIn T p K st → (worker_of st w).holds ≡ true → PlacedAny T st → PlacedAny T (act T K w st).state
  acts st c h x =
      let k : List ℕ = serial_live T st.next st.status l in
      let y : Beside T K w k st = beside T K w k st in
      unlisted y.list (act T K w st).state
      (subst (λ (s : Stepped). PlacedAny T s.state) y.same
      (placed_act T l p K (rests_any T) (any_rests T l) w (omega (arith, few, below)) (with_serial T l st) (serial_facts T l p K st c) (record { at_rest = x.at_rest }) h
      (λ e z. any_alloc T (next_of st (worker_of st w).thread) e)))
    where
      unlisted : (k : List ℕ) (s : State) → PlacedAny T (with_list k s) → PlacedAny T s
      unlisted k s y = record { at_rest = y.at_rest }

  acts_deques : (st : State) (ds : List Deque) → CommonIn T p K st → (worker_of st w).holds ≡ true → PlacedAny T st → PlacedAny T (act_deques T K w st ds).after.state
  unfolding act_deques
  acts_deques st ds c h x =
      let t : ℕ = (worker_of st w).thread in
      let s : State = (act T K w st).state in
      either (λ (D : Deques). PlacedAny T D.state) (worker_of s w).holds (over s ds) _ (λ i. acts st c h x)
      (λ i.
      lets_go (kind T (next_of st t)) (waits_for T st (parent_of T t) t) (worker_of st w).quota t (T.argument (next_of st t)) (parent_of T t) s ds (act_common T l p K few w below st c h)
      (acts st c h x))

  module _ (c : ℕ) (D : Deques) (k : Kept T p K D) (x : PlacedAny T D.state) where
    abbrev b : ℕ
    b = bottom (get_or D.deques c nothing).threads

    stolen : (worker_of D.state w).holds ≡ false → is_empty (get_or D.deques c nothing).threads ≡ false
        → PlacedAny T (act_deques T K w (taken K w (bottom (get_or D.deques c nothing).threads) D.state) (robbed w c D.deques)).after.state
    unfolding taken
    stolen e i =
        let f : Facts T p K (with_serial T l D.state) = serial_facts T l p K D.state k.common in
        let r : status_of D.state b ≡ ready = b_ready T l p K few w below c D k e i _ refl in
        let y : Worker = record { holds = true; thread = b; quota = K } in
        acts_deques (taken K w b D.state) (robbed w c D.deques)
        (taken_common T l p K w few below D.state k.common e K b (omega arith) (b_below T l p K few w below c D k e i) r)
        (rw (get_or-set_same D.state.workers w y nobody (omega (arith, f.holding.worker_size, few, below)))) (takes K b D.state k.common x)

    turn_placed : PlacedAny T (deque_turn T K w c D).after.state
    unfolding deque_turn steal
    turn_placed =
        counts
        (either (λ (s : DequeStep). PlacedAny T s.after.state) (worker_of D.state w).holds _ _ (λ e. acts_deques D.state D.deques k.common e x)
        (λ e. either (λ (s : DequeStep). PlacedAny T s.after.state) (is_empty (get_or D.deques c nothing).threads) _ _ (λ i. x) (λ i. stolen e i)))
      where
        counts : {z : State} → PlacedAny T z → PlacedAny T (counted z)
        counts y = record { at_rest = y.at_rest }

-- ---- rows of turns from the beginning

-- the limits by resting places of a row of p workers, on a number x of memory, whatever K: by the greatest place robbed, by the choices given, by the workers
pub record RestLimits (T : Table) (p K : ℕ) (row : List Pair) (x : ℕ) : Type 0 where
  pub deep : x ≤ peak_off T (rests_any T) 0 (deepest T K (start_deques T) row) p
  pub choices : (c : ℕ) → Choices c row → x ≤ peak_off T (rests_any T) 0 c p
  pub workers : x ≤ peak_off T (rests_any T) 0 p p

module _ (T : Table) (l : Lawful T) (p K : ℕ) (few : p ≤ 16) where
  start_placed : PlacedAny T (start_deques T).state
  start_placed = record { at_rest = go }
    where
      go : (t : ℕ) → t < T.threads → Stands (status_of (start_state T) t) → rests_any T (next_of (start_state T) t) ≡ true
      go zero h s = rw (start_next_lem T l 0 h) (under_any T 0 (T.first 0) (under_first T 0 l 0 h))
      go (suc t) h s = absurd (s.0 (start_unborn T l (suc t) (omega arith)))

  row_placed : (row : List Pair) → BelowAll p row → (fa : ℕ) (J : ℕ → ℕ) (D : Deques) → SerialLines T p K fa J D → PlacedAny T D.state → PlacedAny T (row_deques T K D row).state
  unfolding row_deques
  row_placed [] h fa J D I x = x
  row_placed (g ∷ row) h fa J D I x =
      let w : ℕ = g.worker in
      let i : ℕ = g.choice in
      let b : w < p = (h g (Memᴰ.head refl)).0 in
      row_placed row (λ y m. h y (Memᴰ.tail m)) (fa + steals_far w i D) (λ z. J z + steals_beyond T w i D z) (deque_turn T K w i D).after (turn_serial_lines T l p K few w b i fa J D I)
      (turn_placed T l p K few w b i D I.kept x)

  -- (R)
  pub deque_placed : (row : List Pair) → BelowAll p row → (t : ℕ) → t < T.threads → Stands (status_of (row_deques T K (start_deques T) row).state t)
      → rests_any T (next_of (row_deques T K (start_deques T) row).state t) ≡ true
  deque_placed row h = (row_placed row h 0 (λ x. 0) (start_deques T) (start_serial_lines T l p K few) start_placed).at_rest

  off_rises : (r r' : ℕ) → r ≤ r' → peak_off T (rests_any T) 0 r p ≤ peak_off T (rests_any T) 0 r' p
  off_rises r r' h = peak_off_rises T l (rests_any T) (rests_any T) (λ t k i j e. e) 0 r r' p p l.some_thread h (omega arith)

  pub deque_off : (row : List Pair) → BelowAll p row → (row_deques T K (start_deques T) row).state.held ≤ peak_off T (rests_any T) 0 (deepest T K (start_deques T) row) p
  deque_off row h =
      let after : State = (row_deques T K (start_deques T) row).state in
      off_common T l p K after.next after.status after.amounts after.workers after.held after.highest (from_start T l p K few row h).kept.common
      (deepest T K (start_deques T) row) (deque_light T l p K few row h) (rests_any T) (λ a k. under_any T 0 (suc a) (under_end T 0 a k)) (deque_placed row h)

  -- of what is held after a front part, and of the highest
  module _ (row : List Pair) (h : BelowAll p row) where
    fronts : (front rest : List Pair) → front ++ rest ≡ row → (row_deques T K (start_deques T) front).state.held ≤ peak_off T (rests_any T) 0 (deepest T K (start_deques T) row) p
    fronts front rest e =
        let z : BelowAll p front = λ g m. h g (subst (λ (k : List Pair). Memᴰ g k) e (Memᴰ.append_left rest m)) in
        let y : deepest T K (start_deques T) front ≤ deepest T K (start_deques T) row =
        subst (λ (k : List Pair). deepest T K (start_deques T) front ≤ deepest T K (start_deques T) k) e (deepest_front T K front rest (start_deques T)) in
        omega (arith, deque_off front z, off_rises (deepest T K (start_deques T) front) (deepest T K (start_deques T) row) y)

    limits : (x : ℕ) → x ≤ peak_off T (rests_any T) 0 (deepest T K (start_deques T) row) p → RestLimits T p K row x
    limits x d =
        let by : (c : ℕ) → Choices c row → x ≤ peak_off T (rests_any T) 0 c p =
        λ c b. omega (arith, d, off_rises (deepest T K (start_deques T) row) c (deepest_under T K c row b (start_deques T))) in
        record { deep = d; choices = by; workers = by p (λ g m. (h g m).1) }

    pub rest_limits : RestLimits T p K row (row_deques T K (start_deques T) row).state.held × RestLimits T p K row (row_deques T K (start_deques T) row).state.highest
    rest_limits = (
      limits _ (deque_off row h),
      limits _ (peak_within_lem T K _ row (start_deques T) (let z : (start_state T).highest ≡ 0 = (start_held T l).1 in omega (arith, z)) fronts),
    )
