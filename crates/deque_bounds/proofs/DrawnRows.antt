-- Along a row from the beginning, what is done beyond an action that is not done drew at most K for each steal begun beyond it.
use mathlib.Core.Path.{◌≡◌, refl, sym, subst, ◌∙◌}
use Prim.Native.Nat.{ℕ, ◌+◌, ◌*◌, ◌≤◌, ◌<◌}
use mathlib.Core.List.Memᴰ
use mathlib.Core.List.{List, [], ◌∷◌, ◌++◌}
use mathlib.Core.Bool.{true, false, ◌&&◌}
use native.Mathlib.Omega.{arith}
use lib.ListN.{get_or}
use lib.Dec.{ltb, eqb}
use Rattle.table.specs.Sum.{pick}
use Rattle.table.specs.Format.{Table}
use Rattle.table.specs.Checks.{owner, alloc_of}
use Rattle.schedule.specs.declared.Worker.{Worker}
use Rattle.schedule.specs.Machine.{State, ready, held, nobody, next_of, status_of, worker_of}
use Rattle.order.specs.Order.{number_of}
use Rattle.schedule.specs.Sound.{is_done}
use Rattle.order.proofs.Lawful.{Lawful, Within}
use Rattle.schedule.proofs.Sound.Facts.{Facts}
use Rattle.deques.specs.Deques.{Deque, deque, nothing, is_empty, bottom, robbed, Deques, over, act_deques}
use Rattle.deques.proofs.DequeTurns.{with_serial, serial_facts}
use Rattle.deques.specs.DequeRuns.{Pair}
use Rattle.deques.specs.Deques.{start_deques}
use Rattle.deques.specs.DequeCalls.{row_deques}
use Rattle.deque_bounds.specs.DequeRows.{starts_at, steals_beyond, steals, steals_far}
use Rattle.deques.specs.Deques.{DequeStep, steal, deque_turn}
use Rattle.deques.proofs.Flat.{Mine, mine}
use Rattle.deque_bounds.proofs.SerialLines.{SerialLines}
use Rattle.deque_bounds.proofs.SerialLinesActs.{stepped}
use Rattle.deque_bounds.proofs.SerialLinesSteals.{steal_serial_lines, steal_holds}
use Rattle.deque_bounds.proofs.SerialLinesTurns.{BelowAll, turn_serial_lines, start_serial_lines}
use Rattle.deques.proofs.DequeTurns.{b_ready}
use Rattle.schedule.specs.Machine.{taken, counted}
use Rattle.schedule.specs.Begin.{start_state}
use Rattle.schedule.proofs.Preservation.Turns.{either}
use Rattle.schedule.proofs.Preservation.Starts.{start_undone, start_worker}
use Rattle.bounds.proofs.Draws.{spent_beyond, stands_beyond, left_beyond, pick_product}
use Rattle.schedule.proofs.Bounds.Acts.{set_ended}
use Rattle.schedule.proofs.Sound.Done.{done_alike}
use Rattle.table.proofs.Sums.{sum_to_cong, sum_to_one, sum_to_zero}
use lib.Seq.{get_or-set_same, get_or-set_other}
use native.Mathlib.Nat.{mul-add}
use Rattle.deque_bounds.proofs.Drawn.{left_over, act_draws, undone_act}

module _ (T : Table) (l : Lawful T) (p K : ℕ) (few : p ≤ 16) (small : Within T K) (w : ℕ) (below : w < p) (v : ℕ) (inside : v < T.actions) where
  act_drawn : (fa : ℕ) (J : ℕ → ℕ) (st : State) (ds : List Deque) → SerialLines T p K fa J (over st ds) → (worker_of st w).holds ≡ true → is_done T (act_deques T K w st ds).after.state v ≡ false
      → (is_done T st v ≡ false) × (left_over T (act_deques T K w st ds).after.state v ≤ left_over T st v)
  act_drawn fa J st ds I h =
      let m : Mine w ds = mine w ds (I.kept.placed.owned w (omega (arith, few, below)) ∙ rw h) in
      let I' : SerialLines T p K fa J (over st (m.front ++ deque w m.threads ∷ m.rest)) = subst (λ (y : List Deque). SerialLines T p K fa J (over st y)) m.whole I in
      let g = stepped T l p K few w below fa J st m.front m.threads m.rest m.clear m.alone I' h in
      subst (λ (y : List Deque). is_done T (act_deques T K w st y).after.state v ≡ false → (is_done T st v ≡ false) × (left_over T (act_deques T K w st y).after.state v ≤ left_over T st v)) (sym m.whole)
      (λ n. (
        undone_act T l p K few w below fa J st m.front m.threads m.rest m.clear m.alone I' h v inside _ g n,
        act_draws T l p K few w below fa J st m.front m.threads m.rest m.clear m.alone I' h v inside small _ g n,
      ))

  module _ (c fa : ℕ) (J : ℕ → ℕ) (D : Deques) (I : SerialLines T p K fa J D) where
    abbrev st : State
    st = D.state

    abbrev b : ℕ
    b = bottom (get_or D.deques c nothing).threads

    module _ (free : (worker_of st w).holds ≡ false) (some : is_empty (get_or D.deques c nothing).threads ≡ false) where
      f : Facts T p K (with_serial T l st)
      f = serial_facts T l p K st I.kept.common

      br : status_of st b ≡ ready
      br = b_ready T l p K few w below c D I.kept free some (eqb (status_of st b) ready) refl

      abbrev y : Worker
      y = record { holds = true; thread = b; quota = K }

      now : worker_of (taken K w b st) w ≡ y
      unfolding taken
      now = get_or-set_same st.workers w y nobody (omega (arith, f.holding.worker_size, few, below))

      same_done : (d : ℕ) → is_done T (taken K w b st) d ≡ is_done T st d
      unfolding taken
      same_done d = done_alike T st d (taken K w b st) refl (set_ended st.status b held refl (rw br) (owner T d))

      others : (u : ℕ) → (u ≡ w → ⊥) → worker_of (taken K w b st) u ≡ worker_of st u
      unfolding taken
      others u n = get_or-set_other st.workers w u y nobody n

      same_next : (u : ℕ) → next_of (taken K w b st) u ≡ next_of st u
      unfolding taken
      same_next u = refl

      stands_w : stands_beyond T (taken K w b st) v w ≡ ltb (number_of T v) (number_of T (starts_at c D))
      unfolding stands_beyond
      stands_w = rw (now, same_next b)

      stands_u : (u : ℕ) → (u ≡ w → ⊥) → stands_beyond T (taken K w b st) v u ≡ stands_beyond T st v u
      unfolding stands_beyond
      stands_u u n = rw (others u n, same_next (worker_of st u).thread)

      stands_free : stands_beyond T st v w ≡ false
      unfolding stands_beyond
      stands_free = rw free

      steals_is : steals_beyond T w c D v ≡ pick (ltb (number_of T v) (number_of T (starts_at c D))) 1 0
      unfolding steals_beyond
      steals_is = rw (free, some)

      steal_left : left_over T (taken K w b st) v ≤ left_over T st v + K * steals_beyond T w c D v
      unfolding spent_beyond left_beyond
      steal_left =
          omega (
            arith,
            sum_to_cong (spent_at (taken K w b st)) (spent_at st) T.actions (λ d i. rw (same_done d)),
            sum_to_one (left_at (taken K w b st)) (left_at st) w 16 (omega (arith, few, below)) (λ u i n. rw (stands_u u n, others u n)),
            had,
            none,
            product,
          )
        where
          spent_at : State → ℕ → ℕ
          spent_at s d = pick (is_done T s d && ltb (number_of T v) (number_of T d)) (alloc_of T d) 0

          left_at : State → ℕ → ℕ
          left_at s u = pick (stands_beyond T s v u) (worker_of s u).quota 0

          had : left_at (taken K w b st) w ≡ pick (ltb (number_of T v) (number_of T (starts_at c D))) K 0
          had = rw (stands_w, now)

          none : left_at st w ≡ 0
          none = rw stands_free

          product : K * steals_beyond T w c D v ≡ pick (ltb (number_of T v) (number_of T (starts_at c D))) K 0
          product = rw steals_is (pick_product (ltb (number_of T v) (number_of T (starts_at c D))) K)

    abbrev Drew : State → Type 0
    Drew s = is_done T s v ≡ false → (is_done T st v ≡ false) × (left_over T s v ≤ left_over T st v + K * steals_beyond T w c D v)

    stolen_drew : (e : (worker_of st w).holds ≡ false) → (i : is_empty (get_or D.deques c nothing).threads ≡ false) → Drew (act_deques T K w (taken K w b st) (robbed w c D.deques)).after.state
    stolen_drew e i n =
        let (z, y) = act_drawn (fa + steals_far w c D) (λ x. J x + steals_beyond T w c D x) (taken K w b st) (robbed w c D.deques) (steal_serial_lines T l p K few w below c fa J D I e i) (steal_holds T l p K few w below c fa J D I e i) n in
        (sym (same_done e i v) ∙ z, omega (arith, y, steal_left e i))

    drew_counted : (s : State) → Drew s → Drew (counted s)
    unfolding spent_beyond left_beyond stands_beyond
    drew_counted E g n = g n

    pub turn_drew : Drew (deque_turn T K w c D).after.state
    unfolding deque_turn steal
    turn_drew =
        drew_counted _
        (either (λ (y : DequeStep). Drew y.after.state) (worker_of st w).holds _ _
        (λ e n. let (z, y) = act_drawn fa J st D.deques I e n in (z, omega (arith, y)))
        (λ e. either (λ (y : DequeStep). Drew y.after.state) (is_empty (get_or D.deques c nothing).threads) _ _
        (λ i n. (n, omega arith))
        (λ i. stolen_drew e i)))

-- ---- a row

module _ (T : Table) (l : Lawful T) (p K : ℕ) (few : p ≤ 16) (small : Within T K) (v : ℕ) (inside : v < T.actions) where
  pub row_drew : (row : List Pair) → BelowAll p row → (fa : ℕ) (J : ℕ → ℕ) (D : Deques) → SerialLines T p K fa J D → is_done T (row_deques T K D row).state v ≡ false
      → (is_done T D.state v ≡ false) × (left_over T (row_deques T K D row).state v ≤ left_over T D.state v + K * steals T K D row v)
  unfolding row_deques steals
  row_drew [] h fa J D I n = (n, omega arith)
  row_drew (g ∷ row) h fa J D I n =
      let w : ℕ = g.worker in
      let c : ℕ = g.choice in
      let i : w < p = (h g (Memᴰ.head refl)).0 in
      let E : Deques = (deque_turn T K w c D).after in
      let (z, y) = row_drew row (λ y m. h y (Memᴰ.tail m)) (fa + steals_far w c D) (λ x. J x + steals_beyond T w c D x) E (turn_serial_lines T l p K few w i c fa J D I) n in
      let (z', y') = turn_drew T l p K few small w i v inside c fa J D I z in
      (z', omega (arith, y, y', mul-add K (steals_beyond T w c D v) (steals T K E row v)))

  start_left : left_over T (start_deques T).state v ≡ 0
  unfolding spent_beyond left_beyond stands_beyond
  start_left =
      omega (
        arith,
        sum_to_zero (λ a. pick (is_done T (start_state T) a && ltb (number_of T v) (number_of T a)) (alloc_of T a) 0) T.actions (λ a j. rw (start_undone T l a j)),
        sum_to_zero (λ w. pick (stands_beyond T (start_state T) v w) (worker_of (start_state T) w).quota 0) 16 (λ w j. rw (start_worker T l w)),
      )

  pub draws_few : (row : List Pair) → BelowAll p row → is_done T (row_deques T K (start_deques T) row).state v ≡ false
      → spent_beyond T (alloc_of T) (row_deques T K (start_deques T) row).state v ≤ K * steals T K (start_deques T) row v
  draws_few row h n = omega (arith, (row_drew row h 0 (λ x. 0) (start_deques T) (start_serial_lines T l p K few) n).1, start_left)
