-- Memory held as demand 3 reads it, from the replies and the table alone, is the record's: so the limits hold of it.
use mathlib.Core.Path.{◌≡◌, refl, ap, subst}
use Prim.Native.Nat.{ℕ, ◌+◌, ◌-◌, ◌*◌, ◌≤◌, ◌<◌}
use mathlib.Core.List.{List, [], ◌∷◌, Memᴰ}
use mathlib.Core.Bool.{true, false}
use native.Mathlib.Omega.{arith}
use lib.ListN.{get_or}
use Rattle.table.specs.Format.{Table, kind}
use Rattle.table.specs.Checks.{alloc_of, free_of}
use Rattle.table.specs.Nested.{N}
use Rattle.table.specs.Serial.{S1}
use Rattle.schedule.specs.declared.Reply.{Reply}
use Rattle.schedule.specs.declared.Worker.{Worker}
use lib.Seq.{get_or-set_same}
use Rattle.schedule.specs.Machine.{State, nobody, next_of, worker_of, parent_of, waits_for, Stepped, stepped, act, taken, counted, turn_of}
use Rattle.schedule.specs.Memory.{of_reply, sum_replies, Keeps, limit}
use Rattle.order.proofs.Lawful.{Lawful, Within}
use Rattle.schedule.proofs.Sound.Facts.{Facts}
use Rattle.schedule.proofs.Preservation.Turns.{either}
use Rattle.schedule.proofs.Preservation.Starts.{start_held}
use Rattle.schedule.proofs.Runs.Replies.{Amounts, turn_amounts}
use Rattle.deques.specs.Deques.{Deque, Deques, over, nothing, is_empty, bottom, robbed, DequeStep, act_deques, steal, deque_turn}
use Rattle.deques.specs.DequeRuns.{Pair}
use Rattle.deques.specs.Deques.{start_deques}
use Rattle.deques.specs.DequeCalls.{row_deques}
use Rattle.deque_bounds.specs.DequeRows.{leaps, row_replies, deque_memory}
use Rattle.schedule.proofs.SerialLive.{serial_live}
use Rattle.deques.proofs.ActCommon.{CommonIn, Beside, beside}
use Rattle.deques.proofs.DequeTurns.{Kept, with_serial, serial_facts, turn_kept, taken_common, b_below, b_ready}
use Rattle.deque_bounds.proofs.SerialLinesTurns.{BelowAll, start_serial_lines}
use Rattle.deque_bounds.proofs.Peaks.{go_same}
use Rattle.deque_bounds.proofs.DequeLimits.{held_near}
use Rattle.deque_bounds.proofs.StealsWithinTurns.{workers_of}
use Rattle.deque_bounds.proofs.LeapLimits.{held_within}

-- a reply moves what is held
abbrev Moves : Table → State → Reply → State → Type 0
Moves T st r s = s.held + of_reply (free_of T) r ≡ st.held + of_reply (alloc_of T) r

module _ (T : Table) (l : Lawful T) (p K : ℕ) (few : p ≤ 16) (w : ℕ) (below : w < p) where
  turn_is : (st : State) → (worker_of st w).holds ≡ true → turn_of T K w st ≡ stepped (act T K w st).reply (counted (act T K w st).state)
  unfolding turn_of
  turn_is st e = rw e

  act_moves : (st : State) → CommonIn T p K st → (worker_of st w).holds ≡ true → Moves T st (act T K w st).reply (act T K w st).state
  act_moves st c e =
      let g : List ℕ = serial_live T st.next st.status l in
      let q : Amounts T (with_serial T l st) (turn_of T K w (with_serial T l st)) = turn_amounts T l p K few w below (with_serial T l st) (serial_facts T l p K st c) in
      let q2 : Amounts T (with_serial T l st) (stepped (act T K w (with_serial T l st)).reply (counted (act T K w (with_serial T l st)).state)) = subst (Amounts T (with_serial T l st)) (turn_is (with_serial T l st) e) q in
      let y : Beside T K w g st = beside T K w g st in
      subst (λ (s : Stepped). Moves T st s.reply s.state) y.same q2.moves

  acts_moves : (st : State) (ds : List Deque) → CommonIn T p K st → (worker_of st w).holds ≡ true → Moves T st (act_deques T K w st ds).reply (act_deques T K w st ds).after.state
  unfolding act_deques
  acts_moves st ds c e =
      let t : ℕ = (worker_of st w).thread in
      let s : Stepped = act T K w st in
      let g : Moves T st s.reply s.state = act_moves st c e in
      either (λ (D : Deques). Moves T st s.reply D.state) (worker_of s.state w).holds (over s.state ds) _ (λ i. g)
      (λ i. let (e, r) = go_same (kind T (next_of st t)) (waits_for T st (parent_of T t) t) (worker_of st w).quota w t (T.argument (next_of st t)) (parent_of T t) s.state ds in omega (arith, g, r))

  steal_moves : (c : ℕ) (D : Deques) → Kept T p K D → (worker_of D.state w).holds ≡ false → is_empty (get_or D.deques c nothing).threads ≡ false
      → Moves T D.state (act_deques T K w (taken K w (bottom (get_or D.deques c nothing).threads) D.state) (robbed w c D.deques)).reply
      (act_deques T K w (taken K w (bottom (get_or D.deques c nothing).threads) D.state) (robbed w c D.deques)).after.state
  unfolding taken
  steal_moves c D k e i =
      let b : ℕ = bottom (get_or D.deques c nothing).threads in
      let f : Facts T p K (with_serial T l D.state) = serial_facts T l p K D.state k.common in
      acts_moves (taken K w b D.state) (robbed w c D.deques)
      (taken_common T l p K w few below D.state k.common e K b (omega arith) (b_below T l p K few w below c D k e i) (b_ready T l p K few w below c D k e i _ refl))
      (ap (λ (z : Worker). z.holds) (get_or-set_same D.state.workers w (record { holds = true; thread = b; quota = K }) nobody (omega (arith, f.holding.worker_size, few, below))))

  turn_moves : (c : ℕ) (D : Deques) → Kept T p K D → Moves T D.state (deque_turn T K w c D).reply (deque_turn T K w c D).after.state
  unfolding deque_turn steal
  turn_moves c D k =
      either (λ (s : DequeStep). Moves T D.state s.reply s.after.state) (worker_of D.state w).holds _ _ (λ e. acts_moves D.state D.deques k.common e)
      (λ e. either (λ (s : DequeStep). Moves T D.state s.reply s.after.state) (is_empty (get_or D.deques c nothing).threads) _ _ (λ i. refl) (λ i. steal_moves c D k e i))

module _ (T : Table) (l : Lawful T) (p K : ℕ) (few : p ≤ 16) where
  row_moves : (row : List Pair) → BelowAll p row → (D : Deques) → Kept T p K D
      → (row_deques T K D row).state.held + sum_replies (free_of T) (row_replies T K D row) ≡ D.state.held + sum_replies (alloc_of T) (row_replies T K D row)
  unfolding row_deques row_replies sum_replies
  row_moves [] h D k = refl
  row_moves (g ∷ row) h D k =
      let i : g.worker < p = (h g (Memᴰ.head refl)).0 in
      omega (
        arith,
        turn_moves T l p K few g.worker i g.choice D k,
        row_moves row (λ y m. h y (Memᴰ.tail m)) (deque_turn T K g.worker g.choice D).after (turn_kept T l p K few g.worker i g.choice D k),
      )

  pub memory_held : (row : List Pair) → BelowAll p row → (row_deques T K (start_deques T) row).state.held ≡ deque_memory T K row
  unfolding deque_memory
  memory_held row h = omega (arith, row_moves row h (start_deques T) (start_serial_lines T l p K few).kept, (start_held T l).0)

-- the limits by places and by leaps, of memory held by a row
pub memory_near : (T : Table) (l : Lawful T) (p K : ℕ) → p ≤ 16 → Within T K → (row : List Pair) → BelowAll p row → ((g : Pair) → Memᴰ g row → g.choice ≡ 0) → deque_memory T K row ≤ S1 T + K * (N T - 1)
memory_near T l p K few small row h z = subst (λ (y : ℕ). y ≤ S1 T + K * (N T - 1)) (memory_held T l p K few row h) (held_near T l p K few small row h z)

pub memory_limit : (T : Table) (l : Lawful T) (p K b : ℕ) → p ≤ 16 → Within T K → 2 ≤ p → 1 ≤ b → (row : List Pair) → BelowAll p row → Keeps b (workers_of row) → leaps T K (start_deques T) row ≡ 0
    → deque_memory T K row ≤ limit T p K b
memory_limit T l p K b few small two some row h r z = subst (λ (y : ℕ). y ≤ limit T p K b) (memory_held T l p K few row h) (held_within T l p K b few small two some row h r z)
