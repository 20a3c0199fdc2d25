-- A turn, and a row of turns from the beginning, keeps the lines, their order and what parts a child from its parent.
use mathlib.Core.Path.{◌≡◌, refl, sym, ap, subst, ◌∙◌}
use Prim.Native.Nat.{ℕ, ◌+◌, ◌≤◌, ◌<◌}
use mathlib.Core.List.Memᴰ
use mathlib.Core.List.{List, [], ◌∷◌, Memᴰ}
use mathlib.Core.Bool.{true, false}
use mathlib.Core.Logic.{inr}
use native.Mathlib.Omega.{arith}
use native.Mathlib.Decide.{ℕ_discrete}
use lib.ListN.{get_or}
use lib.Dec.{eqb}
use borrow.Author.Tests.{ne_eqb}
use Rattle.table.specs.Sum.{pick}
use Rattle.table.specs.Format.{Table}
use Rattle.table.specs.Nested.{nest}
use Rattle.table.proofs.Bodies.{fork_above}
use Rattle.schedule.specs.Memory.{count_in}
use Rattle.schedule.specs.Machine.{State, waiting, status_of, worker_of}
use Rattle.order.proofs.Lawful.{Lawful}
use Rattle.order.proofs.Words.{Ascends}
use Rattle.deques.specs.Deques.{Deque, nothing, is_empty, bottom, robbed, Deques, over, act_deques}
use Rattle.deques.specs.Partition.{occurs, owned_by, AllInUse}
use Rattle.deques.specs.Lines.{line, lines_of}
use Rattle.deques.specs.Partition.{ready_at, holds_at}
use Rattle.deques.proofs.DequeTurns.{Kept}
use Rattle.deque_bounds.proofs.Lines.{Link, NoLiveChildBut, Parted, Chained, Light}
use Rattle.deques.specs.DequeRuns.{Pair}
use Rattle.deques.specs.Deques.{start_deques}
use Rattle.deques.specs.DequeCalls.{row_deques}
use Rattle.deque_bounds.specs.DequeRows.{robs, steals_beyond, steals, steals_far, far}
use Rattle.deque_bounds.proofs.SerialLines.{held_by, AllLines, SerialLines}
use Rattle.deques.proofs.Flat.{Mine, mine}
use Rattle.deque_bounds.proofs.SerialLinesActs.{act_serial_lines}
use Rattle.deque_bounds.proofs.SerialLinesSteals.{steal_serial_lines, steal_holds}
use Rattle.deques.specs.Deques.{DequeStep, steal, deque_turn}
use Rattle.schedule.specs.Machine.{taken, counted}
use Rattle.schedule.specs.Begin.{start_state}
use Rattle.schedule.proofs.Preservation.Turns.{either}
use Rattle.schedule.proofs.Preservation.Starts.{start_facts, start_root, start_unborn, start_worker}
use Rattle.schedule.proofs.Sound.Facts.{sound_facts}
use Rattle.table.proofs.NestedThreads.{nest_root}
use mathlib.Core.Path.{fun_ext}

-- ---- turns taken are counted, and nothing else

module _ (T : Table) (J : ℕ → ℕ) (st : State) where
  chained_counted : (e : ℕ) (k : List ℕ) → Chained T J st e k → Chained T J (counted st) e k
  unfolding Chained NoLiveChildBut Parted
  chained_counted e [] c = tt
  chained_counted e (t ∷ []) c = c
  chained_counted e (t ∷ y ∷ k) c =
      let L : Link T st t y = c.0 in
      (record { action = L.action; within = L.within; forks = L.forks; names = L.names; owned = L.owned; next = L.next }, c.1, chained_counted t (y ∷ k) c.2)

  light_counted : (fa : ℕ) (k : List ℕ) → Light T fa J st k → Light T fa J (counted st) k
  unfolding Light
  light_counted fa [] c = tt
  light_counted fa (t ∷ k) c = c

  all_counted : (fa : ℕ) (ds : List Deque) → AllLines T fa J st ds → AllLines T fa J (counted st) ds
  unfolding AllLines
  all_counted fa [] c = tt
  all_counted fa (d ∷ ds) c = (chained_counted 0 (line (held_by st) d) c.0, light_counted fa (line (held_by st) d) c.1, all_counted fa ds c.2)

serial_lines_counted : (T : Table) (p K fa : ℕ) (J : ℕ → ℕ) (D : Deques) → SerialLines T p K fa J D → SerialLines T p K fa J (over (counted D.state) D.deques)
unfolding Parted
serial_lines_counted T p K fa J D I =
    record {
      kept = record { common = I.kept.common; placed = I.kept.placed };
      falls = I.falls;
      lines = all_counted T J D.state fa D.deques I.lines;
      order = I.order;
      waiters = λ u n e. I.waiters u n e;
    }

serial_lines_same : (T : Table) (p K fa fa' : ℕ) (J J' : ℕ → ℕ) (D : Deques) → fa ≡ fa' → ((x : ℕ) → J x ≡ J' x) → SerialLines T p K fa J D → SerialLines T p K fa' J' D
serial_lines_same T p K fa fa' J J' D e f I = subst (λ (y : ℕ). SerialLines T p K y J' D) e (subst (λ (y : ℕ → ℕ). SerialLines T p K fa y D) (fun_ext f) I)

-- ---- a turn

module _ (T : Table) (l : Lawful T) (p K : ℕ) (few : p ≤ 16) (w : ℕ) (below : w < p) where
  pub act_kept : (fa : ℕ) (J : ℕ → ℕ) (st : State) (ds : List Deque) → SerialLines T p K fa J (over st ds) → (worker_of st w).holds ≡ true → SerialLines T p K fa J (act_deques T K w st ds).after
  act_kept fa J st ds I h =
      let m : Mine w ds = mine w ds (I.kept.placed.owned w (omega (arith, few, below)) ∙ rw h) in
      subst (λ (y : List Deque). SerialLines T p K fa J (act_deques T K w st y).after) (sym m.whole)
      (act_serial_lines T l p K few w below fa J st m.front m.threads m.rest m.clear m.alone (subst (λ (y : List Deque). SerialLines T p K fa J (over st y)) m.whole I) h)

  module _ (c fa : ℕ) (J : ℕ → ℕ) (D : Deques) (I : SerialLines T p K fa J D) where
    abbrev Then : Deques → Type 0
    Then E = SerialLines T p K (fa + steals_far w c D) (λ x. J x + steals_beyond T w c D x) E

    -- no steal
    pub none_stolen : robs w c D ≡ false → (steals_far w c D ≡ 0) × ((x : ℕ) → steals_beyond T w c D x ≡ 0)
    unfolding steals_far steals_beyond
    none_stolen e = (rw e, (λ x. rw e))

    quiet : robs w c D ≡ false → (E : Deques) → SerialLines T p K fa J E → Then E
    quiet e E i =
        let (z, y) = none_stolen e in
        serial_lines_same T p K fa (fa + steals_far w c D) J (λ x. J x + steals_beyond T w c D x) E (omega (arith, z)) (λ x. omega (arith, y x)) i

    pub turn_serial_lines : Then (deque_turn T K w c D).after
    unfolding deque_turn steal
    turn_serial_lines =
        serial_lines_counted T p K (fa + steals_far w c D) (λ x. J x + steals_beyond T w c D x) _
        (either (λ (y : DequeStep). Then y.after) (worker_of D.state w).holds _ _
        (λ e. quiet (rw e) (act_deques T K w D.state D.deques).after (act_kept fa J D.state D.deques I e))
        (λ e. either (λ (y : DequeStep). Then y.after) (is_empty (get_or D.deques c nothing).threads) _ _
        (λ i. quiet (rw (e, i)) D I)
        (λ i. act_kept (fa + steals_far w c D) (λ x. J x + steals_beyond T w c D x) (taken K w (bottom (get_or D.deques c nothing).threads) D.state) (robbed w c D.deques)
        (steal_serial_lines T l p K few w below c fa J D I e i) (steal_holds T l p K few w below c fa J D I e i))))

-- ---- a row

abbrev pub BelowAll : ℕ → List Pair → Type 0
BelowAll p row = (g : Pair) → Memᴰ g row → (g.worker < p) × (g.choice < p)

module _ (T : Table) (l : Lawful T) (p K : ℕ) (few : p ≤ 16) where
  pub row_serial_lines : (row : List Pair) → BelowAll p row → (fa : ℕ) (J : ℕ → ℕ) (D : Deques) → SerialLines T p K fa J D
      → SerialLines T p K (fa + far T K D row) (λ x. J x + steals T K D row x) (row_deques T K D row)
  unfolding row_deques far steals
  row_serial_lines [] h fa J D I = serial_lines_same T p K fa (fa + 0) J (λ x. J x + 0) D (omega arith) (λ x. omega arith) I
  row_serial_lines (g ∷ row) h fa J D I =
      let w : ℕ = g.worker in
      let c : ℕ = g.choice in
      let E : Deques = (deque_turn T K w c D).after in
      serial_lines_same T p K (fa + steals_far w c D + far T K E row) (fa + (steals_far w c D + far T K E row)) (λ x. J x + steals_beyond T w c D x + steals T K E row x)
      (λ x. J x + (steals_beyond T w c D x + steals T K E row x)) (row_deques T K E row) (omega arith) (λ x. omega arith)
      (row_serial_lines row (λ y m. h y (Memᴰ.tail m)) (fa + steals_far w c D) (λ x. J x + steals_beyond T w c D x) E
      (turn_serial_lines T l p K few w (h g (Memᴰ.head refl)).0 c fa J D I))

  -- ---- the beginning

  start_kept : Kept T p K (start_deques T)
  unfolding occurs owned_by count_in AllInUse
  start_kept =
      record {
        common = (sound_facts T l p K (start_state T) (start_facts T l p K)).common;
        placed =
            record {
              once = λ t i. at t (ℕ_discrete t 0);
              none = λ t i. off t (λ e. omega (arith, e, i, l.some_thread));
              owned = λ w i. own_none w i;
              in_use = (inr (refl, refl), tt);
            };
      }
    where
      off : (t : ℕ) → (t ≡ 0 → ⊥) → pick (eqb 0 t) 1 0 + 0 + 0 ≡ 0
      off t n = rw (ne_eqb 0 t (λ e. n (sym e))) (omega arith)

      at : (t : ℕ) → Dec (t ≡ 0) → pick (eqb 0 t) 1 0 + 0 + 0 ≡ ready_at (start_state T).status t
      at t (yes e) = rw (e, start_root T l)
      at t (no e) = rw (start_unborn T l t (omega (arith, e))) (off t e)

      own_none : (w : ℕ) → w < 16 → pick (eqb 16 w) 1 0 + 0 ≡ holds_at (start_state T).workers w
      own_none w i = rw (ne_eqb 16 w (λ e. omega (arith, e, i)), start_worker T l w)

  pub start_serial_lines : SerialLines T p K 0 (λ x. 0) (start_deques T)
  unfolding AllLines lines_of Chained Parted Light Ascends bottom
  start_serial_lines =
      record {
        kept = start_kept;
        falls = λ a b i. omega arith;
        lines = ((λ x h k o v d. absurd (v.0 (start_unborn T l (T.argument x) (omega (arith, fork_above T l.contents l.bodies x h k))))), nest_one, tt);
        order = ((λ y m. absurd (Memᴰ.not-nil m)), tt);
        waiters = λ u n e. absurd (no_wait u e (ℕ_discrete u 0));
      }
    where
      nest_one : 1 ≤ nest T 0 + 0
      nest_one = omega (arith, nest_root T l.contents l.bodies l.nesting l.forking l.some_thread)

      no_wait : (u : ℕ) → status_of (start_state T) u ≡ waiting → Dec (u ≡ 0) → ⊥
      no_wait u e (yes z) = omega (arith, e, ap (status_of (start_state T)) z, start_root T l)
      no_wait u e (no z) = omega (arith, e, start_unborn T l u (omega (arith, z)))

  -- after every row of turns from the beginning
  pub from_start : (row : List Pair) → BelowAll p row → SerialLines T p K (far T K (start_deques T) row) (steals T K (start_deques T) row) (row_deques T K (start_deques T) row)
  from_start row h =
      serial_lines_same T p K (0 + far T K (start_deques T) row) (far T K (start_deques T) row) (λ x. 0 + steals T K (start_deques T) row x) (steals T K (start_deques T) row)
      (row_deques T K (start_deques T) row) (omega arith) (λ x. omega arith) (row_serial_lines row h 0 (λ x. 0) (start_deques T) start_serial_lines)
