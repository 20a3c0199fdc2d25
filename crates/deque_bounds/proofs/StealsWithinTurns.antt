-- A turn, and a row of turns that keeps the rule with b, keeps the count of the limit by leaps with the ages of the row.
use mathlib.Core.Path.{◌≡◌, refl, sym, ap, subst, ◌∙◌}
use Prim.Native.Nat.{ℕ, ◌+◌, ◌*◌, ◌≤◌, ◌<◌}
use mathlib.Core.List.Memᴰ
use mathlib.Core.List.{List, [], ◌∷◌, ◌++◌, Memᴰ}
use mathlib.Core.Bool.{Bool, true, false}
use native.Mathlib.Omega.{arith}
use native.Mathlib.Decide.{ℕ_discrete}
use lib.ListN.{get_or}
use lib.Dec.{ltb, eqb}
use borrow.Author.Tests.{ne_eqb, eq-eqb, ltb-true}
use Rattle.table.specs.Sum.{pick}
use Rattle.table.specs.Format.{Table}
use Rattle.table.specs.Nested.{nest}
use Rattle.table.proofs.Tests.{no_way}
use Rattle.schedule.specs.declared.Worker.{Worker}
use Rattle.schedule.specs.Machine.{State, nobody, next_of, worker_of}
use Rattle.order.proofs.Lawful.{Lawful}
use Rattle.deques.specs.Deques.{Deque, deque, nothing, is_empty, bottom, robbed, Deques, over, act_deques}
use Rattle.deques.specs.Partition.{owned_by}
use Rattle.deques.specs.Lines.{line}
use Rattle.deques.proofs.DequeTurns.{Kept, acts}
use Rattle.deque_bounds.proofs.Lines.{Moved}
use Rattle.deque_bounds.proofs.ActionLeaves.{ActionLeaves, stays, forks, pops, drops, leaves, wakes, stops}
use Rattle.deques.specs.DequeRuns.{Pair}
use Rattle.deques.specs.Deques.{start_deques}
use Rattle.deques.specs.DequeCalls.{row_deques}
use Rattle.deque_bounds.specs.DequeRows.{robs, steals_beyond, steals, steals_far, leaps_at, leaps}
use Rattle.deques.specs.Deques.{DequeStep, steal, deque_turn}
use Rattle.deques.proofs.Flat.{Mine, mine}
use Rattle.deque_bounds.proofs.SerialLines.{held_by, SerialLines}
use Rattle.deques.proofs.Standing.{is_owner}
use Rattle.deque_bounds.proofs.SerialLinesActs.{stepped, wait_empty}
use Rattle.deque_bounds.proofs.SerialLinesSteals.{steal_serial_lines, steal_holds}
use Rattle.deque_bounds.proofs.SerialLinesTurns.{BelowAll, none_stolen, turn_serial_lines}
use Rattle.deque_bounds.proofs.StealsWithin.{Able, ThreadWithin, LineWithin, slack_of, LinesWithin}
use Rattle.deque_bounds.proofs.StealsWithinActs.{thread_within_is, is_thread_within, act_lines_within}
use Rattle.deque_bounds.proofs.StealsWithinSteals.{steal_lines_within}
use Rattle.schedule.specs.Machine.{taken, counted}
use Rattle.schedule.specs.Begin.{start_state}
use Rattle.schedule.proofs.Preservation.Turns.{either}
use Rattle.schedule.proofs.Preservation.Starts.{start_next_lem, start_worker}
use Rattle.bounds.proofs.Ages.{age, age_other}
use Rattle.table.specs.Level.{level}
use Rattle.table.proofs.Levels.{level_root}
use Rattle.table.proofs.NestedThreads.{nest_root}
use mathlib.Core.List.{map, reverse_aux}
use mathlib.Core.Path.{fun_ext}
use lib.Seq.{get_or-set_other}
use native.Mathlib.Nat.{mul-one}

pub record StealsWithin (T : Table) (B lp : ℕ) (J : ℕ → ℕ) (past : List ℕ) (D : Deques) : Type 0 where
  pub lines_within : LinesWithin T B lp J (age past) D.state D.deques
  -- whoever holds a thread has had a turn
  pub turned : (v : ℕ) → v < 16 → (worker_of D.state v).holds ≡ true → Memᴰ v past

-- ---- more slack

module _ (T : Table) (B lp : ℕ) (J : ℕ → ℕ) (st : State) where
  line_within_slack : (slack slack' : ℕ) (L : List ℕ) → slack ≤ slack' → LineWithin T B lp J st slack L → LineWithin T B lp J st slack' L
  unfolding LineWithin
  line_within_slack slack slack' [] i o = tt
  line_within_slack slack slack' (t ∷ k) i o = (is_thread_within T B lp J st (bottom (t ∷ k)) slack' t (λ e. omega (arith, i, thread_within_is T B lp J st (bottom (t ∷ k)) slack t o.0 e)), o.1)

  pub lines_within_older : (old new : ℕ → ℕ) (E : List Deque) → ((o : ℕ) → o < 16 → 1 ≤ owned_by o E → old o ≤ new o) → LinesWithin T B lp J old st E → LinesWithin T B lp J new st E
  unfolding LinesWithin owned_by
  lines_within_older old new [] g o = tt
  lines_within_older old new (d ∷ E) g o = (
    line_within_slack (slack_of B old d) (slack_of B new d) (line (held_by st) d) (go (ltb d.owner 16) refl) o.0,
    lines_within_older old new E (λ v i j. g v i (omega (arith, j))) o.1,
  )
    where
      go : (q : Bool) → ltb d.owner 16 ≡ q → pick q (old d.owner) B ≤ pick q (new d.owner) B
      go true e = g d.owner (ltb-true d.owner 16 e) (rw (eq-eqb d.owner d.owner refl) (omega arith))
      go false e = omega arith

  line_within_counted : (slack : ℕ) (L : List ℕ) → LineWithin T B lp J st slack L → LineWithin T B lp J (counted st) slack L
  unfolding LineWithin ThreadWithin Able
  line_within_counted slack [] o = tt
  line_within_counted slack (t ∷ k) o = o

  lines_within_counted : (old : ℕ → ℕ) (E : List Deque) → LinesWithin T B lp J old st E → LinesWithin T B lp J old (counted st) E
  unfolding LinesWithin
  lines_within_counted old [] o = tt
  lines_within_counted old (d ∷ E) o = (line_within_counted (slack_of B old d) (line (held_by st) d) o.0, lines_within_counted old E o.1)

steals_within_counted : (T : Table) (B lp : ℕ) (J : ℕ → ℕ) (past : List ℕ) (D : Deques) → StealsWithin T B lp J past D → StealsWithin T B lp J past (over (counted D.state) D.deques)
steals_within_counted T B lp J past D x = record { lines_within = lines_within_counted T B lp J D.state (age past) D.deques x.lines_within; turned = x.turned }

pub steals_within_same : (T : Table) (B lp lp' : ℕ) (J J' : ℕ → ℕ) (past : List ℕ) (D : Deques) → lp ≡ lp' → ((x : ℕ) → J x ≡ J' x) → StealsWithin T B lp J past D → StealsWithin T B lp' J' past D
steals_within_same T B lp lp' J J' past D e f x = subst (λ (y : ℕ). StealsWithin T B y J' past D) e (subst (λ (y : ℕ → ℕ). StealsWithin T B lp y past D) (fun_ext f) x)

-- between the halves of a turn of w, its age counts as B
abbrev between : ℕ → ℕ → List ℕ → ℕ → ℕ
between B w past v = pick (eqb v w) B (age (w ∷ past) v)

between_own : (B w : ℕ) (past : List ℕ) → between B w past w ≡ B
between_own B w past = rw (eq-eqb w w refl)

between_other : (B w : ℕ) (past : List ℕ) (v : ℕ) → (v ≡ w → ⊥) → between B w past v ≡ age (w ∷ past) v
between_other B w past v n = rw (ne_eqb v w n)

module _ (T : Table) (l : Lawful T) (p K : ℕ) (few : p ≤ 16) (w : ℕ) (below : w < p) (B : ℕ) (past : List ℕ) where
  -- the second half
  act_then : (fa lp : ℕ) (J : ℕ → ℕ) (st : State) (ds : List Deque) → SerialLines T p K fa J (over st ds) → (worker_of st w).holds ≡ true → LinesWithin T B lp J (between B w past) st ds
      → ((v : ℕ) → v < 16 → (v ≡ w → ⊥) → (worker_of st v).holds ≡ true → Memᴰ v past) → StealsWithin T B lp J (w ∷ past) (act_deques T K w st ds).after
  act_then fa lp J st ds I h o tu =
      let m : Mine w ds = mine w ds (I.kept.placed.owned w (omega (arith, few, below)) ∙ rw h) in
      let I' : SerialLines T p K fa J (over st (m.front ++ deque w m.threads ∷ m.rest)) = subst (λ (y : List Deque). SerialLines T p K fa J (over st y)) m.whole I in
      let o' : LinesWithin T B lp J (between B w past) st (m.front ++ deque w m.threads ∷ m.rest) = subst (LinesWithin T B lp J (between B w past) st) m.whole o in
      subst (λ (y : List Deque). StealsWithin T B lp J (w ∷ past) (act_deques T K w st y).after) (sym m.whole) (here m.front m.threads m.rest m.clear m.alone I' o')
    where
      here : (front : List Deque) (k : List ℕ) (rest : List Deque) → owned_by w front ≡ 0 → owned_by w rest ≡ 0 → SerialLines T p K fa J (over st (front ++ deque w k ∷ rest))
          → LinesWithin T B lp J (between B w past) st (front ++ deque w k ∷ rest) → StealsWithin T B lp J (w ∷ past) (act_deques T K w st (front ++ deque w k ∷ rest)).after
      here front k rest c a I o = go (act_deques T K w st (front ++ deque w k ∷ rest)).after (acts T l p K few w below st I.kept.common (front ++ deque w k ∷ rest) I.kept.placed h) (stepped T l p K few w below fa J st front k rest c a I h)
        where
          t : ℕ
          t = (worker_of st w).thread

          moved : (D : Deques) → ActionLeaves T K w t (next_of st t) (worker_of st w).quota st front k rest D → Moved T K w t (next_of st t) (worker_of st w).quota st D.state
          moved D (stays m n e i d z y) = m
          moved D (forks m n e i d z) = m
          moved D (pops t2 j e m n dead i d z) = m
          moved D (drops t2 j e n y) = no_way (cc (wait_empty T l p K few w below fa J st front k rest c a I h n y))
          moved D (leaves e m n i y z) = m
          moved D (wakes u ub uw ua m n dead i d z) = m
          moved D (stops m n i e z) = m

          go : (D : Deques) → Kept T p K D → ActionLeaves T K w t (next_of st t) (worker_of st w).quota st front k rest D → StealsWithin T B lp J (w ∷ past) D
          go D x g =
              record {
                lines_within =
                    act_lines_within T l p K few w below fa J st front k rest c a I h B lp (between B w past) (age (w ∷ past)) (λ v n. sym (between_other B w past v n)) (omega (arith, between_own B w past)) o D x g;
                turned = λ v i q. who v i q (ℕ_discrete v w);
              }
            where
              who : (v : ℕ) → v < 16 → (worker_of D.state v).holds ≡ true → Dec (v ≡ w) → Memᴰ v (w ∷ past)
              who v i q (yes e) = Memᴰ.head e
              who v i q (no e) = Memᴰ.tail (tu v i e (sym (ap (λ (b : Worker). b.holds) ((moved D g).worker_others v e)) ∙ q))

  module _ (c fa lp : ℕ) (J : ℕ → ℕ) (D : Deques) (I : SerialLines T p K fa J D) (x : StealsWithin T B lp J past D) (young : (v : ℕ) → Memᴰ v past → age past v ≤ B) where
    abbrev Then : Deques → Type 0
    Then E = StealsWithin T B (lp + leaps_at w c D) (λ y. J y + steals_beyond T w c D y) (w ∷ past) E

    none_leaps : robs w c D ≡ false → leaps_at w c D ≡ 0
    unfolding leaps_at
    none_leaps e = rw e

    quiet : robs w c D ≡ false → (E : Deques) → StealsWithin T B lp J (w ∷ past) E → Then E
    quiet e E i =
        steals_within_same T B lp (lp + leaps_at w c D) J (λ y. J y + steals_beyond T w c D y) (w ∷ past) E (omega (arith, none_leaps e))
        (λ y. omega (arith, (none_stolen T l p K few w below c fa J D I e).1 y)) i

    owners : (o : ℕ) → o < 16 → 1 ≤ owned_by o D.deques → Memᴰ o past
    owners o i j = x.turned o i (is_owner T l p K D I.kept o i j)

    older : (o : ℕ) → o < 16 → 1 ≤ owned_by o D.deques → age past o ≤ between B w past o
    older o i j = go (ℕ_discrete o w)
      where
        go : Dec (o ≡ w) → age past o ≤ between B w past o
        go (yes e) = rw (eq-eqb o w e) (young o (owners o i j))
        go (no e) = omega (arith, between_other B w past o e, age_other past w o (λ z. e (sym z)))

    rests : (worker_of D.state w).holds ≡ false → StealsWithin T B lp J (w ∷ past) D
    rests e =
        record {
          lines_within = lines_within_older T B lp J D.state (age past) (age (w ∷ past)) D.deques (λ o i j. go o i j (ℕ_discrete o w)) x.lines_within;
          turned = λ v i q. Memᴰ.tail (x.turned v i q);
        }
      where
        go : (o : ℕ) → o < 16 → 1 ≤ owned_by o D.deques → Dec (o ≡ w) → age past o ≤ age (w ∷ past) o
        go o i j (yes z) = no_way (cc (is_owner T l p K D I.kept o i j))
        go o i j (no z) = omega (arith, age_other past w o (λ y. z (sym y)))

    stolen : (e : (worker_of D.state w).holds ≡ false) → (i : is_empty (get_or D.deques c nothing).threads ≡ false)
        → Then (act_deques T K w (taken K w (bottom (get_or D.deques c nothing).threads) D.state) (robbed w c D.deques)).after
    unfolding taken
    stolen e i =
        act_then (fa + steals_far w c D) (lp + leaps_at w c D) (λ y. J y + steals_beyond T w c D y) (taken K w (bottom (get_or D.deques c nothing).threads) D.state) (robbed w c D.deques)
        (steal_serial_lines T l p K few w below c fa J D I e i) (steal_holds T l p K few w below c fa J D I e i)
        (steal_lines_within T l p K few w below c fa J D I e i B lp (age past) (between B w past) (λ v n. between_other B w past v n ∙ age_other past w v (λ z. n (sym z))) (between_own B w past) x.lines_within)
        (λ v r n q. x.turned v r (sym (ap (λ (b : Worker). b.holds) (get_or-set_other D.state.workers w v (record { holds = true; thread = bottom (get_or D.deques c nothing).threads; quota = K }) nobody n)) ∙ q))

    pub turn_steals_within : Then (deque_turn T K w c D).after
    unfolding deque_turn steal
    turn_steals_within =
        steals_within_counted T B (lp + leaps_at w c D) (λ y. J y + steals_beyond T w c D y) (w ∷ past) _
        (either (λ (y : DequeStep). Then y.after) (worker_of D.state w).holds _ _
        (λ e. quiet (rw e) (act_deques T K w D.state D.deques).after
        (act_then fa lp J D.state D.deques I e (lines_within_older T B lp J D.state (age past) (between B w past) D.deques older x.lines_within) (λ v i n q. x.turned v i q)))
        (λ e. either (λ (y : DequeStep). Then y.after) (is_empty (get_or D.deques c nothing).threads) _ _
        (λ i. quiet (rw (e, i)) D (rests e))
        (λ i. stolen e i)))

-- ---- a row

abbrev pub workers_of : List Pair → List ℕ
workers_of row = map (λ (g : Pair). g.worker) row

module _ (T : Table) (l : Lawful T) (p K : ℕ) (few : p ≤ 16) (B : ℕ) (whole : List ℕ) (young : (past rest : List ℕ) → reverse_aux past rest ≡ whole → (w : ℕ) → Memᴰ w past → age past w ≤ B) where
  pub row_steals_within : (row : List Pair) → BelowAll p row → (past : List ℕ) → reverse_aux past (workers_of row) ≡ whole → (fa lp : ℕ) (J : ℕ → ℕ) (D : Deques) → SerialLines T p K fa J D → StealsWithin T B lp J past D
      → (past' : List ℕ) × (reverse_aux past' [] ≡ whole) × StealsWithin T B (lp + leaps T K D row) (λ x. J x + steals T K D row x) past' (row_deques T K D row)
  unfolding row_deques leaps steals
  row_steals_within [] h past e fa lp J D I x = (past, e, steals_within_same T B lp (lp + 0) J (λ y. J y + 0) past D (omega arith) (λ y. omega arith) x)
  row_steals_within (g ∷ row) h past e fa lp J D I x =
      let w : ℕ = g.worker in
      let c : ℕ = g.choice in
      let i : w < p = (h g (Memᴰ.head refl)).0 in
      let E : Deques = (deque_turn T K w c D).after in
      let (past', e', x') =
      row_steals_within row (λ y m. h y (Memᴰ.tail m)) (w ∷ past) e (fa + steals_far w c D) (lp + leaps_at w c D) (λ y. J y + steals_beyond T w c D y) E (turn_serial_lines T l p K few w i c fa J D I)
      (turn_steals_within T l p K few w i B past c fa lp J D I x (young past (w ∷ workers_of row) e)) in (
        past',
        e',
        steals_within_same T B (lp + leaps_at w c D + leaps T K E row) (lp + (leaps_at w c D + leaps T K E row)) (λ y. J y + steals_beyond T w c D y + steals T K E row y)
            (λ y. J y + (steals_beyond T w c D y + steals T K E row y)) past' (row_deques T K E row) (omega arith) (λ y. omega arith) x',
      )

  pub start_steals_within : StealsWithin T B 0 (λ x. 0) [] (start_deques T)
  unfolding LinesWithin LineWithin ThreadWithin bottom
  start_steals_within =
      record {
        lines_within = (((λ e. root), (λ y m. absurd (Memᴰ.not-nil m))), tt);
        turned = λ v i q. no_way (cc (start_worker T l v));
      }
    where
      root : 0 + B + B + 1 ≤ B * level T (next_of (start_state T) 0) + nest T 0 + 0 + B
      root =
          rw (start_next_lem T l 0 l.some_thread, level_root T l.contents l.bodies l.nesting l.forking l.some_thread, mul-one B)
          (omega (arith, nest_root T l.contents l.bodies l.nesting l.forking l.some_thread))
