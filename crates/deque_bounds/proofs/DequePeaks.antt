-- DFDeques: from a beginning, whatever the order and the choices, every entered unended thread has load at most c, 1 and the greatest place robbed so far; so held is within the root's peak
-- at load c, from the table alone.
use mathlib.Core.Path.{◌≡◌, refl, sym, ap, subst, ◌∙◌}
use Prim.Native.Nat.{ℕ, zero, suc, ◌+◌, ◌-◌, ◌≤◌, ◌<◌, max}
use native.Mathlib.Omega.{arith}
use native.Mathlib.Decide.{ℕ_discrete}
use mathlib.Core.List.{List, [], ◌∷◌, ◌++◌, Memᴰ}
use mathlib.Core.Bool.{Bool, true, false}
use mathlib.Core.Logic.{◌⊎◌, inl, inr}
use lib.ListN.{length, get_or, set}
use lib.Seq.{get_or-set_same, get_or-set_other}
use lib.Dec.{ltb, eqb}
use borrow.Author.Tests.{lt-ltb, le-ltb}
use Rattle.table.specs.Sum.{pick, sum_over}
use Rattle.table.specs.Format.{Table, kind}
use Rattle.table.specs.declared.kinds.Kind.TheVariants.{Fork as fork}
use Rattle.table.specs.Checks.{owner, open_before, tail}
use Rattle.table.proofs.Tests.{no_way}
use Rattle.table.proofs.Bodies.{fork_below_lem}
use Rattle.schedule.specs.declared.Worker.{Worker}
use Rattle.schedule.specs.Machine.{State, unborn, ready, held, ended, nobody, next_of, status_of, worker_of, taken, counted}
use Rattle.schedule.specs.Begin.{start_state}
use Rattle.order.specs.Order.{number_of}
use Rattle.order.proofs.Lawful.{Lawful}
use Rattle.order.proofs.Numbers.{number_child, number_past}
use Rattle.order.proofs.Words.{Ascends}
use Rattle.schedule.proofs.Preservation.Turns.{either}
use Rattle.schedule.proofs.Preservation.Starts.{start_next_lem, start_worker, start_held}
use Rattle.deque_bounds.proofs.Peaks.{peak_within_lem}
use Rattle.schedule.proofs.Sound.Facts.{Facts}
use Rattle.peaks.specs.Peak.{unended_in, outer, fresh, past, load, Light, peak_at, workers_peak}
use Rattle.peaks.proofs.Peaks.{peak_rises}
use Rattle.peaks.proofs.Held.{peak_common}
use Rattle.peaks.proofs.LoadLaw.{all_fewer, outer_fewer}
use Rattle.peaks.proofs.Takes.{next_inside}
use Rattle.deques.specs.Deques.{Deque, deque, nothing, is_empty, bottom, robbed, Deques, over, DequeStep, act_deques, steal, deque_turn}
use Rattle.deques.specs.DequeRuns.{Pair}
use Rattle.deques.specs.Deques.{start_deques}
use Rattle.deques.specs.DequeCalls.{row_deques}
use Rattle.deque_bounds.specs.DequeRows.{robs, steals_beyond, steals_far}
use Rattle.deques.specs.Partition.{AllInUse}
use Rattle.deques.specs.Lines.{line, lines_of}
use Rattle.deques.proofs.Counts.{line_some}
use Rattle.deques.proofs.Flat.{Mine, mine, lines_append}
use Rattle.deques.proofs.DequeTurns.{with_serial, serial_facts, b_ready}
use Rattle.deques.proofs.Bottoms.{line_bottom}
use Rattle.deque_bounds.proofs.Lines.{Link, Chained, link_of}
use Rattle.deque_bounds.proofs.SerialLines.{held_by, SerialLines, AllLines, standing_live, all_front, all_head}
use Rattle.deques.proofs.Standing.{standing}
use Rattle.deque_bounds.proofs.SerialLinesActs.{stepped, act_serial_lines, wait_empty}
use Rattle.deque_bounds.proofs.SerialLinesSteals.{bottom_in, steal_serial_lines, steal_holds}
use Rattle.deque_bounds.proofs.SerialLinesTurns.{BelowAll, turn_serial_lines, start_serial_lines, from_start}
use Rattle.deque_bounds.proofs.DequeLimits.{Somewhere, somewhere}
use Rattle.deque_bounds.specs.Deepest.{robbed_at, deepest}
use Rattle.deque_bounds.proofs.DequeCounts.{under, under_up, under_more, under_few, goes_inside, walk, load_few}
use Rattle.deque_bounds.proofs.DequeActs.{LoadWithin, act_within}
use Rattle.order.proofs.Words.{ascends_back}

-- ---- lists

record Placed (c : ℕ) (ds : List Deque) : Type 0 where
  front : List Deque
  after : List Deque
  whole : ds ≡ front ++ get_or ds c nothing ∷ after
  size : length front ≡ c

place : (c : ℕ) (ds : List Deque) → is_empty (get_or ds c nothing).threads ≡ false → Placed c ds
place c [] e = no_way cc
place zero (d ∷ ds) e = record { front = []; after = ds; whole = refl; size = refl }
place (suc c) (d ∷ ds) e =
    let y : Placed c ds = place c ds e in
    record { front = d ∷ y.front; after = y.after; whole = ap (d ∷◌) y.whole; size = omega (arith, y.size) }

asc_cross : (f : ℕ → ℕ) (L B : List ℕ) → Ascends f (L ++ B) → (x v : ℕ) → Memᴰ x L → Memᴰ v B → f x < f v
unfolding Ascends
asc_cross f [] B i x v m n = absurd (mathlib.Core.List.Memᴰ.not-nil m)
asc_cross f (z ∷ L) B i x v m n = go (mathlib.Core.List.Memᴰ.cases_cons m) (λ (j : Memᴰ x L). asc_cross f L B i.1 x v j n)
  where
    go : (x ≡ z) ⊎ Memᴰ x L → (Memᴰ x L → f x < f v) → f x < f v
    go (inl e) ih = rw e (i.0 v (mathlib.Core.List.Memᴰ.append_right L n))
    go (inr j) ih = ih j

in_use_after : (A : List Deque) (d : Deque) (B : List Deque) → AllInUse (A ++ d ∷ B) → AllInUse B
unfolding AllInUse
in_use_after [] d B m = m.1
in_use_after (e ∷ A) d B m = in_use_after A d B m.1

full_line : (hold : ℕ → ℕ) (v : ℕ) (k : List ℕ) → Memᴰ v k → is_empty k ≡ false
full_line hold v [] m = absurd (mathlib.Core.List.Memᴰ.not-nil m)
full_line hold v (x ∷ k) m = refl

-- no line beyond has its lowest below M
none_under : (num hold : ℕ → ℕ) (M : ℕ) (ds : List Deque) → AllInUse ds → ((v : ℕ) → Memᴰ v (lines_of hold ds) → M ≤ num v) → under num hold M ds ≡ 0
unfolding under AllInUse lines_of
none_under num hold M [] m h = refl
none_under num hold M (d ∷ ds) m h =
    let b : M ≤ num (bottom (line hold d)) = h (bottom (line hold d)) (mathlib.Core.List.Memᴰ.append_left (lines_of hold ds) (bottom_in (line hold d) (line_some hold d m.0))) in
    rw (le-ltb (num (bottom (line hold d))) M b) (omega (arith, none_under num hold M ds m.1 (λ v n. h v (mathlib.Core.List.Memᴰ.append_right (line hold d) n))))

-- ---- a steal

module _ (T : Table) (l : Lawful T) (p K fa : ℕ) (J : ℕ → ℕ) (D : Deques) (I : SerialLines T p K fa J D) where
  abbrev st : State
  st = D.state

  abbrev ds : List Deque
  ds = D.deques

  abbrev sw : State
  sw = with_serial T l st

  abbrev num : ℕ → ℕ
  num v = number_of T (next_of st v)

  abbrev hold : ℕ → ℕ
  hold = held_by st

  f : Facts T p K (with_serial T l D.state)
  f = serial_facts T l p K D.state I.kept.common

  lines_are : (A : List Deque) (d : Deque) (B : List Deque) → ds ≡ A ++ d ∷ B → lines_of hold ds ≡ lines_of hold A ++ (line hold d ++ lines_of hold B)
  unfolding lines_of
  lines_are A d B e = ap (lines_of hold) e ∙ lines_append hold A (d ∷ B)

  -- over a branch there is one line more
  more : (x : ℕ) → x < T.actions → kind T x ≡ fork → suc x < next_of st (owner T x) → (status_of st (T.argument x) ≡ unborn → ⊥) → (status_of st (T.argument x) ≡ ended → ⊥)
      → suc (under num hold (number_of T x) ds) ≤ under num hold (number_of T (suc x)) ds
  more x h k n b e =
      let y : ℕ = T.argument x in
      let (u, ub, us, ui) = goes_inside T l p K st f T.threads y y (omega arith) (fork_below_lem T l.contents l.bodies x h k) b e (omega arith, omega arith) in
      let s : Somewhere hold u ds = somewhere T l p K fa J D I u ub us in
      let d : Deque = s.deque in
      let c : Chained T J st 0 (line hold d) =
      (all_head T fa J st d s.rest (all_front T fa J st s.front (d ∷ s.rest) (subst (AllLines T fa J st) s.whole I.lines)).1).0 in
      let v : ℕ = bottom (line hold d) in
      let m : Memᴰ v (line hold d) = bottom_in (line hold d) (full_line hold u (line hold d) s.has) in
      let vb : v < T.threads =
      (standing T l p K D I.kept v
      (subst (λ (z : List ℕ). Memᴰ v z) (sym (lines_are s.front d s.rest s.whole)) (mathlib.Core.List.Memᴰ.append_right (lines_of hold s.front) (mathlib.Core.List.Memᴰ.append_left (lines_of hold s.rest) m)))).0 in
      let (low, high) = walk T l p K st f J x h k n 0 (line hold d) c u s.has ui in
      let (g, g') = next_inside T l p K sw f v vb in
      let z : suc (under num hold (number_of T x) (s.front ++ d ∷ s.rest)) ≤ under num hold (number_of T (suc x)) (s.front ++ d ∷ s.rest) =
      under_more num hold (number_of T x) (number_of T (suc x)) (omega (arith, low, high, g, g', number_child T l x h k, number_past T l x h k)) s.front d s.rest
      (omega (arith, low, g, number_child T l x h k)) (omega (arith, high, g', number_past T l x h k)) in
      subst (λ (q : List Deque). suc (under num hold (number_of T x) q) ≤ under num hold (number_of T (suc x)) q) (sym s.whole) z

  -- the thread at the bottom of the deque at place i
  module _ (i : ℕ) (some : is_empty (get_or D.deques i nothing).threads ≡ false) where
    abbrev d : Deque
    d = get_or ds i nothing

    abbrev b : ℕ
    b = bottom d.threads

    P : Placed i D.deques
    P = place i D.deques some

    l_bottom : bottom (line hold d) ≡ b
    l_bottom = line_bottom (ltb d.owner 16) (hold d.owner) d.threads some

    b_in : Memᴰ b (line hold d)
    b_in = subst (λ (z : ℕ). Memᴰ z (line hold d)) l_bottom (bottom_in (line hold d) (go (ltb d.owner 16)))
      where
        go : (q : Bool) → is_empty (pick q (hold d.owner ∷ d.threads) d.threads) ≡ false
        go true = refl
        go false = some

    stands : (b < T.threads) × ((status_of st b ≡ ready) ⊎ (status_of st b ≡ held))
    stands =
        standing T l p K D I.kept b
        (subst (λ (z : List ℕ). Memᴰ b z) (sym (lines_are P.front d P.after P.whole)) (mathlib.Core.List.Memᴰ.append_right (lines_of hold P.front) (mathlib.Core.List.Memᴰ.append_left (lines_of hold P.after) b_in)))

    lives : (status_of st b ≡ unborn → ⊥) × (status_of st b ≡ ended → ⊥)
    lives =
        standing_live T l p K D I.kept b
        (subst (λ (z : List ℕ). Memᴰ b z) (sym (lines_are P.front d P.after P.whole)) (mathlib.Core.List.Memᴰ.append_right (lines_of hold P.front) (mathlib.Core.List.Memᴰ.append_left (lines_of hold P.after) b_in)))

    few_left : under num hold (num b) ds ≤ i
    unfolding under
    few_left =
        let rising : Ascends num (line hold d ++ lines_of hold P.after) =
        ascends_back num (lines_of hold P.front) _ (subst (Ascends num) (lines_are P.front d P.after P.whole) I.order) in
        let beyond : under num hold (num b) P.after ≡ 0 =
        none_under num hold (num b) P.after (in_use_after P.front d P.after (subst AllInUse P.whole I.kept.placed.in_use))
        (λ v m. omega (arith, asc_cross num (line hold d) (lines_of hold P.after) rising b v b_in m)) in
        let here : under num hold (num b) (d ∷ P.after) ≡ 0 = rw (l_bottom, le-ltb (num b) (num b) (omega arith)) (omega (arith, beyond)) in
        let z : under num hold (num b) (P.front ++ d ∷ P.after) ≤ length P.front = under_few num hold (num b) P.front (d ∷ P.after) here in
        omega (arith, P.size, subst (λ (q : List Deque). under num hold (num b) q ≤ length P.front) (sym P.whole) z)

    one_tail : (x : List ℕ) → unended_in st.status x ≤ suc (unended_in st.status (tail x))
    unfolding sum_over
    one_tail [] = omega arith
    one_tail (y ∷ x) = omega (arith, most (eqb (status_of st y) ended))
      where
        most : (q : Bool) → pick q 0 1 ≤ 1
        most true = omega arith
        most false = omega arith

    one_past : (a : ℕ) → unended_in st.status (open_before T a) ≤ suc (unended_in st.status (past T a))
    one_past a = go (fresh T a)
      where
        go : (q : Bool) → unended_in st.status (open_before T a) ≤ suc (unended_in st.status (pick q (tail (open_before T a)) (open_before T a)))
        go true = one_tail (open_before T a)
        go false = omega arith

    -- the load of the thread robbed, a child forked directly before its next action counted too
    pub robbed_load : outer T st.status b + unended_in st.status (open_before T (next_of st b)) ≤ suc i
    robbed_load =
        omega (
          arith,
          load_few T l p K st f (λ M. under num hold M ds) (λ M M' h. under_up num hold M M' h ds) more b stands.0 lives.0,
          one_past (next_of st b),
          few_left,
        )

-- ---- a turn

grow : (T : Table) (c c' : ℕ) (st : State) → c ≤ c' → LoadWithin T c st → LoadWithin T c' st
unfolding Light
grow T c c' st h g = record { light = λ t i j n. omega (arith, g.light t i j n); busy = λ w i e. omega (arith, g.busy w i e) }

-- the thread below a worker's own
own_link : (T : Table) (l : Lawful T) (p K fa : ℕ) (J : ℕ → ℕ) (st : State) (w : ℕ) (A : List Deque) (k : List ℕ) (B : List Deque) → SerialLines T p K fa J (over st (A ++ deque w k ∷ B)) → w < 16
    → (t2 : ℕ) (j : List ℕ) → k ≡ t2 ∷ j → Link T st (worker_of st w).thread t2 × (status_of st t2 ≡ ended → ⊥) × (t2 < T.threads)
own_link T l p K fa J st w A k B I h t2 j e =
    let own : Deque = deque w k in
    let D : Deques = over st (A ++ own ∷ B) in
    let c : Chained T J st 0 (line (held_by st) own) = (all_head T fa J st own B (all_front T fa J st A (own ∷ B) I.lines).1).0 in
    let z : line (held_by st) own ≡ (worker_of st w).thread ∷ t2 ∷ j = rw (lt-ltb w 16 h, e) in
    let m : Memᴰ t2 (line (held_by st) own) = rw z (mathlib.Core.List.Memᴰ.tail (mathlib.Core.List.Memᴰ.head refl)) in
    let n : Memᴰ t2 (lines_of (held_by st) (A ++ own ∷ B)) =
    rw (lines_are T l p K fa J D I A own B refl) (mathlib.Core.List.Memᴰ.append_right (lines_of (held_by st) A) (mathlib.Core.List.Memᴰ.append_left (lines_of (held_by st) B) m)) in
    (link_of T J st 0 (worker_of st w).thread t2 j (rw z at c), (standing_live T l p K D I.kept t2 n).1, (standing T l p K D I.kept t2 n).0)

module _ (T : Table) (l : Lawful T) (p K : ℕ) (few : p ≤ 16) (w : ℕ) (below : w < p) where
  act_kept : (fa : ℕ) (J : ℕ → ℕ) (st : State) (ds : List Deque) → SerialLines T p K fa J (over st ds) → (worker_of st w).holds ≡ true → (c : ℕ) → LoadWithin T c st → LoadWithin T c (act_deques T K w st ds).after.state
  act_kept fa J st ds I h c g =
      let m : Mine w ds = mine w ds (I.kept.placed.owned w (omega (arith, few, below)) ∙ rw h) in
      subst (λ (y : List Deque). LoadWithin T c (act_deques T K w st y).after.state) (sym m.whole) (at m (subst (λ (y : List Deque). SerialLines T p K fa J (over st y)) m.whole I))
    where
      at : (m : Mine w ds) → SerialLines T p K fa J (over st (m.front ++ deque w m.threads ∷ m.rest))
          → LoadWithin T c (act_deques T K w st (m.front ++ deque w m.threads ∷ m.rest)).after.state
      at m I =
          let after : Deques = (act_deques T K w st (m.front ++ deque w m.threads ∷ m.rest)).after in
          let U : SerialLines T p K fa J after = act_serial_lines T l p K few w below fa J st m.front m.threads m.rest m.clear m.alone I h in
          act_within T l p K few w below st (serial_facts T l p K st I.kept.common) h c g (worker_of st w).quota m.front m.threads m.rest
          (own_link T l p K fa J st w m.front m.threads m.rest I (omega (arith, few, below)))
          (λ t2 j e k n. no_way (cc (wait_empty T l p K few w below fa J st m.front m.threads m.rest m.clear m.alone I h k n)))
          after (serial_facts T l p K after.state U.kept.common)
          (stepped T l p K few w below fa J st m.front m.threads m.rest m.clear m.alone I h)

  module _ (i fa : ℕ) (J : ℕ → ℕ) (D : Deques) (I : SerialLines T p K fa J D) (c : ℕ) (g : LoadWithin T c D.state) where
    abbrev now_st : State
    now_st = D.state

    -- the thief takes the lowest thread of the deque
    stolen_within : (worker_of D.state w).holds ≡ false → (some : is_empty (get_or D.deques i nothing).threads ≡ false)
        → LoadWithin T (max c (suc i)) (taken K w (bottom (get_or D.deques i nothing).threads) D.state)
    unfolding taken Light load
    stolen_within free some =
        record {
          light = λ t h j n. let z = g.light t h j (λ e. n (same t e)) in omega (arith, z, fewer_outer t, fewer (past T (next_of now_st t)));
          busy = λ v h e. at v h e (ℕ_discrete v w);
        }
      where
        b : ℕ
        b = bottom (get_or D.deques i nothing).threads

        now : Worker
        now = record { holds = true; thread = b; quota = K }

        fs : Facts T p K (with_serial T l D.state)
        fs = serial_facts T l p K D.state I.kept.common

        is_ready_lem : status_of now_st b ≡ ready
        is_ready_lem = b_ready T l p K few w below i D I.kept free some (eqb (status_of now_st b) ready) refl

        same : (y : ℕ) → status_of now_st y ≡ ended → get_or (set now_st.status b held) y 0 ≡ ended
        same y e = get_or-set_other now_st.status b y held 0 (λ z. omega (arith, e, is_ready_lem, ap (status_of now_st) z)) ∙ e

        fewer : (k : List ℕ) → unended_in (set now_st.status b held) k ≤ unended_in now_st.status k
        fewer = all_fewer T now_st.status (set now_st.status b held) same

        fewer_outer : (t : ℕ) → outer T (set now_st.status b held) t ≤ outer T now_st.status t
        fewer_outer t = outer_fewer T now_st.status (set now_st.status b held) same T.threads t

        at : (v : ℕ) → v < 16 → (get_or (set now_st.workers w now) v nobody).holds ≡ true → Dec (v ≡ w)
            → outer T (set now_st.status b held) (get_or (set now_st.workers w now) v nobody).thread
            + unended_in (set now_st.status b held) (open_before T (next_of now_st (get_or (set now_st.workers w now) v nobody).thread)) ≤ max c (suc i)
        at v h e (yes d) =
            rw (d, get_or-set_same now_st.workers w now nobody (omega (arith, fs.holding.worker_size, few, below)))
            (omega (arith, robbed_load T l p K fa J D I i some, fewer_outer b, fewer (open_before T (next_of now_st b))))
        at v h e (no d) =
            let y : get_or (set now_st.workers w now) v nobody ≡ worker_of now_st v = get_or-set_other now_st.workers w v now nobody d in
            let x : ℕ = (worker_of now_st v).thread in
            rw y (omega (arith, g.busy v h (rw y at e), fewer_outer x, fewer (open_before T (next_of now_st x))))

    abbrev c' : ℕ
    c' = max c (robbed_at w i D)

    pub turn_within : LoadWithin T (max c (robbed_at w i D)) (deque_turn T K w i D).after.state
    unfolding deque_turn steal robbed_at
    turn_within =
        counts
        (either (λ (y : DequeStep). LoadWithin T c' y.after.state) (worker_of D.state w).holds _ _
        (λ e. grow T c c' _ (omega arith) (act_kept fa J D.state D.deques I e c g))
        (λ e. either (λ (y : DequeStep). LoadWithin T c' y.after.state) (is_empty (get_or D.deques i nothing).threads) _ _
        (λ z. grow T c c' _ (omega arith) g)
        (λ z.
        rw (e, z)
        (act_kept (fa + steals_far w i D) (λ x. J x + steals_beyond T w i D x) (taken K w (bottom (get_or D.deques i nothing).threads) D.state) (robbed w i D.deques)
        (steal_serial_lines T l p K few w below i fa J D I e z) (steal_holds T l p K few w below i fa J D I e z) (max c (suc i)) (stolen_within e z)))))
      where
        counts : {z : State} → LoadWithin T (max c (pick (robs w i D) (suc i) 0)) z → LoadWithin T (max c (pick (robs w i D) (suc i) 0)) (counted z)
        counts k = record { light = k.light; busy = k.busy }

-- ---- rows of turns from the beginning

module _ (T : Table) (l : Lawful T) (p K : ℕ) (few : p ≤ 16) where
  pub start_within : LoadWithin T 0 (start_deques T).state
  unfolding Light
  start_within =
      record {
        light = λ t h i e. absurd (omega (arith, i, start_next_lem T l t h));
        busy = λ w h e. no_way (cc (start_worker T l w));
      }

  row_within : (row : List Pair) → BelowAll p row → (fa : ℕ) (J : ℕ → ℕ) (D : Deques) → SerialLines T p K fa J D → (c : ℕ) → LoadWithin T c D.state → LoadWithin T (max c (deepest T K D row)) (row_deques T K D row).state
  unfolding row_deques deepest
  row_within [] h fa J D I c g = grow T c (max c 0) D.state (omega arith) g
  row_within (x ∷ row) h fa J D I c g =
      let w : ℕ = x.worker in
      let i : ℕ = x.choice in
      let E : Deques = (deque_turn T K w i D).after in
      let b : w < p = (h x (mathlib.Core.List.Memᴰ.head refl)).0 in
      grow T (max (max c (robbed_at w i D)) (deepest T K E row)) (max c (max (robbed_at w i D) (deepest T K E row))) (row_deques T K E row).state (omega arith)
      (row_within row (λ y m. h y (mathlib.Core.List.Memᴰ.tail m)) (fa + steals_far w i D) (λ z. J z + steals_beyond T w i D z) E (turn_serial_lines T l p K few w b i fa J D I) (max c (robbed_at w i D))
      (turn_within T l p K few w b i fa J D I c g))

  module _ (row : List Pair) (h : BelowAll p row) where
    abbrev after : State
    after = (row_deques T K (start_deques T) row).state

    abbrev c : ℕ
    c = deepest T K (start_deques T) row

    -- the load law
    pub deque_light : Light T (row_deques T K (start_deques T) row).state.next (row_deques T K (start_deques T) row).state.status (deepest T K (start_deques T) row)
    deque_light =
        let z : max 0 c ≤ c = omega arith in
        (grow T (max 0 c) c after z (row_within row h 0 (λ x. 0) (start_deques T) (start_serial_lines T l p K few) 0 start_within)).light

    -- held is within the root's peak at load c
    pub deque_peak : (row_deques T K (start_deques T) row).state.held ≤ peak_at T 0 (deepest T K (start_deques T) row)
    deque_peak =
        peak_common T l p K after.next after.status after.amounts after.workers after.held after.highest (from_start T l p K few row h).kept.common c deque_light

-- with choices below q, c is at most q: so p workers hold at most S_(p + 1), and with all choices 0 at most S_2
pub deepest_under : (T : Table) (K q : ℕ) (row : List Pair) → ((g : Pair) → Memᴰ g row → g.choice < q) → (D : Deques) → deepest T K D row ≤ q
unfolding deepest robbed_at
deepest_under T K q [] h D = omega arith
deepest_under T K q (g ∷ row) h D =
    omega (arith, deepest_under T K q row (λ y m. h y (mathlib.Core.List.Memᴰ.tail m)) (deque_turn T K g.worker g.choice D).after, part (robs g.worker g.choice D), h g (mathlib.Core.List.Memᴰ.head refl))
  where
    part : (b : Bool) → pick b (suc g.choice) 0 ≤ suc g.choice
    part true = omega arith
    part false = omega arith

module _ (T : Table) (l : Lawful T) (p K : ℕ) (few : p ≤ 16) (row : List Pair) (h : BelowAll p row) where
  pub deque_under : (q : ℕ) → ((g : Pair) → Memᴰ g row → g.choice < q) → (row_deques T K (start_deques T) row).state.held ≤ workers_peak T (suc q)
  unfolding workers_peak
  deque_under q b =
      let e : suc q - 1 ≡ q = omega arith in
      rw e
      (omega (
        arith,
        deque_peak T l p K few row h,
        peak_rises T l (λ a. true) 0 (deepest T K (start_deques T) row) q l.some_thread (deepest_under T K q row b (start_deques T)),
      ))

  pub deque_workers : (row_deques T K (start_deques T) row).state.held ≤ workers_peak T (suc p)
  deque_workers = deque_under p (λ g m. (h g m).1)

  -- at the leftmost place alone: at most S_2, for every number of workers
  pub deque_leftmost : ((g : Pair) → Memᴰ g row → g.choice ≡ 0) → (row_deques T K (start_deques T) row).state.held ≤ workers_peak T 2
  deque_leftmost z = deque_under 1 (λ g m. omega (arith, z g m))

-- the same of the highest so far
pub deque_highest : (T : Table) (l : Lawful T) (p K : ℕ) → p ≤ 16 → (row : List Pair) → BelowAll p row → (q : ℕ) → ((g : Pair) → Memᴰ g row → g.choice < q)
    → (row_deques T K (start_deques T) row).state.highest ≤ workers_peak T (suc q)
deque_highest T l p K few row h q b =
    peak_within_lem T K (workers_peak T (suc q)) row (start_deques T) (let z : (start_state T).highest ≡ 0 = (start_held T l).1 in omega (arith, z))
    (λ front rest e.
    let part : (g : Pair) → Memᴰ g front → Memᴰ g row = λ g m. subst (λ (k : List Pair). Memᴰ g k) e (mathlib.Core.List.Memᴰ.append_left rest m) in
    deque_under T l p K few front (λ g m. h g (part g m)) q (λ g m. b g (part g m)))
