-- The load law: from a beginning, whatever the order of the turns of p workers, every entered unended thread has load at most p − 1. The load of a thread grows only when it is taken; and then
-- it is at most the number of the other workers (proofs/Takes).
use mathlib.Core.Path.{◌≡◌, refl, sym, ap, ◌∙◌}
use Prim.Native.Nat.{ℕ, zero, suc, ◌+◌, ◌-◌, ◌≤◌, ◌<◌}
use native.Mathlib.Omega.{arith}
use native.Mathlib.Decide.{ℕ_discrete, dec_lt}
use mathlib.Core.List.{List, [], ◌∷◌, Memᴰ}
use mathlib.Core.Bool.{Bool, true, false, not}
use mathlib.Core.Logic.{◌⊎◌, inl, inr}
use lib.ListN.{get_or}
use lib.Dec.{ltb, eqb}
use borrow.Author.Tests.{lt-ltb, le-ltb, eq-eqb, ne_eqb, eqb-false}
use Rattle.table.specs.Sum.{pick, sum_over}
use Rattle.table.specs.Format.{code_of, is, Table, kind}
use Rattle.table.specs.declared.kinds.Kind.{Kind}
use Rattle.table.specs.declared.kinds.Kind.TheVariants.{End as end, Work as work, Alloc as alloc, Free as free, Fork as fork, Join as join, Unknown as unknown}
use Rattle.table.specs.Checks.{owner, end_of, open_before, opened, tail}
use Rattle.table.specs.Level.{fork_below}
use Rattle.table.proofs.Tests.{no_way, is_true}
use Rattle.table.proofs.Words.{past_end}
use Rattle.table.proofs.Bodies.{after_end, end_within, owner_is, owner_of_end, fork_below_lem}
use Rattle.schedule.specs.Machine.{State, held, ended, next_of, status_of, worker_of, leftmost, turn_of}
use Rattle.schedule.specs.Begin.{start_state}
use Rattle.schedule.specs.Memory.{row_state}
use Rattle.order.specs.Order.{number_of}
use Rattle.schedule.specs.Sound.{is_done}
use Rattle.order.proofs.Lawful.{Lawful}
use Rattle.order.proofs.Numbers.{number_child, number_resume}
use Rattle.order.proofs.Words.{and_exactly, not_exactly}
use Rattle.schedule.proofs.Sound.Facts.{Facts}
use Rattle.schedule.proofs.Sound.Done.{done_live, done_ended, ended_all, number_first, owner_of_next}
use Rattle.schedule.proofs.Preservation.Turns.{leftmost_ready, turn_facts}
use Rattle.schedule.proofs.Preservation.Starts.{start_next_lem, start_worker, start_facts}
use Rattle.schedule.proofs.Bounds.Beyond.{start_action, begins}
use Rattle.schedule.proofs.Bounds.Tries.{Tries, Turned, idles, tries, turned, undone_before}
use Rattle.peaks.specs.Peak.{unended, unended_in, outer_within, outer, fresh, past, load, Light}
use Rattle.peaks.proofs.Loads.{past_fewer}
use Rattle.peaks.proofs.Takes.{taken_few}

-- ---- fewer unended threads

module _ (T : Table) (status status' : List ℕ) (kept : (y : ℕ) → get_or status y 0 ≡ ended → get_or status' y 0 ≡ ended) where
  one_fewer : (y : ℕ) → unended status' y ≤ unended status y
  one_fewer y = go (ℕ_discrete (get_or status y 0) ended) (eqb (get_or status' y 0) ended)
    where
      most : (q : Bool) → pick q 0 1 ≤ 1
      most true = omega arith
      most false = omega arith

      go : Dec (get_or status y 0 ≡ ended) → (q : Bool) → unended status' y ≤ unended status y
      go (yes e) q = rw (eq-eqb (get_or status y 0) ended e, eq-eqb (get_or status' y 0) ended (kept y e)) (omega arith)
      go (no n) q = rw (ne_eqb (get_or status y 0) ended n) (most (eqb (get_or status' y 0) ended))

  pub all_fewer : (l : List ℕ) → unended_in status' l ≤ unended_in status l
  unfolding sum_over
  all_fewer [] = omega arith
  all_fewer (y ∷ l) = omega (arith, one_fewer y, all_fewer l)

  pub outer_fewer : (k t : ℕ) → outer_within k T status' t ≤ outer_within k T status t
  unfolding outer_within
  outer_fewer zero t = omega arith
  outer_fewer (suc k) zero = omega arith
  outer_fewer (suc k) (suc t) =
      omega (arith, all_fewer (open_before T (fork_below T T.actions (suc t))), outer_fewer k (owner T (fork_below T T.actions (suc t))))

-- ---- one action more

-- the children that count after an action were open before it
pub past_step : (T : Table) (status : List ℕ) (a : ℕ) → unended_in status (past T (suc a)) ≤ unended_in status (open_before T a)
unfolding fresh open_before sum_over is code_of
past_step T status a = go (kind T a) (open_before T a)
  where
    go : (k : Kind) (l : List ℕ) → unended_in status (pick (is fork k) (tail (opened k (T.argument a) l)) (opened k (T.argument a) l)) ≤ unended_in status l
    go end l = omega arith
    go work l = omega arith
    go alloc l = omega arith
    go free l = omega arith
    go fork l = omega arith
    go join [] = omega arith
    go join (c ∷ l) = omega arith
    go unknown l = omega arith

-- .. and, but for a fork's, all that stand open after it
pub open_step : (T : Table) (status : List ℕ) (a : ℕ) → is fork (kind T a) ≡ false → unended_in status (open_before T (suc a)) ≤ unended_in status (open_before T a)
unfolding fresh
open_step T status a e = rw e at (past_step T status a)

-- ---- the invariant

pub record Loaded (T : Table) (p : ℕ) (st : State) : Type 0 where
  -- every entered unended thread has load at most p − 1
  pub light : Light T st.next st.status (p - 1)
  -- a held thread, a child forked directly before its next action counted with the others
  pub busy : (w : ℕ) → w < 16 → (worker_of st w).holds ≡ true → outer T st.status (worker_of st w).thread + unended_in st.status (open_before T (next_of st (worker_of st w).thread)) ≤ p - 1

module _ (T : Table) (l : Lawful T) (p K : ℕ) (few : p ≤ 16) where
  pub start_loaded : Loaded T p (start_state T)
  unfolding Light
  start_loaded =
      record {
        light = λ t h i e. absurd (omega (arith, start_next_lem T l t h));
        busy = λ w h e. no_way (cc (start_worker T l w));
      }

  module _ (w : ℕ) (below : w < p) (st : State) (f : Facts T p K st) (g : Loaded T p st) where
    abbrev after : State
    after = (turn_of T K w st).state

    f' : Facts T p K (turn_of T K w st).state
    f' = turn_facts T l p K few w below st f

    ended_below : (y : ℕ) → status_of st y ≡ ended → y < T.threads
    ended_below y e = go (dec_lt y T.threads) (dec_lt y 1024)
      where
        go : Dec (y < T.threads) → Dec (y < 1024) → y < T.threads
        go (yes h) d = h
        go (no h) (yes d) = absurd (omega (arith, f.unused_status y (omega (arith, h)) d))
        go (no h) (no d) = absurd (omega (arith, past_end st.status y (omega (arith, d, f.status_size))))

    -- who has ended stays ended
    stays_ended : (y : ℕ) → status_of st y ≡ ended → status_of (turn_of T K w st).state y ≡ ended
    stays_ended y e =
        let h : y < T.threads = ended_below y e in
        let z : end_of T y < T.actions = end_within T l.contents y h in
        let d : is_done T st (end_of T y) ≡ true = ended_all T l p K st f (end_of T y) z (rw (owner_of_end T l.contents y h) e) in
        done_ended T l p K (turn_of T K w st).state f' y h (go d (is_done T (turn_of T K w st).state (end_of T y)) refl)
      where
        go : is_done T st (end_of T y) ≡ true → (q : Bool) → is_done T (turn_of T K w st).state (end_of T y) ≡ q → q ≡ true
        go d true i = refl
        go d false i = no_way (cc (undone_before T l p K few w below st f (end_of T y) i))

    fewer : (k : List ℕ) → unended_in after.status k ≤ unended_in st.status k
    fewer = all_fewer T st.status after.status stays_ended

    fewer_outer : (t : ℕ) → outer T after.status t ≤ outer T st.status t
    fewer_outer t = outer_fewer T st.status after.status stays_ended T.threads t

    -- ---- the turn tries action a of thread t

    module _ (t a : ℕ) (y : Tries T K w st t a (turn_of T K w st)) where
      -- a is the thread's next action, and all that counts of it is at most p − 1
      at_next : (t < T.threads) × (next_of st t ≡ a) × (outer T st.status t + unended_in st.status (open_before T (next_of st t)) ≤ p - 1)
      unfolding begins
      at_next = go y.from
        where
          go : (((worker_of st w).holds ≡ true) × ((worker_of st w).thread ≡ t) × (next_of st t ≡ a)) ⊎ (((worker_of st w).holds ≡ false) × (begins w st ≡ true) × (start_action st ≡ a))
              → (t < T.threads) × (next_of st t ≡ a) × (outer T st.status t + unended_in st.status (open_before T (next_of st t)) ≤ p - 1)
          go (inl (e, i, n)) = (rw i at (f.holding.holder_thread w (omega arith) e), n, rw i at (g.busy w (omega arith) e))
          go (inr (e, b, n)) =
              let u : ℕ = get_or st.list (leftmost st.status st.list) 0 in
              let c = ((and_exactly (not (worker_of st w).holds) _).0 b).1 in
              let (m, r) = leftmost_ready st.status st.list (eqb-false _ _ ((not_exactly _).0 c)) in
              let h : u < T.threads = f.list_below u m in
              let o : u ≡ t = sym (owner_of_next T l p K st f u h) ∙ ap (owner T) n ∙ y.owned in
              (rw o at h, rw o at n, omega (arith, taken_few T l p K st f w t below e o (rw o at h) (rw o at (f.list_born u m))))

      inside : t < T.threads
      inside = at_next.0

      -- the thread goes on by one action at most
      goes : (status_of after t ≡ ended → ⊥) → (next_of after t ≡ a) ⊎ (next_of after t ≡ suc a)
      goes n = go (dec_lt (next_of after t) a) (ℕ_discrete (next_of after t) a) (ℕ_discrete (next_of after t) (suc a))
        where
          before : (d : ℕ) → owner T d ≡ t → (status_of st t ≡ ended → ⊥) → is_done T st d ≡ ltb d a
          before d o e = rw (o, at_next.1) at (done_live T st d (rw o e))

          later : (d : ℕ) → owner T d ≡ t → is_done T after d ≡ ltb d (next_of after t)
          later d o = rw o at (done_live T after d (rw o n))

          not_ended : status_of st t ≡ ended → ⊥
          not_ended e = n (stays_ended t e)

          go : Dec (next_of after t < a) → Dec (next_of after t ≡ a) → Dec (next_of after t ≡ suc a) → (next_of after t ≡ a) ⊎ (next_of after t ≡ suc a)
          go (yes i) j k =
              let d : ℕ = next_of after t in
              let o : owner T d ≡ t = owner_of_next T l p K after f' t inside in
              no_way (cc (
                y.acted.done_others d (λ e. omega arith),
                before d o not_ended,
                later d o,
                lt-ltb d a i,
                le-ltb d d (omega arith),
              ))
          go (no i) (yes j) k = inl j
          go (no i) (no j) (yes k) = inr k
          go (no i) (no j) (no k) =
              let d : ℕ = suc a in
              let big : d < next_of after t = omega (arith, i, j, k) in
              let o : owner T d ≡ t =
              owner_is T l.contents t d inside (omega (arith, f.next_low t inside, at_next.1)) (omega (arith, f'.next_high t inside, after_end T l.contents t inside)) in
              no_way (cc (
                y.acted.done_others d (λ e. omega arith),
                before d o not_ended,
                later d o,
                lt-ltb d (next_of after t) big,
                le-ltb d a (omega arith),
              ))

      -- what is kept is no fork's
      no_fork : (worker_of after w).holds ≡ true → next_of after t ≡ suc a → is fork (kind T a) ≡ false
      no_fork e n = go (is fork (kind T a)) refl
        where
          go : (q : Bool) → is fork (kind T a) ≡ q → q ≡ false
          go false i = refl
          go true i =
              let k : kind T a ≡ fork = is_true fork (kind T a) i in
              let c : ℕ = T.argument a in
              let h : c < T.threads = fork_below_lem T l.contents l.bodies a y.within k in
              let s : number_of T (T.first c) ≤ number_of T (end_of T c) =
              rw (owner_of_end T l.contents c h) at (number_first T l (end_of T c) (end_within T l.contents c h)) in
              absurd (omega (arith, rw n at (y.acted.keeps e).2, number_resume T l a y.within k, number_child T l a y.within k))

      light_after : Light T after.next after.status (p - 1)
      unfolding Light load
      light_after x h i n = go (ℕ_discrete x t)
        where
          other : (x ≡ t → ⊥) → outer T after.status x + unended_in after.status (past T (next_of after x)) ≤ p - 1
          other d =
              let e : next_of after x ≡ next_of st x = y.acted.next_others x d in
              let b : outer T st.status x + unended_in st.status (past T (next_of st x)) ≤ p - 1 = g.light x h (rw e at i) (λ q. n (stays_ended x q)) in
              rw e (omega (arith, b, fewer_outer x, fewer (past T (next_of st x))))

          own : (status_of after t ≡ ended → ⊥) → (next_of after t ≡ a) ⊎ (next_of after t ≡ suc a) → outer T after.status t + unended_in after.status (past T (next_of after t)) ≤ p - 1
          own n (inl e) =
              let b = rw at_next.1 at at_next.2 in
              rw e (omega (arith, b, fewer_outer t, fewer (open_before T a), past_fewer T after.status a))
          own n (inr e) =
              let b = rw at_next.1 at at_next.2 in
              rw e (omega (arith, b, fewer_outer t, fewer (open_before T a), past_step T after.status a))

          go : Dec (x ≡ t) → outer T after.status x + unended_in after.status (past T (next_of after x)) ≤ p - 1
          go (no d) = other d
          go (yes d) = rw d (own (rw d at n) (goes (rw d at n)))

      busy_after_lem : (v : ℕ) → v < 16 → (worker_of after v).holds ≡ true
          → outer T after.status (worker_of after v).thread + unended_in after.status (open_before T (next_of after (worker_of after v).thread)) ≤ p - 1
      busy_after_lem v h e = go (ℕ_discrete v w)
        where
          own : (worker_of after w).holds ≡ true → (next_of after t ≡ a) ⊎ (next_of after t ≡ suc a) → outer T after.status t + unended_in after.status (open_before T (next_of after t)) ≤ p - 1
          own e (inl n) =
              let b = rw at_next.1 at at_next.2 in
              rw n (omega (arith, b, fewer_outer t, fewer (open_before T a)))
          own e (inr n) =
              let b = rw at_next.1 at at_next.2 in
              rw n (omega (arith, b, fewer_outer t, fewer (open_before T a), open_step T after.status a (no_fork e n)))

          go : Dec (v ≡ w) → outer T after.status (worker_of after v).thread + unended_in after.status (open_before T (next_of after (worker_of after v).thread)) ≤ p - 1
          go (no d) =
              let same : worker_of after v ≡ worker_of st v = y.acted.worker_others v d in
              let e' : (worker_of st v).holds ≡ true = rw same at e in
              let x : ℕ = (worker_of st v).thread in
              let n : next_of after x ≡ next_of st x = y.acted.next_others x (λ q. y.apart v h d e' q) in
              rw (same, n) (omega (arith, g.busy v h e', fewer_outer x, fewer (open_before T (next_of st x))))
          go (yes d) =
              let e' : (worker_of after w).holds ≡ true = rw d at e in
              let z : (worker_of after w).thread ≡ t = (y.acted.keeps e').1 in
              let q : status_of after t ≡ held = rw z at (f'.holding.holder_held w (omega arith) e') in
              rw (d, z) (own e' (goes (λ i. omega arith)))

    pub turn_loaded : Loaded T p (turn_of T K w st).state
    unfolding Light load
    turn_loaded = go (turned T l p K few w below st f)
      where
        go : Turned T K w st (turn_of T K w st) → Loaded T p (turn_of T K w st).state
        go (idles e r n s v) = record { light = rw (n, s) g.light; busy = rw (n, s, v) g.busy }
        go (tries t a y) = record { light = light_after t a y; busy = busy_after_lem t a y }

  pub row_loaded : (st : State) → Facts T p K st → Loaded T p st → (row : List ℕ) → ((w : ℕ) → Memᴰ w row → w < p) → Loaded T p (row_state T K st row)
  unfolding row_state
  row_loaded st f g [] h = g
  row_loaded st f g (w ∷ row) h =
      let i : w < p = h w (Memᴰ.head refl) in
      row_loaded (turn_of T K w st).state (turn_facts T l p K few w i st f) (turn_loaded w i st f g) row (λ v m. h v (Memᴰ.tail m))

  -- the load law
  pub row_light : (row : List ℕ) → ((w : ℕ) → Memᴰ w row → w < p) → Light T (row_state T K (start_state T) row).next (row_state T K (start_state T) row).status (p - 1)
  row_light row h = (row_loaded (start_state T) (start_facts T l p K) start_loaded row h).light
