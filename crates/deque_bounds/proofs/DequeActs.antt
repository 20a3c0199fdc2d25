-- An action of DFDeques keeps a bound on loads.
use mathlib.Core.Path.{◌≡◌, sym, ap, ◌∙◌}
use Prim.Native.Nat.{ℕ, suc, ◌+◌, ◌≤◌, ◌<◌}
use native.Mathlib.Omega.{arith}
use native.Mathlib.Decide.{ℕ_discrete, dec_lt}
use mathlib.Core.List.{List, [], ◌∷◌}
use mathlib.Core.Bool.{Bool, true, false}
use mathlib.Core.Logic.{◌⊎◌, inl, inr}
use borrow.Author.Tests.{eq-eqb}
use Rattle.table.specs.Sum.{pick, sum_over}
use Rattle.table.specs.Format.{is, Table, kind}
use Rattle.table.specs.declared.kinds.Kind.TheVariants.{End as end, Fork as fork, Join as join}
use Rattle.table.specs.Checks.{owner, end_of, open_before}
use Rattle.table.proofs.Tests.{no_way, is_true, same_is}
use Rattle.table.proofs.Bodies.{end_within, end_last, owner_of_end, owner_first, fork_above, fork_below_lem}
use Rattle.table.proofs.Nesting.{open_first, open_fork, open_join}
use Rattle.schedule.specs.Machine.{State, unborn, held, waiting, ended, next_of, status_of, worker_of}
use Rattle.schedule.specs.Sound.{is_done}
use Rattle.order.proofs.Lawful.{Lawful}
use Rattle.order.proofs.Words.{never_true}
use Rattle.schedule.proofs.Sound.Facts.{Facts}
use Rattle.schedule.proofs.Sound.Done.{done_ended, ended_all, next_below, owner_of_next, undone_unborn, unborn_first}
use Rattle.schedule.proofs.Sound.Leftmost.{next_undone}
use Rattle.schedule.proofs.Linked.Waiting.{awaited}
use Rattle.peaks.specs.Peak.{unended_in, outer, fresh, past, load, Light}
use Rattle.peaks.proofs.Loads.{outer_child, past_fewer}
use Rattle.peaks.proofs.LoadLaw.{all_fewer, outer_fewer, past_step, open_step}
use Rattle.table.proofs.Words.{past_end}
use Rattle.deques.specs.Deques.{Deque, Deques}
use Rattle.deques.proofs.DequeTurns.{with_serial}
use Rattle.deque_bounds.proofs.Lines.{Live, Link, Moved}
use Rattle.deque_bounds.proofs.ActionLeaves.{ActionLeaves, stays, forks, pops, drops, leaves, wakes, stops}

-- every entered unended thread has load at most c; of a held one, a child forked directly before its next action counted too
pub record LoadWithin (T : Table) (c : ℕ) (st : State) : Type 0 where
  pub light : Light T st.next st.status c
  pub busy : (w : ℕ) → w < 16 → (worker_of st w).holds ≡ true → outer T st.status (worker_of st w).thread + unended_in st.status (open_before T (next_of st (worker_of st w).thread)) ≤ c

module _ (T : Table) (l : Lawful T) (p K : ℕ) (few : p ≤ 16) (w : ℕ) (below : w < p) (st : State) (f : Facts T p K (with_serial T l st)) (holds : (worker_of st w).holds ≡ true) (c : ℕ) (g : LoadWithin T c st)
    (q : ℕ) (front : List Deque) (k : List ℕ) (rest : List Deque) (link : (t2 : ℕ) (j : List ℕ) → k ≡ t2 ∷ j → Link T st (worker_of st w).thread t2 × (status_of st t2 ≡ ended → ⊥) × (t2 < T.threads))
    (alone : (t2 : ℕ) (j : List ℕ) → k ≡ t2 ∷ j → kind T (next_of st (worker_of st w).thread) ≡ join → (status_of st (T.argument (next_of st (worker_of st w).thread)) ≡ ended → ⊥) → ⊥)
    (D : Deques) (f' : Facts T p K (with_serial T l D.state)) where
  abbrev sw : State
  sw = with_serial T l st

  abbrev s : State
  s = D.state

  abbrev s' : State
  s' = with_serial T l D.state

  abbrev t : ℕ
  t = (worker_of st w).thread

  abbrev a : ℕ
  a = next_of st t

  w16 : w < 16
  w16 = omega (arith, few, below)

  inside : t < T.threads
  inside = f.holding.holder_thread w w16 holds

  is_held : status_of st t ≡ held
  is_held = f.holding.holder_held w w16 holds

  within : a < T.actions
  within = next_below T l p K sw f t inside

  owned : owner T a ≡ t
  owned = owner_of_next T l p K sw f t inside

  undone : is_done T st a ≡ false
  undone = next_undone T l p K sw f t inside (λ e. omega (arith, e, is_held))

  -- what counts of t
  full : outer T st.status t + unended_in st.status (open_before T a) ≤ c
  full = g.busy w w16 holds

  ended_below : (y : ℕ) → status_of st y ≡ ended → y < T.threads
  ended_below y e = go (dec_lt y T.threads) (dec_lt y 1024)
    where
      go : Dec (y < T.threads) → Dec (y < 1024) → y < T.threads
      go (yes h) d = h
      go (no h) (yes d) = absurd (omega (arith, e, f.unused_status y (omega (arith, h)) d))
      go (no h) (no d) = absurd (omega (arith, e, past_end st.status y (omega (arith, d, f.status_size))))

  module _ (m : Moved T K w t a q st D.state) where
    stays_ended : (y : ℕ) → status_of st y ≡ ended → status_of D.state y ≡ ended
    stays_ended y e =
        let h : y < T.threads = ended_below y e in
        let z : end_of T y < T.actions = end_within T l.contents y h in
        let d : is_done T st (end_of T y) ≡ true = ended_all T l p K sw f (end_of T y) z (rw (owner_of_end T l.contents y h) e) in
        let n : end_of T y ≡ a → ⊥ = λ i. no_way (cc (undone)) in
        done_ended T l p K s' f' y h (m.done_others (end_of T y) n ∙ d)

    fewer : (x : List ℕ) → unended_in s.status x ≤ unended_in st.status x
    fewer = all_fewer T st.status s.status stays_ended

    fewer_outer : (x : ℕ) → outer T s.status x ≤ outer T st.status x
    fewer_outer x = outer_fewer T st.status s.status stays_ended T.threads x

    -- t goes on by one action at most, or it has ended
    abbrev Next : Type 0
    Next = (next_of s t ≡ a) ⊎ ((next_of s t ≡ suc a) ⊎ (Live s t → ⊥))

    light_after : Next → Light T s.next s.status c
    unfolding Light load
    light_after goes x h i n = go (ℕ_discrete x t)
      where
        other : (x ≡ t → ⊥) → outer T s.status x + unended_in s.status (past T (next_of s x)) ≤ c
        other d =
            let e : next_of s x ≡ next_of st x = m.next_others x d in
            let b : outer T st.status x + unended_in st.status (past T (next_of st x)) ≤ c = g.light x h (rw e at i) (λ z. n (stays_ended x z)) in
            rw e (omega (arith, b, fewer_outer x, fewer (past T (next_of st x))))

        born : x ≡ t → status_of s t ≡ unborn → ⊥
        born d u = omega (arith, i, ap (next_of s) d, ap T.first d, unborn_first T l p K s' f' t inside u)

        own : x ≡ t → Next → outer T s.status t + unended_in s.status (past T (next_of s t)) ≤ c
        own d (inl e) = rw e (omega (arith, full, fewer_outer t, fewer (open_before T a), past_fewer T s.status a))
        own d (inr (inl e)) = rw e (omega (arith, full, fewer_outer t, fewer (open_before T a), past_step T s.status a))
        own d (inr (inr e)) = absurd (e (born d, rw d at n))

        go : Dec (x ≡ t) → outer T s.status x + unended_in s.status (past T (next_of s x)) ≤ c
        go (no d) = other d
        go (yes d) = rw d (own d goes)

    -- the other workers, and w with what it holds now
    after : Next → ((worker_of s w).holds ≡ true → outer T s.status (worker_of s w).thread + unended_in s.status (open_before T (next_of s (worker_of s w).thread)) ≤ c) → LoadWithin T c s
    after goes mine = record { light = light_after goes; busy = λ v h e. at v h e (ℕ_discrete v w) }
      where
        at : (v : ℕ) → v < 16 → (worker_of s v).holds ≡ true → Dec (v ≡ w) → outer T s.status (worker_of s v).thread + unended_in s.status (open_before T (next_of s (worker_of s v).thread)) ≤ c
        at v h e (yes d) = rw d (mine (rw d at e))
        at v h e (no d) =
            let same : worker_of s v ≡ worker_of st v = m.worker_others v d in
            let e' : (worker_of st v).holds ≡ true = rw same at e in
            let x : ℕ = (worker_of st v).thread in
            let n : next_of s x ≡ next_of st x = m.next_others x (λ z. d (f.holding.holder_once v w h w16 e' holds z)) in
            rw (same, n) (omega (arith, g.busy v h e', fewer_outer x, fewer (open_before T (next_of st x))))

    t_ended : kind T a ≡ end → is_done T s a ≡ true → status_of s t ≡ ended
    t_ended e d =
        let z : a ≡ end_of T t = rw owned at (end_last T l.contents l.bodies a within e) in
        done_ended T l p K s' f' t inside (rw (← z) d)

    -- it goes on with t
    on_stay : (kind T a ≡ fork → ⊥) → (worker_of s w).thread ≡ t → next_of s t ≡ suc a → LoadWithin T c s
    on_stay n e i =
        let b : is fork (kind T a) ≡ false = never_true (is fork (kind T a)) (λ z. n (is_true fork (kind T a) z)) in
        after (inr (inl i)) (λ h. rw (e, i) (omega (arith, full, fewer_outer t, fewer (open_before T a), open_step T s.status a b)))

    -- .. with the child that t forks
    on_fork : kind T a ≡ fork → (worker_of s w).thread ≡ T.argument a → next_of s t ≡ suc a → LoadWithin T c s
    unfolding sum_over
    on_fork y e i =
        let x : ℕ = T.argument a in
        let b : x < T.threads = fork_below_lem T l.contents l.bodies a within y in
        let up : t < x = rw owned at (fork_above T l.contents l.bodies a within y) in
        let z : next_of s x ≡ T.first x = m.next_others x (λ d. omega arith) ∙ unborn_first T l p K sw f x b (undone_unborn T l p K sw f a within y undone) in
        let o : outer T st.status x ≡ unended_in st.status (open_before T a) + outer T st.status t = rw owned at (outer_child T l st.status a within y) in
        after (inr (inl i)) (λ h. rw (e, z, open_first T l.contents l.bodies l.nesting x b) (omega (arith, full, o, fewer_outer x)))

    -- .. with the thread below, which forked t directly before
    on_pop : (t2 : ℕ) (j : List ℕ) → k ≡ t2 ∷ j → kind T a ≡ end → (Live s t → ⊥) → (worker_of s w).thread ≡ t2 → is_done T s a ≡ true → LoadWithin T c s
    unfolding Light load fresh sum_over
    on_pop t2 j e y dead i d =
        let (L, r, h2) = link t2 j e in
        let x : ℕ = L.action in
        let low : T.first t2 ≤ x = rw L.owned at (owner_first T l.contents x L.within) in
        let o : open_before T (suc x) ≡ t ∷ open_before T x = rw L.names at (open_fork T l.contents l.bodies l.nesting x L.forks) in
        let b : outer T st.status t2 + unended_in st.status (open_before T x) ≤ c =
        rw (L.next, same_is fork (kind T x) L.forks, o) at (g.light t2 h2 (omega (arith, low, L.next)) r) in
        let up : t2 < t = rw (L.owned, L.names) at (fork_above T l.contents l.bodies x L.within L.forks) in
        let n : next_of s t2 ≡ suc x = m.next_others t2 (λ z. omega (arith, up, z)) ∙ L.next in
        after (inr (inr dead)) (λ h. rw (i, n, o, eq-eqb (status_of s t) ended (t_ended y d)) (omega (arith, b, fewer_outer t2, fewer (open_before T x))))

    -- .. with the parent that waited for t
    on_wake : (u : ℕ) → u < T.threads → status_of st u ≡ waiting → awaited T st u ≡ t → kind T a ≡ end → (Live s t → ⊥) → (worker_of s w).thread ≡ u → is_done T s a ≡ true → LoadWithin T c s
    unfolding Light load sum_over
    on_wake u h2 r e y dead i d =
        let x : ℕ = next_of st u in
        let v : x < T.actions = next_below T l p K sw f u h2 in
        let o : open_before T x ≡ t ∷ open_before T (suc x) = rw e at (open_join T l.contents l.bodies l.nesting x v (f.wait_join u h2 r)) in
        let apart : T.first u ≡ x → ⊥ = no_first o in
        let entered : T.first u < x = omega (arith, f.next_low u h2, apart) in
        let b : outer T st.status u + unended_in st.status (past T x) ≤ c = g.light u h2 entered (λ z. omega (arith, z, r)) in
        let n : next_of s u ≡ x = m.next_others u (λ z. omega (arith, r, is_held, ap (status_of st) z)) in
        after (inr (inr dead))
        (λ h. rw (i, n, o, eq-eqb (status_of s t) ended (t_ended y d)) (omega (arith, b, fewer_outer u, fewer (open_before T (suc x)), tail_past x o)))
      where
        no_first : open_before T (next_of st u) ≡ t ∷ open_before T (suc (next_of st u)) → T.first u ≡ next_of st u → ⊥
        no_first o z = no_way (let w : [] ≡ t ∷ open_before T (suc (next_of st u)) = sym (open_first T l.contents l.bodies l.nesting u h2) ∙ ap (open_before T) z ∙ o in cc)

        tail_past : (x : ℕ) → open_before T x ≡ t ∷ open_before T (suc x) → unended_in st.status (open_before T (suc x)) ≤ unended_in st.status (past T x)
        tail_past x o = rw o (go (fresh T x))
          where
            go : (q : Bool) → unended_in st.status (open_before T (suc x)) ≤ unended_in st.status (pick q (open_before T (suc x)) (t ∷ open_before T (suc x)))
            go true = omega arith
            go false = omega arith

  pub act_within : ActionLeaves T K w t a q st front k rest D → LoadWithin T c s
  act_within (stays m n e i d z y) = on_stay m n e y
  act_within (forks m y e i d z) = on_fork m y e i
  act_within (pops t2 j e m y dead i d z) = on_pop m t2 j e y dead i d
  act_within (drops t2 j e y n) = absurd (alone t2 j e y n)
  act_within (leaves e m n o i z) = after m (inl i) (λ h. no_way cc)
  act_within (wakes u h e b m y dead i d z) = on_wake m u h e b y dead i d
  act_within (stops m n o i z) = after m (inl i) (λ h. no_way cc)
