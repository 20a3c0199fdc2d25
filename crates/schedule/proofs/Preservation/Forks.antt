-- A fork keeps a sound state sound: its child enters the list left of the thread, and both are ready.
use mathlib.Core.Path.{◌≡◌, refl, sym, ◌∙◌}
use Prim.Native.Nat.{ℕ, suc, ◌+◌, ◌≤◌, ◌<◌}
use mathlib.Core.List.{Memᴰ}
use mathlib.Core.Bool.{false}
use mathlib.Core.Logic.{◌⊎◌, inl, inr}
use native.Mathlib.Decide.{ℕ_discrete, dec_lt}
use native.Mathlib.Omega.{arith}
use lib.ListN.{length, set, length-set}
use lib.Seq.{get_or-set_same, get_or-set_other}
use lib.Dec.{eqb}
use Rattle.table.specs.Format.{code_of, is, Table, kind}
use Rattle.table.specs.declared.kinds.Kind.TheVariants.{Fork as fork, Join as join}
use Rattle.table.specs.Checks.{owner, end_of, alloc_of, free_of}
use Rattle.table.specs.Level.{fork_below, depends_on}
use Rattle.table.proofs.Tests.{no_way, fork_no_end}
use Rattle.table.proofs.Bodies.{after_end, end_within, owner_end, fork_above, fork_below_lem, next_within, next_owner, owner_of_end}
use Rattle.table.proofs.Nesting.{fork_found}
use Rattle.schedule.specs.Machine.{State, unborn, ready, held, waiting, ended, next_of, status_of, left_of, act_by}
use Rattle.schedule.specs.Sound.{is_done}
use Rattle.order.specs.Order.{number_of}
use Rattle.order.proofs.Lawful.{Lawful}
use Rattle.order.proofs.Words.{Ascends, eqb_same}
use Rattle.order.proofs.Numbers.{number_once, number_child, number_past}
use Rattle.schedule.proofs.Sound.Sharing.{Shared}
use Rattle.schedule.proofs.Sound.Facts.{Done, Facts}
use Rattle.schedule.proofs.Preservation.ListMoves.{left_of_new, left_of_old, left_of_cases, ascends_left_of}
use Rattle.schedule.proofs.Sound.Done.{owner_of_next, next_below, unborn_first, undone_unborn, between_unborn, number_first}
use Rattle.schedule.proofs.Preservation.Does.{Does, over_does, does_ordered, does_amount, does_fork}
use Rattle.schedule.proofs.Preservation.ShareMoves.{over_progressed, shared_same}
use Rattle.schedule.proofs.Preservation.Releases.{Acting, acting_depends, LetsGo, freed, released_holding}

-- ---- the state after a fork, place by place

pub record Forked (w t a c : ℕ) (st st' : State) : Type 0 where
  pub lets_go : LetsGo w st st'
  pub next_here : next_of st' t ≡ suc a
  pub next_other : (u : ℕ) → (u ≡ t → ⊥) → next_of st' u ≡ next_of st u
  pub status_here : status_of st' t ≡ ready
  pub status_child : status_of st' c ≡ ready
  pub status_other : (u : ℕ) → (u ≡ t → ⊥) → (u ≡ c → ⊥) → status_of st' u ≡ status_of st u
  pub list_is : st'.list ≡ left_of c t st.list

module _ (T : Table) (K w t a c : ℕ) (st : State) where
  forked : length st.next ≡ 1024 → length st.status ≡ 1024 → length st.workers ≡ 16 → w < 16 → t < c → c < 1024 → next_of st t ≡ a
      → Forked w t a c st (act_by fork T K w t a c st).state
  unfolding act_by
  forked n s k i j h e =
      record {
        lets_go = freed w st (act_by fork T K w t a c st).state i k refl (simp length-set) (simp length-set) refl refl refl;
        next_here = get_or-set_same st.next t (suc (next_of st t)) 0 (omega arith) ∙ rw e;
        next_other = λ u o. get_or-set_other st.next t u (suc (next_of st t)) 0 o;
        status_here = get_or-set_other (set st.status t ready) c t ready 0 (λ q. omega arith) ∙ get_or-set_same st.status t ready 0 (omega arith);
        status_child = get_or-set_same (set st.status t ready) c ready 0 (simp length-set (omega arith));
        status_other = λ u o r. get_or-set_other (set st.status t ready) c u ready 0 r ∙ get_or-set_other st.status t u ready 0 o;
        list_is = refl;
      }

pub acting_forked : (T : Table) → Lawful T → (p K w t a : ℕ) (st : State) → Facts T p K st → Acting T w t a st → kind T a ≡ fork
    → Forked w t a (T.argument a) st (act_by fork T K w t a (T.argument a) st).state
acting_forked T l p K w t a st f x k =
    forked T K w t a (T.argument a) st f.next_size f.status_size f.holding.worker_size x.worker
    (omega (arith, fork_above T l.contents l.bodies a x.action k, x.owned))
    (omega (arith, fork_below_lem T l.contents l.bodies a x.action k, l.few_threads)) x.next

-- ---- what a fork keeps

module _ (T : Table) (l : Lawful T) (p K : ℕ) (w t a c : ℕ) (st : State) (f : Facts T p K st) (x : Acting T w t a st) (k : kind T a ≡ fork) (e : T.argument a ≡ c)
    (st' : State) (m : Forked w t a c st st') where
  above : t < c
  above = rw (e, x.owned) at (fork_above T l.contents l.bodies a x.action k)

  child : c < T.threads
  child = rw e at (fork_below_lem T l.contents l.bodies a x.action k)

  -- the child has done nothing yet
  child_unborn : status_of st c ≡ unborn
  child_unborn = rw e at (undone_unborn T l p K st f a x.action k x.undone)

  listed : Memᴰ t st.list
  listed = f.live_listed t x.thread (λ q. omega (arith, x.taken)) (λ q. omega (arith, x.taken))

  -- a thread that is not ready now is neither of the two, and was what it is
  back : (s : ℕ) → (s ≡ ready → ⊥) → (u : ℕ) → status_of st' u ≡ s → (u ≡ t → ⊥) × (u ≡ c → ⊥) × (status_of st u ≡ s)
  back s n u q = (here, there, sym (m.status_other u here there) ∙ q)
    where
      here : u ≡ t → ⊥
      here i = n (sym q ∙ rw i m.status_here)

      there : u ≡ c → ⊥
      there i = n (sym q ∙ rw i m.status_child)

  -- a thread that was neither held nor unborn is what it was
  forth : (s : ℕ) → (s ≡ held → ⊥) → (s ≡ unborn → ⊥) → (u : ℕ) → status_of st u ≡ s → status_of st' u ≡ s
  forth s n o u q = m.status_other u (λ i. n (sym q ∙ rw i x.taken)) (λ i. o (sym q ∙ rw i child_unborn)) ∙ q

  -- the same threads have ended
  ends : (u : ℕ) → eqb (status_of st' u) ended ≡ eqb (status_of st u) ended
  ends u = eqb_same (status_of st' u) (status_of st u) ended (λ q. (back ended (λ i. omega arith) u q).2) (forth ended (λ i. omega arith) (λ i. omega arith) u)

  does : Does T a st st'
  does =
      over_does T st st' t a x.owned x.next (λ q. omega (arith, x.taken)) ends m.next_here m.next_other

  fork_low : (u : ℕ) → u < T.threads → T.first u ≤ next_of st' u
  fork_low u h = go (ℕ_discrete u t)
    where
      go : Dec (u ≡ t) → T.first u ≤ next_of st' u
      go (yes i) = rw (i, m.next_here) (omega (arith, f.next_low t x.thread, x.next))
      go (no n) = rw (m.next_other u n) (f.next_low u h)

  -- the thread goes on in its own body
  later : (suc a < T.actions) × (owner T (suc a) ≡ t)
  later = (next_within T l.contents l.bodies a x.action (fork_no_end k), next_owner T l.contents l.bodies a x.action (fork_no_end k) ∙ x.owned)

  fork_high : (u : ℕ) → u < T.threads → next_of st' u ≤ end_of T u
  fork_high u h = go (ℕ_discrete u t)
    where
      go : Dec (u ≡ t) → next_of st' u ≤ end_of T u
      go (yes i) =
          let q : suc a < T.first t + T.count t = rw later.1 at (owner_end T l.contents (suc a) later.0) in
          rw (i, m.next_here) (omega (arith, after_end T l.contents t x.thread))
      go (no n) = rw (m.next_other u n) (f.next_high u h)

  fork_ordered : (v d : ℕ) → v < T.actions → Done T st' v → Memᴰ d (depends_on T v) → Done T st' d
  fork_ordered = does_ordered T l p K st f a x.action st' does (acting_depends T l p K w t a st f x (λ j. no_way cc))

  fork_known : (u : ℕ) → u < T.threads → status_of st' u ≤ ended
  fork_known u h = go (ℕ_discrete u t) (ℕ_discrete u c)
    where
      go : Dec (u ≡ t) → Dec (u ≡ c) → status_of st' u ≤ ended
      go (yes i) j = rw (i, m.status_here) (omega arith)
      go (no i) (yes j) = rw (j, m.status_child) (omega arith)
      go (no i) (no j) = rw (m.status_other u i j) (f.status_known u h)

  fork_unborn_undone : (u : ℕ) → 0 < u → u < T.threads → status_of st' u ≡ unborn → is_done T st' (fork_below T T.actions u) ≡ false
  fork_unborn_undone u pos h q =
      let (i, j, r) = back unborn (λ i. omega arith) u q in
      does_fork T l p K st f a x.action st' does u pos h (λ y z. j (sym z ∙ e)) ∙ f.unborn_fork u pos h r

  fork_undone_unborn : (u : ℕ) → 0 < u → u < T.threads → is_done T st' (fork_below T T.actions u) ≡ false → status_of st' u ≡ unborn
  fork_undone_unborn u pos h q = go (ℕ_discrete u c)
    where
      found : fork_below T T.actions c ≡ a
      found = rw e at (fork_found T l.contents l.bodies l.nesting a x.action k)

      go : Dec (u ≡ c) → status_of st' u ≡ unborn
      go (yes i) = no_way (cc (does.now, found))
      go (no i) =
          let before : status_of st u ≡ unborn =
          f.fork_unborn u pos h (sym (does_fork T l p K st f a x.action st' does u pos h (λ y z. i (sym z ∙ e))) ∙ q) in
          m.status_other u (λ j. omega (arith, x.taken, rw j at before)) i ∙ before

  fork_ended : (u : ℕ) → u < T.threads → status_of st' u ≡ ended → next_of st' u ≡ end_of T u
  fork_ended u h q =
      let (i, j, r) = back ended (λ i. omega arith) u q in
      m.next_other u i ∙ f.ended_last u h r

  -- ---- the list

  fork_listed : (u : ℕ) → Memᴰ u st'.list → (u ≡ c) ⊎ Memᴰ u st.list
  fork_listed u i = left_of_cases c t u st.list (rw m.list_is at i)

  fork_below_all : (u : ℕ) → Memᴰ u st'.list → u < T.threads
  fork_below_all u i = go (fork_listed u i)
    where
      go : (u ≡ c) ⊎ Memᴰ u st.list → u < T.threads
      go (inl j) = rw j child
      go (inr j) = f.list_below u j

  -- a status that no listed thread had, and that is not ready, none has
  fork_none : (s : ℕ) → (s ≡ ready → ⊥) → ((u : ℕ) → Memᴰ u st.list → status_of st u ≡ s → ⊥)
      → (u : ℕ) → Memᴰ u st'.list → status_of st' u ≡ s → ⊥
  fork_none s n none u i q = go (fork_listed u i)
    where
      go : (u ≡ c) ⊎ Memᴰ u st.list → ⊥
      go (inl j) = (back s n u q).1 j
      go (inr j) = none u j (back s n u q).2

  fork_live : (u : ℕ) → u < T.threads → (status_of st' u ≡ unborn → ⊥) → (status_of st' u ≡ ended → ⊥) → Memᴰ u st'.list
  fork_live u h n o = rw m.list_is (go (ℕ_discrete u t) (ℕ_discrete u c))
    where
      go : Dec (u ≡ t) → Dec (u ≡ c) → Memᴰ u (left_of c t st.list)
      go (yes i) j = rw i (left_of_old c t t st.list listed)
      go (no i) (yes j) = rw j (left_of_new c t st.list listed)
      go (no i) (no j) =
          let q : status_of st' u ≡ status_of st u = m.status_other u i j in
          left_of_old c t u st.list (f.live_listed u h (λ r. n (q ∙ r)) (λ r. o (q ∙ r)))

  fork_serial : Ascends (λ u. number_of T (next_of st' u)) st'.list
  fork_serial = rw m.list_is (ascends_left_of before after c t up past st.list same beyond listed f.serial)
    where
      before : ℕ → ℕ
      before u = number_of T (next_of st u)

      after : ℕ → ℕ
      after u = number_of T (next_of st' u)

      first : next_of st' c ≡ T.first c
      first = m.next_other c (λ i. omega (arith, above)) ∙ unborn_first T l p K st f c child child_unborn

      up : before t < after c
      up = rw (first, x.next, ← e) (omega (arith, number_child T l a x.action k))

      past : after c < after t
      past =
          let low : number_of T (T.first c) ≤ number_of T (end_of T c) =
          rw (owner_of_end T l.contents c child) at (number_first T l (end_of T c) (end_within T l.contents c child)) in
          rw (first, m.next_here) (omega (arith, rw e at (number_past T l a x.action k)))

      same : (u : ℕ) → Memᴰ u st.list → (u ≡ t → ⊥) → after u ≡ before u
      same u i n = rw (m.next_other u n)

      beyond : (u : ℕ) → Memᴰ u st.list → before t < before u → after t < before u
      beyond u i h = rw m.next_here (go (dec_lt (number_of T (suc a)) (before u)) (ℕ_discrete (number_of T (suc a)) (before u)))
        where
          inside : u < T.threads
          inside = f.list_below u i

          low : number_of T a < before u
          low = rw x.next at h

          go : Dec (number_of T (suc a) < before u) → Dec (number_of T (suc a) ≡ before u) → number_of T (suc a) < before u
          go (yes j) r = j
          go (no j) (yes r) =
              let q : suc a ≡ next_of st u = number_once T l (suc a) (next_of st u) later.0 (next_below T l p K st f u inside) r in
              let o : u ≡ t = cc (later.1, owner_of_next T l p K st f u inside) in
              let z : before u ≡ before t = cc in
              omega arith
          go (no j) (no r) =
              absurd (f.list_born u i
              (rw (owner_of_next T l p K st f u inside)
              at (between_unborn T l p K st f a x.action k x.undone (next_of st u) (next_below T l p K st f u inside) low (omega arith))))

  -- ---- waiting

  fork_wait_join : (u : ℕ) → u < T.threads → status_of st' u ≡ waiting → kind T (next_of st' u) ≡ join
  fork_wait_join u h q =
      let (i, j, r) = back waiting (λ i. omega arith) u q in
      rw (m.next_other u i) (f.wait_join u h r)

  fork_wait_open : (u : ℕ) → u < T.threads → status_of st' u ≡ waiting → status_of st' (T.argument (next_of st' u)) ≡ ended → ⊥
  fork_wait_open u h q o =
      let (i, j, r) = back waiting (λ i. omega arith) u q in
      f.wait_open u h r (rw (m.next_other u i) at (back ended (λ i. omega arith) (T.argument (next_of st' u)) o).2)

  -- ---- what the threads hold

  fork_shared : Shared T st'.next st'.status st'.amounts
  unfolding is code_of alloc_of free_of
  fork_shared =
      rw m.lets_go.amounts
      (shared_same T l p K st f t a x.thread x.next live st' does (over_progressed T p K st st' f t a x.thread x.next live ends m.next_here m.next_other)
      (rw k) (rw k) (rw k))
    where
      live : status_of st t ≡ ended → ⊥
      live q = omega (arith, x.taken)

  forked_facts : Facts T p K st'
  unfolding is code_of alloc_of free_of
  forked_facts =
      record {
        next_size = m.lets_go.nexts ∙ f.next_size;
        status_size = m.lets_go.statuses ∙ f.status_size;
        next_low = fork_low;
        next_high = fork_high;
        ordered = fork_ordered;
        status_known = fork_known;
        root_born = λ q. f.root_born (back unborn (λ i. omega arith) 0 q).2;
        unborn_fork = fork_unborn_undone;
        fork_unborn = fork_undone_unborn;
        ended_last = fork_ended;
        list_below = fork_below_all;
        list_born = fork_none unborn (λ i. omega arith) f.list_born;
        list_unended = fork_none ended (λ i. omega arith) f.list_unended;
        live_listed = fork_live;
        serial = fork_serial;
        wait_join = fork_wait_join;
        wait_open = fork_wait_open;
        holding =
            released_holding T p K w t a st f x st' m.lets_go (λ q. omega (arith, m.status_here))
            (λ u n q. (back held (λ i. omega arith) u q).2)
            (λ u n q. m.status_other u n (λ i. omega (arith, child_unborn, rw i at q)) ∙ q);
        amount = does_amount T l p K st f a x.action st' does (rw (k, m.lets_go.amount));
        above = rw (m.lets_go.amount, m.lets_go.most) f.above;
        shared = fork_shared;
        unused_status = λ u h i. m.status_other u (λ j. omega (arith, x.thread)) (λ j. omega (arith, child)) ∙ f.unused_status u h i;
        unused_next = λ u h i. m.next_other u (λ j. omega (arith, x.thread)) ∙ f.unused_next u h i;
      }

pub fork_facts : (T : Table) (l : Lawful T) (p K w t a : ℕ) (st : State) (f : Facts T p K st) → Acting T w t a st → kind T a ≡ fork
    → Facts T p K (act_by fork T K w t a (T.argument a) st).state
fork_facts T l p K w t a st f x k =
    forked_facts T l p K w t a (T.argument a) st f x k refl (act_by fork T K w t a (T.argument a) st).state (acting_forked T l p K w t a st f x k)
