-- An end keeps a sound state sound: its thread leaves the list, and a parent that waits for it becomes ready.
use mathlib.Core.Path.{◌≡◌, refl, sym, ◌∙◌}
use Prim.Native.Nat.{ℕ, zero, suc, ◌≤◌, ◌<◌}
use mathlib.Core.List.{Memᴰ}
use mathlib.Core.Bool.{Bool, true, false, ◌&&◌}
use mathlib.Core.Logic.{◌⊎◌, inl, inr}
use native.Mathlib.Decide.{ℕ_discrete}
use native.Mathlib.Omega.{arith}
use lib.ListN.{length, set, length-set}
use lib.Dec.{leb, eqb}
use lib.Seq.{get_or-set_same, get_or-set_other}
use borrow.Author.Tests.{eqb-true, eq-eqb, ne_eqb}
use Rattle.table.specs.Sum.{pick}
use Rattle.table.specs.Format.{code_of, is, Table, kind}
use Rattle.table.specs.declared.kinds.Kind.TheVariants.{End as end, Fork as fork, Join as join}
use Rattle.table.specs.Checks.{owner_below, owner, end_of, alloc_of, free_of, open_before}
use Rattle.table.specs.Level.{fork_below, depends_on}
use Rattle.table.proofs.Tests.{no_way, and_both, same_is}
use Rattle.table.proofs.Bodies.{end_last, after_end, count_pos}
use Rattle.table.proofs.Nesting.{open_join, open_forked, fork_found}
use Rattle.schedule.specs.Machine.{State, unborn, ready, held, waiting, ended, next_of, status_of, with_status, with_list, released, without, parent_of, waits_for, woken, act_by}
use Rattle.schedule.specs.Sound.{is_done, progress_in}
use Rattle.order.specs.Order.{number_of}
use Rattle.order.proofs.Lawful.{Lawful}
use Rattle.schedule.proofs.Sound.Sharing.{Shared}
use Rattle.schedule.proofs.Sound.Facts.{Done, Facts}
use Rattle.order.proofs.Words.{Ascends, eqb_same}
use Rattle.schedule.proofs.Preservation.ListMoves.{ascends_same, without_old, without_other, ascends_without, without_gone}
use Rattle.schedule.proofs.Sound.Done.{done_last, done_ending, done_same, owner_of_next, next_below}
use Rattle.schedule.proofs.Preservation.Does.{Does, does_ordered, does_amount, does_fork}
use Rattle.schedule.proofs.Preservation.ShareMoves.{Progressed, shared_same}
use Rattle.schedule.proofs.Preservation.Releases.{Acting, acting_depends, LetsGo, freed, released_holding}

-- ---- the state after an end, place by place

pub record Ended (T : Table) (w t : ℕ) (st st' : State) : Type 0 where
  pub lets_go : LetsGo w st st'
  pub next_same : (u : ℕ) → next_of st' u ≡ next_of st u
  pub status_here : status_of st' t ≡ ended
  pub status_other : (u : ℕ) → (u ≡ t → ⊥) → (status_of st' u ≡ status_of st u) ⊎ ((status_of st u ≡ waiting) × (status_of st' u ≡ ready))
  pub parent : (u : ℕ) → parent_of T t ≡ u → (u ≡ t → ⊥) → status_of st u ≡ waiting → kind T (next_of st u) ≡ join → T.argument (next_of st u) ≡ t → status_of st' u ≡ ready
  pub list_is : st'.list ≡ without t st.list
  -- a thread that waited goes on waiting, or waited for this one
  pub wakes : (u : ℕ) → (u ≡ t → ⊥) → status_of st u ≡ waiting → (status_of st' u ≡ waiting) ⊎ (T.argument (next_of st u) ≡ t)

-- every action has an owner below the count of threads
pub owner_below_less : (T : Table) (k a : ℕ) → 0 < k → owner_below T k a < k
unfolding owner_below
owner_below_less T zero a h = h
owner_below_less T (suc zero) a h = go (leb (T.first 0) a)
  where
    go : (q : Bool) → pick {A = ℕ} q 0 0 < 1
    go true = omega arith
    go false = omega arith
owner_below_less T (suc (suc k)) a h = go (leb (T.first (suc k)) a) (owner_below_less T (suc k) a (omega arith))
  where
    go : (q : Bool) → owner_below T (suc k) a < suc k → pick q (suc k) (owner_below T (suc k) a) < suc (suc k)
    go true i = omega arith
    go false i = omega arith

waits_for_lem : (T : Table) (st : State) (u t : ℕ) → waits_for T st u t ≡ true → T.argument (next_of st u) ≡ t
unfolding waits_for
waits_for_lem T st u t e =
    eqb-true (T.argument (next_of st u)) t
    (and_both (is join (kind T (next_of st u))) (eqb (T.argument (next_of st u)) t)
    (and_both (eqb (status_of st u) waiting) (is join (kind T (next_of st u)) && eqb (T.argument (next_of st u)) t) e).1).1

pub waits_true : (T : Table) (st : State) (u t : ℕ) → waits_for T st u t ≡ true → status_of st u ≡ waiting
unfolding waits_for
waits_true T st u t e = eqb-true (status_of st u) waiting (and_both _ _ e).0

true_waits : (T : Table) (st : State) (u t : ℕ) → status_of st u ≡ waiting → kind T (next_of st u) ≡ join → T.argument (next_of st u) ≡ t → waits_for T st u t ≡ true
unfolding waits_for
true_waits T st u t e k i =
    rw (eq-eqb (status_of st u) waiting e, same_is join (kind T (next_of st u)) k, eq-eqb (T.argument (next_of st u)) t i)

module _ (T : Table) (K w t a c : ℕ) (st : State) where
  ended_state : length st.next ≡ 1024 → length st.status ≡ 1024 → length st.workers ≡ 16 → w < 16 → t < 1024 → parent_of T t < 1024
      → Ended T w t st (act_by end T K w t a c st).state
  unfolding act_by woken
  ended_state n s k i j h = go (waits_for T mid v t) refl
    where
      v : ℕ
      v = parent_of T t

      mid : State
      mid = with_list (without t st.list) (released w t ended st)

      -- who waits in between waited before, and is another thread
      before : (u : ℕ) → status_of mid u ≡ waiting → (u ≡ t → ⊥) × (status_of st u ≡ waiting)
      before u q = (other, sym (get_or-set_other st.status t u ended 0 other) ∙ q)
        where
          other : u ≡ t → ⊥
          other e = omega (arith, get_or-set_same st.status t ended 0 (omega arith), rw e at q)

      go : (q : Bool) → waits_for T mid v t ≡ q → Ended T w t st (pick q (with_status v ready mid) mid)
      go true q =
          record {
            lets_go = freed w st (with_status v ready mid) i k refl refl (simp length-set) refl refl refl;
            next_same = λ u. refl;
            status_here = get_or-set_other (set st.status t ended) v t ready 0 (λ e. was.0 (sym e)) ∙ get_or-set_same st.status t ended 0 (omega arith);
            status_other = λ u o. at u o (ℕ_discrete u v);
            parent = λ u e o r y z. rw (← e) now;
            list_is = refl;
            wakes = λ u o r. waked u o r (ℕ_discrete u v);
          }
        where
          was : (v ≡ t → ⊥) × (status_of st v ≡ waiting)
          was = before v (waits_true T mid v t q)

          waked : (u : ℕ) → (u ≡ t → ⊥) → status_of st u ≡ waiting → Dec (u ≡ v) → (status_of (with_status v ready mid) u ≡ waiting) ⊎ (T.argument (next_of st u) ≡ t)
          waked u o r (yes e) = inr (rw e (waits_for_lem T mid v t q))
          waked u o r (no e) = inl (get_or-set_other (set st.status t ended) v u ready 0 e ∙ get_or-set_other st.status t u ended 0 o ∙ r)

          now : status_of (with_status v ready mid) v ≡ ready
          now = get_or-set_same (set st.status t ended) v ready 0 (simp length-set (omega arith))

          at : (u : ℕ) → (u ≡ t → ⊥) → Dec (u ≡ v)
              → (status_of (with_status v ready mid) u ≡ status_of st u) ⊎ ((status_of st u ≡ waiting) × (status_of (with_status v ready mid) u ≡ ready))
          at u o (yes e) = rw e (inr (was.1, now))
          at u o (no e) = inl (get_or-set_other (set st.status t ended) v u ready 0 e ∙ get_or-set_other st.status t u ended 0 o)
      go false q =
          record {
            lets_go = freed w st mid i k refl refl (simp length-set) refl refl refl;
            next_same = λ u. refl;
            status_here = get_or-set_same st.status t ended 0 (omega arith);
            status_other = λ u o. inl (get_or-set_other st.status t u ended 0 o);
            parent = λ u e o r y z. no_way (cc (true_waits T mid u t (get_or-set_other st.status t u ended 0 o ∙ r) y z));
            list_is = refl;
            wakes = λ u o r. inl (get_or-set_other st.status t u ended 0 o ∙ r);
          }

pub acting_ended : (T : Table) → Lawful T → (p K w t a : ℕ) (st : State) → Facts T p K st → Acting T w t a st → Ended T w t st (act_by end T K w t a (T.argument a) st).state
acting_ended T l p K w t a st f x =
    ended_state T K w t a (T.argument a) st f.next_size f.status_size f.holding.worker_size x.worker (omega (arith, x.thread, l.few_threads))
    (omega (arith, l.few_threads, owner_below_less T T.threads (fork_below T T.actions t) l.some_thread))

-- ---- what an end keeps

module _ (T : Table) (l : Lawful T) (p K : ℕ) (w t a : ℕ) (st : State) (f : Facts T p K st) (x : Acting T w t a st) (k : kind T a ≡ end) (st' : State) (m : Ended T w t st st') where
  last : a ≡ end_of T t
  last = rw x.owned at (end_last T l.contents l.bodies a x.action k)

  -- a thread that is not ready now was what it is
  back : (s : ℕ) → (s ≡ ready → ⊥) → (u : ℕ) → (u ≡ t → ⊥) → status_of st' u ≡ s → status_of st u ≡ s
  back s n u o q = go (m.status_other u o)
    where
      go : (status_of st' u ≡ status_of st u) ⊎ ((status_of st u ≡ waiting) × (status_of st' u ≡ ready)) → status_of st u ≡ s
      go (inl i) = sym i ∙ q
      go (inr (i, j)) = absurd (n (sym q ∙ j))

  -- a thread that did not wait is what it was
  forth : (s : ℕ) → (s ≡ waiting → ⊥) → (u : ℕ) → (u ≡ t → ⊥) → status_of st u ≡ s → status_of st' u ≡ s
  forth s n u o q = go (m.status_other u o)
    where
      go : (status_of st' u ≡ status_of st u) ⊎ ((status_of st u ≡ waiting) × (status_of st' u ≡ ready)) → status_of st' u ≡ s
      go (inl i) = i ∙ q
      go (inr (i, j)) = absurd (n (sym q ∙ i))

  -- a thread not ended is another one
  other : (s : ℕ) → (s ≡ ended → ⊥) → (u : ℕ) → status_of st' u ≡ s → u ≡ t → ⊥
  other s n u q i = n (sym q ∙ rw i m.status_here)

  pub ended_does : Does T a st st'
  ended_does =
      record {
        not_yet = x.undone;
        now = done_last T st' a (rw (x.owned, m.next_same) (sym x.next)) (rw x.owned m.status_here);
        same = λ d n. at d n (ℕ_discrete (owner T d) t);
      }
    where
      at : (d : ℕ) → (d ≡ a → ⊥) → Dec (owner T d ≡ t) → is_done T st' d ≡ is_done T st d
      at d n (yes o) = done_ending T st d st' a (rw o x.next) (rw o (m.next_same t ∙ x.next)) n
      at d n (no o) =
          done_same T st d st' (m.next_same (owner T d)) (back ended (λ i. omega arith) (owner T d) o) (forth ended (λ i. omega arith) (owner T d) o)

  end_ordered : (v d : ℕ) → v < T.actions → Done T st' v → Memᴰ d (depends_on T v) → Done T st' d
  end_ordered = does_ordered T l p K st f a x.action st' ended_does (acting_depends T l p K w t a st f x (λ j. no_way cc))

  end_known : (u : ℕ) → u < T.threads → status_of st' u ≤ ended
  end_known u h = go (ℕ_discrete u t)
    where
      at : (status_of st' u ≡ status_of st u) ⊎ ((status_of st u ≡ waiting) × (status_of st' u ≡ ready)) → status_of st' u ≤ ended
      at (inl i) = rw i (f.status_known u h)
      at (inr (i, j)) = omega arith

      go : Dec (u ≡ t) → status_of st' u ≤ ended
      go (yes i) = rw (i, m.status_here) (omega arith)
      go (no i) = at (m.status_other u i)

  -- no fork is done by it
  end_fork : (u : ℕ) → 0 < u → u < T.threads → is_done T st' (fork_below T T.actions u) ≡ is_done T st (fork_below T T.actions u)
  end_fork u pos h = does_fork T l p K st f a x.action st' ended_does u pos h (λ i j. no_way cc)

  end_undone_unborn : (u : ℕ) → 0 < u → u < T.threads → is_done T st' (fork_below T T.actions u) ≡ false → status_of st' u ≡ unborn
  end_undone_unborn u pos h q =
      let r : status_of st u ≡ unborn = f.fork_unborn u pos h (sym (end_fork u pos h) ∙ q) in
      forth unborn (λ i. omega arith) u (λ i. omega (arith, x.taken, rw i at r)) r

  end_ended : (u : ℕ) → u < T.threads → status_of st' u ≡ ended → next_of st' u ≡ end_of T u
  end_ended u h q = rw m.next_same (go (ℕ_discrete u t))
    where
      go : Dec (u ≡ t) → next_of st u ≡ end_of T u
      go (yes i) = rw i (x.next ∙ last)
      go (no i) = f.ended_last u h (back ended (λ j. omega arith) u i q)

  -- ---- the list

  end_listed : (u : ℕ) → Memᴰ u st'.list → (u ≡ t → ⊥) × Memᴰ u st.list
  end_listed u i = (gone, without_old t u st.list j)
    where
      j : Memᴰ u (without t st.list)
      j = rw m.list_is at i

      gone : u ≡ t → ⊥
      gone e = without_gone (λ (v : ℕ). number_of T (next_of st v)) t st.list f.serial (rw e at j)

  -- a status that no listed thread had, and that is not ready, none has
  end_none : (s : ℕ) → (s ≡ ready → ⊥) → ((u : ℕ) → Memᴰ u st.list → status_of st u ≡ s → ⊥)
      → (u : ℕ) → Memᴰ u st'.list → status_of st' u ≡ s → ⊥
  end_none s n none u i q = none u (end_listed u i).1 (back s n u (end_listed u i).0 q)

  end_live : (u : ℕ) → u < T.threads → (status_of st' u ≡ unborn → ⊥) → (status_of st' u ≡ ended → ⊥) → Memᴰ u st'.list
  end_live u h n o =
      let i : u ≡ t → ⊥ = λ e. o (rw e m.status_here) in
      rw m.list_is
      (without_other t u st.list i (f.live_listed u h (λ r. n (forth unborn (λ j. omega arith) u i r)) (λ r. o (forth ended (λ j. omega arith) u i r))))

  end_serial : Ascends (λ u. number_of T (next_of st' u)) st'.list
  end_serial =
      ascends_same before after st'.list (λ u i. rw m.next_same) (rw m.list_is (ascends_without before t st.list f.serial))
    where
      before : ℕ → ℕ
      before u = number_of T (next_of st u)

      after : ℕ → ℕ
      after u = number_of T (next_of st' u)

  -- ---- waiting

  -- a thread at a join of t is the one that forked t
  joins : (u : ℕ) → u < T.threads → kind T (next_of st u) ≡ join → T.argument (next_of st u) ≡ t → parent_of T t ≡ u
  joins u h j e = go (open_forked T l.contents l.bodies l.nesting (next_of st u) t inside there)
    where
      inside : next_of st u < T.actions
      inside = next_below T l p K st f u h

      there : Memᴰ t (open_before T (next_of st u))
      there = rw (open_join T l.contents l.bodies l.nesting (next_of st u) inside j) (Memᴰ.head (sym e))

      go : (y : ℕ) × (y < next_of st u) × (kind T y ≡ fork) × (T.argument y ≡ t) × (owner T y ≡ owner T (next_of st u)) → parent_of T t ≡ u
      go (y, i, q, r, o) =
          let found : fork_below T T.actions t ≡ y = rw r at (fork_found T l.contents l.bodies l.nesting y (omega (arith, inside)) q) in
          rw found (o ∙ owner_of_next T l p K st f u h)

  end_wait_join : (u : ℕ) → u < T.threads → status_of st' u ≡ waiting → kind T (next_of st' u) ≡ join
  end_wait_join u h q = rw m.next_same (f.wait_join u h (back waiting (λ i. omega arith) u (other waiting (λ i. omega arith) u q) q))

  end_wait_open : (u : ℕ) → u < T.threads → status_of st' u ≡ waiting → status_of st' (T.argument (next_of st' u)) ≡ ended → ⊥
  end_wait_open u h q o = go (ℕ_discrete (T.argument (next_of st u)) t)
    where
      n : u ≡ t → ⊥
      n = other waiting (λ i. omega arith) u q

      r : status_of st u ≡ waiting
      r = back waiting (λ i. omega arith) u n q

      go : Dec (T.argument (next_of st u) ≡ t) → ⊥
      go (yes e) = omega (arith, m.parent u (joins u h (f.wait_join u h r) e) n r (f.wait_join u h r) e)
      go (no e) = f.wait_open u h r (back ended (λ i. omega arith) (T.argument (next_of st u)) e (rw m.next_same at o))

  -- ---- what the threads hold

  -- "an ended one's [next action] remains its end": it is the last that the thread does
  end_progressed : Progressed T t st st'
  unfolding progress_in
  end_progressed =
      record {
        here =
            rw (eq-eqb (status_of st' t) ended m.status_here, ne_eqb (status_of st t) ended (λ q. omega (arith, x.taken)))
            (omega (arith, x.next, last, after_end T l.contents t x.thread, count_pos T l.contents t x.thread));
        there = λ u n. rw (m.next_same u, eqb_same (status_of st' u) (status_of st u) ended (back ended (λ i. omega arith) u n) (forth ended (λ i. omega arith) u n));
      }

  end_shared : Shared T st'.next st'.status st'.amounts
  unfolding is code_of alloc_of free_of
  end_shared =
      rw m.lets_go.amounts
      (shared_same T l p K st f t a x.thread x.next (λ q. omega (arith, x.taken)) st' ended_does end_progressed (rw k) (rw k) (rw k))

  ended_facts : Facts T p K st'
  unfolding is code_of alloc_of free_of
  ended_facts =
      record {
        next_size = m.lets_go.nexts ∙ f.next_size;
        status_size = m.lets_go.statuses ∙ f.status_size;
        next_low = λ u h. rw m.next_same (f.next_low u h);
        next_high = λ u h. rw m.next_same (f.next_high u h);
        ordered = end_ordered;
        status_known = end_known;
        root_born = λ q. f.root_born (back unborn (λ i. omega arith) 0 (other unborn (λ i. omega arith) 0 q) q);
        unborn_fork = λ u pos h q. end_fork u pos h ∙ f.unborn_fork u pos h (back unborn (λ i. omega arith) u (other unborn (λ i. omega arith) u q) q);
        fork_unborn = end_undone_unborn;
        ended_last = end_ended;
        list_below = λ u i. f.list_below u (end_listed u i).1;
        list_born = end_none unborn (λ i. omega arith) f.list_born;
        list_unended = end_none ended (λ i. omega arith) f.list_unended;
        live_listed = end_live;
        serial = end_serial;
        wait_join = end_wait_join;
        wait_open = end_wait_open;
        holding =
            released_holding T p K w t a st f x st' m.lets_go (λ q. omega (arith, m.status_here)) (back held (λ i. omega arith)) (forth held (λ i. omega arith));
        amount = does_amount T l p K st f a x.action st' ended_does (rw (k, m.lets_go.amount));
        above = rw (m.lets_go.amount, m.lets_go.most) f.above;
        shared = end_shared;
        unused_status = λ u h i. forth unborn (λ j. omega arith) u (λ j. omega (arith, x.thread)) (f.unused_status u h i);
        unused_next = λ u h i. m.next_same u ∙ f.unused_next u h i;
      }

pub end_facts : (T : Table) (l : Lawful T) (p K w t a : ℕ) (st : State) (f : Facts T p K st) → Acting T w t a st → kind T a ≡ end
    → Facts T p K (act_by end T K w t a (T.argument a) st).state
end_facts T l p K w t a st f x k = ended_facts T l p K w t a st f x k (act_by end T K w t a (T.argument a) st).state (acting_ended T l p K w t a st f x)
