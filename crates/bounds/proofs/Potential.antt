-- A number that every turn other than an idle one lowers: each action not done counts one, an alloc not yet put back and a join not yet waited at one more (N8).
use mathlib.Core.Path.{◌≡◌, refl, sym, ap, ◌∙◌}
use Prim.Native.Nat.{ℕ, zero, suc, ◌+◌, ◌≤◌, ◌<◌}
use native.Mathlib.Omega.{arith}
use native.Mathlib.Decide.{ℕ_discrete}
use mathlib.Core.List.{List}
use mathlib.Core.Bool.{Bool, true, false, not, ◌&&◌}
use mathlib.Core.Logic.{◌⊎◌, inl, inr}
use lib.ListN.{length, get_or, set}
use lib.Seq.{get_or-set_same, get_or-set_other}
use lib.Dec.{eqb, leb}
use borrow.Author.Tests.{eqb-true, eq-eqb, leb-false}
use Rattle.table.specs.Sum.{pick, sum_to}
use Rattle.table.specs.Format.{code_of, is, Table, kind}
use Rattle.table.specs.declared.kinds.Kind.{Kind}
use Rattle.table.specs.declared.kinds.Kind.TheVariants.{End as end, Work as work, Alloc as alloc, Free as free, Fork as fork, Join as join, Unknown as unknown}
use Rattle.table.specs.Checks.{owner}
use Rattle.table.proofs.Tests.{no_way, and_both, pick_most}
use Rattle.table.proofs.Sums.{sum_to_le}
use Rattle.table.proofs.Bodies.{kind_known}
use Rattle.schedule.specs.declared.Reply.TheVariants.{Done, Quota, Wait}
use Rattle.schedule.specs.Machine.{State, drawn, unborn, ready, waiting, ended, next_of, status_of, worker_of, Stepped, act_by, act}
use Rattle.schedule.specs.Sound.{is_done}
use Rattle.order.proofs.Lawful.{Lawful}
use Rattle.schedule.proofs.Sound.Facts.{Facts}
use Rattle.schedule.proofs.Sound.Done.{undone_unborn}
use Rattle.schedule.proofs.Preservation.Releases.{Acting}
use Rattle.schedule.proofs.Preservation.Ends.{Ended, acting_ended}
use Rattle.schedule.proofs.Preservation.Forks.{Forked, acting_forked}
use Rattle.schedule.proofs.Preservation.Turns.{either}
use Rattle.schedule.proofs.Bounds.Acts.{acted}
use Rattle.order.proofs.Words.{never_true}

-- action a is its thread's next, and the thread has this status
unfoldable pub stands_at : Table → State → ℕ → ℕ → Bool
stands_at T st a x = eqb (next_of st (owner T a)) a && eqb (status_of st (owner T a)) x

unfoldable pub put_back_still : Table → State → ℕ → Bool
put_back_still T st a = is alloc (kind T a) && not (stands_at T st a ready)

unfoldable pub wait_still : Table → State → ℕ → Bool
wait_still T st a = is join (kind T a) && (not (eqb (status_of st (T.argument a)) ended) && not (stands_at T st a waiting))

unfoldable pub to_go : Table → State → ℕ → ℕ
to_go T st a = pick (is_done T st a) 0 (suc (pick (put_back_still T st a) 1 0 + pick (wait_still T st a) 1 0))

unfoldable pub potential : Table → State → ℕ
potential T st = sum_to (to_go T st) T.actions

sum_falls : (f g : ℕ → ℕ) (j k : ℕ) → j < k → ((i : ℕ) → i < k → (i ≡ j → ⊥) → f i ≤ g i) → f j < g j → sum_to f k < sum_to g k
unfolding sum_to
sum_falls f g j zero h e s = absurd (omega arith)
sum_falls f g j (suc k) h e s = go (ℕ_discrete j k) (λ b. sum_falls f g j k b (λ i l n. e i (omega arith) n) s)
  where
    go : Dec (j ≡ k) → (j < k → sum_to f k < sum_to g k) → sum_to f k + f k < sum_to g k + g k
    go (yes d) ih = omega (arith, sum_to_le f g k (λ i l. e i (omega arith) (λ q. omega arith)), rw d at s)
    go (no d) ih = omega (arith, ih (omega (arith, d)), e k (omega arith) (λ q. d (sym q)))

-- what a turn on thread t, at action a, leaves of the others
pub record Onward (T : Table) (t a : ℕ) (st st' : State) : Type 0 where
  pub next_at : next_of st t ≡ a
  pub done_others : (d : ℕ) → (d ≡ a → ⊥) → is_done T st' d ≡ is_done T st d
  pub next_others : (u : ℕ) → (u ≡ t → ⊥) → next_of st' u ≡ next_of st u
  pub ready_kept : (u : ℕ) → (u ≡ t → ⊥) → status_of st u ≡ ready → status_of st' u ≡ ready
  pub wait_kept : (u : ℕ) → (u ≡ t → ⊥) → status_of st u ≡ waiting → (status_of st' u ≡ waiting) ⊎ (status_of st' (T.argument (next_of st u)) ≡ ended)
  pub ended_kept : (c : ℕ) → status_of st c ≡ ended → status_of st' c ≡ ended

stands_true : (T : Table) (st : State) (d x : ℕ) → stands_at T st d x ≡ true → (next_of st (owner T d) ≡ d) × (status_of st (owner T d) ≡ x)
unfolding stands_at
stands_true T st d x e = let q = and_both _ _ e in (eqb-true _ _ q.0, eqb-true _ _ q.1)

true_stands : (T : Table) (st : State) (d x : ℕ) → next_of st (owner T d) ≡ d → status_of st (owner T d) ≡ x → stands_at T st d x ≡ true
unfolding stands_at
true_stands T st d x i j = rw (eq-eqb _ _ i, eq-eqb _ _ j)

module _ (T : Table) (t a : ℕ) (st st' : State) (o : Onward T t a st st') (d : ℕ) (n : d ≡ a → ⊥) where
  other : (x : ℕ) → stands_at T st d x ≡ true → owner T d ≡ t → ⊥
  other x e q = n (sym (stands_true T st d x e).0 ∙ rw q o.next_at)

  ready_stands : stands_at T st d ready ≡ true → stands_at T st' d ready ≡ true
  ready_stands e =
      let q = stands_true T st d ready e in
      true_stands T st' d ready (o.next_others (owner T d) (other ready e) ∙ q.0) (o.ready_kept (owner T d) (other ready e) q.1)

  wait_stands : stands_at T st d waiting ≡ true → (stands_at T st' d waiting ≡ true) ⊎ (eqb (status_of st' (T.argument d)) ended ≡ true)
  wait_stands e = let q = stands_true T st d waiting e in go q.0 (o.wait_kept (owner T d) (other waiting e) q.1)
    where
      go : next_of st (owner T d) ≡ d → (status_of st' (owner T d) ≡ waiting) ⊎ (status_of st' (T.argument (next_of st (owner T d))) ≡ ended)
          → (stands_at T st' d waiting ≡ true) ⊎ (eqb (status_of st' (T.argument d)) ended ≡ true)
      go i (inl j) = inl (true_stands T st' d waiting (o.next_others (owner T d) (other waiting e) ∙ i) j)
      go i (inr j) = inr (eq-eqb _ _ (rw i at j))

  alloc_falls : pick (put_back_still T st' d) 1 0 ≤ pick (put_back_still T st d) 1 0
  unfolding put_back_still
  alloc_falls = go (is alloc (kind T d)) (stands_at T st d ready) refl
    where
      go : (k s : Bool) → stands_at T st d ready ≡ s → pick (k && not (stands_at T st' d ready)) 1 0 ≤ pick (k && not s) 1 0
      go false s e = omega arith
      go true true e = rw (ready_stands e) (omega arith)
      go true false e = pick_most (not (stands_at T st' d ready)) 1

  join_falls : pick (wait_still T st' d) 1 0 ≤ pick (wait_still T st d) 1 0
  unfolding wait_still
  join_falls = go (is join (kind T d)) (eqb (status_of st (T.argument d)) ended) (stands_at T st d waiting) refl refl
    where
      none : (q : Bool) → pick (q && false) 1 0 ≤ 0
      none true = omega arith
      none false = omega arith

      go : (k e s : Bool) → eqb (status_of st (T.argument d)) ended ≡ e → stands_at T st d waiting ≡ s
          → pick (k && (not (eqb (status_of st' (T.argument d)) ended) && not (stands_at T st' d waiting))) 1 0 ≤ pick (k && (not e && not s)) 1 0
      go false e s i j = omega arith
      go true true s i j = rw (eq-eqb _ _ (o.ended_kept (T.argument d) (eqb-true _ _ i))) (omega arith)
      go true false true i j = by (wait_stands j)
        where
          by : (stands_at T st' d waiting ≡ true) ⊎ (eqb (status_of st' (T.argument d)) ended ≡ true)
              → pick (not (eqb (status_of st' (T.argument d)) ended) && not (stands_at T st' d waiting)) 1 0 ≤ 0
          by (inl q) = rw q (none (not (eqb (status_of st' (T.argument d)) ended)))
          by (inr q) = rw q (omega arith)
      go true false false i j = pick_most (not (eqb (status_of st' (T.argument d)) ended) && not (stands_at T st' d waiting)) 1

  pub other_falls : to_go T st' d ≤ to_go T st d
  unfolding to_go
  other_falls = rw (o.done_others d n) (go (is_done T st d))
    where
      go : (q : Bool) → pick q 0 (suc (pick (put_back_still T st' d) 1 0 + pick (wait_still T st' d) 1 0)) ≤ pick q 0 (suc (pick (put_back_still T st d) 1 0 + pick (wait_still T st d) 1 0))
      go true = omega arith
      go false = omega (arith, alloc_falls, join_falls)

pub onward_lowers : (T : Table) (t a : ℕ) (st st' : State) → a < T.actions → Onward T t a st st' → to_go T st' a < to_go T st a → potential T st' < potential T st
unfolding potential
onward_lowers T t a st st' h o s = sum_falls (to_go T st') (to_go T st) a T.actions h (λ d i n. other_falls T t a st st' o d n) s

-- ---- the action that is tried

-- What becomes of it: it is done; put back, an alloc beyond the quota left; or its thread waits, at a join of a child not ended.
pub data Outcome (T : Table) (K w t a : ℕ) (st : State) (s : Stepped) : Type 0 where
  does : s.reply ≡ Done t a → Outcome T K w t a st s
  back : kind T a ≡ alloc → (worker_of st w).quota < drawn K (T.argument a) → s.reply ≡ Quota t (T.argument a) → s.state.next ≡ st.next → status_of s.state t ≡ ready
      → Outcome T K w t a st s
  waits : kind T a ≡ join → eqb (status_of st (T.argument a)) ended ≡ false → s.reply ≡ Wait t (T.argument a) → s.state.next ≡ st.next → status_of s.state t ≡ waiting
      → Outcome T K w t a st s

-- Worker w acts at st; of the state b before its turn, at which it may yet have had to take the thread: what is put back was not ready before
pub record Before (T : Table) (K w t a : ℕ) (st b : State) : Type 0 where
  pub undone : is_done T b a ≡ false
  pub no_wait : status_of b t ≡ waiting → ⊥
  pub no_back : kind T a ≡ alloc → (worker_of st w).quota < drawn K (T.argument a) → status_of b t ≡ ready → ⊥
  pub child : eqb (status_of st (T.argument a)) ended ≡ false → eqb (status_of b (T.argument a)) ended ≡ false

module _ (T : Table) (t a : ℕ) (b st' : State) where
  still_false : (x : ℕ) → owner T a ≡ t → (status_of b t ≡ x → ⊥) → stands_at T b a x ≡ false
  still_false x o n = never_true (stands_at T b a x) (λ e. n (rw o at (stands_true T b a x e).1))

  stands_now : (x : ℕ) → owner T a ≡ t → next_of st' t ≡ a → status_of st' t ≡ x → stands_at T st' a x ≡ true
  stands_now x o n s = true_stands T st' a x (rw o n) (rw o s)

  -- put back, it stands ready, and did not before
  back_falls : kind T a ≡ alloc → owner T a ≡ t → is_done T b a ≡ false → (status_of b t ≡ ready → ⊥)
      → is_done T st' a ≡ false → next_of st' t ≡ a → status_of st' t ≡ ready → to_go T st' a < to_go T b a
  unfolding to_go put_back_still wait_still is code_of
  back_falls k o u r e n s = rw (e, u, k, still_false ready o r, stands_now ready o n s) (omega arith)

  wait_falls : kind T a ≡ join → owner T a ≡ t → is_done T b a ≡ false → (status_of b t ≡ waiting → ⊥) → eqb (status_of b (T.argument a)) ended ≡ false
      → is_done T st' a ≡ false → next_of st' t ≡ a → status_of st' t ≡ waiting → to_go T st' a < to_go T b a
  unfolding to_go put_back_still wait_still is code_of
  wait_falls k o u r c e n s = rw (e, u, k, still_false waiting o r, stands_now waiting o n s, c) (go (eqb (status_of st' (T.argument a)) ended))
    where
      go : (q : Bool) → suc (0 + pick (not q && false) 1 0) < 2
      go true = omega arith
      go false = omega arith

done_falls : (T : Table) (a : ℕ) (b st' : State) → is_done T b a ≡ false → is_done T st' a ≡ true → to_go T st' a < to_go T b a
unfolding to_go
done_falls T a b st' u e = rw (e, u) (omega arith)

-- ---- an act, from a state in which the worker holds its thread

module _ (T : Table) (l : Lawful T) (p K : ℕ) (st : State) (f : Facts T p K st) (w t a : ℕ) (x : Acting T w t a st) where
  fits : t < length st.status
  fits = omega (arith, f.status_size, l.few_threads, x.thread)

  record Kept (st' : State) : Type 0 where
    ready_kept : (u : ℕ) → (u ≡ t → ⊥) → status_of st u ≡ ready → status_of st' u ≡ ready
    wait_kept : (u : ℕ) → (u ≡ t → ⊥) → status_of st u ≡ waiting → (status_of st' u ≡ waiting) ⊎ (status_of st' (T.argument (next_of st u)) ≡ ended)
    ended_kept : (c : ℕ) → status_of st c ≡ ended → status_of st' c ≡ ended

  same_kept : (st' : State) → st'.status ≡ st.status → Kept st'
  same_kept st' e = record { ready_kept = λ u n i. rw e i; wait_kept = λ u n i. inl (rw e i); ended_kept = λ c i. rw e i }

  -- t alone changes, which had not ended
  set_kept : (st' : State) → ((u : ℕ) → (u ≡ t → ⊥) → status_of st' u ≡ status_of st u) → Kept st'
  set_kept st' e =
      record {
        ready_kept = λ u n i. e u n ∙ i;
        wait_kept = λ u n i. inl (e u n ∙ i);
        ended_kept = λ c i. e c (λ d. no_way (cc x.taken)) ∙ i;
      }

  fork_kept : (st' : State) → kind T a ≡ fork → Forked w t a (T.argument a) st st' → Kept st'
  fork_kept st' k m =
      record {
        ready_kept = λ u n i. m.status_other u n (λ d. no_way (cc new)) ∙ i;
        wait_kept = λ u n i. inl (m.status_other u n (λ d. no_way (cc new)) ∙ i);
        ended_kept = λ c i. m.status_other c (λ d. no_way (cc x.taken)) (λ d. no_way (cc new)) ∙ i;
      }
    where
      new : status_of st (T.argument a) ≡ unborn
      new = undone_unborn T l p K st f a x.action k x.undone

  end_kept : (st' : State) → Ended T w t st st' → Kept st'
  end_kept st' m =
      record {
        ready_kept = λ u n i. forth u n ready (λ q. omega arith) i (m.status_other u n);
        wait_kept = λ u n i. woke u (m.wakes u n i);
        ended_kept = λ c i. forth c (λ d. no_way (cc x.taken)) ended (λ q. omega arith) i (m.status_other c (λ d. no_way (cc x.taken)));
      }
    where
      forth : (u : ℕ) → (u ≡ t → ⊥) → (y : ℕ) → (y ≡ waiting → ⊥) → status_of st u ≡ y → (status_of st' u ≡ status_of st u) ⊎ ((status_of st u ≡ waiting) × (status_of st' u ≡ ready)) → status_of st' u ≡ y
      forth u n y h i (inl e) = e ∙ i
      forth u n y h i (inr (e, g)) = absurd (h (sym i ∙ e))

      woke : (u : ℕ) → (status_of st' u ≡ waiting) ⊎ (T.argument (next_of st u) ≡ t) → (status_of st' u ≡ waiting) ⊎ (status_of st' (T.argument (next_of st u)) ≡ ended)
      woke u (inl e) = inl e
      woke u (inr e) = inr (rw e m.status_here)

  others_set : (y u : ℕ) → (u ≡ t → ⊥) → get_or (set st.status t y) u 0 ≡ status_of st u
  others_set y u n = get_or-set_other st.status t u y 0 n

  act_kept_by : (k : Kind) → kind T a ≡ k → Kept (act_by k T K w t a (T.argument a) st).state
  unfolding act_by
  act_kept_by end k = end_kept _ (acting_ended T l p K w t a st f x)
  act_kept_by work k = same_kept _ refl
  act_kept_by alloc k =
      either (λ (s : Stepped). Kept s.state) (leb (drawn K (T.argument a)) (worker_of st w).quota) _ _ (λ e. same_kept _ refl) (λ e. set_kept _ (others_set ready))
  act_kept_by free k = same_kept _ refl
  act_kept_by fork k = fork_kept _ k (acting_forked T l p K w t a st f x k)
  act_kept_by join k =
      either (λ (s : Stepped). Kept s.state) (eqb (status_of st (T.argument a)) ended) _ _ (λ e. same_kept _ refl) (λ e. set_kept _ (others_set waiting))
  act_kept_by unknown k = absurd (kind_known T l.contents l.bodies a x.action k)

  act_kept : Kept (act T K w st).state
  unfolding act
  act_kept = rw (x.holder, x.next) (act_kept_by (kind T a) refl)

  pub act_onward : Onward T t a st (act T K w st).state
  act_onward =
      let c = acted T l p K w t a st f x in
      record { next_at = x.next; done_others = c.done_others; next_others = c.next_others; ready_kept = act_kept.ready_kept; wait_kept = act_kept.wait_kept; ended_kept = act_kept.ended_kept }

  -- ---- the action that is tried

  abbrev acts : Kind → Stepped
  acts k = act_by k T K w t a (T.argument a) st

  outcome_by : (k : Kind) → kind T a ≡ k → Outcome T K w t a st (acts k)
  unfolding act_by
  outcome_by end k = does refl
  outcome_by work k = does refl
  outcome_by alloc k =
      either (λ (s : Stepped). Outcome T K w t a st s) (leb (drawn K (T.argument a)) (worker_of st w).quota) _ _ (λ e. does refl)
      (λ e. back k (leb-false (drawn K (T.argument a)) (worker_of st w).quota e) refl refl (get_or-set_same st.status t ready 0 fits))
  outcome_by free k = does refl
  outcome_by fork k = does refl
  outcome_by join k =
      either (λ (s : Stepped). Outcome T K w t a st s) (eqb (status_of st (T.argument a)) ended) _ _ (λ e. does refl)
      (λ e. waits k e refl refl (get_or-set_same st.status t waiting 0 fits))
  outcome_by unknown k = absurd (kind_known T l.contents l.bodies a x.action k)

  pub outcome : Outcome T K w t a st (act T K w st)
  unfolding act
  outcome = rw (x.holder, x.next) (outcome_by (kind T a) refl)

  abbrev after : State
  after = (act T K w st).state

  undone_after : ((u d : ℕ) → (act T K w st).reply ≡ Done u d → ⊥) → is_done T after a ≡ false
  undone_after n = never_true (is_done T after a) (λ e. n t a ((acted T l p K w t a st f x).replied e))

  -- b is the state before the turn: st itself, or the state in which the worker took its thread
  pub tried_falls : (b : State) → Before T K w t a st b → to_go T after a < to_go T b a
  tried_falls b y = go outcome
    where
      go : Outcome T K w t a st (act T K w st) → to_go T after a < to_go T b a
      go (does r) = done_falls T a b after y.undone ((acted T l p K w t a st f x).does t a r)
      go (back k n r i s) =
          back_falls T t a b after k x.owned y.undone (y.no_back k n) (undone_after (λ u d e. no_way (cc))) (ap (λ (z : List ℕ). get_or z t 0) i ∙ x.next) s
      go (waits k n r i s) =
          wait_falls T t a b after k x.owned y.undone y.no_wait (y.child n) (undone_after (λ u d e. no_way (cc))) (ap (λ (z : List ℕ). get_or z t 0) i ∙ x.next) s
