-- What an act leaves enabled: an action enabled afterwards is the same as before, in a thread that was not touched; or fresh, depending on the action just done; or kept, put back for its
-- quota. And what it leaves of the workers.
use mathlib.Core.Path.{◌≡◌, refl}
use Prim.Native.Nat.{ℕ, suc, ◌<◌}
use mathlib.Core.List.Memᴰ
use mathlib.Core.List.{Memᴰ}
use mathlib.Core.Bool.{Bool, true, false}
use mathlib.Core.Logic.{◌⊎◌, inl, inr}
use native.Mathlib.Decide.{ℕ_discrete}
use native.Mathlib.Omega.{arith}
use lib.ListN.{set}
use lib.Seq.{get_or-set_same, get_or-set_other}
use lib.Dec.{leb, eqb}
use borrow.Author.Tests.{eqb-true}
use Rattle.table.specs.Format.{code_of, is, Table, kind}
use Rattle.table.specs.declared.kinds.Kind.{Kind}
use Rattle.table.specs.declared.kinds.Kind.TheVariants.{End as end, Work as work, Alloc as alloc, Free as free, Fork as fork, Join as join, Unknown as unknown}
use Rattle.table.specs.Checks.{end_of}
use Rattle.table.specs.Level.{depends_on}
use Rattle.table.proofs.Tests.{no_way, is_true, same_is, fork_no_end}
use Rattle.table.proofs.Bodies.{kind_known, fork_below_lem, end_last}
use Rattle.table.proofs.Levels.{depends_step, depends_join, depends_child}
use Rattle.schedule.specs.declared.Worker.{Worker}
use Rattle.schedule.specs.Machine.{State, drawn, ready, held, waiting, ended, next_of, status_of, nobody, worker_of, Stepped, act_by, act}
use Rattle.order.proofs.Lawful.{Lawful}
use Rattle.schedule.proofs.Sound.Facts.{Facts}
use Rattle.schedule.proofs.Sound.Done.{undone_unborn, unborn_first}
use Rattle.schedule.proofs.Preservation.Releases.{Acting, LetsGo}
use Rattle.schedule.proofs.Preservation.Ends.{Ended, acting_ended}
use Rattle.schedule.proofs.Preservation.Forks.{Forked, acting_forked}
use Rattle.schedule.proofs.Preservation.Turns.{either}
use Rattle.order.proofs.Joins.{join_depends}
use Rattle.schedule.proofs.Bounds.Beyond.{Enabled}

-- thread u is enabled after action a of thread t was tried, which led from st to st'
pub data After (T : Table) (t a : ℕ) (st st' : State) (u : ℕ) : Type 0 where
  same : (u ≡ t → ⊥) → Enabled T st u → next_of st' u ≡ next_of st u → status_of st' u ≡ status_of st u → After T t a st st' u
  fresh : Enabled T st t → Memᴰ a (depends_on T (next_of st' u)) → After T t a st st' u
  kept : Enabled T st t → next_of st' u ≡ a → status_of st' u ≡ ready → After T t a st st' u

-- what worker w, which had thread t, leaves of the workers
pub record Leaves (w t : ℕ) (st st' : State) : Type 0 where
  pub others : (v : ℕ) → (v ≡ w → ⊥) → worker_of st' v ≡ worker_of st v
  pub own : (worker_of st' w).holds ≡ true → (worker_of st' w).thread ≡ t

module _ (T : Table) (l : Lawful T) (p K : ℕ) (st : State) (f : Facts T p K st) (w t a : ℕ) (x : Acting T w t a st) where
  -- every action enabled after a is the same, fresh or kept
  abbrev Sorted : State → Type 0
  Sorted st' = (u : ℕ) → Enabled T st' u → After T t a st st' u

  fits : t < 1024
  fits = omega (arith, l.few_threads, x.thread)

  enabled_now : (kind T a ≡ join → status_of st (T.argument a) ≡ ended) → Enabled T st t
  enabled_now j = record { below = x.thread; taken = inr x.taken; joined = rw x.next j }

  not_touched : (st' : State) (u : ℕ) → (u ≡ t → ⊥) → next_of st' u ≡ next_of st u → status_of st' u ≡ status_of st u
      → (kind T (next_of st u) ≡ join → status_of st' (T.argument (next_of st u)) ≡ ended → status_of st (T.argument (next_of st u)) ≡ ended)
      → Enabled T st' u → After T t a st st' u
  not_touched st' u d n s j e =
      same d (record { below = e.below; taken = rw s at e.taken; joined = λ k. j k (rw n at (e.joined (cc))) }) n s

  depends_next : is end (kind T a) ≡ false → Memᴰ a (depends_on T (suc a))
  depends_next k = go (is join (kind T (suc a))) refl
    where
      go : (q : Bool) → is join (kind T (suc a)) ≡ q → Memᴰ a (depends_on T (suc a))
      go true e = rw (depends_join T l.contents l.bodies a x.action k (is_true join _ e)) (Memᴰ.head refl)
      go false e = rw (depends_step T l.contents l.bodies a x.action k e) (Memᴰ.head refl)

  -- the action is done, and neither a fork nor an end
  goes_on : (st' : State) → st'.next ≡ set st.next t (suc (next_of st t)) → st'.status ≡ st.status → is end (kind T a) ≡ false
      → (kind T a ≡ join → status_of st (T.argument a) ≡ ended) → Sorted st'
  goes_on st' n s k j u e = go (ℕ_discrete u t)
    where
      go : Dec (u ≡ t) → After T t a st st' u
      go (yes d) =
          let n' : next_of st' u ≡ suc a = rw (n, d, x.next) (get_or-set_same st.next t (suc a) 0 (omega (arith, fits, f.next_size))) in
          fresh (enabled_now j) (rw n' (depends_next k))
      go (no d) = not_touched st' u d (rw n (get_or-set_other st.next t u _ 0 d)) (rw s) (λ k' q. rw s at q) e

  -- the action is not done, and the worker is released
  goes_off : (st' : State) (y : ℕ) → st'.next ≡ st.next → st'.status ≡ set st.status t y → (y ≡ ended → ⊥) → (y ≡ held → ⊥) → (y ≡ ready → kind T a ≡ join → ⊥) → Sorted st'
  goes_off st' y n s i j k u e = go (ℕ_discrete u t) e.taken
    where
      status_t : status_of st' t ≡ y
      status_t = rw s (get_or-set_same st.status t y 0 (omega (arith, fits, f.status_size)))

      other : (c : ℕ) → (c ≡ t → ⊥) → status_of st' c ≡ status_of st c
      other c d = rw s (get_or-set_other st.status t c y 0 d)

      ended_before : (c : ℕ) → Dec (c ≡ t) → status_of st' c ≡ ended → status_of st c ≡ ended
      ended_before c (yes d) q = absurd (i (cc status_t))
      ended_before c (no d) q = cc (other c d)

      go : Dec (u ≡ t) → (status_of st' u ≡ ready) ⊎ (status_of st' u ≡ held) → After T t a st st' u
      go (yes d) (inl q) = kept (enabled_now (λ k'. absurd (k (cc status_t) k'))) (cc x.next) q
      go (yes d) (inr q) = absurd (j (cc status_t))
      go (no d) q = not_touched st' u d (rw n) (other u d) (λ k'. ended_before _ (ℕ_discrete _ t)) e

  -- the action is a fork, and done
  goes_apart : kind T a ≡ fork → (st' : State) → Forked w t a (T.argument a) st st' → Sorted st'
  goes_apart k st' m u e = go (ℕ_discrete u t) (ℕ_discrete u (T.argument a))
    where
      first : next_of st (T.argument a) ≡ T.first (T.argument a)
      first = unborn_first T l p K st f (T.argument a) (fork_below_lem T l.contents l.bodies a x.action k) (undone_unborn T l p K st f a x.action k x.undone)

      ended_before : (v : ℕ) → Dec (v ≡ t) → Dec (v ≡ T.argument a) → status_of st' v ≡ ended → status_of st v ≡ ended
      ended_before v (yes d) d' q = no_way (cc m.status_here)
      ended_before v (no d) (yes d') q = no_way (cc m.status_child)
      ended_before v (no d) (no d') q = cc (m.status_other v d d')

      go : Dec (u ≡ t) → Dec (u ≡ T.argument a) → After T t a st st' u
      go (yes d) d' = fresh (enabled_now (λ k'. no_way (cc))) (rw (d, m.next_here) (depends_next (fork_no_end k)))
      go (no d) (yes d') =
          let n : next_of st' u ≡ T.first (T.argument a) = cc (m.next_other u d, first) in
          fresh (enabled_now (λ k'. no_way (cc))) (rw (n, depends_child T l.contents l.bodies l.nesting a x.action k) (Memᴰ.head refl))
      go (no d) (no d') = not_touched st' u d (m.next_other u d) (m.status_other u d d') (λ k'. ended_before _ (ℕ_discrete _ t) (ℕ_discrete _ (T.argument a))) e

  -- the action is an end, and done: a thread that wakes stands at a join of this one
  goes_out : kind T a ≡ end → (st' : State) → Ended T w t st st' → Sorted st'
  goes_out k st' m u e = go (ℕ_discrete u t) e.taken
    where
      new : kind T (next_of st u) ≡ join → T.argument (next_of st u) ≡ t → After T t a st st' u
      new j g =
          let last : a ≡ end_of T (T.argument (next_of st u)) = cc (end_last T l.contents l.bodies a x.action k, x.owned) in
          fresh (enabled_now (λ k'. no_way (cc))) (rw (m.next_same u) (Memᴰ.cast last (join_depends T (next_of st u) j)))

      ended_before : (c : ℕ) → status_of st' c ≡ ended → (status_of st' c ≡ status_of st c) ⊎ ((status_of st c ≡ waiting) × (status_of st' c ≡ ready)) → status_of st c ≡ ended
      ended_before c q (inl i) = cc
      ended_before c q (inr (i, i')) = no_way (cc)

      old : (u ≡ t → ⊥) → (kind T (next_of st u) ≡ join → T.argument (next_of st u) ≡ t → ⊥)
          → (status_of st' u ≡ status_of st u) ⊎ ((status_of st u ≡ waiting) × (status_of st' u ≡ ready)) → After T t a st st' u
      old d g (inl i) = not_touched st' u d (m.next_same u) i (λ j q. ended_before _ q (m.status_other _ (g j))) e
      old d g (inr (i, i')) =
          let j : kind T (next_of st u) ≡ join = f.wait_join u e.below i in
          let q : status_of st' (T.argument (next_of st u)) ≡ ended = rw (m.next_same u) at (e.joined (cc (m.next_same u))) in
          absurd (f.wait_open u e.below i (ended_before _ q (m.status_other _ (g j))))

      away : (u ≡ t → ⊥) → (q : Bool) → is join (kind T (next_of st u)) ≡ q → Dec (T.argument (next_of st u) ≡ t) → After T t a st st' u
      away d true j (yes g) = new (is_true join _ j) g
      away d true j (no g) = old d (λ j'. g) (m.status_other u d)
      away d false j g = old d (λ j'. no_way (cc (same_is join (kind T (next_of st u)) j'))) (m.status_other u d)

      go : Dec (u ≡ t) → (status_of st' u ≡ ready) ⊎ (status_of st' u ≡ held) → After T t a st st' u
      go (yes d) (inl q) = no_way (cc m.status_here)
      go (yes d) (inr q) = no_way (cc m.status_here)
      go (no d) q = away d (is join (kind T (next_of st u))) refl (ℕ_discrete _ t)

  -- ---- the workers

  keeps_worker : (st' : State) → st'.workers ≡ st.workers → Leaves w t st st'
  keeps_worker st' e = record { others = λ v d. rw e; own = λ h. rw e x.holder }

  sets_worker : (st' : State) (y : Worker) → st'.workers ≡ set st.workers w y → (y.holds ≡ true → y.thread ≡ t) → Leaves w t st st'
  sets_worker st' y e h =
      let s : worker_of st' w ≡ y = rw e (get_or-set_same st.workers w y nobody (omega (arith, f.holding.worker_size, x.worker))) in
      record { others = λ v d. rw e (get_or-set_other st.workers w v y nobody d); own = rw s h }

  frees_worker : (st' : State) → LetsGo w st st' → Leaves w t st st'
  frees_worker st' m = record { others = m.others; own = λ h. no_way (cc m.gone) }

  -- ---- the kinds of action

  abbrev Acted : State → Type 0
  Acted st' = Sorted st' × Leaves w t st st'

  act_by_lem : (k : Kind) → kind T a ≡ k → Acted (act_by k T K w t a (T.argument a) st).state
  unfolding act_by is code_of
  act_by_lem end k =
      let m : Ended T w t st (act_by end T K w t a (T.argument a) st).state =
      acting_ended T l p K w t a st f x in
      (goes_out k _ m, frees_worker _ m.lets_go)
  act_by_lem work k = (goes_on _ refl refl (rw k) (λ j. no_way (cc)), keeps_worker _ refl)
  act_by_lem alloc k =
      either (λ (s : Stepped). Acted s.state) (leb (drawn K (T.argument a)) (worker_of st w).quota) _ _
      (λ e. (goes_on _ refl refl (rw k) (λ j. no_way (cc)), sets_worker _ _ refl (λ h. refl)))
      (λ e. (goes_off _ ready refl refl (λ q. omega arith) (λ q. omega arith) (λ q j. no_way (cc)), sets_worker _ nobody refl (λ h. no_way (cc))))
  act_by_lem free k = (goes_on _ refl refl (rw k) (λ j. no_way (cc)), keeps_worker _ refl)
  act_by_lem fork k =
      let m : Forked w t a (T.argument a) st (act_by fork T K w t a (T.argument a) st).state =
      acting_forked T l p K w t a st f x k in
      (goes_apart k _ m, frees_worker _ m.lets_go)
  act_by_lem join k =
      either (λ (s : Stepped). Acted s.state) (eqb (status_of st (T.argument a)) ended) _ _
      (λ e. (goes_on _ refl refl (rw k) (λ j. eqb-true _ ended e), keeps_worker _ refl))
      (λ e. (goes_off _ waiting refl refl (λ q. omega arith) (λ q. omega arith) (λ q j. omega arith), sets_worker _ nobody refl (λ h. no_way (cc))))
  act_by_lem unknown k = absurd (kind_known T l.contents l.bodies a x.action k)

  acted : Acted (act T K w st).state
  unfolding act
  acted = rw (x.holder, x.next) (act_by_lem (kind T a) refl)

  pub act_after : (u : ℕ) → Enabled T (act T K w st).state u → After T t a st (act T K w st).state u
  act_after = acted.0

  pub act_leaves : Leaves w t st (act T K w st).state
  act_leaves = acted.1
