-- A turn keeps a sound state sound.
use mathlib.Core.Path.{◌≡◌, refl}
use Prim.Native.Nat.{ℕ, suc, ◌+◌, ◌-◌, ◌≤◌, ◌<◌, max}
use native.Mathlib.Nat.{le-max_right}
use native.Mathlib.Omega.{arith}
use mathlib.Core.List.{List, [], ◌∷◌, Memᴰ}
use mathlib.Core.Bool.{Bool, true, false}
use lib.ListN.{length, get_or, set, length-set}
use lib.Seq.{get_or-set_same, get_or-set_other}
use lib.Dec.{leb, eqb}
use borrow.Author.Tests.{eqb-true, eqb-false}
use Rattle.table.specs.Sum.{pick}
use Rattle.table.specs.Format.{code_of, is, Table, kind}
use Rattle.table.specs.declared.kinds.Kind.{Kind}
use Rattle.table.specs.declared.kinds.Kind.TheVariants.{End as end, Work as work, Alloc as alloc, Free as free, Fork as fork, Join as join, Unknown as unknown}
use Rattle.table.specs.Checks.{alloc_of, free_of}
use Rattle.table.proofs.Tests.{no_way}
use Rattle.table.proofs.Bodies.{kind_known}
use Rattle.schedule.specs.declared.Worker.{Worker}
use Rattle.schedule.specs.Machine.{State, drawn, ready, waiting, ended, next_of, status_of, worker_of, nobody, with_worker, Stepped, act_by, act, leftmost, taken, turn_free, turn_of}
use Rattle.order.proofs.Lawful.{Lawful}
use Rattle.schedule.proofs.Sound.Facts.{Holding, Facts}
use Rattle.schedule.proofs.Sound.Shares.{free_held}
use Rattle.schedule.proofs.Preservation.Holders.{rehung}
use Rattle.schedule.proofs.Preservation.Releases.{Acting, acting, acting_alone}
use Rattle.schedule.proofs.Preservation.Ends.{end_facts}
use Rattle.schedule.proofs.Preservation.Forks.{fork_facts}
use Rattle.schedule.proofs.Preservation.Moves.{counted_facts, taken_facts, released_facts}
use Rattle.schedule.proofs.Preservation.Advances.{Goes, gone_facts, work_shared, alloc_shared, free_shared, join_shared}

-- ---- the leftmost ready thread

pub leftmost_ready : (status l : List ℕ) → (leftmost status l ≡ length l → ⊥)
    → Memᴰ (get_or l (leftmost status l) 0) l × (get_or status (get_or l (leftmost status l) 0) 0 ≡ ready)
unfolding leftmost
leftmost_ready status [] n = absurd (n refl)
leftmost_ready status (t ∷ l) n = go (eqb (get_or status t 0) ready) refl n (leftmost_ready status l)
  where
    go : (q : Bool) → eqb (get_or status t 0) ready ≡ q → (pick q 0 (suc (leftmost status l)) ≡ suc (length l) → ⊥)
        → ((leftmost status l ≡ length l → ⊥) → Memᴰ (get_or l (leftmost status l) 0) l × (get_or status (get_or l (leftmost status l) 0) 0 ≡ ready))
        → Memᴰ (get_or (t ∷ l) (pick q 0 (suc (leftmost status l))) 0) (t ∷ l) × (get_or status (get_or (t ∷ l) (pick q 0 (suc (leftmost status l))) 0) 0 ≡ ready)
    go true e m ih = (mathlib.Core.List.Memᴰ.head refl, eqb-true (get_or status t 0) ready e)
    go false e m ih =
        let r : Memᴰ (get_or l (leftmost status l) 0) l × (get_or status (get_or l (leftmost status l) 0) 0 ≡ ready) = ih (λ q. m (omega arith)) in
        (mathlib.Core.List.Memᴰ.tail r.0, r.1)

pub taken_holds : (K w t : ℕ) (st : State) → w < length st.workers → (worker_of (taken K w t st) w).holds ≡ true
unfolding taken
taken_holds K w t st h = rw (get_or-set_same st.workers w (record { holds = true; thread = t; quota = K }) nobody h)

-- ---- the action

-- what holds of both holds of the one picked
pub either : {A : Type 0} (P : A → Type 0) (q : Bool) (x y : A) → (q ≡ true → P x) → (q ≡ false → P y) → P (pick q x y)
either P true x y g h = g refl
either P false x y g h = h refl

module _ (T : Table) (l : Lawful T) (p K : ℕ) (w t a : ℕ) (below : w < p) (st : State) (f : Facts T p K st) (x : Acting T w t a st) where
  goes : is end (kind T a) ≡ false → is fork (kind T a) ≡ false → (kind T a ≡ join → status_of st (T.argument a) ≡ ended) → Goes T st t a
  goes e o j =
      record {
        below = x.thread;
        status = x.taken;
        next = x.next;
        no_end = e;
        no_fork = o;
        joined = j;
      }

  work_facts : kind T a ≡ work → Facts T p K (act_by work T K w t a (T.argument a) st).state
  unfolding act_by is code_of alloc_of free_of
  work_facts e =
      let o : Goes T st t a = goes (rw e) (rw e) (λ j. no_way cc) in
      gone_facts T l p K st f t a o st.workers st.amounts st.held st.highest f.holding (work_shared T l p K st f t a o (rw e) (rw e) (rw e)) (rw e) f.above

  free_facts : kind T a ≡ free → Facts T p K (act_by free T K w t a (T.argument a) st).state
  unfolding act_by is code_of alloc_of free_of
  free_facts e =
      let h : ℕ = st.held - T.argument a in
      let g : ℕ = max st.highest h in
      let o : Goes T st t a = goes (rw e) (rw e) (λ j. no_way cc) in
      let i : T.argument (next_of st t) ≤ st.held = free_held T l p K st f t o.below (λ s. omega (arith, o.status)) (rw x.next e) in
      gone_facts T l p K st f t a o st.workers _ h g f.holding (free_shared T l p K st f t a o e) (rw e (omega (arith, rw x.next at i))) (le-max_right st.highest h)

  -- an alloc leaves less of the quota
  spent : (q : ℕ) → q ≤ K → Holding T p K st.status (set st.workers w (record { holds = true; thread = t; quota = q }))
  spent q b =
      let v : Worker = record { holds = true; thread = t; quota = q } in
      rehung T p K st (with_worker w v st) f w t v
      (record {
        size = rw (length-set st.workers w v) f.holding.worker_size;
        few = x.worker;
        new = get_or-set_same st.workers w v nobody (omega (arith, f.holding.worker_size, x.worker));
        old = λ u d. get_or-set_other st.workers w u v nobody d;
        was = λ u d e. e;
        still = λ u d e. e;
        below = x.thread;
        own = λ i. x.holder;
        apart = acting_alone T p K w t a st f x;
        gives = λ i. (refl, b, below, x.taken);
        keeps = λ i. (refl, refl);
        none = λ i. no_way cc;
      })

  alloc_facts : kind T a ≡ alloc → Facts T p K (act_by alloc T K w t a (T.argument a) st).state
  unfolding act_by is code_of alloc_of free_of
  alloc_facts e =
      let q : ℕ = (worker_of st w).quota - drawn K (T.argument a) in
      let h : ℕ = st.held + T.argument a in
      let g : ℕ = max st.highest h in
      let b : (worker_of st w).quota ≤ K = f.holding.holder_quota w x.worker x.holds in
      let o : Goes T st t a = goes (rw e) (rw e) (λ j. no_way cc) in
      either (λ (s : Stepped). Facts T p K s.state) (leb (drawn K (T.argument a)) (worker_of st w).quota) _ _
      (λ i. gone_facts T l p K st f t a o _ _ h g (spent q (omega arith)) (alloc_shared T l p K st f t a o e) (rw e (omega arith)) (le-max_right st.highest h))
      (λ i. released_facts T l p K w t a st f x ready (omega arith, omega arith) (λ r. no_way cc) (λ r. no_way cc))

  join_facts : kind T a ≡ join → Facts T p K (act_by join T K w t a (T.argument a) st).state
  unfolding act_by is code_of alloc_of free_of
  join_facts e =
      either (λ (s : Stepped). Facts T p K s.state) (eqb (status_of st (T.argument a)) ended) _ _
      (λ i.
      let o : Goes T st t a = goes (rw e) (rw e) (λ j. eqb-true (status_of st (T.argument a)) ended i) in
      gone_facts T l p K st f t a o st.workers _ st.held st.highest f.holding (join_shared T l p K st f t a o e) (rw e) f.above)
      (λ i. released_facts T l p K w t a st f x waiting (omega arith, omega arith) (λ r. no_way cc)
      (λ r. rw x.next (e, eqb-false (status_of st (T.argument a)) ended i)))

  -- by the kind of the thread's next action
  act_by_lem : (k : Kind) → kind T a ≡ k → Facts T p K (act_by k T K w t a (T.argument a) st).state
  act_by_lem end e = end_facts T l p K w t a st f x e
  act_by_lem work e = work_facts e
  act_by_lem alloc e = alloc_facts e
  act_by_lem free e = free_facts e
  act_by_lem fork e = fork_facts T l p K w t a st f x e
  act_by_lem join e = join_facts e
  act_by_lem unknown e = absurd (kind_known T l.contents l.bodies a x.action e)

-- ---- the turn

module _ (T : Table) (l : Lawful T) (p K : ℕ) (few : p ≤ 16) (w : ℕ) (below : w < p) where
  pub act_facts : (st : State) → Facts T p K st → (worker_of st w).holds ≡ true → Facts T p K (act T K w st).state
  unfolding act
  act_facts st f e =
      let t : ℕ = (worker_of st w).thread in
      let a : ℕ = next_of st t in
      act_by_lem T l p K w t a below st f (acting T l p K w t a st f (omega arith) e refl refl) (kind T a) refl

  pub free_turn_facts : (st : State) → Facts T p K st → (worker_of st w).holds ≡ false → Facts T p K (turn_free T K w st).state
  unfolding turn_free
  free_turn_facts st f e =
      let i : ℕ = leftmost st.status st.list in
      let t : ℕ = get_or st.list i 0 in
      either (λ (s : Stepped). Facts T p K s.state) (eqb i (length st.list)) _ _ (λ q. f)
      (λ q.
      let (m, r) = leftmost_ready st.status st.list (eqb-false i (length st.list) q) in
      act_facts (taken K w t st) (taken_facts T l p K few w below st f e t (f.list_below t m) r) (taken_holds K w t st (omega (arith, f.holding.worker_size))))

module _ (T : Table) (l : Lawful T) (p K : ℕ) (few : p ≤ 16) where
  pub turn_facts : (w : ℕ) → w < p → (st : State) → Facts T p K st → Facts T p K (turn_of T K w st).state
  unfolding turn_of
  turn_facts w h st f =
      counted_facts T p K _
      (either (λ (s : Stepped). Facts T p K s.state) (worker_of st w).holds _ _ (act_facts T l p K few w h st f) (free_turn_facts T l p K few w h st f))
