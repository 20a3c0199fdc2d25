-- An action moves the links as the machine moves its list: those of the list, and those of the second list.
use mathlib.Core.Path.{◌≡◌, refl, sym}
use Prim.Native.Nat.{ℕ, ◌<◌}
use native.Mathlib.Omega.{arith}
use native.Mathlib.Decide.{ℕ_discrete}
use mathlib.Core.List.{Memᴰ}
use mathlib.Core.Bool.{Bool, true, false, ◌&&◌}
use lib.Dec.{eqb, leb}
use lib.ListN.{get_or, set}
use lib.Seq.{get_or-set_same, get_or-set_other}
use borrow.Author.Tests.{eqb-true, ne_eqb}
use Rattle.table.specs.Sum.{pick}
use Rattle.table.specs.Format.{is, Table, kind}
use Rattle.table.specs.declared.kinds.Kind.{Kind}
use Rattle.table.specs.declared.kinds.Kind.TheVariants.{End as end, Work as work, Alloc as alloc, Free as free, Fork as fork, Join as join, Unknown as unknown}
use Rattle.table.specs.Level.{fork_below}
use Rattle.table.proofs.Tests.{and_both}
use Rattle.table.proofs.Bodies.{kind_known, fork_below_lem}
use Rattle.schedule.specs.Machine.{State, drawn, Stepped, unborn, ready, held, waiting, ended, next_of, status_of, worker_of, with_status, with_list, released, left_of, without, parent_of, waits_for, woken, taken, act_by, act}
use Rattle.schedule.specs.Links.{no_thread, Links, LinkedAs, link_left, unlink}
use Rattle.schedule.specs.Code.LinkMoves.{links_by, actives_by}
use Rattle.schedule.specs.Actives.{actives}
use Rattle.order.proofs.Lawful.{Lawful}
use Rattle.schedule.proofs.Sound.Facts.{Facts}
use Rattle.schedule.proofs.Sound.Done.{undone_unborn}
use Rattle.schedule.proofs.Preservation.Releases.{Acting, acting}
use Rattle.schedule.proofs.Preservation.Ends.{owner_below_less, acting_ended}
use Rattle.schedule.proofs.Preservation.ListMoves.{left_of_old}
use Rattle.schedule.proofs.Preservation.Turns.{either}
use Rattle.order.proofs.Lists.{Below}
use Rattle.schedule.proofs.Linked.Once.{Once, once_left_of, below_left_of}
use Rattle.schedule.proofs.Linked.Links.{link_left_linked, unlink_linked}
use Rattle.schedule.proofs.Linked.Waiting.{awaited}
use Rattle.schedule.proofs.Linked.Actives.{actives_old, actives_new, once_actives, below_actives}
use Rattle.schedule.proofs.Linked.ActiveMoves.{list_once, list_small, moves_set, moves_fork, moves_wait, moves_end, moves_wake}

-- thread u waits, and for t
pub waits_for_lem : (T : Table) (st : State) (u t : ℕ) → waits_for T st u t ≡ true → (status_of st u ≡ waiting) × (awaited T st u ≡ t)
unfolding waits_for
waits_for_lem T st u t e =
    let i : (eqb (status_of st u) waiting ≡ true) × ((is join (kind T (next_of st u)) && eqb (awaited T st u) t) ≡ true) =
    and_both (eqb (status_of st u) waiting) (is join (kind T (next_of st u)) && eqb (awaited T st u) t) e in
    let j : (is join (kind T (next_of st u)) ≡ true) × (eqb (awaited T st u) t ≡ true) = and_both (is join (kind T (next_of st u))) (eqb (awaited T st u) t) i.1 in
    (eqb-true (status_of st u) waiting i.0, eqb-true (awaited T st u) t j.1)

-- links and a step picked by the same test
both : (q : Bool) (k k' : Links) (s s' : Stepped) → LinkedAs k (actives s.state.status s.state.list) → LinkedAs k' (actives s'.state.status s'.state.list)
    → LinkedAs (pick q k k') (actives (pick q s s').state.status (pick q s s').state.list)
both true k k' s s' h h' = h
both false k k' s s' h h' = h'

module _ (T : Table) (l : Lawful T) (p K : ℕ) (w t a : ℕ) (st : State) (f : Facts T p K st) (x : Acting T w t a st) where
  runs : status_of st t ≡ waiting → ⊥
  runs e = omega (arith, x.taken)

  listed : Memᴰ t st.list
  listed = f.live_listed t x.thread (λ q. omega (arith, x.taken)) (λ q. omega (arith, x.taken))

  child_unborn : kind T a ≡ fork → status_of st (T.argument a) ≡ unborn
  child_unborn k = undone_unborn T l p K st f a x.action k x.undone

  child_below : kind T a ≡ fork → T.argument a < T.threads
  child_below k = fork_below_lem T l.contents l.bodies a x.action k

  -- ---- the list

  pub links_by_lem : (k : Links) → LinkedAs k st.list → (q : Kind) → kind T a ≡ q → LinkedAs (links_by q t (T.argument a) k) (act_by q T K w t a (T.argument a) st).state.list
  unfolding links_by act_by
  links_by_lem k h end e =
      rw (acting_ended T l p K w t a st f x).list_is (unlink_linked k st.list h (list_once T l p K st f) (list_small T l p K st f) t listed)
  links_by_lem k h work e = h
  links_by_lem k h alloc e = either (λ (s : Stepped). LinkedAs k s.state.list) (leb (drawn K (T.argument a)) (worker_of st w).quota) _ _ (λ i. h) (λ i. h)
  links_by_lem k h free e = h
  links_by_lem k h fork e =
      link_left_linked k st.list h (list_once T l p K st f) (list_small T l p K st f) t listed (T.argument a) (omega (arith, child_below e, l.few_threads))
      (λ m. f.list_born (T.argument a) m (child_unborn e))
  links_by_lem k h join e = either (λ (s : Stepped). LinkedAs k s.state.list) (eqb (status_of st (T.argument a)) ended) _ _ (λ i. h) (λ i. h)
  links_by_lem k h unknown e = absurd (kind_known T l.contents l.bodies a x.action e)

  -- ---- the second list

  module _ (k : Links) (h : LinkedAs k (actives st.status st.list)) where
    once : Once (actives st.status st.list)
    once = once_actives st.status st.list (list_once T l p K st f)

    small : Below no_thread (actives st.status st.list)
    small = below_actives no_thread st.status st.list (list_small T l p K st f)

    there : Memᴰ t (actives st.status st.list)
    there = actives_new st.status t st.list runs listed

    actives_fork_by : kind T a ≡ fork → LinkedAs (link_left (T.argument a) t k) (actives (set (set st.status t ready) (T.argument a) ready) (left_of (T.argument a) t st.list))
    actives_fork_by e =
        rw (moves_fork T l p K st f t (T.argument a) x.thread runs (child_below e) (child_unborn e))
        (link_left_linked k (actives st.status st.list) h once small t there (T.argument a) (omega (arith, child_below e, l.few_threads))
        (λ m. f.list_born (T.argument a) (actives_old st.status (T.argument a) st.list m).0 (child_unborn e)))

    actives_wait_by : LinkedAs (unlink t k) (actives (set st.status t waiting) st.list)
    actives_wait_by = rw (moves_wait T l p K st f t x.thread runs) (unlink_linked k (actives st.status st.list) h once small t there)

    -- whether the parent waits is the same once t has ended
    waits_same : (u : ℕ) → waits_for T (with_status t ended st) u t ≡ waits_for T st u t
    unfolding waits_for
    waits_same u = go (ℕ_discrete u t)
      where
        go : Dec (u ≡ t)
            → (eqb (get_or (set st.status t ended) u 0) waiting && (is join (kind T (next_of st u)) && eqb (T.argument (next_of st u)) t))
            ≡ (eqb (get_or st.status u 0) waiting && (is join (kind T (next_of st u)) && eqb (T.argument (next_of st u)) t))
        go (yes e) =
            let i : get_or (set st.status t ended) t 0 ≡ ended = get_or-set_same st.status t ended 0 (omega (arith, f.status_size, x.thread, l.few_threads)) in
            rw (e, i, ne_eqb (get_or st.status t 0) waiting runs)
        go (no d) = rw (get_or-set_other st.status t u ended 0 d)

    parent_below : parent_of T t < T.threads
    parent_below = owner_below_less T T.threads (fork_below T T.actions t) l.some_thread

    actives_end_by : (q : Bool) → waits_for T st (parent_of T t) t ≡ q
        → LinkedAs (unlink t (pick q (link_left (parent_of T t) t k) k))
        (actives
        (pick q (with_status (parent_of T t) ready (with_list (without t st.list) (released w t ended st))) (with_list (without t st.list) (released w t ended st))).status
        (pick q (with_status (parent_of T t) ready (with_list (without t st.list) (released w t ended st))) (with_list (without t st.list) (released w t ended st))).list)
    actives_end_by true e =
        let u : ℕ = parent_of T t in
        let (asleep, for-t) = waits_for_lem T st u t e in
        let out : Memᴰ u (actives st.status st.list) → ⊥ = λ m. (actives_old st.status u st.list m).1 asleep in
        let c : u < no_thread = omega (arith, parent_below, l.few_threads) in
        rw (moves_wake T l p K st f t u x.thread runs parent_below asleep for-t)
        (unlink_linked (link_left u t k) (left_of u t (actives st.status st.list))
        (link_left_linked k (actives st.status st.list) h once small t there u c out)
        (once_left_of u t (actives st.status st.list) out once) (below_left_of no_thread u t (actives st.status st.list) c small)
        t (left_of_old u t t (actives st.status st.list) there))
    actives_end_by false e = rw (moves_end T l p K st f t x.thread runs) (unlink_linked k (actives st.status st.list) h once small t there)

    pub actives_by_lem : (q : Kind) → kind T a ≡ q
        → LinkedAs (actives_by q T t (T.argument a) st k)
        (actives (act_by q T K w t a (T.argument a) st).state.status (act_by q T K w t a (T.argument a) st).state.list)
    unfolding actives_by act_by woken waits_for
    actives_by_lem end e = actives_end_by (waits_for T (with_status t ended st) (parent_of T t) t) (sym (waits_same (parent_of T t)))
    actives_by_lem work e = h
    actives_by_lem alloc e =
        either (λ (s : Stepped). LinkedAs k (actives s.state.status s.state.list)) (leb (drawn K (T.argument a)) (worker_of st w).quota) _ _ (λ i. h)
        (λ i. rw (moves_set T l p K st f t ready x.thread runs (λ r. omega arith)) h)
    actives_by_lem free e = h
    actives_by_lem fork e = actives_fork_by e
    actives_by_lem join e = both (eqb (status_of st (T.argument a)) ended) k (unlink t k) _ _ h actives_wait_by
    actives_by_lem unknown e = absurd (kind_known T l.contents l.bodies a x.action e)

-- ---- a free worker takes a ready thread: neither list moves

pub take_actives : (T : Table) → Lawful T → (p K w t : ℕ) (st : State) → Facts T p K st → t < T.threads → status_of st t ≡ ready
    → actives (taken K w t st).status (taken K w t st).list ≡ actives st.status st.list
unfolding taken
take_actives T l p K w t st f h e = moves_set T l p K st f t held h (λ r. omega arith) (λ r. omega arith)

-- ---- a worker that holds a thread acts

module _ (T : Table) (l : Lawful T) (p K w : ℕ) (inside : w < 16) (st : State) (f : Facts T p K st) (holds : (worker_of st w).holds ≡ true) where
  -- the thread and its action
  abbrev thread : ℕ
  thread = (worker_of st w).thread

  abbrev action : ℕ
  action = next_of st (worker_of st w).thread

  acts : Acting T w (worker_of st w).thread (next_of st (worker_of st w).thread) st
  acts = acting T l p K w (worker_of st w).thread (next_of st (worker_of st w).thread) st f inside holds refl refl

  pub act_links : (k : Links) → LinkedAs k st.list → LinkedAs (links_by (kind T action) thread (T.argument action) k) (act T K w st).state.list
  unfolding act
  act_links k h = links_by_lem T l p K w thread action st f acts k h (kind T action) refl

  pub act_actives : (k : Links) → LinkedAs k (actives st.status st.list)
      → LinkedAs (actives_by (kind T action) T thread (T.argument action) st k) (actives (act T K w st).state.status (act T K w st).state.list)
  unfolding act
  act_actives k h = actives_by_lem T l p K w thread action st f acts k h (kind T action) refl
