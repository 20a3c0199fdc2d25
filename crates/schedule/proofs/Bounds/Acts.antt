-- What an act changes, place by place: one action at most is done, one thread's next action and one worker's record move, and the quota falls by what an alloc draws.
use mathlib.Core.Path.{◌≡◌, refl, ◌∙◌}
use Prim.Native.Nat.{ℕ, suc, ◌+◌, ◌-◌, ◌≤◌, ◌<◌}
use native.Mathlib.Omega.{arith}
use native.Mathlib.Decide.{ℕ_discrete, dec_lt}
use mathlib.Core.List.{List}
use mathlib.Core.Bool.{Bool, true, false}
use lib.ListN.{length, get_or, set}
use lib.Seq.{get_or-set_same, get_or-set_other, set_out}
use lib.Dec.{leb, eqb}
use borrow.Author.Tests.{eqb-false, leb-true, le-ltb}
use Rattle.table.specs.Format.{code_of, is, Table, kind}
use Rattle.table.specs.declared.kinds.Kind.{Kind}
use Rattle.table.specs.declared.kinds.Kind.TheVariants.{End as end, Work as work, Alloc as alloc, Free as free, Fork as fork, Join as join, Unknown as unknown}
use Rattle.table.specs.Checks.{owner, alloc_of}
use Rattle.table.proofs.Tests.{no_way}
use Rattle.table.proofs.Bodies.{kind_known}
use Rattle.schedule.specs.declared.Worker.{Worker}
use Rattle.schedule.specs.declared.Reply.{Reply}
use Rattle.schedule.specs.declared.Reply.TheVariants.{Done, Quota, Wait}
use Rattle.schedule.specs.Machine.{State, drawn, ready, waiting, ended, next_of, status_of, worker_of, nobody, act_by, act}
use Rattle.schedule.specs.Sound.{is_done}
use Rattle.order.specs.Order.{number_of}
use Rattle.order.proofs.Lawful.{Lawful}
use Rattle.schedule.proofs.Sound.Facts.{Facts}
use Rattle.order.proofs.Numbers.{number_step}
use Rattle.schedule.proofs.Sound.Done.{done_alike, undone_unborn}
use Rattle.schedule.proofs.Preservation.Does.{Does, over_does}
use Rattle.schedule.proofs.Preservation.Releases.{Acting}
use Rattle.schedule.proofs.Preservation.Ends.{Ended, acting_ended, ended_does}

-- ---- which threads have ended

-- the same threads have ended
abbrev pub SameEnded : State → State → Type 0
SameEnded st st' = (u : ℕ) → eqb (status_of st' u) ended ≡ eqb (status_of st u) ended

-- a status set that is not `ended`, where the one before was not either
pub set_ended : (xs : List ℕ) (i x : ℕ) → eqb x ended ≡ false → eqb (get_or xs i 0) ended ≡ false → (u : ℕ) → eqb (get_or (set xs i x) u 0) ended ≡ eqb (get_or xs u 0) ended
set_ended xs i x e n u = go (dec_lt i (length xs)) (ℕ_discrete u i)
  where
    go : Dec (i < length xs) → Dec (u ≡ i) → eqb (get_or (set xs i x) u 0) ended ≡ eqb (get_or xs u 0) ended
    go (no h) d = rw (set_out xs i x (omega arith))
    go (yes h) (yes d) = rw (d, get_or-set_same xs i x 0 h, n) e
    go (yes h) (no d) = rw (get_or-set_other xs i u x 0 d)

-- ---- what an act changes

pub drawn_none : (K : ℕ) → drawn K 0 ≡ 0
drawn_none K = rw (le-ltb K 0 (omega arith))

-- Worker w, with quota q, tries the next action a of thread t. The reply is r, and the state goes from st to st'.
pub record Acted (T : Table) (K w t a q : ℕ) (st : State) (r : Reply) (st' : State) : Type 0 where
  -- a alone may be done by it
  pub done_others : (d : ℕ) → (d ≡ a → ⊥) → is_done T st' d ≡ is_done T st d
  pub replied : is_done T st' a ≡ true → r ≡ Done t a
  -- t alone goes on, and w alone changes
  pub next_others : (u : ℕ) → (u ≡ t → ⊥) → next_of st' u ≡ next_of st u
  pub worker_others : (u : ℕ) → (u ≡ w → ⊥) → worker_of st' u ≡ worker_of st u
  -- if w keeps a thread, it is t, and t stands at the action after a in serial order
  pub keeps : (worker_of st' w).holds ≡ true → (is_done T st' a ≡ true) × ((worker_of st' w).thread ≡ t) × (number_of T (next_of st' t) ≡ suc (number_of T a))
  -- the quota falls by what an alloc draws
  pub quota : (u d : ℕ) → r ≡ Done u d → (worker_of st' w).quota + drawn K (alloc_of T d) ≤ q
  -- a reply that an action was done names a
  pub does : (u d : ℕ) → r ≡ Done u d → is_done T st' a ≡ true
  pub answers : (u d : ℕ) → r ≡ Done u d → d ≡ a

module _ (T : Table) (l : Lawful T) (p K w t a : ℕ) (st : State) (f : Facts T p K st) (x : Acting T w t a st) where
  next_fits : t < length st.next
  next_fits = omega (arith, f.next_size, l.few_threads, x.thread)

  pub worker_fits : w < length st.workers
  worker_fits = omega (arith, f.holding.worker_size, x.worker)

  unended : eqb (status_of st t) ended ≡ false
  unended = rw x.taken

  abbrev quota_now : ℕ
  quota_now = (worker_of st w).quota

  -- the action is done, and the thread goes on
  module _ (st' : State) (nexts : st'.next ≡ set st.next t (suc (next_of st t))) (ends : SameEnded st st') where
    next_over : next_of st' t ≡ suc a
    next_over = rw (nexts, get_or-set_same st.next t (suc (next_of st t)) 0 next_fits, x.next)

    next_beside : (u : ℕ) → (u ≡ t → ⊥) → next_of st' u ≡ next_of st u
    next_beside u d = rw nexts (get_or-set_other st.next t u (suc (next_of st t)) 0 d)

    over : Does T a st st'
    over = over_does T st st' t a x.owned x.next (eqb-false (status_of st t) ended unended) ends next_over next_beside

  -- the action is not done, or the thread ends: next actions stay
  module _ (st' : State) (nexts : st'.next ≡ st.next) where
    next_same : (u : ℕ) → next_of st' u ≡ next_of st u
    next_same u = rw nexts

  -- w is released
  module _ (st' : State) (workers : st'.workers ≡ set st.workers w nobody) where
    released_nobody : worker_of st' w ≡ nobody
    released_nobody = rw (workers, get_or-set_same st.workers w nobody nobody worker_fits)

    released_others : (u : ℕ) → (u ≡ w → ⊥) → worker_of st' u ≡ worker_of st u
    released_others u d = rw workers (get_or-set_other st.workers w u nobody nobody d)

    released_free : {A : Type 0} → (worker_of st' w).holds ≡ true → A
    released_free e = no_way (cc (released_nobody))

  no_alloc : is alloc (kind T a) ≡ false → alloc_of T a ≡ 0
  unfolding alloc_of
  no_alloc e = rw e

  -- done by a worker that goes on: work, free, join of an ended child
  goes_on : is end (kind T a) ≡ false → is fork (kind T a) ≡ false → is alloc (kind T a) ≡ false
      → (st' : State) → st'.next ≡ set st.next t (suc (next_of st t)) → SameEnded st st' → st'.workers ≡ st.workers → Acted T K w t a quota_now st (Done t a) st'
  goes_on e k m st' n s v =
      record {
        done_others = (over st' n s).same;
        replied = λ i. refl;
        next_others = next_beside st' n s;
        worker_others = λ u d. rw v;
        answers = λ u d i. cc;
        does = λ u d i. (over st' n s).now;
        keeps = λ i. ((over st' n s).now, rw v x.holder, rw (next_over st' n s) (number_step T l a x.action e k));
        quota = λ u d i. let z : alloc_of T d ≡ 0 = cc (no_alloc m) in let y : drawn K (alloc_of T d) ≡ 0 = rw z (drawn_none K) in rw v (omega arith);
      }

  -- done by a worker with less of its quota left: an alloc within it
  draws_on : kind T a ≡ alloc → is end (kind T a) ≡ false → is fork (kind T a) ≡ false → drawn K (T.argument a) ≤ quota_now
      → (st' : State) → st'.next ≡ set st.next t (suc (next_of st t)) → SameEnded st st'
      → st'.workers ≡ set st.workers w (record { holds = true; thread = t; quota = quota_now - drawn K (T.argument a) }) → Acted T K w t a quota_now st (Done t a) st'
  unfolding alloc_of is code_of
  draws_on m e k b st' n s v =
      let now : Worker = record { holds = true; thread = t; quota = quota_now - drawn K (T.argument a) } in
      let here : worker_of st' w ≡ now = rw (v, get_or-set_same st.workers w now nobody worker_fits) in
      record {
        done_others = (over st' n s).same;
        replied = λ i. refl;
        next_others = next_beside st' n s;
        worker_others = λ u d. rw v (get_or-set_other st.workers w u now nobody d);
        answers = λ u d i. cc;
        does = λ u d i. (over st' n s).now;
        keeps = λ i. ((over st' n s).now, rw here, rw (next_over st' n s) (number_step T l a x.action e k));
        quota = λ u d i.
            let z : d ≡ a = cc in
            let y : drawn K (alloc_of T d) ≡ drawn K (T.argument a) = rw (z, m) in
            rw here (omega arith);
      }

  -- done by a worker that is released: a fork
  forks_off : is alloc (kind T a) ≡ false
      → (st' : State) → st'.next ≡ set st.next t (suc (next_of st t)) → SameEnded st st' → st'.workers ≡ set st.workers w nobody → Acted T K w t a quota_now st (Done t a) st'
  forks_off m st' n s v =
      record {
        done_others = (over st' n s).same;
        replied = λ i. refl;
        next_others = next_beside st' n s;
        worker_others = released_others st' v;
        keeps = λ i. released_free st' v i;
        answers = λ u d i. cc;
        does = λ u d i. (over st' n s).now;
        quota = λ u d i. let z : alloc_of T d ≡ 0 = cc (no_alloc m) in let y : drawn K (alloc_of T d) ≡ 0 = rw z (drawn_none K) in rw (released_nobody st' v) (omega arith);
      }

  -- not done, and the worker is released: an alloc beyond the quota, a join of a child not ended
  puts_back : (r : Reply) → ((u d : ℕ) → r ≡ Done u d → ⊥)
      → (st' : State) → st'.next ≡ st.next → SameEnded st st' → st'.workers ≡ set st.workers w nobody → Acted T K w t a quota_now st r st'
  puts_back r g st' n s v =
      record {
        done_others = λ d i. same d;
        replied = λ i. no_way (cc (same a, x.undone));
        next_others = λ u d. next_same st' n u;
        worker_others = released_others st' v;
        keeps = λ i. released_free st' v i;
        answers = λ u d i. absurd (g u d i);
        does = λ u d i. absurd (g u d i);
        quota = λ u d i. absurd (g u d i);
      }
    where
      same : (d : ℕ) → is_done T st' d ≡ is_done T st d
      same d = done_alike T st d st' (next_same st' n (owner T d)) (s (owner T d))

  -- the thread ends
  ends_off : kind T a ≡ end → (st' : State) → Ended T w t st st' → Acted T K w t a quota_now st (Done t a) st'
  unfolding is code_of
  ends_off e st' v =
      record {
        done_others = (ended_does T l p K w t a st f x e st' v).same;
        replied = λ i. refl;
        next_others = λ u d. v.next_same u;
        worker_others = v.lets_go.others;
        answers = λ u d i. cc;
        does = λ u d i. (ended_does T l p K w t a st f x e st' v).now;
        keeps = λ i. no_way (cc v.lets_go.gone);
        quota = λ u d i. let z : alloc_of T d ≡ 0 = cc (no_alloc (rw e)) in let y : drawn K (alloc_of T d) ≡ 0 = rw z (drawn_none K) in rw v.lets_go.gone (omega arith);
      }

  -- a status other than `ended` for the thread, and then for the child that it forks
  restated : (y : ℕ) → eqb y ended ≡ false → (u : ℕ) → eqb (get_or (set st.status t y) u 0) ended ≡ eqb (status_of st u) ended
  restated y e = set_ended st.status t y e unended

  child_unended : kind T a ≡ fork → eqb (status_of st (T.argument a)) ended ≡ false
  child_unended k = rw (undone_unborn T l p K st f a x.action k x.undone)

  -- by the kind of the action
  acted_by : (k : Kind) → kind T a ≡ k → Acted T K w t a quota_now st (act_by k T K w t a (T.argument a) st).reply (act_by k T K w t a (T.argument a) st).state
  unfolding act_by is code_of
  acted_by end e =
      ends_off e _ (acting_ended T l p K w t a st f x)
  acted_by work e = goes_on (rw e) (rw e) (rw e) _ refl (λ u. refl) refl
  acted_by alloc e = go (leb (drawn K (T.argument a)) quota_now) refl
    where
      go : (q : Bool) → leb (drawn K (T.argument a)) quota_now ≡ q
          → Acted T K w t a quota_now st (act_by alloc T K w t a (T.argument a) st).reply (act_by alloc T K w t a (T.argument a) st).state
      go true i = rw i (draws_on e (rw e) (rw e) (leb-true (drawn K (T.argument a)) quota_now i) _ refl (λ u. refl) refl)
      go false i = rw i (puts_back (Quota t (T.argument a)) (λ u d j. no_way cc) _ refl (restated ready refl) refl)
  acted_by free e = goes_on (rw e) (rw e) (rw e) _ refl (λ u. refl) refl
  acted_by fork e =
      forks_off (rw e) _ refl
      (λ u. set_ended (set st.status t ready) (T.argument a) ready refl (restated ready refl (T.argument a) ∙ child_unended e) u ∙ restated ready refl u) refl
  acted_by join e = go (eqb (status_of st (T.argument a)) ended) refl
    where
      go : (q : Bool) → eqb (status_of st (T.argument a)) ended ≡ q
          → Acted T K w t a quota_now st (act_by join T K w t a (T.argument a) st).reply (act_by join T K w t a (T.argument a) st).state
      go true i = rw i (goes_on (rw e) (rw e) (rw e) _ refl (λ u. refl) refl)
      go false i = rw i (puts_back (Wait t (T.argument a)) (λ u d j. no_way cc) _ refl (restated waiting refl) refl)
  acted_by unknown e = absurd (kind_known T l.contents l.bodies a x.action e)

  pub acted : Acted T K w t a quota_now st (act T K w st).reply (act T K w st).state
  unfolding act
  acted = rw (x.holder, x.next) (acted_by (kind T a) refl)
