-- Every turn lowers the potential, or is idle and changes nothing but the turns taken (N8).
use mathlib.Core.Path.{◌≡◌, refl, sym, ap, ◌∙◌}
use Prim.Native.Nat.{ℕ, ◌+◌, ◌≤◌, ◌<◌}
use native.Mathlib.Omega.{arith}
use native.Mathlib.Decide.{ℕ_discrete}
use mathlib.Core.Bool.{Bool, true, false}
use lib.ListN.{length, get_or}
use lib.Seq.{get_or-set_other}
use lib.Dec.{eqb, ltb}
use borrow.Author.Tests.{eqb-true, eqb-false, ltb-false}
use Rattle.table.specs.Sum.{pick}
use Rattle.table.specs.Format.{Table}
use Rattle.table.proofs.Tests.{no_way}
use Rattle.schedule.specs.declared.Reply.TheVariants.{Idle}
use Rattle.schedule.specs.Machine.{State, drawn, ready, held, ended, next_of, status_of, worker_of, counted, Stepped, stepped, act, leftmost, taken, turn_free, turn_of}
use Rattle.schedule.specs.Sound.{done_in}
use Rattle.schedule.specs.Most.{unless_idle}
use Rattle.order.proofs.Lawful.{Lawful}
use Rattle.schedule.proofs.Sound.Facts.{Facts}
use Rattle.schedule.proofs.Preservation.Moves.{taken_facts}
use Rattle.schedule.proofs.Preservation.Releases.{Acting, acting}
use Rattle.schedule.proofs.Preservation.Turns.{leftmost_ready}
use Rattle.schedule.proofs.Bounds.Tries.{taken_next, taken_worker, taken_done}
use Rattle.bounds.proofs.Potential.{stands_at, put_back_still, wait_still, to_go, potential, Onward, onward_lowers, act_onward, Outcome, does, back, waits, outcome, Before, tried_falls}

-- what an alloc draws is within a whole quota
drawn_most : (K x : ℕ) → drawn K x ≤ K
drawn_most K x = go (ltb K x) refl
  where
    go : (q : Bool) → ltb K x ≡ q → pick q 0 x ≤ K
    go true e = omega arith
    go false e = ltb-false K x e

-- The turn of w at st: it moves, and the potential falls; or it is idle, since w holds nothing and no thread is ready, and leaves the state `same`.
pub data Lowers (T : Table) (w : ℕ) (st same : State) (s : Stepped) : Type 0 where
  moves : unless_idle s.reply ≡ 1 → potential T s.state < potential T st → Lowers T w st same s
  rests : (worker_of st w).holds ≡ false → leftmost st.status st.list ≡ length st.list → s.reply ≡ Idle → s.state ≡ same → Lowers T w st same s

module _ (T : Table) (l : Lawful T) (p K : ℕ) (few : p ≤ 16) (w : ℕ) (below : w < p) where
  outcome_moves : (t a : ℕ) (st : State) (s : Stepped) → Outcome T K w t a st s → unless_idle s.reply ≡ 1
  outcome_moves t a st s (does r) = rw r
  outcome_moves t a st s (back k n r i e) = rw r
  outcome_moves t a st s (waits k n r i e) = rw r

  -- worker w goes on with the thread that it holds
  holder_lowers : (st : State) → Facts T p K st → (worker_of st w).holds ≡ true → Lowers T w st st (act T K w st)
  holder_lowers st f e =
      let t : ℕ = (worker_of st w).thread in
      let a : ℕ = next_of st t in
      let x : Acting T w t a st = acting T l p K w t a st f (omega arith) e refl refl in
      let b : Before T K w t a st st = record { undone = x.undone; no_wait = λ q. omega (arith, x.taken); no_back = λ k n q. omega (arith, x.taken); child = λ q. q } in
      moves (outcome_moves t a st _ (outcome T l p K st f w t a x))
      (onward_lowers T t a st (act T K w st).state x.action (act_onward T l p K st f w t a x) (tried_falls T l p K st f w t a x st b))

  -- it takes thread t, which is ready, with quota K: no alloc is put back then
  module _ (st : State) (f : Facts T p K st) (e : (worker_of st w).holds ≡ false) (t : ℕ) (h : t < T.threads) (r : status_of st t ≡ ready) where
    abbrev took : State
    took = taken K w t st

    abbrev a : ℕ
    a = next_of st t

    took_facts : Facts T p K took
    took_facts = taken_facts T l p K few w below st f e t h r

    took_worker : worker_of took w ≡ record { holds = true; thread = t; quota = K }
    took_worker = taken_worker T K w t st r (omega (arith, f.holding.worker_size))

    took_acting : Acting T w t a took
    took_acting = acting T l p K w t a took took_facts (omega arith) (rw took_worker) (rw took_worker) (taken_next T K w t st r)

    took_others : (u : ℕ) → (u ≡ t → ⊥) → status_of took u ≡ status_of st u
    unfolding taken
    took_others u n = get_or-set_other st.status t u held 0 n

    took_nexts : (u : ℕ) → next_of took u ≡ next_of st u
    unfolding taken
    took_nexts u = refl

    not_here : (c : ℕ) → status_of st c ≡ ended → c ≡ t → ⊥
    not_here c i d = no_way (cc)

    take_onward : Onward T t a st (act T K w took).state
    take_onward =
        let o : Onward T t a took (act T K w took).state = act_onward T l p K took took_facts w t a took_acting in
        record {
          next_at = refl;
          done_others = λ d n. o.done_others d n ∙ taken_done T K w t st r d;
          next_others = λ u n. o.next_others u n ∙ took_nexts u;
          ready_kept = λ u n i. o.ready_kept u n (took_others u n ∙ i);
          wait_kept = λ u n i. rw (took_nexts u) at (o.wait_kept u n (took_others u n ∙ i));
          ended_kept = λ c i. o.ended_kept c (took_others c (not_here c i) ∙ i);
        }

    took_quota : (worker_of took w).quota < drawn K (T.argument a) → ⊥
    took_quota n =
        let d : (worker_of took w).quota ≡ K = rw took_worker in
        omega (arith, drawn_most K (T.argument a))

    take_child : (c : ℕ) → eqb (status_of took c) ended ≡ false → eqb (status_of st c) ended ≡ false
    take_child c q = go (ℕ_discrete c t)
      where
        go : Dec (c ≡ t) → eqb (status_of st c) ended ≡ false
        go (yes d) = rw (d, r)
        go (no d) = rw (took_others c d) at q

    take_before : Before T K w t a took st
    take_before =
        record {
          undone = sym (taken_done T K w t st r a) ∙ took_acting.undone;
          no_wait = λ q. omega arith;
          no_back = λ k n q. took_quota n;
          child = take_child (T.argument a);
        }

    take_lowers : Lowers T w st st (act T K w took)
    take_lowers =
        moves (outcome_moves t a took _ (outcome T l p K took took_facts w t a took_acting))
        (onward_lowers T t a st (act T K w took).state took_acting.action take_onward (tried_falls T l p K took took_facts w t a took_acting st take_before))

  free_lowers : (st : State) → Facts T p K st → (worker_of st w).holds ≡ false → Lowers T w st st (turn_free T K w st)
  unfolding turn_free
  free_lowers st f e = go (eqb (leftmost st.status st.list) (length st.list)) refl
    where
      i : ℕ
      i = leftmost st.status st.list

      go : (q : Bool) → eqb i (length st.list) ≡ q → Lowers T w st st (pick q (stepped Idle st) (act T K w (taken K w (get_or st.list i 0) st)))
      go true q = rests e (eqb-true _ _ q) refl refl
      go false q =
          let (m, r) = leftmost_ready st.status st.list (eqb-false _ _ q) in
          take_lowers st f e (get_or st.list i 0) (f.list_below _ m) r

-- turns taken are no part of it
pub potential_counted : (T : Table) (st : State) → potential T (counted st) ≡ potential T st
unfolding potential to_go put_back_still wait_still stands_at done_in
potential_counted T st = refl

counts : (T : Table) (w : ℕ) (st : State) (s : Stepped) → Lowers T w st st s → Lowers T w st (counted st) (stepped s.reply (counted s.state))
counts T w st s (moves m h) = moves m (omega (arith, potential_counted T s.state))
counts T w st s (rests e i r q) = rests e i r (ap counted q)

module _ (T : Table) (l : Lawful T) (p K : ℕ) (few : p ≤ 16) where
  pub turn_lowers : (w : ℕ) → w < p → (st : State) → Facts T p K st → Lowers T w st (counted st) (turn_of T K w st)
  unfolding turn_of
  turn_lowers w h st f = counts T w st (pick (worker_of st w).holds (act T K w st) (turn_free T K w st)) (go (worker_of st w).holds refl)
    where
      go : (q : Bool) → (worker_of st w).holds ≡ q → Lowers T w st st (pick q (act T K w st) (turn_free T K w st))
      go true e = holder_lowers T l p K few w h st f e
      go false e = free_lowers T l p K few w h st f e

  -- as one sum
  pub turn_sum : (w : ℕ) → w < p → (st : State) → Facts T p K st → unless_idle (turn_of T K w st).reply + potential T (turn_of T K w st).state ≤ potential T st
  turn_sum w h st f = go (turn_lowers w h st f)
    where
      go : Lowers T w st (counted st) (turn_of T K w st) → unless_idle (turn_of T K w st).reply + potential T (turn_of T K w st).state ≤ potential T st
      go (moves m q) = omega arith
      go (rests e i r q) = rw (r, q) (omega (arith, potential_counted T st))
