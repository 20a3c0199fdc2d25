-- A turn, place by place: idle, or the worker tries one action, of the thread that it holds or of the one at which it begins a batch. What is done stays done.
use mathlib.Core.Path.{◌≡◌, refl, sym, ◌∙◌}
use Prim.Native.Nat.{ℕ, ◌≤◌, ◌<◌}
use native.Mathlib.Omega.{arith}
use native.Mathlib.Decide.{ℕ_discrete}
use mathlib.Core.Bool.{Bool, true, false}
use mathlib.Core.Logic.{◌⊎◌, inl, inr}
use lib.ListN.{length, get_or}
use lib.Seq.{get_or-set_same, get_or-set_other}
use lib.Dec.{eqb}
use borrow.Author.Tests.{eqb-false}
use Rattle.table.specs.Sum.{pick}
use Rattle.table.specs.Format.{Table}
use Rattle.table.specs.Checks.{owner}
use Rattle.table.proofs.Tests.{no_way}
use Rattle.schedule.specs.declared.Reply.{Reply}
use Rattle.schedule.specs.declared.Reply.TheVariants.{Idle}
use Rattle.schedule.specs.Machine.{State, ready, held, next_of, status_of, worker_of, nobody, counted, Stepped, stepped, act, leftmost, taken, turn_free, turn_of}
use Rattle.schedule.specs.Sound.{is_done, done_in}
use Rattle.order.proofs.Lawful.{Lawful}
use Rattle.schedule.proofs.Sound.Facts.{Facts}
use Rattle.schedule.proofs.Sound.Done.{done_alike}
use Rattle.schedule.proofs.Preservation.Moves.{taken_facts}
use Rattle.schedule.proofs.Preservation.Releases.{Acting, acting, acting_alone}
use Rattle.schedule.proofs.Preservation.Turns.{leftmost_ready}
use Rattle.schedule.proofs.Bounds.Beyond.{start_action, begins}
use Rattle.schedule.proofs.Bounds.Acts.{Acted, acted, set_ended}

-- The turn of w tries action a of thread t, with what is left of its quota or, at the beginning of a batch, with K.
pub record Tries (T : Table) (K w : ℕ) (st : State) (t a : ℕ) (s : Stepped) : Type 0 where
  pub within : a < T.actions
  pub owned : owner T a ≡ t
  pub undone : is_done T st a ≡ false
  -- nobody else holds the thread
  pub apart : (u : ℕ) → u < 16 → (u ≡ w → ⊥) → (worker_of st u).holds ≡ true → (worker_of st u).thread ≡ t → ⊥
  -- it holds the thread, or it begins a batch with it
  pub from : (((worker_of st w).holds ≡ true) × ((worker_of st w).thread ≡ t) × (next_of st t ≡ a))
      ⊎ (((worker_of st w).holds ≡ false) × (begins w st ≡ true) × (start_action st ≡ a))
  pub acted : Acted T K w t a (pick (worker_of st w).holds (worker_of st w).quota K) st s.reply s.state

pub data Turned (T : Table) (K w : ℕ) (st : State) (s : Stepped) : Type 0 where
  idles : (worker_of st w).holds ≡ false → s.reply ≡ Idle → s.state.next ≡ st.next → s.state.status ≡ st.status → s.state.workers ≡ st.workers → Turned T K w st s
  tries : (t a : ℕ) → Tries T K w st t a s → Turned T K w st s

-- taking a thread that is ready does nothing, and changes no other worker
module _ (T : Table) (K w t : ℕ) (st : State) (free : status_of st t ≡ ready) where
  pub taken_next : next_of (taken K w t st) t ≡ next_of st t
  unfolding taken
  taken_next = refl

  pub taken_worker : w < length st.workers → worker_of (taken K w t st) w ≡ record { holds = true; thread = t; quota = K }
  unfolding taken
  taken_worker h = get_or-set_same st.workers w (record { holds = true; thread = t; quota = K }) nobody h

  pub taken_done : (d : ℕ) → is_done T (taken K w t st) d ≡ is_done T st d
  unfolding taken
  taken_done d = done_alike T st d (taken K w t st) refl (set_ended st.status t held refl (rw free) (owner T d))

  taken_acted : (a : ℕ) (r : Reply) (st' : State) → Acted T K w t a K (taken K w t st) r st' → Acted T K w t a K st r st'
  unfolding taken
  taken_acted a r st' x =
      record {
        done_others = λ d n. x.done_others d n ∙ taken_done d;
        replied = x.replied;
        next_others = x.next_others;
        worker_others = λ u n. x.worker_others u n ∙ get_or-set_other st.workers w u (record { holds = true; thread = t; quota = K }) nobody n;
        keeps = x.keeps;
        quota = x.quota;
        answers = x.answers;
        does = x.does;
      }

module _ (T : Table) (l : Lawful T) (p K : ℕ) (few : p ≤ 16) (w : ℕ) (below : w < p) where
  module _ (st : State) (f : Facts T p K st) where
    goes_on : (worker_of st w).holds ≡ true → Turned T K w st (act T K w st)
    goes_on e =
        let t : ℕ = (worker_of st w).thread in
        let a : ℕ = next_of st t in
        let x : Acting T w t a st = acting T l p K w t a st f (omega arith) e refl refl in
        tries t a
        (record {
          within = x.action;
          owned = x.owned;
          undone = x.undone;
          apart = acting_alone T p K w t a st f x;
          from = inl (e, refl, refl);
          acted = rw e (acted T l p K w t a st f x);
        })

    begins_at : (worker_of st w).holds ≡ false → (t : ℕ) → get_or st.list (leftmost st.status st.list) 0 ≡ t → t < T.threads → status_of st t ≡ ready → begins w st ≡ true
        → Turned T K w st (act T K w (taken K w t st))
    begins_at e t i h r b =
        let st' : State = taken K w t st in
        let f' : Facts T p K st' = taken_facts T l p K few w below st f e t h r in
        let a : ℕ = next_of st t in
        let now : worker_of st' w ≡ record { holds = true; thread = t; quota = K } = taken_worker T K w t st r (omega (arith, f.holding.worker_size)) in
        let x : Acting T w t a st' = acting T l p K w t a st' f' (omega arith) (rw now) (rw now) (taken_next T K w t st r) in
        let q : (worker_of st' w).quota ≡ K = rw now in
        tries t a
        (record {
          within = x.action;
          owned = x.owned;
          undone = sym (taken_done T K w t st r a) ∙ x.undone;
          apart = λ u g d j y. no_way (cc (f.holding.holder_held u g j));
          from = inr (e, b, rw i);
          acted = rw e (taken_acted T K w t st r a _ _ (rw q at (acted T l p K w t a st' f' x)));
        })

    free_turn : (worker_of st w).holds ≡ false → Turned T K w st (turn_free T K w st)
    unfolding turn_free begins
    free_turn e = go (eqb (leftmost st.status st.list) (length st.list)) refl
      where
        go : (q : Bool) → eqb (leftmost st.status st.list) (length st.list) ≡ q
            → Turned T K w st (pick q (stepped Idle st) (act T K w (taken K w (get_or st.list (leftmost st.status st.list) 0) st)))
        go true i = idles e refl refl refl refl
        go false i =
            let (m, r) = leftmost_ready st.status st.list (eqb-false _ _ i) in
            begins_at e (get_or st.list (leftmost st.status st.list) 0) refl (f.list_below _ m) r (rw (e, i))

-- turns taken are counted, and nothing else
counted_turned : (T : Table) (K w : ℕ) (st : State) (s : Stepped) → Turned T K w st s → Turned T K w st (stepped s.reply (counted s.state))
unfolding done_in
counted_turned T K w st s (idles e r n t v) = idles e r n t v
counted_turned T K w st s (tries t a x) =
    tries t a
    (record {
      within = x.within;
      owned = x.owned;
      undone = x.undone;
      apart = x.apart;
      from = x.from;
      acted =
          record {
            done_others = x.acted.done_others;
            replied = x.acted.replied;
            next_others = x.acted.next_others;
            worker_others = x.acted.worker_others;
            keeps = x.acted.keeps;
            quota = x.acted.quota;
            answers = x.acted.answers;
            does = x.acted.does;
          };
    })

module _ (T : Table) (l : Lawful T) (p K : ℕ) (few : p ≤ 16) where
  pub turned : (w : ℕ) → w < p → (st : State) → Facts T p K st → Turned T K w st (turn_of T K w st)
  unfolding turn_of
  turned w h st f = counted_turned T K w st (pick (worker_of st w).holds (act T K w st) (turn_free T K w st)) (go (worker_of st w).holds refl)
    where
      go : (q : Bool) → (worker_of st w).holds ≡ q → Turned T K w st (pick q (act T K w st) (turn_free T K w st))
      go true e = goes_on T l p K few w h st f e
      go false e = free_turn T l p K few w h st f e

  -- what is not done after a turn was not done before it
  pub undone_before : (w : ℕ) → w < p → (st : State) → Facts T p K st → (d : ℕ) → is_done T (turn_of T K w st).state d ≡ false → is_done T st d ≡ false
  undone_before w h st f d n = go (turned w h st f)
    where
      at : (t a : ℕ) → Tries T K w st t a (turn_of T K w st) → Dec (d ≡ a) → is_done T st d ≡ false
      at t a x (yes e) = rw e x.undone
      at t a x (no e) = cc (x.acted.done_others d e)

      go : Turned T K w st (turn_of T K w st) → is_done T st d ≡ false
      go (idles e r i j v) = cc (done_alike T st d (turn_of T K w st).state (rw i) (rw j))
      go (tries t a x) = at t a x (ℕ_discrete d a)
