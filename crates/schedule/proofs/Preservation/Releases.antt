-- A worker that acts: what is known of its thread and the next action, and who holds what once the worker is released.
use mathlib.Core.Path.{◌≡◌, refl, ◌∙◌}
use Prim.Native.Nat.{ℕ, ◌<◌}
use mathlib.Core.List.{Memᴰ}
use mathlib.Core.Bool.{true, false}
use native.Mathlib.Omega.{arith}
use lib.ListN.{length, set, length-set}
use lib.Seq.{get_or-set_same, get_or-set_other}
use Rattle.table.specs.Format.{Table, kind}
use Rattle.table.specs.declared.kinds.Kind.TheVariants.{Join as join}
use Rattle.table.specs.Checks.{owner}
use Rattle.table.specs.Level.{depends_on}
use Rattle.table.proofs.Tests.{no_way}
use Rattle.schedule.specs.Machine.{State, held, ended, next_of, status_of, worker_of, nobody}
use Rattle.schedule.specs.Sound.{is_done}
use Rattle.order.proofs.Lawful.{Lawful}
use Rattle.schedule.proofs.Sound.Facts.{Done, Holding, Facts}
use Rattle.schedule.proofs.Preservation.Holders.{rehung}
use Rattle.schedule.proofs.Sound.Done.{undone, next_below, owner_of_next, next_depends}

-- ---- a worker acts

-- worker w holds thread t, whose next action is a
pub record Acting (T : Table) (w t a : ℕ) (st : State) : Type 0 where
  pub worker : w < 16
  pub holds : (worker_of st w).holds ≡ true
  pub holder : (worker_of st w).thread ≡ t
  pub thread : t < T.threads
  pub taken : status_of st t ≡ held
  pub next : next_of st t ≡ a
  pub action : a < T.actions
  pub owned : owner T a ≡ t
  pub undone : is_done T st a ≡ false

pub acting : (T : Table) → Lawful T → (p K w t a : ℕ) (st : State) → Facts T p K st → w < 16 → (worker_of st w).holds ≡ true → (worker_of st w).thread ≡ t
    → next_of st t ≡ a → Acting T w t a st
acting T l p K w t a st f i h e n =
    let below : t < T.threads = rw e at (f.holding.holder_thread w i h) in
    let taken : status_of st t ≡ held = rw e at (f.holding.holder_held w i h) in
    let own : owner T a ≡ t = rw n at (owner_of_next T l p K st f t below) in
    record {
      worker = i;
      holds = h;
      holder = e;
      thread = below;
      taken = taken;
      next = n;
      action = rw n at (next_below T l p K st f t below);
      owned = own;
      undone = undone T st a (rw (own, n) (omega arith)) (λ q. let z : ◌≡◌ {A = ℕ} held ended = cc in omega arith);
    }

-- what its action depends on is done, where that is no join of a child not ended
pub acting_depends : (T : Table) → Lawful T → (p K w t a : ℕ) (st : State) → Facts T p K st → Acting T w t a st → (kind T a ≡ join → status_of st (T.argument a) ≡ ended)
    → (d : ℕ) → Memᴰ d (depends_on T a) → Done T st d
acting_depends T l p K w t a st f x j d i = next_depends T l p K st f t x.thread (λ q. omega (arith, x.taken)) (rw x.next j) d (rw x.next i)

-- ---- what a release keeps

-- worker w holds nothing any more, the other workers hold what they held, and the sizes and the amounts stay
pub record LetsGo (w : ℕ) (st st' : State) : Type 0 where
  pub gone : worker_of st' w ≡ nobody
  pub others : (v : ℕ) → (v ≡ w → ⊥) → worker_of st' v ≡ worker_of st v
  pub nexts : length st'.next ≡ length st.next
  pub statuses : length st'.status ≡ length st.status
  pub workers : length st'.workers ≡ length st.workers
  pub amount : st'.held ≡ st.held
  pub most : st'.highest ≡ st.highest
  pub amounts : st'.amounts ≡ st.amounts

pub freed : (w : ℕ) (st st' : State) → w < 16 → length st.workers ≡ 16 → st'.workers ≡ set st.workers w nobody
    → length st'.next ≡ length st.next → length st'.status ≡ length st.status → st'.held ≡ st.held → st'.highest ≡ st.highest → st'.amounts ≡ st.amounts
    → LetsGo w st st'
freed w st st' i k e n s a h m =
    record {
      gone = rw e (get_or-set_same st.workers w nobody nobody (omega arith));
      others = λ v o. rw e (get_or-set_other st.workers w v nobody nobody o);
      nexts = n;
      statuses = s;
      workers = rw e (length-set st.workers w nobody);
      amount = a;
      most = h;
      amounts = m;
    }

-- a worker that acts, released: its thread is held no more, the other held threads are
module _ (T : Table) (p K : ℕ) (w t a : ℕ) (st : State) (f : Facts T p K st) (x : Acting T w t a st) where
  -- no other worker holds its thread
  pub acting_alone : (u : ℕ) → u < 16 → (u ≡ w → ⊥) → (worker_of st u).holds ≡ true → (worker_of st u).thread ≡ t → ⊥
  acting_alone u g d i q = d (f.holding.holder_once u w g x.worker i x.holds (cc x.holder))

  pub released_holding : (st' : State) → LetsGo w st st' → (status_of st' t ≡ held → ⊥) → ((u : ℕ) → (u ≡ t → ⊥) → status_of st' u ≡ held → status_of st u ≡ held)
      → ((u : ℕ) → (u ≡ t → ⊥) → status_of st u ≡ held → status_of st' u ≡ held) → Holding T p K st'.status st'.workers
  released_holding st' g n was still =
      rehung T p K st st' f w t nobody
      (record {
        size = g.workers ∙ f.holding.worker_size;
        few = x.worker;
        new = g.gone;
        old = g.others;
        was = was;
        still = still;
        below = x.thread;
        own = λ i. x.holder;
        apart = acting_alone;
        gives = λ i. no_way cc;
        keeps = λ i. absurd (n i);
        none = λ i. refl;
      })
