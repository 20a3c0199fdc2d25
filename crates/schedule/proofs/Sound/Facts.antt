-- A sound state in propositions: what the clauses of SoundState say, and back.
use mathlib.Core.Path.{◌≡◌, refl, sym, ◌∙◌}
use Prim.Native.Nat.{ℕ, ◌+◌, ◌≤◌, ◌<◌}
use native.Mathlib.Omega.{arith}
use native.Mathlib.Decide.{ℕ_discrete}
use mathlib.Core.List.{List, Memᴰ}
use mathlib.Core.Bool.{true, false}
use mathlib.Core.Logic.{◌↔◌}
use lib.ListN.{length, get_or}
use lib.Dec.{ltb}
use borrow.Author.Tests.{ltb-true, lt-ltb}
use Rattle.table.specs.Format.{Table, kind}
use Rattle.table.specs.declared.kinds.Kind.TheVariants.{Join as join}
use Rattle.table.specs.Checks.{end_of, alloc_of, free_of}
use Rattle.table.specs.Level.{fork_below, depends_on}
use Rattle.schedule.specs.declared.Worker.{Worker}
use Rattle.schedule.specs.Machine.{State, unborn, held, waiting, ended, next_of, status_of, worker_of, nobody}
use Rattle.schedule.specs.Sound.{is_done, holds_thread, sum_done, SoundState}
use Rattle.order.specs.Order.{number_of}
use Rattle.order.proofs.Lawful.{Lawful}
use Rattle.schedule.proofs.Sound.Sharing.{Shared, shares_exactly}
use Rattle.order.proofs.Words.{not_both, never_true, all_in_exactly, One, Ascends}
use Rattle.schedule.proofs.Sound.Clauses.{next_in_body_exactly, in_order_exactly, status_follows_exactly, list_follows_exactly, in_serial_order_exactly, waits_at_join_exactly}
use Rattle.schedule.proofs.Sound.Clauses.{held_right_exactly, unused_exactly, holds_thread_exactly, one_holder_exactly, worker_right_exactly}

-- action a is done
abbrev pub Done : Table → State → ℕ → Type 0
Done T st a = is_done T st a ≡ true

-- who holds what, from the statuses of the threads and the records of the workers
pub record Holding (T : Table) (p K : ℕ) (status : List ℕ) (workers : List Worker) : Type 0 where
  pub worker_size : length workers ≡ 16
  pub holder_below : (w : ℕ) → w < 16 → (get_or workers w nobody).holds ≡ true → w < p
  pub holder_thread : (w : ℕ) → w < 16 → (get_or workers w nobody).holds ≡ true → (get_or workers w nobody).thread < T.threads
  pub holder_held : (w : ℕ) → w < 16 → (get_or workers w nobody).holds ≡ true → get_or status (get_or workers w nobody).thread 0 ≡ held
  pub holder_quota : (w : ℕ) → w < 16 → (get_or workers w nobody).holds ≡ true → (get_or workers w nobody).quota ≤ K
  pub holder_once : (w v : ℕ) → w < 16 → v < 16 → (get_or workers w nobody).holds ≡ true → (get_or workers v nobody).holds ≡ true
      → (get_or workers w nobody).thread ≡ (get_or workers v nobody).thread → w ≡ v
  pub held_holder : (t : ℕ) → t < T.threads → get_or status t 0 ≡ held → (w : ℕ) × (w < 16) × ((get_or workers w nobody).holds ≡ true) × ((get_or workers w nobody).thread ≡ t)
  pub free_worker : (w : ℕ) → w < 16 → (get_or workers w nobody).holds ≡ false → get_or workers w nobody ≡ nobody

pub record Facts (T : Table) (p K : ℕ) (st : State) : Type 0 where
  pub next_size : length st.next ≡ 1024
  pub status_size : length st.status ≡ 1024
  -- next actions
  pub next_low : (t : ℕ) → t < T.threads → T.first t ≤ next_of st t
  pub next_high : (t : ℕ) → t < T.threads → next_of st t ≤ end_of T t
  -- what is done
  pub ordered : (a d : ℕ) → a < T.actions → Done T st a → Memᴰ d (depends_on T a) → Done T st d
  -- statuses
  pub status_known : (t : ℕ) → t < T.threads → status_of st t ≤ ended
  pub root_born : status_of st 0 ≡ unborn → ⊥
  pub unborn_fork : (t : ℕ) → 0 < t → t < T.threads → status_of st t ≡ unborn → is_done T st (fork_below T T.actions t) ≡ false
  pub fork_unborn : (t : ℕ) → 0 < t → t < T.threads → is_done T st (fork_below T T.actions t) ≡ false → status_of st t ≡ unborn
  pub ended_last : (t : ℕ) → t < T.threads → status_of st t ≡ ended → next_of st t ≡ end_of T t
  -- the list
  pub list_below : (t : ℕ) → Memᴰ t st.list → t < T.threads
  pub list_born : (t : ℕ) → Memᴰ t st.list → status_of st t ≡ unborn → ⊥
  pub list_unended : (t : ℕ) → Memᴰ t st.list → status_of st t ≡ ended → ⊥
  pub live_listed : (t : ℕ) → t < T.threads → (status_of st t ≡ unborn → ⊥) → (status_of st t ≡ ended → ⊥) → Memᴰ t st.list
  pub serial : Ascends (λ t. number_of T (next_of st t)) st.list
  -- waiting
  pub wait_join : (t : ℕ) → t < T.threads → status_of st t ≡ waiting → kind T (next_of st t) ≡ join
  pub wait_open : (t : ℕ) → t < T.threads → status_of st t ≡ waiting → status_of st (T.argument (next_of st t)) ≡ ended → ⊥
  pub holding : Holding T p K st.status st.workers
  -- amounts
  pub amount : st.held + sum_done T st (free_of T) ≡ sum_done T st (alloc_of T)
  pub above : st.held ≤ st.highest
  pub shared : Shared T st.next st.status st.amounts
  -- threads from n on
  pub unused_status : (t : ℕ) → T.threads ≤ t → t < 1024 → status_of st t ≡ unborn
  pub unused_next : (t : ℕ) → T.threads ≤ t → t < 1024 → next_of st t ≡ 0

module _ (T : Table) (l : Lawful T) (p K : ℕ) (st : State) where
  pub facts : SoundState T p K st → Facts T p K st
  facts s =
      record {
        next_size = s.common.next_size;
        status_size = s.common.status_size;
        next_low = λ t h. ((next_in_body_exactly T st.next t).0 (s.common.placed t h)).0;
        next_high = λ t h. ((next_in_body_exactly T st.next t).0 (s.common.placed t h)).1;
        ordered = λ a d h e m. (in_order_exactly T st.next st.status a).0 (s.common.ordered a h) e d m;
        status_known = λ t h. (status t h).1.1;
        root_born = λ e. let z : 0 < 0 = ((status 0 l.some_thread).0.0 e).0 in omega arith;
        unborn_fork = λ t z h e. ((status t h).0.0 e).1;
        fork_unborn = λ t z h e. (status t h).0.1 (z, e);
        ended_last = λ t h. (status t h).1.0;
        list_below = below;
        list_born = λ t m. (((list_follows_exactly st.status st.list t).0 (s.listed.follows t (below t m))).0 m).0;
        list_unended = λ t m. (((list_follows_exactly st.status st.list t).0 (s.listed.follows t (below t m))).0 m).1;
        live_listed = λ t h u e. ((list_follows_exactly st.status st.list t).0 (s.listed.follows t h)).1 (u, e);
        serial = (in_serial_order_exactly T st.next st.list).0 s.listed.serial;
        wait_join = λ t h e. ((waits_at_join_exactly T st.next st.status t).0 (s.common.waits t h) e).0;
        wait_open = λ t h e. ((waits_at_join_exactly T st.next st.status t).0 (s.common.waits t h) e).1;
        holding =
            record {
              worker_size = s.common.worker_size;
              holder_below = λ w h e. ((worker w h).0 e).0;
              holder_thread = λ w h e. ((worker w h).0 e).1.0;
              holder_held = holds_held;
              holder_quota = λ w h e. ((worker w h).0 e).1.1;
              holder_once = once;
              held_holder = some_holder;
              free_worker = λ w h. (worker w h).1;
            };
        amount = (held_right_exactly T st.next st.status st.held).0 s.common.held_right_lem;
        above = s.common.above;
        shared = (shares_exactly T l.few_threads st.next st.status st.amounts).0 s.common.shares;
        unused_status = λ t h k. ((unused_exactly st.next st.status t).0 (s.common.unused_threads t h k)).0;
        unused_next = λ t h k. ((unused_exactly st.next st.status t).0 (s.common.unused_threads t h k)).1;
      }
    where
      status : (t : ℕ) → t < T.threads
          → ((status_of st t ≡ unborn) ↔ ((0 < t) × (is_done T st (fork_below T T.actions t) ≡ false)))
          × ((status_of st t ≡ ended → next_of st t ≡ end_of T t) × (status_of st t ≤ ended))
      status t h = (status_follows_exactly T st.next st.status t).0 (s.common.statuses t h)

      below : (t : ℕ) → Memᴰ t st.list → t < T.threads
      below t m = ltb-true t T.threads ((all_in_exactly (λ u. ltb u T.threads) st.list).0 s.listed.threads_alone t m)

      worker : (w : ℕ) → w < 16
          → ((worker_of st w).holds ≡ true → (w < p) × (((worker_of st w).thread < T.threads) × ((worker_of st w).quota ≤ K)))
          × ((worker_of st w).holds ≡ false → worker_of st w ≡ nobody)
      worker w h = (worker_right_exactly T.threads p K st.workers w).0 (s.common.worker_each w h)

      holds_held : (w : ℕ) → w < 16 → (worker_of st w).holds ≡ true → status_of st (worker_of st w).thread ≡ held
      holds_held w h e = go (ℕ_discrete (status_of st t) held)
        where
          t : ℕ
          t = (worker_of st w).thread

          go : Dec (status_of st t ≡ held) → status_of st t ≡ held
          go (yes d) = d
          go (no d) =
              absurd
              (not_both (holds_thread st.workers t w) ((holds_thread_exactly st.workers t w).1 (e, refl))
              (((one_holder_exactly st.status st.workers t).0 (s.common.holders t ((worker w h).0 e).1.0)).1 d w h))

      one : (t : ℕ) → t < T.threads → status_of st t ≡ held → One (holds_thread st.workers t) 16
      one t h = ((one_holder_exactly st.status st.workers t).0 (s.common.holders t h)).0

      once : (w v : ℕ) → w < 16 → v < 16 → (worker_of st w).holds ≡ true → (worker_of st v).holds ≡ true → (worker_of st w).thread ≡ (worker_of st v).thread → w ≡ v
      once w v h k e f q =
          let o : One (holds_thread st.workers (worker_of st w).thread) 16 = one (worker_of st w).thread ((worker w h).0 e).1.0 (holds_held w h e) in
          let a : w ≡ o.at = o.alone w h ((holds_thread_exactly st.workers (worker_of st w).thread w).1 (e, refl)) in
          let b : v ≡ o.at = o.alone v k ((holds_thread_exactly st.workers (worker_of st w).thread v).1 (f, sym q)) in
          cc

      some_holder : (t : ℕ) → t < T.threads → status_of st t ≡ held → (w : ℕ) × (w < 16) × ((worker_of st w).holds ≡ true) × ((worker_of st w).thread ≡ t)
      some_holder t h e =
          let o : One (holds_thread st.workers t) 16 = one t h e in
          let q : ((worker_of st o.at).holds ≡ true) × ((worker_of st o.at).thread ≡ t) = (holds_thread_exactly st.workers t o.at).0 o.passes in
          (o.at, o.below, q.0, q.1)

  pub sound_facts : Facts T p K st → SoundState T p K st
  sound_facts f =
      record {
        common =
            record {
              next_size = f.next_size;
              status_size = f.status_size;
              worker_size = f.holding.worker_size;
              placed = λ t h. (next_in_body_exactly T st.next t).1 (f.next_low t h, f.next_high t h);
              ordered = λ a h. (in_order_exactly T st.next st.status a).1 (λ e d m. f.ordered a d h e m);
              statuses = λ t h. (status_follows_exactly T st.next st.status t).1 (status t h, (f.ended_last t h, f.status_known t h));
              waits = λ t h. (waits_at_join_exactly T st.next st.status t).1 (λ e. (f.wait_join t h e, f.wait_open t h e));
              holders = λ t h. (one_holder_exactly st.status st.workers t).1 (one t h, none t);
              worker_each =
                  λ w h.
                  (worker_right_exactly T.threads p K st.workers w).1 (
                    (λ e. (f.holding.holder_below w h e, (f.holding.holder_thread w h e, f.holding.holder_quota w h e))),
                    f.holding.free_worker w h,
                  );
              held_right_lem = (held_right_exactly T st.next st.status st.held).1 f.amount;
              shares = (shares_exactly T l.few_threads st.next st.status st.amounts).1 f.shared;
              above = f.above;
              unused_threads = λ t h k. (unused_exactly st.next st.status t).1 (f.unused_status t h k, f.unused_next t h k);
            };
        listed =
            record {
              follows = λ t h. (list_follows_exactly st.status st.list t).1 ((λ m. (f.list_born t m, f.list_unended t m)), (λ q. f.live_listed t h q.0 q.1));
              threads_alone = (all_in_exactly (λ u. ltb u T.threads) st.list).1 (λ t m. lt-ltb t T.threads (f.list_below t m));
              serial = (in_serial_order_exactly T st.next st.list).1 f.serial;
            };
      }
    where
      status : (t : ℕ) → t < T.threads → (status_of st t ≡ unborn) ↔ ((0 < t) × (is_done T st (fork_below T T.actions t) ≡ false))
      status t h = ((λ e. (positive e, f.unborn_fork t (positive e) h e)), (λ q. f.fork_unborn t q.0 h q.1))
        where
          positive : status_of st t ≡ unborn → 0 < t
          positive e = go (ℕ_discrete t 0)
            where
              go : Dec (t ≡ 0) → 0 < t
              go (yes d) = absurd (f.root_born (rw d at e))
              go (no d) = let n : t ≡ 0 → ⊥ = d in omega (arith, n)

      one : (t : ℕ) → t < T.threads → status_of st t ≡ held → One (holds_thread st.workers t) 16
      one t h e =
          let (w, k, q, r) = f.holding.held_holder t h e in
          record { at = w; below = k; passes = (holds_thread_exactly st.workers t w).1 (q, r); alone = alone w k q r }
        where
          alone : (w : ℕ) → w < 16 → (worker_of st w).holds ≡ true → (worker_of st w).thread ≡ t → (v : ℕ) → v < 16 → holds_thread st.workers t v ≡ true → v ≡ w
          alone w k q r v m g =
              let o : ((worker_of st v).holds ≡ true) × ((worker_of st v).thread ≡ t) = (holds_thread_exactly st.workers t v).0 g in
              f.holding.holder_once v w m k o.0 q (o.1 ∙ sym r)

      none : (t : ℕ) → (status_of st t ≡ held → ⊥) → (w : ℕ) → w < 16 → holds_thread st.workers t w ≡ false
      none t n w h = never_true (holds_thread st.workers t w) by_holder
        where
          by_holder : holds_thread st.workers t w ≡ true → ⊥
          by_holder g =
              let o : ((worker_of st w).holds ≡ true) × ((worker_of st w).thread ≡ t) = (holds_thread_exactly st.workers t w).0 g in
              let q : (worker_of st w).thread ≡ t = o.1 in
              n (rw q at (f.holding.holder_held w h o.0))
