-- Taking and releasing a thread keep a sound state sound: they change one worker's record and one live thread's status, and nothing is done.
use mathlib.Core.Path.{◌≡◌, refl}
use Prim.Native.Nat.{ℕ, ◌≤◌, ◌<◌}
use mathlib.Core.Bool.{true, false}
use native.Mathlib.Omega.{arith}
use lib.ListN.{length, length-set}
use lib.Seq.{get_or-set_same, get_or-set_other}
use lib.Dec.{eqb}
use borrow.Author.Tests.{eqb-true, eq-eqb, ne_eqb}
use Rattle.table.specs.Format.{Table, kind}
use Rattle.table.specs.declared.kinds.Kind.TheVariants.{Join as join}
use Rattle.table.specs.Checks.{owner, alloc_of, free_of}
use Rattle.table.proofs.Tests.{no_way}
use Rattle.table.proofs.Sums.{sum_to_cong}
use Rattle.schedule.specs.declared.Worker.{Worker}
use Rattle.schedule.specs.Machine.{State, unborn, ready, held, waiting, ended, next_of, status_of, worker_of, nobody, with_status, with_worker, released, counted, taken}
use Rattle.schedule.specs.Sound.{is_done, done_in, of_done, sum_done}
use Rattle.order.proofs.Lawful.{Lawful}
use Rattle.schedule.proofs.Sound.Facts.{Holding, Facts}
use Rattle.order.proofs.Lists.{set_each}
use Rattle.schedule.proofs.Sound.Sharing.{shared_alike}
use Rattle.schedule.proofs.Preservation.ShareMoves.{share_alike}
use Rattle.schedule.proofs.Preservation.Holders.{rehung}
use Rattle.schedule.proofs.Preservation.Releases.{Acting, freed, released_holding}

-- the count of turns is no part of a sound state
pub counted_facts : (T : Table) (p K : ℕ) (st : State) → Facts T p K st → Facts T p K (counted st)
unfolding done_in
counted_facts T p K st f =
    record {
      next_size = f.next_size;
      status_size = f.status_size;
      next_low = f.next_low;
      next_high = f.next_high;
      ordered = f.ordered;
      status_known = f.status_known;
      root_born = f.root_born;
      unborn_fork = f.unborn_fork;
      fork_unborn = f.fork_unborn;
      ended_last = f.ended_last;
      list_below = f.list_below;
      list_born = f.list_born;
      list_unended = f.list_unended;
      live_listed = f.live_listed;
      serial = f.serial;
      wait_join = f.wait_join;
      wait_open = f.wait_open;
      holding = f.holding;
      amount = f.amount;
      above = f.above;
      shared = f.shared;
      unused_status = f.unused_status;
      unused_next = f.unused_next;
    }

-- a thread that is forked and not ended
abbrev pub Live : ℕ → Type 0
Live s = (unborn < s) × (s < ended)

-- thread t waits at a join of a child not ended
abbrev pub WaitsRightly : Table → State → ℕ → Type 0
WaitsRightly T st t = (kind T (next_of st t) ≡ join) × (status_of st (T.argument (next_of st t)) ≡ ended → ⊥)

-- ---- a live thread's status and a worker's record

-- thread t has status x and worker w the record v
abbrev pub restated : ℕ → Worker → ℕ → ℕ → State → State
restated w v t x st = with_worker w v (with_status t x st)

module _ (T : Table) (l : Lawful T) (p K : ℕ) (st : State) (f : Facts T p K st) (w t x : ℕ) (v : Worker) (below : t < T.threads) (was : Live (status_of st t)) (now : Live x) where
  fits : t < length st.status
  fits = omega (arith, f.status_size, l.few_threads)

  -- the threads with a status that t neither had nor has are the same as before: those ended, those unborn
  same_dead : (s : ℕ) → (x ≡ s → ⊥) → (status_of st t ≡ s → ⊥) → (u : ℕ) → eqb (status_of (restated w v t x st) u) s ≡ eqb (status_of st u) s
  same_dead s d e =
      set_each st.status t x 0 (λ u y. eqb y s ≡ eqb (status_of st u) s) fits (cc (ne_eqb x s d, ne_eqb (status_of st t) s e)) (λ u i. refl)

  same_ended : (u : ℕ) → eqb (status_of (restated w v t x st) u) ended ≡ eqb (status_of st u) ended
  same_ended = same_dead ended (λ e. omega arith) (λ e. omega arith)

  same_unborn : (u : ℕ) → eqb (status_of (restated w v t x st) u) unborn ≡ eqb (status_of st u) unborn
  same_unborn = same_dead unborn (λ e. omega arith) (λ e. omega arith)

  was_ended : (u : ℕ) → status_of (restated w v t x st) u ≡ ended → status_of st u ≡ ended
  was_ended u e = eqb-true (status_of st u) ended (cc (same_ended u, eq-eqb (status_of (restated w v t x st) u) ended e))

  was_unborn : (u : ℕ) → status_of (restated w v t x st) u ≡ unborn → status_of st u ≡ unborn
  was_unborn u e = eqb-true (status_of st u) unborn (cc (same_unborn u, eq-eqb (status_of (restated w v t x st) u) unborn e))

  still_ended : (u : ℕ) → status_of st u ≡ ended → status_of (restated w v t x st) u ≡ ended
  still_ended u e = eqb-true (status_of (restated w v t x st) u) ended (cc (same_ended u, eq-eqb (status_of st u) ended e))

  still_unborn : (u : ℕ) → status_of st u ≡ unborn → status_of (restated w v t x st) u ≡ unborn
  still_unborn u e = eqb-true (status_of (restated w v t x st) u) unborn (cc (same_unborn u, eq-eqb (status_of st u) unborn e))

  -- nothing is done
  pub restated_done : (a : ℕ) → is_done T (restated w v t x st) a ≡ is_done T st a
  unfolding done_in
  restated_done a = rw (same_ended (owner T a))

  restated_sum : (own : ℕ → ℕ) → sum_done T (restated w v t x st) own ≡ sum_done T st own
  restated_sum own = sum_to_cong (of_done T (restated w v t x st) own) (of_done T st own) T.actions (λ a h. rw (restated_done a))

  restated_wait : (x ≡ waiting → WaitsRightly T st t) → (u : ℕ) → u < T.threads → status_of (restated w v t x st) u ≡ waiting → WaitsRightly T st u
  restated_wait q =
      set_each st.status t x 0 (λ u y. u < T.threads → y ≡ waiting → WaitsRightly T st u) fits (λ h e. q e) (λ u d h e. (f.wait_join u h e, f.wait_open u h e))

  pub restated_facts : Holding T p K (restated w v t x st).status (restated w v t x st).workers → (x ≡ waiting → WaitsRightly T st t) → Facts T p K (restated w v t x st)
  restated_facts k q =
      record {
        next_size = f.next_size;
        status_size = rw (length-set st.status t x) f.status_size;
        next_low = f.next_low;
        next_high = f.next_high;
        ordered = λ a d h i m. cc (restated_done d, f.ordered a d h (cc (restated_done a)) m);
        status_known = set_each st.status t x 0 (λ u y. u < T.threads → y ≤ ended) fits (λ h. omega arith) (λ u d. f.status_known u);
        root_born = λ e. f.root_born (was_unborn 0 e);
        unborn_fork = λ u g h e. cc (f.unborn_fork u g h (was_unborn u e), restated_done _);
        fork_unborn = λ u g h e. still_unborn u (f.fork_unborn u g h (cc (restated_done _)));
        ended_last = λ u h e. f.ended_last u h (was_ended u e);
        list_below = f.list_below;
        list_born = λ u m e. f.list_born u m (was_unborn u e);
        list_unended = λ u m e. f.list_unended u m (was_ended u e);
        live_listed = λ u h d e. f.live_listed u h (λ i. d (still_unborn u i)) (λ i. e (still_ended u i));
        serial = f.serial;
        wait_join = λ u h e. (restated_wait q u h e).0;
        wait_open = λ u h e i. (restated_wait q u h e).1 (was_ended _ i);
        holding = k;
        amount = cc (restated_sum (free_of T), restated_sum (alloc_of T), f.amount);
        above = f.above;
        shared =
            shared_alike T st.next st.status _ _ st.amounts f.shared (λ u h. share_alike T st (restated w v t x st) (λ u. refl) same_ended u);
        unused_status = λ u h i. still_unborn u (f.unused_status u h i);
        unused_next = f.unused_next;
      }

-- ---- taking and releasing

module _ (T : Table) (l : Lawful T) (p K : ℕ) (few : p ≤ 16) (w : ℕ) (below : w < p) (st : State) (f : Facts T p K st) where
  inside : w < 16
  inside = omega arith

  worker_fits : w < length st.workers
  worker_fits = omega (arith, inside, f.holding.worker_size)

  -- a free worker takes a ready thread
  pub taken_facts : (worker_of st w).holds ≡ false → (t : ℕ) → t < T.threads → status_of st t ≡ ready → Facts T p K (taken K w t st)
  unfolding taken
  taken_facts n t h e =
      let v : Worker = record { holds = true; thread = t; quota = K } in
      restated_facts T l p K st f w t held v h (omega arith, omega arith) (omega arith, omega arith)
      (rehung T p K st (restated w v t held st) f w t v (record {
        size = rw (length-set st.workers w v) f.holding.worker_size;
        few = inside;
        new = get_or-set_same st.workers w v nobody worker_fits;
        old = λ u d. get_or-set_other st.workers w u v nobody d;
        was = λ u d. rw (get_or-set_other st.status t u held 0 d) (λ e. e);
        still = λ u d. rw (get_or-set_other st.status t u held 0 d) (λ e. e);
        below = h;
        own = λ i. no_way cc;
        apart = λ u g d i q. no_way (cc (f.holding.holder_held u g i));
        gives = λ i. (refl, omega arith, below, get_or-set_same st.status t held 0 (omega (arith, f.status_size, l.few_threads)));
        keeps = λ i. (refl, refl);
        none = λ i. no_way cc;
      }))
      (λ q. no_way cc)

-- the thread of a worker that acts is put back as ready, or waits
module _ (T : Table) (l : Lawful T) (p K : ℕ) (w t a : ℕ) (st : State) (f : Facts T p K st) (x : Acting T w t a st) where
  pub released_facts : (y : ℕ) → Live y → (y ≡ held → ⊥) → (y ≡ waiting → WaitsRightly T st t) → Facts T p K (released w t y st)
  released_facts y b n q =
      let here : status_of (released w t y st) t ≡ y = get_or-set_same st.status t y 0 (omega (arith, f.status_size, l.few_threads, x.thread)) in
      restated_facts T l p K st f w t y nobody x.thread (omega (arith, x.taken), omega (arith, x.taken)) b
      (released_holding T p K w t a st f x (released w t y st)
      (freed w st (released w t y st) x.worker f.holding.worker_size refl refl (length-set st.status t y) refl refl refl)
      (λ e. n (cc))
      (λ u d. rw (get_or-set_other st.status t u y 0 d) (λ e. e))
      (λ u d. rw (get_or-set_other st.status t u y 0 d) (λ e. e)))
      q
