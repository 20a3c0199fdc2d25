-- The state at a beginning is sound.
use mathlib.Core.Path.{◌≡◌, refl, sym, ap, ◌∙◌}
use Prim.Native.Nat.{ℕ, zero, suc, ◌+◌, ◌≤◌, ◌<◌}
use native.Mathlib.Omega.{arith}
use mathlib.Core.List.Memᴰ
use mathlib.Core.List.{Memᴰ}
use mathlib.Core.Bool.{Bool, true, false, and-false}
use lib.ListN.{length, get_or, set, replicate, length-set, length-replicate, get_or-eq_default}
use lib.Dec.{ltb, eqb}
use borrow.Author.Tests.{le-ltb, ne_eqb}
use Rattle.table.specs.Sum.{pick, sum_to}
use Rattle.table.specs.Format.{Table}
use Rattle.table.specs.Checks.{max_threads, owner, alloc_of, free_of}
use Rattle.table.specs.Level.{fork_below}
use Rattle.table.proofs.Tests.{no_way}
use Rattle.table.proofs.Sums.{sum_to_zero}
use Rattle.table.proofs.Bodies.{count_pos, after_end, owner_below_lem, owner_first}
use Rattle.table.proofs.Nesting.{fork_exists, fork_found}
use Rattle.schedule.specs.declared.Worker.{Worker}
use Rattle.schedule.specs.Machine.{unborn, ready, ended, next_of, status_of, amount_of, worker_of, nobody}
use Rattle.schedule.specs.Record.{max_workers}
use Rattle.schedule.specs.Begin.{start_state}
use Rattle.order.specs.Firsts.{firsts}
use Rattle.schedule.specs.Sound.{is_done, done_in, sum_done, of_done, progress_in, share_in, progress, is_joined, share}
use Rattle.order.specs.Order.{number_of}
use Rattle.order.proofs.Lawful.{Lawful}
use Rattle.schedule.proofs.Sound.Sharing.{Shared}
use Rattle.schedule.proofs.Sound.Facts.{Facts}
use Rattle.order.proofs.Words.{Ascends}
use Rattle.order.proofs.Lists.{get_d_alike, filled_at, filled_length, firsts_length, firsts_at}

-- the statuses of a beginning, whatever the size
first_status : (n t : ℕ) → 0 < t → get_or (set (replicate n 0) 0 ready) t 0 ≡ unborn
first_status zero t h = refl
first_status (suc n) zero h = absurd (omega arith)
first_status (suc n) (suc t) h = get_d_alike n t 0

module _ (T : Table) (l : Lawful T) where
  pub start_next_lem : (t : ℕ) → t < T.threads → next_of (start_state T) t ≡ T.first t
  unfolding start_state
  start_next_lem t h =
      let e : 0 + t ≡ t = omega arith in
      filled_at max_threads (firsts T.first 0 T.threads) t ∙ firsts_at T.first 0 T.threads t h ∙ rw e

  pub start_unused : (t : ℕ) → T.threads ≤ t → next_of (start_state T) t ≡ 0
  unfolding start_state
  start_unused t h =
      let e : length (firsts T.first 0 T.threads) ≤ t = omega (arith, firsts_length T.first 0 T.threads) in
      filled_at max_threads (firsts T.first 0 T.threads) t ∙ get_or-eq_default (firsts T.first 0 T.threads) 0 e

  pub start_root : status_of (start_state T) 0 ≡ ready
  unfolding start_state
  start_root = refl

  pub start_unborn : (t : ℕ) → 0 < t → status_of (start_state T) t ≡ unborn
  unfolding start_state
  start_unborn t h = first_status max_threads t h

  pub start_worker : (w : ℕ) → worker_of (start_state T) w ≡ nobody
  unfolding start_state
  start_worker w = get_d_alike max_workers w nobody

  -- nothing is ended, held or waiting
  pub start_status : (t : ℕ) → status_of (start_state T) t ≤ ready
  start_status zero = omega (arith, start_root)
  start_status (suc t) = omega (arith, start_unborn (suc t) (omega arith))

  -- nothing is done
  pub start_undone : (a : ℕ) → a < T.actions → is_done T (start_state T) a ≡ false
  unfolding done_in
  start_undone a h =
      let t : ℕ = owner T a in
      let e : next_of (start_state T) t ≡ T.first t = start_next_lem t (owner_below_lem T l.contents a h) in
      let n : ltb a (next_of (start_state T) t) ≡ false = le-ltb a (next_of (start_state T) t) (omega (arith, owner_first T l.contents a h)) in
      let s : eqb (status_of (start_state T) t) ended ≡ false = ne_eqb (status_of (start_state T) t) ended (λ q. omega (arith, start_status t)) in
      rw (n, s) (and-false (eqb a (next_of (start_state T) t)))

  pub start_none : (own : ℕ → ℕ) → sum_done T (start_state T) own ≡ 0
  start_none own = sum_to_zero (of_done T (start_state T) own) T.actions (λ i h. rw (start_undone i h))

  start_fork : (t : ℕ) → 0 < t → t < T.threads → is_done T (start_state T) (fork_below T T.actions t) ≡ false
  start_fork t p h =
      let x = fork_exists T l.contents l.bodies l.nesting l.forking t p h in
      let e : fork_below T T.actions (T.argument x.0) ≡ x.0 = fork_found T l.contents l.bodies l.nesting x.0 x.1 x.2 in
      rw (← x.3, e) (start_undone x.0 x.1)

  pub start_listed : (t : ℕ) → Memᴰ t (start_state T).list → t ≡ 0
  unfolding start_state
  start_listed t m = Memᴰ.eq_of_singleton m

  start_born : (t : ℕ) → Memᴰ t (start_state T).list → status_of (start_state T) t ≡ ready
  start_born t m = rw (start_listed t m) start_root

  root_listed : Memᴰ 0 (start_state T).list
  unfolding start_state
  root_listed = Memᴰ.head refl

  start_sizes : (length (start_state T).next ≡ 1024) × (length (start_state T).status ≡ 1024) × (length (start_state T).workers ≡ 16)
  unfolding start_state
  start_sizes =
      let n : length (firsts T.first 0 T.threads) ≤ max_threads = omega (arith, firsts_length T.first 0 T.threads, l.few_threads) in
      (filled_length max_threads (firsts T.first 0 T.threads) n, length-set (replicate max_threads 0) 0 ready ∙ length-replicate {A = ℕ} max_threads 0, length-replicate max_workers nobody)

  start_serial : Ascends (λ t. number_of T (next_of (start_state T) t)) (start_state T).list
  unfolding start_state Ascends
  start_serial = (λ y m. absurd (Memᴰ.not-nil m), tt)

  pub start_held : ((start_state T).held ≡ 0) × ((start_state T).highest ≡ 0)
  unfolding start_state
  start_held = (refl, refl)

  -- nothing is held by any thread
  start_progress : (t : ℕ) → t < T.threads → progress T (start_state T) t ≡ 0
  unfolding progress_in
  start_progress t h = rw (ne_eqb (status_of (start_state T) t) ended (λ q. omega (arith, start_status t)), start_next_lem t h) (omega arith)

  start_share : (t : ℕ) → t < T.threads → share T (start_state T) t ≡ 0
  unfolding share_in sum_to
  start_share t h = rw (start_progress t h) (go (is_joined T (start_state T) t))
    where
      go : (j : Bool) → ◌≡◌ {A = ℕ} (pick j 0 0) 0
      go true = refl
      go false = refl

  start_amounts : (length (start_state T).amounts ≡ 1024) × ((t : ℕ) → amount_of (start_state T) t ≡ 0)
  unfolding start_state
  start_amounts = (length-replicate {A = ℕ} max_threads 0, λ t. get_d_alike max_threads t 0)

  start_shared : Shared T (start_state T).next (start_state T).status (start_state T).amounts
  start_shared =
      record {
        size = start_amounts.0;
        each = λ t h. start_amounts.1 t ∙ sym (start_share t h);
        rest = λ t h. start_amounts.1 t;
      }

  free_start : (w : ℕ) → (worker_of (start_state T) w).holds ≡ true → ⊥
  free_start w e = let f : (worker_of (start_state T) w).holds ≡ false = ap (λ (x : Worker). x.holds) (start_worker w) in no_way (cc)

pub start_facts : (T : Table) → Lawful T → (p K : ℕ) → Facts T p K (start_state T)
start_facts T l p K =
    record {
      next_size = (start_sizes T l).0;
      status_size = (start_sizes T l).1;
      next_low = λ t h. omega (arith, start_next_lem T l t h);
      next_high = λ t h. omega (arith, start_next_lem T l t h, count_pos T l.contents t h, after_end T l.contents t h);
      ordered = λ a d h e m. let f : is_done T (start_state T) a ≡ false = start_undone T l a h in no_way (cc);
      status_known = λ t h. omega (arith, start_status T l t);
      root_born = λ e. omega (arith, start_root T l);
      unborn_fork = λ t p h e. start_fork T l t p h;
      fork_unborn = λ t p h e. start_unborn T l t p;
      ended_last = λ t h e. absurd (omega (arith, start_status T l t));
      list_below = λ t m. omega (arith, start_listed T l t m, l.some_thread);
      list_born = λ t m e. omega (arith, start_born T l t m);
      list_unended = λ t m e. omega (arith, start_born T l t m);
      live_listed = live_listed;
      serial = start_serial T l;
      wait_join = λ t h e. absurd (omega (arith, start_status T l t));
      wait_open = λ t h e. absurd (omega (arith, start_status T l t));
      holding =
          record {
            worker_size = (start_sizes T l).2;
            holder_below = λ w h e. absurd (free_start T l w e);
            holder_thread = λ w h e. absurd (free_start T l w e);
            holder_held = λ w h e. absurd (free_start T l w e);
            holder_quota = λ w h e. absurd (free_start T l w e);
            holder_once = λ w v h i e. absurd (free_start T l w e);
            held_holder = λ t h e. absurd (omega (arith, start_status T l t));
            free_worker = λ w h e. start_worker T l w;
          };
      amount = omega (arith, start_none T l (free_of T), start_none T l (alloc_of T), (start_held T l).0);
      above = omega (arith, (start_held T l).0, (start_held T l).1);
      shared = start_shared T l;
      unused_status = λ t h i. start_unborn T l t (omega (arith, l.some_thread));
      unused_next = λ t h i. start_unused T l t h;
    }
  where
    live_listed : (t : ℕ) → t < T.threads → (status_of (start_state T) t ≡ unborn → ⊥) → (status_of (start_state T) t ≡ ended → ⊥) → Memᴰ t (start_state T).list
    live_listed zero h n m = root_listed T l
    live_listed (suc t) h n m = absurd (n (start_unborn T l (suc t) (omega arith)))
