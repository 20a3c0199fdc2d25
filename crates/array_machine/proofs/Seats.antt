-- What the part of a worker of a sound state has: the worker's thread and action are in their ranges, and each kind of action finds what it asks for.
use mathlib.Core.Path.{◌≡◌, refl}
use Prim.Native.Nat.{ℕ, ◌+◌, ◌^◌, ◌≤◌, ◌<◌}
use mathlib.Core.List.{List}
use mathlib.Core.Bool.{true, false}
use native.Mathlib.Omega.{arith}
use borrow.Author.Tests.{lt-ltb}
use lib.ListN.{length, get_or, set}
use lib.Seq.{get_or-set_same}
use Rattle.table.specs.Format.{kind, threads_of, actions_of, table_of}
use Rattle.table.specs.declared.kinds.Kind.TheVariants.{Free as free, Fork as fork, Join as join}
use Rattle.table.proofs.Sizes.{Sizes, sizes}
use Rattle.table.proofs.Bodies.{fork_below_lem, join_below}
use Rattle.table.proofs.ReadBack.{argument_short}
use Rattle.schedule.specs.declared.Worker.{Worker}
use Rattle.schedule.specs.declared.Run.{Run}
use Rattle.schedule.specs.Machine.{State, ready, held, nobody, worker_of, taken}
use Rattle.schedule.specs.Record.{max_bytes, set_of, bytes_of, state_of}
use Rattle.order.specs.Words.{filled}
use Rattle.schedule.specs.Sound.{SoundState, Steady}
use Rattle.order.proofs.Lawful.{Lawful, lawful}
use Rattle.schedule.proofs.Sound.Facts.{Facts, facts, sound_facts}
use Rattle.order.proofs.Lists.{filled_front}
use Rattle.schedule.proofs.Sound.Done.{next_below}
use Rattle.schedule.proofs.Preservation.Moves.{taken_facts}
use Rattle.schedule.proofs.Sound.Shares.{free_held}
use Rattle.schedule.proofs.Stores.{Fits, setting_fits}
use Rattle.schedule.proofs.ThreadMemory.{amount_held, free_amount}
use Rattle.schedule.proofs.Soundness.{held_fits}
use Rattle.schedule.proofs.Linked.LinkMoves.{take_actives}
use Rattle.array_machine.specs.declared.Totals.{Totals}
use Rattle.array_machine.specs.Arrays.{Arrays, action_in, with_statuses}
use Rattle.array_machine.specs.Turn.{next_fits}
use Rattle.array_machine.proofs.Parts.{Sits}

state_is : (st : State) (next status amounts list : List ℕ) (held highest : ℕ) → st.next ≡ next → st.status ≡ status → st.amounts ≡ amounts → st.list ≡ list → st.held ≡ held
    → st.highest ≡ highest
    → st ≡ record { next = next; status = status; amounts = amounts; list = list; workers = st.workers; held = held; highest = highest; turns = st.turns }
state_is st next status amounts list held highest a b m c d e = rw (← a, ← b, ← m, ← c, ← d, ← e)

module _ {s : List ℕ} {n K : ℕ} {A : Arrays} {totals : Totals} {worker : Worker} (q : Sits s n K A totals worker) where
  -- the record whose part it is
  abbrev pub run : Run
  run =
      record {
        table = filled max_bytes s;
        length = length s;
        workers = q.p;
        quota = K;
        next = A.next;
        status = A.status;
        amounts = A.amounts;
        left = A.left;
        right = A.right;
        leftmost = totals.leftmost;
        worker = q.state.workers;
        busy = set_of q.state.workers;
        held = totals.held;
        highest = totals.highest;
        turns = q.state.turns;
      }

  bytes : bytes_of run ≡ s
  bytes = filled_front max_bytes s

  sound_part : SoundState (table_of s) q.p K (state_of run)
  sound_part = rw (state_is q.state _ _ _ _ _ _ q.same_next q.same_status q.same_amounts q.same_list q.same_held q.same_highest) at q.sound

  steady : Steady run
  steady =
      record {
        table = rw bytes q.rules;
        settings = q.settings;
        state = rw bytes sound_part;
        set = refl;
        table_length = rw bytes;
        table_rest = rw bytes;
        links = q.chained.list_links;
      }

  pub laws : Lawful (table_of s)
  laws = lawful s q.rules

  pub known : Facts (table_of s) q.p K (state_of run)
  known = facts (table_of s) laws q.p K (state_of run) sound_part

  pub fits : Fits q.p K
  fits = setting_fits q.p K q.settings

  pub few_threads : (table_of s).threads ≤ 1024
  few_threads = laws.few_threads

  pub status_size : length A.status ≡ 1024
  status_size = known.status_size

  -- the next action of a thread is one of the table's
  next_small : (t : ℕ) → t < (table_of s).threads → get_or A.next t 0 < 8192
  unfolding table_of
  next_small t h =
      let z : Sizes s (threads_of s) (actions_of s) = sizes (record { head = q.rules.head; threads = refl; actions = refl }) in
      let a : get_or A.next t 0 < actions_of s = next_below (table_of s) laws q.p K (state_of run) known t h in
      omega arith

  pub worker_few : q.w < 16
  worker_few = omega (arith, q.below, fits.few_workers)

  -- ---- a worker that holds a thread

  module _ (h : worker.holds ≡ true) where
    pub holds : (worker_of (state_of run) q.w).holds ≡ true
    holds = rw q.own h

    pub thread_below : worker.thread < (table_of s).threads
    thread_below = rw q.own at (known.holding.holder_thread q.w worker_few holds)

    thread_held : get_or A.status worker.thread 0 ≡ held
    thread_held = rw q.own at (known.holding.holder_held q.w worker_few holds)

    pub thread_small : worker.thread < 1024
    thread_small = omega (arith, thread_below, few_threads)

    pub next_fits_lem : next_fits (action_in A worker.thread) ≡ true
    next_fits_lem = lt-ltb (action_in A worker.thread + 1) 65536 (omega (arith, next_small worker.thread thread_below))

    next_is_below : action_in A worker.thread < (table_of s).actions
    next_is_below = next_below (table_of s) laws q.p K (state_of run) known worker.thread thread_below

    pub alloc_room : totals.held + (table_of s).argument (action_in A worker.thread) < 2 ^ 64
    alloc_room = omega (arith, argument_short s (action_in A worker.thread), held_fits run steady)

    -- no thread holds more than is held
    pub amount_room : (t : ℕ) → get_or A.amounts t 0 ≤ totals.held
    amount_room = amount_held (table_of s) laws q.p K (state_of run) known

    pub own_room : get_or A.amounts worker.thread 0 + (table_of s).argument (action_in A worker.thread) < 2 ^ 64
    own_room = omega (arith, alloc_room, amount_room worker.thread)

    pub child_room : (c : ℕ) → get_or A.amounts worker.thread 0 + get_or A.amounts c 0 < 2 ^ 64
    child_room c = omega (arith, amount_room worker.thread, amount_room c, held_fits run steady)

    pub own_free : kind (table_of s) (action_in A worker.thread) ≡ free → (table_of s).argument (action_in A worker.thread) ≤ get_or A.amounts worker.thread 0
    own_free k = free_amount (table_of s) laws q.p K (state_of run) known worker.thread thread_below (λ e. omega (arith, thread_held)) k

    pub free_room : kind (table_of s) (action_in A worker.thread) ≡ free → (table_of s).argument (action_in A worker.thread) ≤ totals.held
    free_room k = free_held (table_of s) laws q.p K (state_of run) known worker.thread thread_below (λ e. omega (arith, thread_held)) k

    pub fork_child : kind (table_of s) (action_in A worker.thread) ≡ fork → (table_of s).argument (action_in A worker.thread) < 1024
    fork_child k = omega (arith, few_threads, fork_below_lem (table_of s) laws.contents laws.bodies (action_in A worker.thread) next_is_below k)

    pub join_child : kind (table_of s) (action_in A worker.thread) ≡ join → (table_of s).argument (action_in A worker.thread) < 1024
    join_child k = omega (arith, few_threads, join_below (table_of s) laws.contents laws.bodies (action_in A worker.thread) next_is_below k)

  -- ---- a worker that takes a thread

  pub taken_sits : worker.holds ≡ false → (t : ℕ) → t < (table_of s).threads → get_or A.status t 0 ≡ ready
      → Sits s n K (with_statuses (set A.status t held) A) totals (record { holds = true; thread = t; quota = K })
  unfolding taken
  taken_sits h t b e =
      record {
        rules = q.rules;
        threads = q.threads;
        p = q.p;
        w = q.w;
        below = q.below;
        settings = q.settings;
        state = taken K q.w t (state_of run);
        sound =
            sound_facts (table_of s) laws q.p K (taken K q.w t (state_of run))
            (taken_facts (table_of s) laws q.p K fits.few_workers q.w q.below (state_of run) known (rw q.own h) t b e);
        same_next = refl;
        same_status = refl;
        same_amounts = refl;
        same_list = refl;
        same_held = refl;
        same_highest = refl;
        own = get_or-set_same q.state.workers q.w _ nobody (omega (arith, worker_few, known.holding.worker_size));
        chained =
            record {
              list_links = q.chained.list_links;
              second_links =
                  rw (take_actives (table_of s) laws q.p K q.w t (state_of run) known b e) q.chained.second_links;
            };
      }
