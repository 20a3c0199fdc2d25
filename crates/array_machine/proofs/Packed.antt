-- On the arrays of a record that is sound but for its turns taken, a turn is the record's, and the arrays that it leaves are those of the record after it.
use mathlib.Core.Path.{◌≡◌, refl, sym, ap, subst, ◌∙◌}
use Prim.Native.Nat.{ℕ, ◌+◌, ◌-◌, ◌^◌, ◌<◌}
use mathlib.Core.List.{List}
use mathlib.Core.Bool.{Bool, true, false, ◌&&◌}
use native.Mathlib.Omega.{arith}
use borrow.Author.Tests.{lt-ltb}
use lib.ListN.{length, get_or, set}
use Rattle.table.specs.Sum.{pick}
use Rattle.schedule.specs.declared.Worker.{Worker}
use Rattle.schedule.specs.declared.Run.{Run}
use Rattle.schedule.specs.Machine.{Stepped, stepped, counted, nobody}
use Rattle.schedule.specs.Links.{Links, LinkedAs}
use Rattle.schedule.specs.Actives.{actives}
use Rattle.schedule.specs.Record.{set_of, bytes_of, table_in, state_of}
use Rattle.schedule.specs.Sound.{Steady}
use Rattle.schedule.specs.Parents.{Parents}
use Rattle.schedule.specs.Turn.{step_run}
use Rattle.schedule.specs.Runs.{moved}
use Rattle.schedule.proofs.Stores.{steady_fits}
use Rattle.array_machine.specs.declared.Moved.{Moved}
use Rattle.array_machine.specs.Arrays.{Arrays, second_of, listed_in, table_from}
use Rattle.array_machine.specs.Turn.{Outcome, step_on}
use Rattle.array_machine.specs.Counted.{Left, busy_after, room_for, counting, turn_on}
use Rattle.array_machine.specs.Packed.{packed_of}
use Rattle.array_machine.proofs.Parts.{state_in, Went, Sits}
use Rattle.array_machine.proofs.Local.{put_back, turn_local}
use Rattle.array_machine.proofs.Busy.{Bit, set_bit, set_busy}
use Rattle.array_machine.proofs.Sound.{sound_went}

-- the arrays and what the turns have moved are those of a record that is sound but for its turns taken; the second list is that of the list, and each thread's parent is noted
pub record Carries (run : Run) (parents : List ℕ) (A : Arrays) (workers : List Worker) (m : Moved) : Type 0 where
  pub steady : Steady (packed_of run A workers m)
  pub parent : Parents (table_in run) parents
  pub second : LinkedAs (second_of A m.totals) (actives A.status (listed_in A m.totals))

-- what a turn of worker w leaves of it
pub record Goes (run : Run) (A : Arrays) (workers : List Worker) (m : Moved) (w : ℕ) (z : Left) : Type 0 where
  pub fits : z.fits ≡ true
  pub reply : (step_run (packed_of run A workers m) w).reply ≡ z.reply
  pub record_after : moved (packed_of run A workers m) w ≡ packed_of run z.arrays (set workers w z.worker) z.moved
  pub second : LinkedAs (second_of z.arrays z.moved.totals) (actives z.arrays.status (listed_in z.arrays z.moved.totals))
  pub count : z.moved.turns ≡ m.turns + 1

-- the test of room passes
pub has_room : (turns busy w : ℕ) (holds : Bool) → turns < 2 ^ 64 - 1 → w < 16 → (holds ≡ false → busy + 2 ^ w < 65536) → room_for turns busy holds w ≡ true
unfolding room_for
has_room turns busy w true t h b = rw (lt-ltb (turns + 1) (2 ^ 64) (omega arith), lt-ltb w 16 h)
has_room turns busy w false t h b = rw (lt-ltb (turns + 1) (2 ^ 64) (omega arith), lt-ltb w 16 h, lt-ltb (busy + 2 ^ w) 65536 (b refl))

pub first_of : (b f : Bool) (z v : Left) → b ≡ true → f ≡ true → pick (b && f) z v ≡ z
first_of b f z v e g = rw (e, g)

module _ {run : Run} {parents : List ℕ} {A : Arrays} {workers : List Worker} {m : Moved} (v : Carries run parents A workers m) {w : ℕ} (b : w < run.workers) where
  abbrev here : Run
  here = packed_of run A workers m

  abbrev own : Worker
  own = get_or workers w nobody

  pub few : w < 16
  few = omega (arith, b, (steady_fits here v.steady).few_workers)

  there : w < length workers
  there = omega (arith, v.steady.state.common.worker_size, few)

  sits : (n : ℕ) → n ≡ (table_in run).threads → Sits (bytes_of run) n run.quota A m.totals own
  sits n e =
      record {
        rules = v.steady.table;
        threads = e;
        p = run.workers;
        w = w;
        below = b;
        settings = v.steady.settings;
        state = state_of here;
        sound = v.steady.state;
        same_next = refl;
        same_status = refl;
        same_amounts = refl;
        same_list = refl;
        same_held = refl;
        same_highest = refl;
        own = refl;
        chained = record { list_links = v.steady.links; second_links = v.second };
      }

  bit : Bit m.busy own.holds w
  bit = rw v.steady.set (set_bit workers w v.steady.state.common.worker_size few)

  module _ (n : ℕ) (e : n ≡ (table_in run).threads) (t : m.turns < 2 ^ 64 - 1) where
    abbrev o : Outcome
    o = step_on (table_from (bytes_of run) n) run.quota parents A m.totals own

    went : (o.fits ≡ true) × Went (table_in run) run.quota A m.totals own o
    went = sound_went (sits n e) parents v.parent

    abbrev z : Left
    z = counting w m own o

    stepped_as : step_run here w ≡ stepped o.reply (counted (put_back w (state_of here) (stepped o.reply (state_in o.arrays o.totals o.worker))).state)
    unfolding step_run
    stepped_as = turn_local (table_in run) run.quota w (state_of here) there ∙ rw (← went.1.body)

    goes : Goes run A workers m w z
    goes =
        let q : set_of (set workers w o.worker) ≡ busy_after m.busy own.holds o.worker.holds w = set_busy workers w o.worker there ∙ rw v.steady.set in
        let k = went.1.chained.list_links in
        record {
          fits = refl;
          reply = ap (λ (x : Stepped). x.reply) stepped_as;
          record_after = rw (stepped_as, q, ← ap (λ (x : Links). x.left) k, ← ap (λ (x : Links). x.right) k, ← ap (λ (x : Links). x.head) k);
          second = went.1.chained.second_links;
          count = omega arith;
        }

    counted_so : turn_on (table_from (bytes_of run) n) run.quota parents w A m own ≡ z
    unfolding turn_on
    counted_so = first_of _ _ _ _ (has_room m.turns m.busy w own.holds t few bit.room) went.0

    -- the turn is the record's
    pub turn_goes : {z : Left} → z ≡ turn_on (table_from (bytes_of run) n) run.quota parents w A m own → Goes run A workers m w z
    turn_goes d = subst (λ (x : Left). Goes run A workers m w x) (sym (d ∙ counted_so)) goes
