-- A turn on lent arrays with what it counts: the turns taken, and the set of the workers that hold a thread.
use Rattle.std.specs.Prelude.{ℕ, suc, ◌+◌, ◌-◌, ◌^◌, List, Bool, true, false, ◌&&◌, ◌||◌, ltb}
use Rattle.table.specs.Sum.{pick}
use Rattle.table.specs.Format.{Table}
use Rattle.schedule.specs.declared.Worker.{Worker}
use Rattle.schedule.specs.declared.Reply.{Reply}
use Rattle.schedule.specs.declared.Reply.TheVariants.{Idle}
use Rattle.schedule.specs.Links.{no_thread, Sought}
use Rattle.schedule.specs.Record.{max_workers}
use Rattle.array_machine.specs.declared.Moved.{Moved}
use Rattle.array_machine.specs.Arrays.{Arrays}
use Rattle.array_machine.specs.Turn.{Outcome, step_on}

-- what a turn leaves
pub record Left : Type 0 where
  pub fits : Bool
  pub reply : Reply
  pub arrays : Arrays
  pub moved : Moved
  pub worker : Worker

-- nothing moves
abbrev pub unmoved : Arrays → Moved → Worker → Left
unmoved A m worker = record { fits = false; reply = Idle; arrays = A; moved = m; worker = worker }

-- the set after worker w's truth value went from one to the other: one bit for each worker, worker 0 the lowest
unfoldable pub busy_after : ℕ → Bool → Bool → ℕ → ℕ
busy_after busy before after w = pick before (pick after busy (busy - 2 ^ w)) (pick after (busy + 2 ^ w) busy)

-- one turn more has 64 bits; w is one of sixteen workers, and the set has room for its bit
unfoldable pub room_for : ℕ → ℕ → Bool → ℕ → Bool
room_for turns busy holds w = ltb (turns + 1) (2 ^ 64) && (ltb w max_workers && (holds || ltb (busy + 2 ^ w) 65536))

-- what the turn counts
abbrev pub counting : ℕ → Moved → Worker → Outcome → Left
counting w m worker o =
    record {
      fits = true;
      reply = o.reply;
      arrays = o.arrays;
      moved = record { busy = busy_after m.busy worker.holds o.worker.holds w; totals = o.totals; turns = suc m.turns };
      worker = o.worker;
    }

-- "A turn of worker w.", whose record is given; "Every turn counts as one."
unfoldable pub turn_on : Table → ℕ → List ℕ → ℕ → Arrays → Moved → Worker → Left
turn_on T K parents w A m worker =
    let o : Outcome = step_on T K parents A m.totals worker in
    pick (room_for m.turns m.busy worker.holds w && o.fits) (counting w m worker o) (unmoved A m worker)

-- how many threads a worker passes over to take one (N7), from whether it holds one and what a search along the list found
unfoldable pub passed_along : Bool → Sought → ℕ
passed_along holds found = pick holds 0 (pick (ltb found.thread no_thread) found.passed 0)
