-- The record of a run, from what the turns have in hand.
use Rattle.std.specs.Prelude.{List}
use Rattle.schedule.specs.declared.Worker.{Worker}
use Rattle.schedule.specs.declared.Run.{Run}
use Rattle.array_machine.specs.declared.Moved.{Moved}
use Rattle.array_machine.specs.Arrays.{Arrays}

-- the record with what the turns have moved
abbrev pub packed_of : Run → Arrays → List Worker → Moved → Run
packed_of run A worker m =
    record {
      table = run.table;
      length = run.length;
      workers = run.workers;
      quota = run.quota;
      next = A.next;
      status = A.status;
      amounts = A.amounts;
      left = A.left;
      right = A.right;
      leftmost = m.totals.leftmost;
      worker = worker;
      busy = m.busy;
      held = m.totals.held;
      highest = m.totals.highest;
      turns = m.turns;
    }
