-- The run record and the state that turns move: one read off the other, and written back with the unused parts as document 01 fixes them.
use Rattle.std.specs.Prelude.{ℕ, ◌+◌, ◌*◌, List, [], ◌∷◌, take, replicate}
use Rattle.table.specs.Sum.{pick}
use Rattle.table.specs.Format.{Table, table_of}
use Rattle.table.specs.Checks.{max_threads}
use Rattle.schedule.specs.declared.Worker.{Worker}
use Rattle.schedule.specs.declared.Run.{Run}
use Rattle.schedule.specs.Machine.{State, nobody}
use Rattle.schedule.specs.Links.{Links, list_of, laid}

-- the sizes of the record
abbrev pub max_workers : ℕ
max_workers = 16

abbrev pub max_bytes : ℕ
max_bytes = 36868

-- "the workers holding a thread, kept as one 16-bit set": worker 0 is the lowest bit
unfoldable pub set_of : List Worker → ℕ
set_of [] = 0
set_of (x ∷ l) = pick x.holds 1 0 + 2 * set_of l

abbrev pub bytes_of : Run → List ℕ
bytes_of r = take r.length r.table

abbrev pub table_in : Run → Table
table_in r = table_of (bytes_of r)

-- "each thread's left and right neighbour and the leftmost thread in place of the row of numbers" (N10)
abbrev pub links_in : Run → Links
links_in r = record { left = r.left; right = r.right; head = r.leftmost }

abbrev pub list_in : Run → List ℕ
list_in r = list_of (links_in r)

abbrev pub state_of : Run → State
state_of r =
    record {
      next = r.next;
      status = r.status;
      amounts = r.amounts;
      list = list_in r;
      workers = r.worker;
      held = r.held;
      highest = r.highest;
      turns = r.turns;
    }

-- the record with another state
abbrev pub stored : Run → State → Run
stored r st =
    record {
      table = r.table;
      length = r.length;
      workers = r.workers;
      quota = r.quota;
      next = st.next;
      status = st.status;
      amounts = st.amounts;
      left = (laid st.list).left;
      right = (laid st.list).right;
      leftmost = (laid st.list).head;
      worker = st.workers;
      busy = set_of st.workers;
      held = st.held;
      highest = st.highest;
      turns = st.turns;
    }

-- "the blank record: every number 0, every status unborn, the list empty"; of its links, "in the blank record all are 0" (N10)
unfoldable pub blank : Run
blank =
    record {
      table = replicate max_bytes 0;
      length = 0;
      workers = 0;
      quota = 0;
      next = replicate max_threads 0;
      status = replicate max_threads 0;
      amounts = replicate max_threads 0;
      left = replicate max_threads 0;
      right = replicate max_threads 0;
      leftmost = 0;
      worker = replicate max_workers nobody;
      busy = 0;
      held = 0;
      highest = 0;
      turns = 0;
    }
