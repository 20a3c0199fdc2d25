-- The record of a run of DFDeques and the deques in it: read off its two lists of links, and written back.
use Rattle.std.specs.Prelude.{ℕ, List, [], replicate}
use Rattle.table.specs.Checks.{max_threads}
use Rattle.schedule.specs.declared.Run.{Run}
use Rattle.schedule.specs.Machine.{with_list}
use Rattle.schedule.specs.Links.{Links, laid}
use Rattle.schedule.specs.Record.{links_in, state_of, stored, blank}
use Rattle.deques.specs.declared.DequeRun.{DequeRun}
use Rattle.deques.specs.Deques.{Deque, Deques, over}
use Rattle.deques.specs.Lines.{lines_of, bottoms_of, thread_of, deques_from}

abbrev pub bottoms_in : DequeRun → Links
bottoms_in r = record { left = r.under; right = r.over; head = r.first }

-- the lines are cut after each bottom; the owner of a line whose first thread is held is its holder
abbrev pub deques_in : DequeRun → List Deque
deques_in r = deques_from (links_in r.run) (bottoms_in r) r.run.status r.run.worker

-- what turns move
abbrev pub deques_of : DequeRun → Deques
deques_of r = over (with_list [] (state_of r.run)) (deques_in r)

-- the lines and the bottoms of deques
abbrev pub lines_for : Deques → List ℕ
lines_for d = lines_of (thread_of d.state.workers) d.deques

abbrev pub bottoms_for : Deques → List ℕ
bottoms_for d = bottoms_of (thread_of d.state.workers) d.deques

-- a record with other deques
abbrev pub deque_stored : Run → Deques → DequeRun
deque_stored r d =
    record {
      run = stored r (with_list (lines_for d) d.state);
      under = (laid (bottoms_for d)).left;
      over = (laid (bottoms_for d)).right;
      first = (laid (bottoms_for d)).head;
    }

-- "the blank record: every number 0, every status unborn", both lists of links too
unfoldable pub blank_deques : DequeRun
blank_deques = record { run = blank; under = replicate max_threads 0; over = replicate max_threads 0; first = 0 }
