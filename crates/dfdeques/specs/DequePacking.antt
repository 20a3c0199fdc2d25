-- What a record of DFDeques is in the memory on which turns are taken, and the record read back; what its test by value answers.
use Rattle.std.specs.Prelude.{ℕ, List, Option, None, Some}
use Rattle.table.specs.Sum.{pick}
use Rattle.schedule.specs.Record.{table_in}
use Rattle.soundness.specs.Tested.{parents_if}
use Rattle.run_memory.specs.Memory.{Memory, moved_in}
use Rattle.run_memory.specs.Packing.{memory_with, record_of}
use Rattle.deques.specs.declared.DequeRun.{DequeRun}
use Rattle.deques.specs.DequeRecord.{bottoms_in}
use Rattle.deques.specs.DequeSound.{deque_sound}
use Rattle.deques.specs.DequeTurn.{unsound_deques}

-- the second list of the memory has the bottoms
abbrev pub deque_memory : DequeRun → List ℕ → Memory
deque_memory r parents = memory_with r.run parents (bottoms_in r)

-- the record with what the turns have moved
abbrev pub deque_record_of : DequeRun → Memory → DequeRun
deque_record_of r M = record { run = record_of r.run M; under = M.arrays.under; over = M.arrays.over; first = (moved_in M).totals.first }

-- nothing where 32 applies, "record not sound and not blank"; else the parents, those of the blank record 0
unfoldable pub deques_tested : DequeRun → Option (List ℕ)
deques_tested r = pick (unsound_deques r) None (Some (parents_if (deque_sound r) (table_in r.run)))
