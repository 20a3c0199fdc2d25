-- What a run record's numbers are in the memory on which turns are taken, and the record read back.
use Rattle.std.specs.Prelude.{ℕ, List, [], ◌∷◌}
use Rattle.table.specs.Sum.{pick}
use Rattle.schedule.specs.declared.Run.{Run}
use Rattle.schedule.specs.Links.{no_thread, Links}
use Rattle.schedule.specs.Actives.{no_links, filled_from}
use Rattle.table.specs.Checks.{max_threads}
use Rattle.array_machine.specs.Arrays.{arrays}
use Rattle.array_machine.specs.Packed.{packed_of}
use Rattle.run_memory.specs.Memory.{Memory, memory, moved_in}
use Rattle.run_memory.specs.Stands.{workers_in}
use Rattle.run_memory.specs.Places.{of_workers}

-- the second list, which is in no record: the threads of the list that do not wait
abbrev pub second_for : Run → Links
second_for run = filled_from max_threads run.status run.right run.leftmost no_thread no_links

-- the memory
abbrev pub memory_with : Run → List ℕ → Links → Memory
memory_with run parents second =
    memory (run.workers ∷ run.quota ∷ []) parents (arrays run.next run.status run.amounts run.left run.right second.left second.right)
    (of_workers (λ x. pick x.holds 1 0) run.worker) (of_workers (λ x. x.thread) run.worker) (of_workers (λ x. x.quota) run.worker)
    (run.leftmost ∷ second.head ∷ run.busy ∷ []) (run.held ∷ run.highest ∷ run.turns ∷ [])

abbrev pub memory_for : Run → List ℕ → Memory
memory_for run parents = memory_with run parents (second_for run)

-- the record with what the turns have moved
abbrev pub record_of : Run → Memory → Run
record_of run M = packed_of run M.arrays (workers_in M) (moved_in M)
