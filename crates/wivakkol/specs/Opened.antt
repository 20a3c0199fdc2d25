-- Check 32 on a run in lent memory, whatever it holds: opening a run, and its line of the wall chart.
use Rattle.std.specs.Prelude.{ℕ, List, [], ◌∷◌, Bool, not, ◌&&◌, get_or, replicate, ltb, eqb}
use Rattle.table.specs.Sum.{pick}
use Rattle.table.specs.Format.{table_of}
use Rattle.schedule.specs.Links.{no_thread, Links}
use Rattle.schedule.specs.Actives.{no_links, filled_from}
use Rattle.table.specs.Checks.{max_threads}
use Rattle.soundness.specs.Tested.{parents_in, sound_on, blank_on}
use Rattle.chart.specs.Chart.{Figures, most_turns, figures_of, line_text}
use Rattle.array_machine.specs.Arrays.{arrays, links_of}
use Rattle.run_memory.specs.Memory.{Memory, memory, moved_in, Answer, answer}
use Rattle.run_memory.specs.Stands.{truths, workers_in}

-- "A record is sound if ..", of the record that stands in the memory
unfoldable pub sound_in : List ℕ → Memory → Bool
sound_in s M =
    truths M.holds
    && sound_on s (get_or M.settings 0 0) (get_or M.settings 1 0) M.arrays.next M.arrays.status M.arrays.amounts (links_of M.arrays (moved_in M).totals) (workers_in M)
    (moved_in M).busy (moved_in M).totals.held (moved_in M).totals.highest (moved_in M).turns

-- "the blank record": a beginning that was refused leaves it, whatever the table
unfoldable pub blank_in : Memory → Bool
blank_in M =
    blank_on (get_or M.settings 0 0) (get_or M.settings 1 0) M.arrays.next M.arrays.status M.arrays.amounts (links_of M.arrays (moved_in M).totals) (workers_in M)
    (moved_in M).busy (moved_in M).totals.held (moved_in M).totals.highest (moved_in M).turns

-- the memory with these parents and this second list; the record that stands in it is as it was (`beside_record`, proofs/Opens)
abbrev pub beside : List ℕ → Links → Memory → Memory
beside parents k M =
    memory M.settings parents (arrays M.arrays.next M.arrays.status M.arrays.amounts M.arrays.left M.arrays.right k.left k.right) M.holds M.threads
    M.quotas (get_or M.heads 0 0 ∷ k.head ∷ get_or M.heads 2 0 ∷ []) M.totals

-- what stands beside a sound record: each thread's parent, and the listed threads that do not wait
abbrev pub opened_in : List ℕ → Memory → Memory
opened_in s M = beside (parents_in (table_of s)) (filled_from max_threads M.arrays.status M.arrays.right (moved_in M).totals.leftmost no_thread no_links) M

-- and beside the blank one: zeros
abbrev pub zero_links : Links
zero_links = record { left = replicate max_threads 0; right = replicate max_threads 0; head = 0 }

abbrev pub blanked_in : Memory → Memory
blanked_in M = beside (replicate max_threads 0) zero_links M

-- 32, "record not sound and not blank", with the memory untouched; else what speeds the turns up is filled
abbrev pub opened_as : Bool → Bool → List ℕ → Memory → Answer
opened_as sound blank s M = pick sound (answer 0 (0 ∷ []) (opened_in s M)) (pick blank (answer 0 (0 ∷ []) (blanked_in M)) (answer 32 (0 ∷ []) M))

-- the call
unfoldable pub lent_open : List ℕ → Memory → Answer
lent_open s M = opened_as (sound_in s M) (blank_in M) s M

-- ---- the wall chart (N5)

-- the number of the check that refuses the line, 32 before 43; 0 where none does
unfoldable pub line_fault : List ℕ → Memory → ℕ
line_fault s M = pick (not (sound_in s M) && not (blank_in M)) 32 (pick (ltb most_turns (moved_in M).turns) 43 0)

-- the numbers that a line shows of the record that stands in the memory: turns taken, each worker's cell, memory held
abbrev pub figures_in : Memory → Figures
figures_in M = figures_of (moved_in M).turns (get_or M.settings 0 0) (workers_in M) (moved_in M).totals.held

-- the lent line after the call: "with no line written" where it is refused
unfoldable pub line_after : ℕ → Memory → List ℕ → List ℕ
line_after number M line = pick (eqb number 0) (line_text (figures_in M)) line
