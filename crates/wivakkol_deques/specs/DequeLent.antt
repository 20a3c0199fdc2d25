-- What the calls of DFDeques (N13) answer to C on lent memory, whatever it holds; the turn and the run themselves are stealing's (crates/stealing/specs/StealingMemory).
use Rattle.std.specs.Prelude.{ℕ, List, [], ◌∷◌, Bool, ◌&&◌, eqb, get_or}
use Rattle.table.specs.Sum.{pick}
use Rattle.table.specs.Format.{table_of}
use Rattle.array_machine.specs.Arrays.{links_of, second_of}
use Rattle.run_memory.specs.Memory.{Memory, memory, moved_in, reply_row, no_row, Answer, answer, Told}
use Rattle.run_memory.specs.Stands.{truths, workers_in}
use Rattle.run_memory.specs.Runs.{stopped_as}
use Rattle.deques.specs.declared.DequeRun.{DequeRun}
use Rattle.deques.specs.DequeRecord.{blank_deques}
use Rattle.dequetest.specs.DequeTested.{deque_sound_on, deque_blank_on, open_number, open_parents}
use Rattle.stealing.specs.StealingMemory.{deque_turn_in, deque_list_in, deque_run_in}

-- A turn of worker w, c "a byte given with each turn": 32, 30, 31, 49, or the reply. The row is AsyncDF's; its last number, which has "N7's number", stays 0.
unfoldable pub lent_deque_turn : List ℕ → ℕ → ℕ → Memory → Answer
lent_deque_turn s w c M =
    let t : Told = deque_turn_in s w c M in
    answer t.number (pick (eqb t.number 0) (reply_row t.reply 0) no_row) t.memory

-- "A run over a list takes two bytes a turn, worker and choice"
unfoldable pub lent_deque_list : List ℕ → List ℕ → Memory → Answer
lent_deque_list s l M = stopped_as (deque_list_in s l M)

-- ---- opening

-- a record is sound "by 01's rules and N9's, with these statements in place of those on the list", of the record that stands in the memory; its truth values are written as 0 and 1
unfoldable pub deque_sound_in : List ℕ → Memory → Bool
deque_sound_in s M =
    truths M.holds
    && deque_sound_on s (get_or M.settings 0 0) (get_or M.settings 1 0) M.arrays.next M.arrays.status M.arrays.amounts (links_of M.arrays (moved_in M).totals)
    (second_of M.arrays (moved_in M).totals) (workers_in M) (moved_in M).busy (moved_in M).totals.held (moved_in M).totals.highest (moved_in M).turns

-- "the blank record", whatever the table
unfoldable pub deque_blank_in : Memory → Bool
deque_blank_in M =
    deque_blank_on (get_or M.settings 0 0) (get_or M.settings 1 0) M.arrays.next M.arrays.status M.arrays.amounts (links_of M.arrays (moved_in M).totals)
    (second_of M.arrays (moved_in M).totals) (workers_in M) (moved_in M).busy (moved_in M).totals.held (moved_in M).totals.highest (moved_in M).turns

-- the record that stands in the memory beside a table; the blank one has no table
unfoldable pub deque_record_in : List ℕ → Memory → DequeRun
deque_record_in s M = pick (deque_blank_in M) blank_deques (deque_run_in s M)

-- the memory with these parents, which are no part of the record
abbrev pub with_parents : List ℕ → Memory → Memory
with_parents parents M = memory M.settings parents M.arrays M.holds M.threads M.quotas M.heads M.totals

-- 32, "record not sound and not blank", with the memory as it was; else each thread's parent is filled
abbrev pub deques_opened : Bool → Bool → List ℕ → Memory → Answer
deques_opened sound blank s M = answer (open_number sound blank) (0 ∷ []) (with_parents (open_parents sound blank (table_of s) M.parents) M)

unfoldable pub lent_deque_open : List ℕ → Memory → Answer
lent_deque_open s M = deques_opened (deque_sound_in s M) (deque_blank_in M) s M
