-- What runs over a list and in rounds answer to C, and beginnings in memory that it lends; the turn and the runs themselves are run_memory's (crates/run_memory/specs, Memory and Runs).
use Rattle.std.specs.Prelude.{ℕ, List, [], ◌∷◌, Bool, true, false, set, replicate, ltb, Err, Ok, Result, ⊤}
use Rattle.table.specs.declared.Refusal.{Refusal}
use Rattle.table.specs.Format.{table_of}
use Rattle.schedule.specs.Machine.{ready}
use Rattle.schedule.specs.Links.{no_thread}
use Rattle.table.specs.Checks.{max_threads}
use Rattle.schedule.specs.Record.{max_workers}
use Rattle.filling.specs.Filled.{filled_out}
use Rattle.soundness.specs.Tested.{parents_in, next_if, begin_filling}
use Rattle.array_machine.specs.Arrays.{arrays}
use Rattle.run_memory.specs.Memory.{Memory, memory, Answer, answer}
use Rattle.run_memory.specs.Runs.{stopped_as, list_run_in, rounds_run_in}

-- ---- runs

-- "Over a list of worker numbers"
unfoldable pub lent_list : List ℕ → List ℕ → Memory → Answer
lent_list s l M = stopped_as (list_run_in s l M)

-- "In rounds (0 to p − 1, again and again, starting with worker 0)"
unfoldable pub lent_rounds : List ℕ → ℕ → Memory → Answer
lent_rounds s limit M = stopped_as (rounds_run_in s limit M)

-- ---- a beginning

abbrev pub nobodies : List ℕ
nobodies = replicate max_workers 0

-- "the blank record: every number 0, every status unborn, the list empty"
abbrev pub blank_memory : Memory
blank_memory =
    let zeros : List ℕ = replicate max_threads 0 in
    memory (0 ∷ 0 ∷ []) zeros (arrays zeros zeros zeros zeros zeros zeros zeros) nobodies nobodies nobodies (0 ∷ 0 ∷ 0 ∷ []) (0 ∷ 0 ∷ 0 ∷ [])

-- "at the start only thread 0, ready"; the second list has it too
abbrev pub start_memory : List ℕ → ℕ → ℕ → Memory
start_memory s p K =
    let none : List ℕ = replicate max_threads no_thread in
    memory (p ∷ K ∷ []) (parents_in (table_of s))
    (arrays (next_if true (table_of s)) (set (replicate max_threads 0) 0 ready) (replicate max_threads 0) none none none none) nobodies nobodies nobodies (0 ∷ 0 ∷ 0 ∷ []) (0 ∷ 0 ∷ 0 ∷ [])

-- too little room for the filled-out table: a number of the library's own, above the papers'
abbrev pub no_room : ℕ
no_room = 61

-- "A refused beginning hands back the blank record". The row has the place, and the bytes of the filled-out table, 0 where the table as given runs; of the Bool, there is too little room for them.
abbrev pub lent_begun_as : Result ⊤ Refusal → Bool → ℕ → Memory → Answer
lent_begun_as (Err x) short bytes M = answer x.number (x.place ∷ 0 ∷ []) blank_memory
lent_begun_as (Ok _) true bytes M = answer no_room (0 ∷ bytes ∷ []) blank_memory
lent_begun_as (Ok _) false bytes M = answer 0 (0 ∷ bytes ∷ []) M

-- The checks of a beginning, then 61; the run is of the filled-out table ("Replies, records .. name the filled-out table", N6), which the call puts into the buffer of `room` bytes (`begun_into`,
-- crates/soundness/specs/Tested).
unfoldable pub lent_begin : List ℕ → ℕ → ℕ → ℕ → Answer
lent_begin s p K room = let f = begin_filling s p K in lent_begun_as f.found (ltb room f.bytes) f.bytes (start_memory (filled_out s K) p K)
