-- What the test of a record of DFDeques answers, check 32, on the record's parts: the table stands apart from them, and no copy of it.
use Rattle.std.specs.Prelude.{ℕ, ◌-◌, ◌^◌, List, Bool, ◌&&◌, replicate, ltb, eqb}
use Rattle.table.specs.Sum.{pick}
use Rattle.table.specs.Format.{Table, table_of}
use Rattle.table.specs.Checks.{max_threads}
use Rattle.schedule.specs.declared.Worker.{Worker}
use Rattle.schedule.specs.Links.{Links}
use Rattle.schedule.specs.Sound.{common_sound}
use Rattle.order.specs.Words.{same_list}
use Rattle.soundness.specs.Tested.{parents_in, blank_on}
use Rattle.deques.specs.DequeWalk.{deques_stand}

-- what a sound record says of its parts, over the table's bytes: "01's rules and N9's, with these statements in place of those on the list", all clauses but those on the copy of the table in the
-- record (`deque_sound_is`, proofs/DequeOnParts)
unfoldable pub deque_sound_on : List ℕ → ℕ → ℕ → List ℕ → List ℕ → List ℕ → Links → Links → List Worker → ℕ → ℕ → ℕ → ℕ → Bool
deque_sound_on s p K next status amounts lines bottoms workers set amount highest turns =
    common_sound s p K next status amounts workers set amount highest
    && (ltb turns (2 ^ 64 - 1)
    && deques_stand (table_of s).threads status lines bottoms)

-- what the blank record says of its parts, both lists of links too, its table and the table's length apart (`deque_blank_is`, proofs/DequeOnParts)
unfoldable pub deque_blank_on : ℕ → ℕ → List ℕ → List ℕ → List ℕ → Links → Links → List Worker → ℕ → ℕ → ℕ → ℕ → Bool
deque_blank_on p K next status amounts lines bottoms workers set amount highest turns =
    blank_on p K next status amounts lines workers set amount highest turns
    && (same_list bottoms.left (replicate max_threads 0)
    && (same_list bottoms.right (replicate max_threads 0)
    && eqb bottoms.head 0))

-- opening a run in lent memory: 32, "record not sound and not blank", else 0
unfoldable pub open_number : Bool → Bool → ℕ
open_number sound blank = pick sound 0 (pick blank 0 32)

-- the parents that then stand beside the record: the table's, those of the blank record, as they were
unfoldable pub open_parents : Bool → Bool → Table → List ℕ → List ℕ
open_parents sound blank T before = pick sound (parents_in T) (pick blank (replicate max_threads 0) before)
