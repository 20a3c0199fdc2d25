-- Worked cases from C: the listing of E with p 2 and K 6, on arrays of three places, since E has three threads.
use Rattle.std.specs.Prelude.{◌≡◌, refl, ℕ, List, [], ◌∷◌}
use Rattle.table.specs.Sum.{sum_to, any_below}
use Rattle.table.specs.Format.{code_of, kind_of, is, table_of}
use Rattle.table.specs.Cases.{E}
use Rattle.schedule.specs.Links.{link_left, unlink}
use Rattle.array_machine.specs.Arrays.{arrays}
use Rattle.array_machine.specs.Turn.{waits_in, act_on}
use Rattle.array_machine.specs.Counted.{busy_after, room_for}
use Rattle.run_memory.specs.Memory.{Memory, memory, no_row, answer, turn_left}
use Rattle.deques.specs.Lines.{linked_in}
use Rattle.deques.specs.DequeRuns.{pair_at}
use Rattle.stealing.specs.Stealing.{along_by, leaves_on, wakes_on, forks_on, deque_by, deque_in, robbed_links, steal_on, deque_on, deque_turn_on}
use Rattle.stealing.specs.StealingMemory.{deque_hindrance, deque_turn_in, deque_drive_in, deque_list_in}
use Rattle.wivakkol_deques.specs.DequeLent.{lent_deque_turn, lent_deque_list}

abbrev none : List ℕ
none = 1024 ∷ 1024 ∷ 1024 ∷ []

abbrev zeros : List ℕ
zeros = 0 ∷ 0 ∷ 0 ∷ []

abbrev pairs : List ℕ
pairs = 0 ∷ 0 ∷ []

-- the start
abbrev start : Memory
start = memory (2 ∷ 6 ∷ []) zeros (arrays (0 ∷ 5 ∷ 9 ∷ []) (1 ∷ 0 ∷ 0 ∷ []) zeros none none none none) pairs pairs pairs zeros zeros

-- worker 0 steals the root, which forks 1: done, thread 0, action 0
turn_worked : lent_deque_turn E 0 0 start
    ≡ answer 0 (0 ∷ 2 ∷ 0 ∷ 0 ∷ 0 ∷ [])
    (memory (2 ∷ 6 ∷ []) zeros (arrays (1 ∷ 5 ∷ 9 ∷ []) (1 ∷ 2 ∷ 0 ∷ []) zeros (1 ∷ 1024 ∷ 1024 ∷ []) (1024 ∷ 0 ∷ 1024 ∷ []) none none) (1 ∷ 0 ∷ []) (1 ∷ 0 ∷ []) (6 ∷ 0 ∷ []) (1 ∷ 0 ∷ 1 ∷ []) (0 ∷ 0 ∷ 1 ∷ []))
unfolding lent_deque_turn deque_turn_in deque_hindrance turn_left deque_turn_on room_for busy_after deque_on steal_on deque_in deque_by forks_on robbed_links along_by linked_in link_left unlink act_on waits_in kind_of code_of is table_of sum_to any_below
turn_worked = refl

-- refusals: "49 choice byte not below p", after 30
choice_worked : lent_deque_turn E 0 2 start ≡ answer 49 no_row start
unfolding lent_deque_turn deque_turn_in deque_hindrance
choice_worked = refl

worker_worked : lent_deque_turn E 2 2 start ≡ answer 30 no_row start
unfolding lent_deque_turn deque_turn_in deque_hindrance
worker_worked = refl

-- the listing: finished after 17 turns, the highest 6
abbrev order : List ℕ
order = 0 ∷ 0 ∷ 1 ∷ 1 ∷ 0 ∷ 0 ∷ 0 ∷ 0 ∷ 0 ∷ 0 ∷ 0 ∷ 0 ∷ 1 ∷ 0 ∷ 0 ∷ 0 ∷ 0 ∷ 0 ∷ 1 ∷ 0 ∷ 1 ∷ 0 ∷ 0 ∷ 0 ∷ 1 ∷ 0 ∷ 1 ∷ 0 ∷ 1 ∷ 0 ∷ 1 ∷ 0 ∷ 1 ∷ 0 ∷ []

list_worked : lent_deque_list E order start
    ≡ answer 0 (0 ∷ 6 ∷ 17 ∷ [])
    (memory (2 ∷ 6 ∷ []) zeros (arrays (4 ∷ 8 ∷ 11 ∷ []) (4 ∷ 4 ∷ 4 ∷ []) zeros none none none none) pairs pairs pairs (1024 ∷ 1024 ∷ 0 ∷ []) (0 ∷ 6 ∷ 17 ∷ []))
unfolding lent_deque_list deque_list_in deque_drive_in pair_at deque_turn_in deque_hindrance turn_left deque_turn_on room_for busy_after deque_on steal_on deque_in deque_by forks_on wakes_on leaves_on robbed_links along_by linked_in link_left unlink act_on waits_in kind_of code_of is table_of sum_to any_below
list_worked = refl

-- "an odd last byte isn't read": of three bytes one turn, spent
odd_worked : lent_deque_list E (1 ∷ 1 ∷ 9 ∷ []) start
    ≡ answer 0 (0 ∷ 7 ∷ 1 ∷ []) (memory (2 ∷ 6 ∷ []) zeros start.arrays pairs pairs pairs zeros (0 ∷ 0 ∷ 1 ∷ []))
unfolding lent_deque_list deque_list_in deque_drive_in pair_at deque_turn_in deque_hindrance turn_left deque_turn_on room_for busy_after deque_on steal_on along_by
odd_worked = refl

-- and of four, the second pair a choice that is none, one turn before the refusal
stopped_worked : lent_deque_list E (1 ∷ 1 ∷ 1 ∷ 2 ∷ []) start
    ≡ answer 49 (0 ∷ 0 ∷ 1 ∷ []) (memory (2 ∷ 6 ∷ []) zeros start.arrays pairs pairs pairs zeros (0 ∷ 0 ∷ 1 ∷ []))
unfolding lent_deque_list deque_list_in deque_drive_in pair_at deque_turn_in deque_hindrance turn_left deque_turn_on room_for busy_after deque_on steal_on along_by
stopped_worked = refl
