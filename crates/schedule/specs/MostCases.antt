-- N8 on worked cases, computed on the definitions: m + A + J of E, and why neither A nor J can go.
use Rattle.std.specs.Prelude.{◌≡◌, refl, ℕ, ◌%◌, List, [], ◌∷◌}
use Rattle.table.specs.Sum.{sum_to, any_below}
use Rattle.table.specs.Format.{code_of, kind_of, is, table_of}
use Rattle.table.specs.declared.kinds.Kind.TheVariants.{End as end, Work as work, Fork as fork, Join as join}
use Rattle.table.specs.Checks.{owner_below}
use Rattle.table.specs.Level.{fork_below}
use Rattle.table.specs.Cases.{act, written, E, two_allocs}
use Rattle.schedule.specs.Machine.{held, ended, status_of, left_of, without, waits_for, woken, act_by, leftmost, taken, turn_free, turn_of}
use Rattle.schedule.specs.Machine.{act as acts}
use Rattle.schedule.specs.Begin.{start_state}
use Rattle.order.specs.Firsts.{firsts}
use Rattle.schedule.specs.Memory.{row_state, replies}
use Rattle.schedule.specs.Most.{not_idle}
use Rattle.order.specs.Turns.{turns_of}

-- fork 1, join 1, end; work, end
abbrev pub waiter : List ℕ
waiter = written ((act fork 1 ∷ act join 1 ∷ act end 0 ∷ []) ∷ (act work 0 ∷ act end 0 ∷ []) ∷ [])

abbrev pub moves_in : List ℕ → ℕ → List ℕ → ℕ
moves_in s K row = not_idle (replies (table_of s) K (start_state (table_of s)) row)

pub most_e : turns_of (table_of E) ≡ 16
unfolding sum_to code_of kind_of is table_of turns_of
most_e = refl

pub most_allocs : turns_of (table_of two_allocs) ≡ 5
unfolding sum_to code_of kind_of is table_of turns_of
most_allocs = refl

pub most_waiter : turns_of (table_of waiter) ≡ 6
unfolding sum_to code_of kind_of is table_of turns_of
most_waiter = refl

-- 4 turns of 3 actions: the second alloc is put back
pub allocs_moves : moves_in two_allocs 6 (0 ∷ 0 ∷ 0 ∷ 0 ∷ []) ≡ 4
unfolding sum_to any_below code_of kind_of is table_of owner_below fork_below left_of without waits_for woken act_by acts leftmost taken turn_free turn_of firsts start_state not_idle replies
allocs_moves = refl

-- 6 turns of 5 actions, which is m + J: the parent is taken while the child is held, and waits
pub waiter_moves : moves_in waiter 6 (0 ∷ 0 ∷ 1 ∷ 0 ∷ 0 ∷ 0 ∷ []) ≡ 6
unfolding sum_to any_below code_of kind_of is table_of owner_below fork_below left_of without waits_for woken act_by acts leftmost taken turn_free turn_of firsts start_state not_idle replies
waiter_moves = refl

-- E in rounds of 3: m + A + J turns are too few, without the factor p, and 18 are enough
abbrev pub root_after : List ℕ → ℕ → ℕ → ℕ → ℕ
root_after s p K k = status_of (row_state (table_of s) K (start_state (table_of s)) (firsts (λ i. i % p) 0 k)) 0

pub rounds_few : root_after E 3 6 16 ≡ held
unfolding sum_to any_below code_of kind_of is table_of owner_below fork_below left_of without waits_for woken act_by acts leftmost taken turn_free turn_of firsts start_state row_state
rounds_few = refl

pub rounds_enough : root_after E 3 6 18 ≡ ended
unfolding sum_to any_below code_of kind_of is table_of owner_below fork_below left_of without waits_for woken act_by acts leftmost taken turn_free turn_of firsts start_state row_state
rounds_enough = refl
