-- With an alloc above K the limits by steals and by places are false: the dummies that stand before it keep the deque, and it draws no quota. One worker, choices 0, K 1.
use Rattle.std.specs.Prelude.{◌≡◌, refl, ℕ, ◌+◌, ◌-◌, ◌*◌, replicate}
use mathlib.Core.List.{List, [], ◌∷◌, flatten}
use Rattle.table.specs.Sum.{sum_to, sum_over, greatest, greatest_to, any_below}
use Rattle.table.specs.Format.{code_of, kind_of, is, Table, table_of}
use Rattle.table.specs.Checks.{owner_below, alloc_of, free_of}
use Rattle.table.specs.Level.{fork_below}
use Rattle.table.specs.Nested.{nest_within, N}
use Rattle.table.specs.Serial.{serial_within, fronts, held_after, peak_of, S1}
use Rattle.table.specs.Written.{entry_rows, action_rows, table_rows, written}
use Rattle.filling.specs.Filled.{act, big, dummies, new_threads, tree_of, sum_before, root_of, filled_from, old_bodies, trees_along, filled_bodies, filled_out, fork2, leaf}
use Rattle.schedule.specs.Machine.{left_of, without, waits_for, woken, act_by, act as acts, taken}
use Rattle.order.specs.Firsts.{firsts}
use Rattle.order.specs.Order.{number_of}
use Rattle.order.specs.Words.{place_in}
use Rattle.schedule.specs.Begin.{start_state}
use Rattle.deques.specs.Deques.{bottom, above, place_of, own, robbed, goes_on, let_go, act_deques, steal, deque_turn, start_deques}
use Rattle.deques.specs.DequeRuns.{Pair, pair}
use Rattle.deques.specs.DequeCalls.{row_deques}
use Rattle.deque_bounds.specs.DequeRows.{steals_beyond, steals}

abbrev pub seven_bytes : List ℕ
seven_bytes = written ((act 4 1 ∷ act 2 7 ∷ act 3 7 ∷ act 5 1 ∷ act 0 0 ∷ []) ∷ (act 2 7 ∷ act 2 1 ∷ act 2 1 ∷ act 3 9 ∷ act 0 0 ∷ []) ∷ [])

-- filled out for K 1: two trees of seven dummies
abbrev pub seven_filled : List ℕ
seven_filled =
    written
    ((act 4 1 ∷ act 4 15 ∷ act 5 15 ∷ act 2 7 ∷ act 3 7 ∷ act 5 1 ∷ act 0 0 ∷ [])
    ∷ (act 4 2 ∷ act 5 2 ∷ act 2 7 ∷ act 2 1 ∷ act 2 1 ∷ act 3 9 ∷ act 0 0 ∷ [])
    ∷ fork2 3 10 ∷ fork2 4 7 ∷ fork2 5 6 ∷ leaf ∷ leaf ∷ fork2 8 9 ∷ leaf ∷ leaf ∷ fork2 11 14 ∷ fork2 12 13 ∷ leaf ∷ leaf ∷ leaf
    ∷ fork2 16 23 ∷ fork2 17 20 ∷ fork2 18 19 ∷ leaf ∷ leaf ∷ fork2 21 22 ∷ leaf ∷ leaf ∷ fork2 24 27 ∷ fork2 25 26 ∷ leaf ∷ leaf ∷ leaf
    ∷ [])

pub seven_filled_lem : filled_out seven_bytes 1 ≡ seven_filled
unfolding entry_rows action_rows table_rows written flatten kind_of code_of is table_of serial_within any_below alloc_of big dummies new_threads tree_of sum_before root_of filled_from old_bodies trees_along filled_bodies filled_out
seven_filled_lem = refl

abbrev pub seven : Table
seven = table_of seven_filled

-- 97 turns of one worker
abbrev pub seven_row : List Pair
seven_row = replicate 97 (pair 0 0)

pub seven_held : (row_deques seven 1 (start_deques seven) seven_row).state.held ≡ 15
unfolding entry_rows action_rows table_rows written flatten row_deques deque_turn steal act_deques let_go goes_on robbed own place_of above bottom acts act_by woken waits_for taken left_of without start_state firsts kind_of code_of is fork_below owner_below sum_to any_below table_of
seven_held = refl

-- S1 + K·(N − 1), which no limit by the steals at places from 1 on is below with choices 0
pub seven_limit : S1 seven + 1 * (N seven - 1) ≡ 14
unfolding entry_rows action_rows table_rows written flatten S1 peak_of held_after fronts serial_within greatest sum_over alloc_of free_of N greatest_to nest_within fork_below owner_below kind_of code_of is sum_to any_below table_of
seven_limit = refl

-- and S1 and K for the one steal that begins beyond the first action of all, which no limit by steals is above, come to 10
pub seven_stolen : (S1 seven ≡ 9) × (steals seven 1 (start_deques seven) seven_row 0 ≡ 1)
unfolding entry_rows action_rows table_rows written flatten steals steals_beyond row_deques deque_turn steal act_deques let_go goes_on robbed own place_of above bottom acts act_by woken waits_for taken left_of without start_state firsts S1 peak_of held_after fronts serial_within greatest sum_over alloc_of free_of number_of place_in kind_of code_of is fork_below owner_below sum_to any_below table_of
seven_stolen = (refl, refl)
