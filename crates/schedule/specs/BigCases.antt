-- Allocs above K (N6) on worked cases, computed on the definitions: they are done at once, draw nothing and count whole; and with none in front of them to wait for, memory passes the limit.
use Rattle.std.specs.Prelude.{◌≡◌, refl, ℕ, List, [], ◌∷◌, true}
use Rattle.table.specs.Sum.{sum_to, sum_over, greatest, any_below}
use Rattle.table.specs.Format.{code_of, kind_of, is, table_of}
use Rattle.table.specs.declared.kinds.Kind.TheVariants.{End as end, Work as work, Alloc as alloc, Free as free, Fork as fork, Join as join}
use Rattle.table.specs.Checks.{owner_below, alloc_of, free_of}
use Rattle.table.specs.Serial.{serial_within, fronts, held_after, peak_of, S1}
use Rattle.table.specs.Level.{fork_below, fork_of, before_it, joined_end, depends_on, level_within, D}
use Rattle.table.specs.Cases.{written}
use Rattle.table.specs.Cases.{act as action}
use Rattle.schedule.specs.declared.Reply.TheVariants.{Done, Quota}
use Rattle.schedule.specs.Machine.{left_of, without, waits_for, woken, act_by, act, leftmost, taken, turn_free, turn_of}
use Rattle.schedule.specs.Begin.{start_state}
use Rattle.order.specs.Firsts.{firsts}
use Rattle.order.specs.Words.{all_in}
use Rattle.schedule.specs.Memory.{row_state, replies, count_in, limit}
use Rattle.schedule.specs.Rule.{until_next, at_most, keeps}

-- with K 3: 2 leave 1; 4 are above K and draw none of it; 1 leave 0; the last 1 is put back
unfoldable pub mixed : List ℕ
unfolding code_of
mixed = written ((action alloc 2 ∷ action alloc 4 ∷ action alloc 1 ∷ action alloc 1 ∷ action end 0 ∷ []) ∷ [])

abbrev pub four_turns : List ℕ
four_turns = 0 ∷ 0 ∷ 0 ∷ 0 ∷ []

pub mixed_worked : (replies (table_of mixed) 3 (start_state (table_of mixed)) four_turns ≡ Done 0 0 ∷ Done 0 1 ∷ Done 0 2 ∷ Quota 0 1 ∷ [])
    × ((row_state (table_of mixed) 3 (start_state (table_of mixed)) four_turns).held ≡ 7)
unfolding mixed sum_to any_below code_of kind_of is table_of owner_below fork_below left_of without waits_for woken act_by act leftmost taken turn_free turn_of firsts start_state replies row_state
mixed_worked = (refl, refl)

-- E with allocs and frees of 100
unfoldable pub wide : List ℕ
unfolding code_of
wide =
    written
    ((action fork 1 ∷ action fork 2 ∷ action join 2 ∷ action join 1 ∷ action end 0 ∷ [])
    ∷ (action alloc 100 ∷ action work 0 ∷ action free 100 ∷ action end 0 ∷ [])
    ∷ (action alloc 100 ∷ action free 100 ∷ action end 0 ∷ [])
    ∷ [])

-- two workers in turn
abbrev pub order_wide : List ℕ
order_wide = 0 ∷ 1 ∷ 0 ∷ 1 ∷ 0 ∷ []

-- p 2, K 1: 200 are held, the limit with b 1 is 100 + 1 × 7, and the row keeps the rule
pub wide_worked : ((row_state (table_of wide) 1 (start_state (table_of wide)) order_wide).held ≡ 200) × (limit (table_of wide) 2 1 1 ≡ 107) × (keeps 1 order_wide ≡ true)
unfolding wide sum_to sum_over greatest any_below code_of kind_of is table_of owner_below alloc_of free_of serial_within fronts held_after peak_of S1 fork_below fork_of before_it joined_end depends_on level_within D left_of without waits_for woken act_by act leftmost taken turn_free turn_of firsts start_state row_state all_in count_in limit until_next at_most keeps
wide_worked = (refl, refl, refl)
