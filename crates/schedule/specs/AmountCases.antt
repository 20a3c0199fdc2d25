-- What the threads hold after rows of turns, computed on the definitions: a child that ends with a balance and is joined later (change request N9).
use Rattle.std.specs.Prelude.{◌≡◌, refl, ℕ, List, [], ◌∷◌, map}
use Rattle.table.specs.Sum.{sum_to, any_below}
use Rattle.table.specs.Format.{code_of, kind_of, is, table_of}
use Rattle.table.specs.declared.kinds.Kind.TheVariants.{End as end, Work as work, Alloc as alloc, Free as free, Fork as fork, Join as join}
use Rattle.table.specs.Checks.{owner_below, alloc_of, free_of, whole_within}
use Rattle.table.specs.Level.{fork_below}
use Rattle.table.specs.Cases.{written}
use Rattle.table.specs.Cases.{act as action}
use Rattle.schedule.specs.Machine.{State, amount_of, left_of, without, waits_for, woken, act_by, act, leftmost, taken, turn_free, turn_of}
use Rattle.schedule.specs.Begin.{start_state}
use Rattle.order.specs.Firsts.{firsts}
use Rattle.schedule.specs.Sound.{done_in, progress_in, joined_in, share_in, share}
use Rattle.schedule.specs.Memory.{row_state}

-- thread 0 joins thread 1, which ends with 4, and gives 3 of them back
unfoldable pub handed_up : List ℕ
unfolding code_of
handed_up =
    written
    ((action fork 1 ∷ action work 0 ∷ action join 1 ∷ action free 3 ∷ action end 0 ∷ [])
    ∷ (action alloc 4 ∷ action end 0 ∷ [])
    ∷ [])

-- a row of two workers, with what each thread holds after it
pub record AmountCase : Type 0 where
  pub order : List ℕ
  pub amounts : List ℕ

unfoldable pub amount_cases : List AmountCase
amount_cases =
    record { order = []; amounts = 0 ∷ 0 ∷ [] }
    ∷ record { order = 0 ∷ 1 ∷ []; amounts = 0 ∷ 4 ∷ [] }
    -- an ended thread keeps its balance until it is joined
    ∷ record { order = 0 ∷ 1 ∷ 1 ∷ 0 ∷ []; amounts = 0 ∷ 4 ∷ [] }
    -- "a join moves the child's amount to its parent"
    ∷ record { order = 0 ∷ 1 ∷ 1 ∷ 0 ∷ 0 ∷ []; amounts = 4 ∷ 0 ∷ [] }
    -- the ended root keeps its own
    ∷ record { order = 0 ∷ 1 ∷ 1 ∷ 0 ∷ 0 ∷ 0 ∷ 0 ∷ []; amounts = 1 ∷ 0 ∷ [] }
    ∷ []

abbrev after : List ℕ → State
after order = row_state (table_of handed_up) 4 (start_state (table_of handed_up)) order

-- as the turns have moved them, and as the balances so far
abbrev pub moved : AmountCase → AmountCase
moved c = record { order = c.order; amounts = firsts (amount_of (after c.order)) 0 2 }

abbrev pub balanced : AmountCase → AmountCase
balanced c = record { order = c.order; amounts = firsts (share (table_of handed_up) (after c.order)) 0 2 }

pub amounts_worked : (map moved amount_cases ≡ amount_cases) × (map balanced amount_cases ≡ amount_cases)
unfolding amount_cases handed_up sum_to any_below code_of kind_of is table_of owner_below alloc_of free_of whole_within fork_below left_of without waits_for woken act_by act leftmost taken turn_free turn_of firsts start_state done_in progress_in joined_in share_in row_state
amounts_worked = (refl, refl)
