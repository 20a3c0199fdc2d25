-- Worked cases.
use Rattle.std.specs.Prelude.{◌≡◌, refl, ℕ, List, [], ◌∷◌}
use Rattle.table.specs.Sum.{sum_to, sum_over, greatest_to}
use Rattle.table.specs.Format.{code_of, kind_of, is, table_of}
use Rattle.table.specs.declared.kinds.Kind.TheVariants.{Alloc as alloc, Free as free, Fork as fork, Join as join, End as end}
use Rattle.table.specs.Checks.{open_before, alloc_of, free_of, whole_within}
use Rattle.table.specs.Cases.{Action, act, written, E}
use Rattle.table.specs.Checks.{owner_below}
use Rattle.table.specs.Level.{fork_below}
use Rattle.schedule.specs.Machine.{State, left_of, without, waits_for, woken, act_by, act as acts, leftmost, taken, turn_free, turn_of}
use Rattle.order.specs.Firsts.{firsts}
use Rattle.schedule.specs.Begin.{start_state}
use Rattle.schedule.specs.Memory.{row_state}
use Rattle.peaks.specs.Peak.{outer_within, fresh, load, gain, most, peak_there, peak_within, workers_peak}
use Rattle.peaks.specs.Rests.{stretch_begins, rests, drawn_before, stretch, covered, rested, rise, R, resting_peak, useful_limit, best_within, parallel_peak}

pub e_one : workers_peak (table_of E) 1 ≡ 6
unfolding code_of kind_of is table_of sum_to sum_over greatest_to open_before alloc_of free_of whole_within fresh gain most peak_there peak_within workers_peak
e_one = refl

pub e_two : workers_peak (table_of E) 2 ≡ 12
unfolding code_of kind_of is table_of sum_to sum_over greatest_to open_before alloc_of free_of whole_within fresh gain most peak_there peak_within workers_peak
e_two = refl

-- the root forks three children that each draw 5 and give it back
abbrev one : List Action
one = act alloc 5 ∷ act free 5 ∷ act end 0 ∷ []

abbrev pub fan : List ℕ
fan = written ((act fork 1 ∷ act fork 2 ∷ act fork 3 ∷ act join 3 ∷ act join 2 ∷ act join 1 ∷ act end 0 ∷ []) ∷ one ∷ one ∷ one ∷ [])

pub fan_one : workers_peak (table_of fan) 1 ≡ 5
unfolding code_of kind_of is table_of sum_to sum_over greatest_to open_before alloc_of free_of whole_within fresh gain most peak_there peak_within workers_peak
fan_one = refl

pub fan_two : workers_peak (table_of fan) 2 ≡ 10
unfolding code_of kind_of is table_of sum_to sum_over greatest_to open_before alloc_of free_of whole_within fresh gain most peak_there peak_within workers_peak
fan_two = refl

pub fan_three : workers_peak (table_of fan) 3 ≡ 15
unfolding code_of kind_of is table_of sum_to sum_over greatest_to open_before alloc_of free_of whole_within fresh gain most peak_there peak_within workers_peak
fan_three = refl

pub fan_four : workers_peak (table_of fan) 4 ≡ 15
unfolding code_of kind_of is table_of sum_to sum_over greatest_to open_before alloc_of free_of whole_within fresh gain most peak_there peak_within workers_peak
fan_four = refl

-- over resting places, and the least of the three: with K 5 a stretch is covered
pub fan_resting : resting_peak (table_of fan) 2 ≡ 10
unfolding code_of kind_of is table_of sum_to sum_over greatest_to open_before alloc_of free_of whole_within fresh gain most peak_there peak_within stretch_begins rests rested rise R resting_peak
fan_resting = refl

pub fan_useful : useful_limit (table_of fan) 2 5 0 ≡ 10
unfolding code_of kind_of is table_of sum_to sum_over greatest_to open_before alloc_of free_of whole_within fresh gain most peak_there peak_within workers_peak stretch_begins rests drawn_before stretch covered rested rise R resting_peak useful_limit
fan_useful = refl

-- two workers reach it in four turns, and then the thread taken last and the root have load 1
abbrev fan_after : List ℕ → State
fan_after row = row_state (table_of fan) 5 (start_state (table_of fan)) row

pub fan_reached : (fan_after (0 ∷ 1 ∷ 0 ∷ 0 ∷ [])).held ≡ 10
unfolding code_of kind_of is table_of owner_below fork_below left_of without waits_for woken act_by acts leftmost taken turn_free turn_of firsts start_state row_state
fan_reached = refl

abbrev loads : State → List ℕ
loads st = load (table_of fan) st.next st.status 0 ∷ load (table_of fan) st.next st.status 1 ∷ load (table_of fan) st.next st.status 2 ∷ []

pub fan_loads : loads (fan_after (0 ∷ 1 ∷ 0 ∷ 0 ∷ [])) ≡ 1 ∷ 0 ∷ 1 ∷ []
unfolding code_of kind_of is table_of sum_over open_before owner_below fork_below left_of without waits_for woken act_by acts leftmost taken turn_free turn_of firsts start_state row_state outer_within fresh load
fan_loads = refl

-- with two workers below the parallel peak
pub fan_parallel : parallel_peak (table_of fan) ≡ 15
unfolding code_of kind_of is table_of sum_to sum_over greatest_to open_before alloc_of free_of whole_within best_within parallel_peak
fan_parallel = refl
