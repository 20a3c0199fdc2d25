-- Demand 3's limit does not hold for DFDeques with every choice: a row of two workers that keeps the rule with 1, over a table of 8 threads and 72 actions, whose memory held passes it.
-- Choice 1 leaps past thread 1's deque until thread 4's part holds 23 of its 24, and then choice 0 does thread 1's part.
use Rattle.std.specs.Prelude.{◌≡◌, refl, ℕ, zero, suc, List, [], ◌∷◌, ◌++◌, map, true, replicate, Ok}
use Rattle.table.specs.Sum.{sum_to, sum_over, greatest, any_below}
use Rattle.table.specs.Format.{code_of, kind_of, is, Table, table_of}
use Rattle.table.specs.declared.kinds.Kind.TheVariants.{End as end, Alloc as alloc, Free as free, Fork as fork, Join as join}
use Rattle.table.specs.Pass.{try_at, try_from, try_pass, first_found}
use Rattle.table.specs.Checks.{entry_wrong, total_wrong, owner_below, kind_unknown, argument_wrong, end_misplaced, forked_below, forked_before, open_before, join_not_latest, end_with_open, never_forked, alloc_of, free_of, whole_within, balance, balance_below0, passes}
use Rattle.table.specs.Level.{fork_below, fork_of, before_it, joined_end, depends_on, level_within, D}
use Rattle.table.specs.Serial.{serial_within, fronts, held_after, peak_of, S1}
use Rattle.table.specs.Cases.{Action, act, written}
use Rattle.schedule.specs.Machine.{left_of, without, waits_for, woken, act_by, act as acts, taken}
use Rattle.order.specs.Firsts.{firsts}
use Rattle.order.specs.Words.{all_in}
use Rattle.schedule.specs.Memory.{limit, count_in}
use Rattle.schedule.specs.Rule.{keeps, at_most, until_next}
use Rattle.filling.specs.Filled.{big, overfull}
use Rattle.schedule.specs.Begin.{start_state, begin_passes}
use Rattle.deques.specs.Deques.{bottom, above, place_of, own, robbed, goes_on, let_go, act_deques, steal, deque_turn}
use Rattle.deques.specs.DequeRuns.{Pair, pair}
use Rattle.deques.specs.Deques.{start_deques}
use Rattle.deques.specs.DequeCalls.{row_deques}

abbrev leaf : ℕ → List Action
leaf k = replicate k (act alloc 1) ++ (act end 0 ∷ [])

abbrev pub parted_bytes : List ℕ
parted_bytes =
    written
    ((act fork 1 ∷ act fork 4 ∷ act join 4 ∷ act join 1 ∷ act end 0 ∷ [])
    ∷ (act fork 2 ∷ act fork 3 ∷ act join 3 ∷ act join 2 ∷ act free 24 ∷ act end 0 ∷ [])
    ∷ leaf 12
    ∷ leaf 12
    ∷ (act fork 5 ∷ act fork 6 ∷ act fork 7 ∷ act join 7 ∷ act join 6 ∷ act join 5 ∷ act free 24 ∷ act end 0 ∷ [])
    ∷ leaf 8
    ∷ leaf 8
    ∷ leaf 8
    ∷ [])

abbrev pub parted : Table
parted = table_of parted_bytes

-- k rounds of the two workers, with choices c and e
unfoldable pub rounds : ℕ → ℕ → ℕ → List Pair → List Pair
rounds zero c e l = l
rounds (suc k) c e l = pair 0 c ∷ pair 1 e ∷ rounds k c e l

abbrev pub leaping : List Pair
leaping = rounds 1 0 0 (rounds 35 1 1 (rounds 32 0 0 (pair 0 0 ∷ [])))

pub leaping_held : (row_deques parted 1 (start_deques parted) leaping).state.held ≡ 46
unfolding rounds row_deques deque_turn steal act_deques let_go goes_on robbed own place_of above bottom acts act_by woken waits_for taken left_of without start_state firsts kind_of code_of is fork_below owner_below sum_to any_below table_of
leaping_held = refl

pub leaping_limit : limit parted 2 1 1 ≡ 45
unfolding limit D level_within depends_on joined_end before_it fork_of S1 peak_of held_after fronts serial_within greatest sum_over alloc_of free_of fork_below owner_below kind_of code_of is sum_to any_below table_of
leaping_limit = refl

pub leaping_keeps : keeps 1 (map (λ (g : Pair). g.worker) leaping) ≡ true
unfolding keeps at_most until_next all_in count_in rounds
leaping_keeps = refl

-- the table is accepted, and no alloc is above K
pub parted_accepted : first_found (passes parted_bytes) ≡ Ok tt
unfolding sum_to sum_over greatest any_below code_of kind_of is table_of try_at try_from try_pass first_found entry_wrong total_wrong owner_below kind_unknown argument_wrong end_misplaced forked_below forked_before open_before join_not_latest end_with_open never_forked alloc_of free_of whole_within balance balance_below0 passes
parted_accepted = refl

pub parted_within : first_found (begin_passes parted 2 1) ≡ Ok tt
unfolding sum_to sum_over greatest any_below code_of kind_of is table_of try_at try_from try_pass first_found alloc_of big overfull
parted_within = refl
