-- S1 + K·(N − 1) is met: a row of one worker that holds K more than the serial peak, which 01 promises of one worker by AsyncDF.
use Rattle.std.specs.Prelude.{◌≡◌, refl, ℕ, ◌+◌, ◌-◌, ◌*◌, List, [], ◌∷◌, Ok}
use Rattle.table.specs.Sum.{sum_to, sum_over, greatest, greatest_to, any_below}
use Rattle.table.specs.Format.{code_of, kind_of, is, Table, table_of}
use Rattle.table.specs.declared.kinds.Kind.TheVariants.{End as end, Alloc as alloc, Free as free, Fork as fork, Join as join}
use Rattle.table.specs.Pass.{try_at, try_from, try_pass, first_found}
use Rattle.table.specs.Checks.{entry_wrong, total_wrong, owner_below, kind_unknown, argument_wrong, end_misplaced, forked_below, forked_before, open_before, join_not_latest, end_with_open, never_forked, alloc_of, free_of, whole_within, balance, balance_below0, passes}
use Rattle.table.specs.Level.{fork_below}
use Rattle.table.specs.Nested.{nest_within, N}
use Rattle.table.specs.Serial.{serial_within, fronts, held_after, peak_of, S1}
use Rattle.table.specs.Cases.{act, written}
use Rattle.schedule.specs.Machine.{left_of, without, waits_for, woken, act_by, act as acts, taken}
use Rattle.order.specs.Firsts.{firsts}
use Rattle.schedule.specs.Begin.{start_state}
use Rattle.deques.specs.Deques.{bottom, above, place_of, own, robbed, goes_on, let_go, act_deques, steal, deque_turn}
use Rattle.deques.specs.DequeRuns.{Pair, pair}
use Rattle.deques.specs.Deques.{start_deques}
use Rattle.deques.specs.DequeCalls.{row_deques}

abbrev pub tight_bytes : List ℕ
tight_bytes =
    written
    ((act fork 1 ∷ act alloc 1 ∷ act join 1 ∷ act free 1 ∷ act end 0 ∷ [])
    ∷ (act alloc 1 ∷ act alloc 1 ∷ act free 2 ∷ act end 0 ∷ [])
    ∷ [])

abbrev pub tight : Table
tight = table_of tight_bytes

abbrev six : List Pair
six = pair 0 0 ∷ pair 0 0 ∷ pair 0 0 ∷ pair 0 0 ∷ pair 0 0 ∷ pair 0 0 ∷ []

-- after six turns of worker 0, K 1: fork; alloc; stop; alloc of the parent, stolen; wait; alloc
pub tight_held : (row_deques tight 1 (start_deques tight) six).state.held ≡ 3
unfolding row_deques deque_turn steal act_deques let_go goes_on robbed own place_of above bottom acts act_by woken waits_for taken left_of without start_state firsts kind_of code_of is fork_below owner_below sum_to any_below table_of
tight_held = refl

pub tight_limit : S1 tight + 1 * (N tight - 1) ≡ 3
unfolding S1 peak_of held_after fronts serial_within greatest sum_over alloc_of free_of N greatest_to nest_within fork_below owner_below kind_of code_of is sum_to any_below table_of
tight_limit = refl

-- 01's limit for one worker is the serial peak: DFDeques does not keep it
pub tight_serial : S1 tight ≡ 2
unfolding S1 peak_of held_after fronts serial_within greatest sum_over alloc_of free_of kind_of code_of is sum_to any_below table_of
tight_serial = refl

pub tight_accepted : first_found (passes tight_bytes) ≡ Ok tt
unfolding sum_to sum_over greatest any_below code_of kind_of is table_of try_at try_from try_pass first_found entry_wrong total_wrong owner_below kind_unknown argument_wrong end_misplaced forked_below forked_before open_before join_not_latest end_with_open never_forked alloc_of free_of whole_within balance balance_below0 passes
tight_accepted = refl
