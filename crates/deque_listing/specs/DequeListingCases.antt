-- What `dequelist` prints on E, p 2, K 6, and on inputs that it refuses, computed on the definitions.
use Rattle.std.specs.Prelude.{◌≡◌, refl, ℕ}
use mathlib.Core.List.{List, [], ◌∷◌, ◌++◌, map, flatten}
use Rattle.table.specs.Sum.{sum_to, sum_over, greatest, any_below}
use Rattle.table.specs.Format.{code_of, kind_of, is, table_of}
use Rattle.table.specs.Pass.{try_at, try_from, try_pass, first_found}
use Rattle.table.specs.Checks.{entry_wrong, total_wrong, owner_below, kind_unknown, argument_wrong, end_misplaced, forked_below, forked_before}
use Rattle.table.specs.Checks.{open_before, join_not_latest, end_with_open, never_forked, alloc_of, free_of, whole_within, balance, balance_below0, passes}
use Rattle.table.specs.Serial.{serial_within, fronts, held_after, peak_of, S1}
use Rattle.table.specs.Level.{fork_below, fork_of, before_it, joined_end, depends_on, level_within, D}
use Rattle.table.specs.Load.{loaded, facts_of}
use Rattle.table.specs.Cases.{E, bytes16}
use Rattle.text.specs.Text.{ascii, digits_of, decimal, accepted_line, refused_line}
use Rattle.filling.specs.Filled.{big, overfull, filled_out}
use Rattle.order.specs.Firsts.{firsts}
use Rattle.schedule.specs.Machine.{left_of, without, waits_for, woken, act_by, act, taken}
use Rattle.schedule.specs.Links.{walk, right_in, left_after}
use Rattle.schedule.specs.Record.{set_of}
use Rattle.schedule.specs.Begin.{start_state, start_run}
use Rattle.schedule.specs.Turn.{root_ended, no_worker}
use Rattle.lines.specs.Lines.{kind_word, told_texts, turn_texts, last_texts, lines_then}
use Rattle.listing.specs.Listing.{input_wrong}
use Rattle.listing.specs.Cases.{Case, Worked, prints, input_of, header_of_e, not_begun, refused21, refused1, refused33}
use Rattle.deques.specs.Deques.{bottom, above, place_of, own, robbed, goes_on, let_go, act_deques, steal, deque_turn}
use Rattle.deques.specs.Lines.{lines_of, bottoms_of, cut_after, holder_of, linked_in, deques_from}
use Rattle.deques.specs.DequeBegin.{start_deque_run, deque_begin}
use Rattle.deques.specs.DequeTurn.{no_choice, step_deques}
use Rattle.deques.specs.DequeRuns.{pair_at}
use Rattle.deques.specs.DequeTurnCases.{deque_turned_sound}
use Rattle.deque_listing.specs.DequeListing.{pairs_by, deque_listed_by, deque_listing_by}

-- a row with a stop at the quota, a wait of a thief, and places at which nothing is to be stolen
abbrev pub order_stop : List ℕ
order_stop =
    0 ∷ 0 ∷ 1 ∷ 1 ∷ 0 ∷ 0 ∷ 0 ∷ 0 ∷ 0 ∷ 0 ∷ 0 ∷ 0 ∷ 1 ∷ 0 ∷ 0 ∷ 0 ∷ 0 ∷ 0 ∷ 1 ∷ 0 ∷ 1 ∷ 0 ∷ 0 ∷ 0 ∷ 1 ∷ 0 ∷ 1 ∷ 0 ∷ 1 ∷ 0 ∷ 1 ∷ 0 ∷ 1 ∷ 0 ∷ []

abbrev pub lines_stop : List ℕ
lines_stop =
    header_of_e
    ++ ascii "1 0 0 0 fork 0\n"
    ++ ascii "2 1 - - idle 0\n"
    ++ ascii "3 0 1 5 alloc 6\n"
    ++ ascii "4 0 1 6 work 6\n"
    ++ ascii "5 0 1 7 free 0\n"
    ++ ascii "6 0 1 8 end 0\n"
    ++ ascii "7 1 - - idle 0\n"
    ++ ascii "8 0 0 1 fork 0\n"
    ++ ascii "9 0 2 9 quota 0\n"
    ++ ascii "10 1 0 2 wait 0\n"
    ++ ascii "11 1 2 9 alloc 6\n"
    ++ ascii "12 0 - - idle 6\n"
    ++ ascii "13 1 2 10 free 0\n"
    ++ ascii "14 1 2 11 end 0\n"
    ++ ascii "15 1 0 2 join 0\n"
    ++ ascii "16 1 0 3 join 0\n"
    ++ ascii "17 1 0 4 end 0\n"
    ++ ascii "done 17 peak 6\n"

-- a row that robs an owned deque
abbrev pub order_robbing : List ℕ
order_robbing = 0 ∷ 0 ∷ 1 ∷ 0 ∷ 0 ∷ 0 ∷ 1 ∷ 0 ∷ 0 ∷ 0 ∷ 1 ∷ 0 ∷ 0 ∷ 0 ∷ 1 ∷ 0 ∷ 0 ∷ 0 ∷ 1 ∷ 0 ∷ 1 ∷ 0 ∷ 1 ∷ 0 ∷ []

abbrev pub lines_robbing : List ℕ
lines_robbing =
    header_of_e
    ++ ascii "1 0 0 0 fork 0\n"
    ++ ascii "2 1 0 1 fork 0\n"
    ++ ascii "3 0 1 5 alloc 6\n"
    ++ ascii "4 1 2 9 alloc 12\n"
    ++ ascii "5 0 1 6 work 12\n"
    ++ ascii "6 1 2 10 free 6\n"
    ++ ascii "7 0 1 7 free 0\n"
    ++ ascii "8 1 2 11 end 0\n"
    ++ ascii "9 0 1 8 end 0\n"
    ++ ascii "10 1 0 2 join 0\n"
    ++ ascii "11 1 0 3 join 0\n"
    ++ ascii "12 1 0 4 end 0\n"
    ++ ascii "done 12 peak 12\n"

-- the header and the first turn
abbrev pub first_line : List ℕ
first_line = header_of_e ++ ascii "1 0 0 0 fork 0\n"

unfoldable pub deque_listings : List Case
unfolding code_of
deque_listings =
    prints (input_of 2 6 order_stop E) lines_stop
    ∷ prints (input_of 2 6 order_robbing E) lines_robbing
    -- the run stops at the root's end, whatever is left of the order
    ∷ prints (input_of 2 6 (order_robbing ++ (9 ∷ 9 ∷ [])) E) lines_robbing
    -- 30 and 49 come after the turns before them
    ∷ prints (input_of 2 6 (0 ∷ 0 ∷ 2 ∷ 2 ∷ []) E) (first_line ++ ascii "refused 30 0\n")
    ∷ prints (input_of 2 6 (0 ∷ 0 ∷ 0 ∷ 2 ∷ 0 ∷ 0 ∷ []) E) (first_line ++ ascii "refused 49 0\n")
    -- "an odd last byte isn't read"
    ∷ prints (input_of 2 6 (0 ∷ 0 ∷ 9 ∷ []) E) (first_line ++ ascii "open 1 peak 0\n")
    ∷ prints (input_of 2 6 [] E) not_begun
    -- the beginning's refusals, the table's among them, and 33 are the only line
    ∷ prints (input_of 2 0 order_robbing E) refused21
    ∷ prints (input_of 0 0 [] []) refused1
    ∷ prints (2 ∷ 6 ∷ 0 ∷ 0 ∷ 0 ∷ []) refused33
    ∷ prints (2 ∷ 6 ∷ 0 ∷ 0 ∷ bytes16 4097) refused33
    ∷ prints (2 ∷ 6 ∷ 0 ∷ 0 ∷ bytes16 1) refused33
    ∷ []

-- turns are those of a sound record, which they are on every row (`deque_listings_worked`, proofs/DequeWorked)
pub deque_listings_lem : Worked (deque_listing_by deque_turned_sound) deque_listings
unfolding deque_listings flatten input_wrong deque_listed_by deque_listing_by pairs_by pair_at kind_word told_texts turn_texts last_texts lines_then accepted_line refused_line decimal digits_of loaded facts_of sum_to sum_over greatest any_below code_of kind_of is table_of try_at try_from try_pass first_found entry_wrong total_wrong owner_below kind_unknown argument_wrong end_misplaced forked_below forked_before open_before join_not_latest end_with_open never_forked alloc_of free_of whole_within balance balance_below0 passes serial_within fronts held_after peak_of S1 fork_below fork_of before_it joined_end depends_on level_within D left_of without waits_for woken act_by act taken set_of big overfull filled_out firsts walk right_in left_after start_state start_run root_ended no_worker no_choice bottom above place_of own robbed goes_on let_go act_deques steal deque_turn lines_of bottoms_of cut_after holder_of linked_in deques_from start_deque_run deque_begin step_deques
deque_listings_lem = refl
