-- What `turnlist` prints on document 01's worked cases that bear a star, and on rows of our own, as two tables with one theorem over both, computed on the definitions; and what `wallchart`
-- prints on some of them.
use Rattle.std.specs.Prelude.{◌≡◌, refl, ℕ, length, Ok, Result, ⊤}
use Rattle.table.specs.declared.Refusal.{Refusal}
use mathlib.Core.List.{List, [], ◌∷◌, ◌++◌, map, flatten}
use Rattle.table.specs.Sum.{sum_to, sum_over, greatest, any_below}
use Rattle.table.specs.Format.{code_of, kind_of, is, table_of}
use Rattle.table.specs.Pass.{try_at, try_from, try_pass, first_found}
use Rattle.table.specs.Checks.{entry_wrong, total_wrong, owner_below, kind_unknown, argument_wrong, end_misplaced, forked_below, forked_before}
use Rattle.table.specs.Checks.{open_before, join_not_latest, end_with_open, never_forked, alloc_of, free_of, whole_within, balance, balance_below0, passes}
use Rattle.table.specs.Serial.{serial_within, fronts, held_after, peak_of, S1}
use Rattle.table.specs.Level.{fork_below, fork_of, before_it, joined_end, depends_on, level_within, D}
use Rattle.table.specs.Load.{loaded, facts_of}
use Rattle.table.specs.Cases.{E, two_allocs, bytes16}
use Rattle.text.specs.Text.{ascii, digits_of, decimal, accepted_line, refused_line}
use Rattle.schedule.specs.Machine.{left_of, without, waits_for, woken, act_by, act, leftmost, taken, turn_free, turn_of}
use Rattle.schedule.specs.Record.{set_of}
use Rattle.schedule.specs.Begin.{start_state, start_run, begin}
use Rattle.filling.specs.Filled.{big, dummies, new_threads, new_actions, tree_of, sum_before, root_of, filled_from, old_bodies, trees_along, filled_bodies, filled_out, overfull}
use Rattle.table.specs.Written.{entry_rows, action_rows, table_rows}
use Rattle.table.specs.Written.{written as written_table}
use Rattle.order.specs.Firsts.{firsts}
use Rattle.schedule.specs.Links.{walk, right_in}
use Rattle.schedule.specs.Turn.{root_ended, no_worker, step_run}
use Rattle.schedule.specs.Cases.{turned_sound, order_e, order_filled, order_wait}
use Rattle.lines.specs.Lines.{kind_word, told_texts, turn_texts, last_texts, lines_then}
use Rattle.schedule.specs.declared.Run.{Run}
use Rattle.chart.specs.Chart.{cells_from, right_texts, cell_texts, cells_texts, line_texts}
use Rattle.listing.specs.Listing.{input_wrong, listed_by, listing_by, walled_by, wall_by}

pub record Case : Type 0 where
  pub input : List ℕ
  pub text : List ℕ

abbrev pub prints : List ℕ → List ℕ → Case
prints input text = record { input = input; text = text }

-- the input: p, K in 3 bytes, the order's length, the order, the table
abbrev pub input_of : ℕ → ℕ → List ℕ → List ℕ → List ℕ
input_of p K order table = p ∷ K ∷ 0 ∷ 0 ∷ bytes16 (length order) ++ order ++ table

abbrev pub header_of_e : List ℕ
header_of_e = ascii "table 3 12 serial 6 depth 8\n"

-- the first four turns of E for p 2, K 6 and an order that begins with 0 1 0 1
abbrev pub first_four : List ℕ
first_four =
    ascii "1 0 0 0 fork 0\n"
    ++ ascii "2 1 1 5 alloc 6\n"
    ++ ascii "3 0 0 1 fork 6\n"
    ++ ascii "4 1 1 6 work 6\n"

-- the turns after them where the order goes on with 0 and 1 in turn, and the last line
abbrev pub later_of_e : List ℕ
later_of_e =
    ascii "5 0 2 9 alloc 12\n"
    ++ ascii "6 1 1 7 free 6\n"
    ++ ascii "7 0 2 10 free 0\n"
    ++ ascii "8 1 1 8 end 0\n"
    ++ ascii "9 0 2 11 end 0\n"
    ++ ascii "10 1 0 2 join 0\n"
    ++ ascii "11 0 - - idle 0\n"
    ++ ascii "12 1 0 3 join 0\n"
    ++ ascii "13 0 - - idle 0\n"
    ++ ascii "14 1 0 4 end 0\n"
    ++ ascii "done 14 peak 12\n"

-- what document 01 shows for E, p 2, K 6 and the order 0, 1 seven times, line by line
abbrev pub lines_of_e : List ℕ
lines_of_e =
    header_of_e ++ first_four ++ later_of_e

-- the turns after them where the order goes on with 1 1 1
abbrev pub next_three : List ℕ
next_three =
    ascii "5 1 1 7 free 0\n"
    ++ ascii "6 1 1 8 end 0\n"
    ++ ascii "7 1 2 9 alloc 6\n"

-- the listing of E for p 2, K 6 and the order 0 1 0 1 1 1 1, before its last line
abbrev pub lines_before : List ℕ
lines_before =
    header_of_e ++ first_four ++ next_three

-- worker 0 comes next
abbrev pub ends_waiting : List ℕ
ends_waiting =
    ascii "8 0 0 2 wait 6\n"
    ++ ascii "open 8 peak 6\n"

-- worker 2 comes next
abbrev pub ends_refused : List ℕ
ends_refused =
    ascii "refused 30 0\n"

-- alloc 4, alloc 4, end for p 1, K 6 and the order 0 0
abbrev pub lines_quota : List ℕ
lines_quota =
    ascii "table 1 3 serial 8 depth 3\n"
    ++ ascii "1 0 0 0 alloc 4\n"
    ++ ascii "2 0 0 1 quota 4\n"
    ++ ascii "open 2 peak 4\n"

-- E with an empty order
abbrev pub not_begun : List ℕ
not_begun =
    header_of_e
    ++ ascii "open 0 peak 0\n"

-- E with p 2, K 5 and the order 0, 1: the header and the turns are of the filled-out table (N6)
abbrev pub lines_filled : List ℕ
lines_filled =
    ascii "table 9 34 serial 6 depth 17\n"
    ++ ascii "1 0 0 0 fork 0\n"
    ++ ascii "2 1 1 5 fork 0\n"
    ++ ascii "3 0 3 16 fork 0\n"
    ++ ascii "4 1 4 21 work 0\n"
    ++ ascii "5 0 3 17 fork 0\n"
    ++ ascii "6 1 4 22 end 0\n"
    ++ ascii "7 0 5 23 work 0\n"
    ++ ascii "8 1 3 18 wait 0\n"
    ++ ascii "9 0 5 24 end 0\n"
    ++ ascii "10 1 3 18 join 0\n"
    ++ ascii "11 0 1 6 wait 0\n"
    ++ ascii "12 1 3 19 join 0\n"
    ++ ascii "13 0 0 1 fork 0\n"
    ++ ascii "14 1 3 20 end 0\n"
    ++ ascii "15 0 1 6 join 0\n"
    ++ ascii "16 1 2 11 fork 0\n"
    ++ ascii "17 0 1 7 alloc 6\n"
    ++ ascii "18 1 6 25 fork 6\n"
    ++ ascii "19 0 1 8 work 6\n"
    ++ ascii "20 1 7 30 work 6\n"
    ++ ascii "21 0 1 9 free 0\n"
    ++ ascii "22 1 7 31 end 0\n"
    ++ ascii "23 0 1 10 end 0\n"
    ++ ascii "24 1 6 26 fork 0\n"
    ++ ascii "25 0 8 32 work 0\n"
    ++ ascii "26 1 6 27 wait 0\n"
    ++ ascii "27 0 8 33 end 0\n"
    ++ ascii "28 1 6 27 join 0\n"
    ++ ascii "29 0 2 12 wait 0\n"
    ++ ascii "30 1 6 28 join 0\n"
    ++ ascii "31 0 0 2 wait 0\n"
    ++ ascii "32 1 6 29 end 0\n"
    ++ ascii "33 0 2 12 join 0\n"
    ++ ascii "34 1 - - idle 0\n"
    ++ ascii "35 0 2 13 alloc 6\n"
    ++ ascii "36 1 - - idle 6\n"
    ++ ascii "37 0 2 14 free 0\n"
    ++ ascii "38 1 - - idle 0\n"
    ++ ascii "39 0 2 15 end 0\n"
    ++ ascii "40 1 0 2 join 0\n"
    ++ ascii "41 0 - - idle 0\n"
    ++ ascii "42 1 0 3 join 0\n"
    ++ ascii "43 0 - - idle 0\n"
    ++ ascii "44 1 0 4 end 0\n"
    ++ ascii "done 44 peak 6\n"

abbrev pub refused21 : List ℕ
refused21 = ascii "refused 21 0\n"

abbrev pub refused1 : List ℕ
refused1 = ascii "refused 1 0\n"

abbrev pub refused33 : List ℕ
refused33 = ascii "refused 33 0\n"

-- the rows that bear a star
unfoldable pub cases : List Case
unfolding code_of
cases =
    -- "For p 2, K 6, the order 0, 1 given seven times, and table E below it prints"
    prints (input_of 2 6 order_e E) lines_of_e
    -- "E, p 2, order 0 1 0 1 1 1 1 0: the last turn says wait"; "A quota or wait line names the action not done."
    ∷ prints (input_of 2 6 (order_wait ++ (0 ∷ [])) E) (lines_before ++ ends_waiting)
    -- "the second turn says quota"
    ∷ prints (input_of 1 6 (0 ∷ 0 ∷ []) two_allocs) lines_quota
    -- "Worker 2 instead: 30"; "30 comes after the header and the turns before it"
    ∷ prints (input_of 2 6 (order_wait ++ (2 ∷ [])) E) (lines_before ++ ends_refused)
    -- "With K 5: 22 at action 5"; since N6 "Number 22 no longer occurs, and E with K 5 is accepted"
    ∷ prints (input_of 2 5 order_filled E) lines_filled
    ∷ []

-- our own, with no star
unfoldable pub own_cases : List Case
unfolding code_of
own_cases =
    -- the run stops at the root's end, whatever is left of the order
    prints (input_of 2 6 (order_e ++ (0 ∷ [])) E) lines_of_e
    -- an empty order
    ∷ prints (input_of 2 6 [] E) not_begun
    -- "Refusals 1 to 22 and 33 are the only line"
    ∷ prints (input_of 2 0 order_e E) refused21
    -- "Order of checks: 33, table, beginning, turns.": the table before p and K
    ∷ prints (input_of 0 0 [] []) refused1
    -- "input under 6 bytes, order above 4,096, or fewer bytes than the order"
    ∷ prints (2 ∷ 6 ∷ 0 ∷ 0 ∷ 0 ∷ []) refused33
    ∷ prints (2 ∷ 6 ∷ 0 ∷ 0 ∷ bytes16 4097) refused33
    ∷ prints (2 ∷ 6 ∷ 0 ∷ 0 ∷ bytes16 1) refused33
    ∷ []

-- every row's input has the row's text; turns are those of a sound record, which they are on every row (`listings_worked`, proofs/Worked)
abbrev pub Worked : (List ℕ → List ℕ) → List Case → Type 0
Worked print l = map (λ (c : Case). print c.input) l ≡ map (λ (c : Case). c.text) l

pub worked : Worked (listing_by turned_sound) cases × Worked (listing_by turned_sound) own_cases
unfolding cases own_cases flatten input_wrong listed_by listing_by kind_word told_texts turn_texts last_texts lines_then accepted_line refused_line decimal digits_of loaded facts_of sum_to sum_over greatest any_below code_of kind_of is table_of try_at try_from try_pass first_found entry_wrong total_wrong owner_below kind_unknown argument_wrong end_misplaced forked_below forked_before open_before join_not_latest end_with_open never_forked alloc_of free_of whole_within balance balance_below0 passes serial_within fronts held_after peak_of S1 fork_below fork_of before_it joined_end depends_on level_within D left_of without waits_for woken act_by act leftmost taken turn_free turn_of set_of entry_rows action_rows table_rows written_table big dummies new_threads new_actions tree_of sum_before root_of filled_from old_bodies trees_along filled_bodies filled_out overfull firsts walk right_in start_state start_run begin root_ended no_worker step_run
worked = (refl, refl)

-- ---- the wall chart

-- E for p 2, K 6: the record of the beginning, the first three turns, and those after them where 0 and 1 go on in turn
abbrev pub wall_of_e : List ℕ
wall_of_e =
    ascii "     0   .   .                                                                     0\n"

abbrev pub first_rows : List ℕ
first_rows =
    ascii "     1   .   .                                                                     0\n"
    ++ ascii "     2   .   1                                                                     6\n"
    ++ ascii "     3   .   1                                                                     6\n"

abbrev pub later_rows : List ℕ
later_rows =
    ascii "     4   .   1                                                                     6\n"
    ++ ascii "     5   2   1                                                                    12\n"
    ++ ascii "     6   2   1                                                                     6\n"
    ++ ascii "     7   2   1                                                                     0\n"
    ++ ascii "     8   2   .                                                                     0\n"
    ++ ascii "     9   .   .                                                                     0\n"
    ++ ascii "    10   .   0                                                                     0\n"
    ++ ascii "    11   .   0                                                                     0\n"
    ++ ascii "    12   .   0                                                                     0\n"
    ++ ascii "    13   .   0                                                                     0\n"
    ++ ascii "    14   .   .                                                                     0\n"

unfoldable pub wall_cases : List Case
unfolding code_of
wall_cases =
    -- the chart of the listing's run
    prints (input_of 2 6 order_e E) (wall_of_e ++ first_rows ++ later_rows)
    -- it stops at the root's end, whatever is left of the order
    ∷ prints (input_of 2 6 (order_e ++ (9 ∷ [])) E) (wall_of_e ++ first_rows ++ later_rows)
    -- a refusal is a line
    ∷ prints (input_of 2 6 (0 ∷ 1 ∷ 0 ∷ 2 ∷ 0 ∷ []) E) (wall_of_e ++ first_rows ++ ends_refused)
    -- an empty order
    ∷ prints (input_of 2 6 [] E) wall_of_e
    -- the checks of the listing
    ∷ prints (input_of 2 0 order_e E) refused21
    ∷ prints (input_of 0 0 [] []) refused1
    ∷ prints (2 ∷ 6 ∷ 0 ∷ 0 ∷ bytes16 1) refused33
    ∷ []

-- every record has its line; it has on every row (`walls_worked`, proofs/Worked)
abbrev pub always : Run → Result ⊤ Refusal
always r = Ok tt

pub walls : Worked (wall_by always turned_sound) wall_cases
unfolding wall_cases flatten input_wrong walled_by wall_by line_texts cells_texts cell_texts right_texts cells_from refused_line decimal digits_of loaded facts_of sum_to sum_over greatest any_below code_of kind_of is table_of try_at try_from try_pass first_found entry_wrong total_wrong owner_below kind_unknown argument_wrong end_misplaced forked_below forked_before open_before join_not_latest end_with_open never_forked alloc_of free_of whole_within balance balance_below0 passes serial_within fronts held_after peak_of S1 fork_below fork_of before_it joined_end depends_on level_within D left_of without waits_for woken act_by act leftmost taken turn_free turn_of set_of entry_rows action_rows table_rows written_table big dummies new_threads new_actions tree_of sum_before root_of filled_from old_bodies trees_along filled_bodies filled_out overfull firsts walk right_in start_state start_run begin root_ended no_worker step_run
walls = refl
