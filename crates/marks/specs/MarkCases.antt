-- Marks on worked cases, computed on the definitions.
use Rattle.std.specs.Prelude.{◌≡◌, refl, ℕ, List, [], ◌∷◌, ◌++◌, map, not, set, replicate, ltb, Err, Ok, Result, ⊤}
use Rattle.table.specs.declared.Refusal.{Refusal}
use Rattle.table.specs.Sum.{sum_to, any_below}
use Rattle.table.specs.Format.{code_of, kind_of, is, table_of}
use Rattle.table.specs.Pass.{Check, refusal, try_at, try_from, try_pass, first_found}
use Rattle.table.specs.Checks.{entry_wrong, total_wrong, owner_below, kind_unknown, argument_wrong, end_misplaced, forked_below, forked_before}
use Rattle.table.specs.Checks.{open_before, join_not_latest, end_with_open, never_forked, alloc_of, free_of, whole_within, balance, balance_below0, passes}
use Rattle.table.specs.Level.{fork_below}
use Rattle.table.specs.Load.{found_number}
use Rattle.table.specs.Cases.{E}
use Rattle.schedule.specs.declared.Run.{Run}
use Rattle.schedule.specs.Machine.{left_of, without, waits_for, woken, act_by, act, leftmost, taken, turn_free, turn_of, passed_by}
use Rattle.schedule.specs.Record.{set_of, blank}
use Rattle.schedule.specs.Begin.{start_state, start_run, begin}
use Rattle.filling.specs.Filled.{big, filled_out, overfull}
use Rattle.schedule.specs.Links.{walk, right_in}
use Rattle.schedule.specs.Sound.{common_sound, sound}
use Rattle.schedule.specs.Turn.{is_blank, unsound, root_ended, no_worker, step_run, passed_in}
use Rattle.schedule.specs.Calls.{Call, turn, over_list, in_rounds, after_call}
use Rattle.schedule.specs.Cases.{turned_sound}
use Rattle.order.specs.Words.{all_below, same_list}
use Rattle.order.specs.Firsts.{firsts}
use Rattle.marks.specs.Marks.{unset, kept, max_marks, Marked, marked, unmarked, mark_of, is_set, bad_marked, set_checks, back_checks, set_as, back_as, MarkCall, moving, setting, going, Led, led, set_led, back_led, nowhere}

-- ---- single turns, marks set and gone back to, from a beginning

-- On a run that is sound with its marks 32 does not apply, and to test it again at each call takes seconds to compute. That it is so after any such calls from a beginning, and that these
-- cases hold of the definitions: proofs/CaseLaws.
abbrev pub sound_checks : Marked → MarkCall → List Check
sound_checks m (moving c) = []
sound_checks m (setting i) = record { number = 45; applies = λ j. not (ltb i max_marks) } ∷ []
sound_checks m (going i) =
    record { number = 45; applies = λ j. not (ltb i max_marks) }
    ∷ record { number = 46; applies = λ j. not (is_set (mark_of m i)) }
    ∷ []

abbrev pub found : Marked → MarkCall → Result ⊤ Refusal
found m c = try_at (sound_checks m c) 0

abbrev pub after_sound : MarkCall → Marked → Marked
after_sound (moving (turn w)) m = marked (turned_sound m.run w).run m.marks
after_sound (moving (over_list l)) m = marked (after_call (over_list l) m.run) m.marks
after_sound (moving (in_rounds limit)) m = marked (after_call (in_rounds limit) m.run) m.marks
after_sound (setting i) m = set_as (found m (setting i)) i m
after_sound (going i) m = back_as (found m (going i)) i m

abbrev pub led_sound : MarkCall → Marked → Led Call → Led Call
led_sound (moving c) m l = led (l.here ++ c ∷ []) l.marks
led_sound (setting i) m l = set_led (found m (setting i)) i l
led_sound (going i) m l = back_led (found m (going i)) i l

abbrev pub number_sound : MarkCall → Marked → ℕ
number_sound c m = found_number (found m c)

-- what is seen after some calls and one more: memory held, its highest, turns taken, the calls that led there, and the number that the last one answered
pub record Seen : Type 0 where
  pub held : ℕ
  pub highest : ℕ
  pub turns : ℕ
  pub led : List Call
  pub number : ℕ

abbrev pub seen_by : (MarkCall → Marked → Marked) → (MarkCall → Marked → Led Call → Led Call) → (MarkCall → Marked → ℕ) → Marked → Led Call → List MarkCall → MarkCall → Seen
seen_by after led number m l [] c =
    record { held = (after c m).run.held; highest = (after c m).run.highest; turns = (after c m).run.turns; led = (led c m l).here; number = number c m }
seen_by after led number m l (x ∷ cs) c = seen_by after led number (after x m) (led x m l) cs c

-- from the beginning of E with p 2 and K 6
pub record MarkCase : Type 0 where
  pub calls : List MarkCall
  pub last : MarkCall
  pub seen : Seen

abbrev pub tries : List MarkCall → MarkCall → ℕ → ℕ → ℕ → List ℕ → ℕ → MarkCase
tries cs c h x t row n = record { calls = cs; last = c; seen = record { held = h; highest = x; turns = t; led = map turn row; number = n } }

abbrev pub singly : List ℕ → List MarkCall
singly l = map (λ w. moving (turn w)) l

-- three turns, the mark 2, two turns more
abbrev pub tried : List MarkCall
tried = singly (0 ∷ 1 ∷ 0 ∷ []) ++ setting 2 ∷ singly (1 ∷ 0 ∷ [])

abbrev pub row_tried : List ℕ
row_tried = 0 ∷ 1 ∷ 0 ∷ 1 ∷ 0 ∷ []

-- after another order from the mark
abbrev pub again : List MarkCall
again = tried ++ going 2 ∷ singly (1 ∷ 1 ∷ [])

unfoldable pub mark_cases : List MarkCase
mark_cases =
    -- 12 are held
    tries (singly (0 ∷ 1 ∷ 0 ∷ []) ++ setting 2 ∷ singly (1 ∷ [])) (moving (turn 0)) 12 12 5 row_tried 0
    -- "going back restores exactly that run, turns and peak too", and the row is the one that led there
    ∷ tries tried (going 2) 6 6 3 (0 ∷ 1 ∷ 0 ∷ []) 0
    -- refused, nothing changes
    ∷ tries tried (going 3) 12 12 5 row_tried 46
    ∷ tries tried (going 8) 12 12 5 row_tried 45
    ∷ tries tried (setting 8) 12 12 5 row_tried 45
    -- "the turns that led to the mark and those since"; "the marks themselves remain"
    ∷ tries again (moving (turn 0)) 6 6 6 (0 ∷ 1 ∷ 0 ∷ 1 ∷ 1 ∷ 0 ∷ []) 0
    ∷ tries again (going 2) 6 6 3 (0 ∷ 1 ∷ 0 ∷ []) 0
    -- "Setting again replaces"
    ∷ tries (again ++ setting 2 ∷ singly (0 ∷ [])) (going 2) 0 6 5 (0 ∷ 1 ∷ 0 ∷ 1 ∷ 1 ∷ []) 0
    ∷ []

abbrev pub Worked : (MarkCall → Marked → Marked) → (MarkCall → Marked → Led Call → Led Call) → (MarkCall → Marked → ℕ) → Type 0
Worked after led number =
    map (λ (c : MarkCase). seen_by after led number (unmarked (begin E 2 6).run) nowhere c.calls c.last) mark_cases ≡ map (λ (c : MarkCase). c.seen) mark_cases

pub marks_worked : Worked after_sound led_sound number_sound
unfolding mark_cases sum_to any_below code_of kind_of is table_of try_at try_from try_pass first_found entry_wrong total_wrong owner_below kind_unknown argument_wrong end_misplaced forked_below forked_before open_before join_not_latest end_with_open never_forked alloc_of free_of whole_within balance balance_below0 passes fork_below left_of without waits_for woken act_by act leftmost taken turn_free turn_of set_of big overfull filled_out firsts walk right_in start_state start_run begin root_ended no_worker step_run passed_by passed_in
marks_worked = refl

-- ---- what 32 looks at

-- E's record with p 0, which is neither sound nor blank
abbrev pub damaged : Run
damaged = start_run E 0 6

-- the blank record has no marks, or itself at one; then it is damaged at another
abbrev pub marked_blank : Marked
marked_blank = marked blank (set (replicate max_marks unset) 1 (kept blank))

abbrev pub marked_damaged : Marked
marked_damaged = marked blank (set marked_blank.marks 5 (kept damaged))

-- "In these two calls 32 looks at the run and at every set mark", also at one that the call does not name, and before 45 and 46; the blank record may be marked and gone back to
pub damage_worked : (try_at (set_checks (unmarked blank) 1) 0 ≡ Ok tt)
    × (try_at (back_checks marked_blank 1) 0 ≡ Ok tt)
    × (try_at (set_checks marked_damaged 5) 0 ≡ Err (refusal 32 0))
    × (try_at (back_checks marked_damaged 1) 0 ≡ Err (refusal 32 0))
    × (try_at (set_checks marked_damaged 8) 0 ≡ Err (refusal 32 0))
    × (try_at (back_checks marked_damaged 2) 0 ≡ Err (refusal 32 0))
unfolding sum_to any_below code_of kind_of is table_of try_at try_from try_pass first_found entry_wrong total_wrong owner_below kind_unknown argument_wrong end_misplaced forked_below forked_before open_before join_not_latest end_with_open never_forked alloc_of free_of whole_within balance balance_below0 passes start_state start_run blank bad_marked unsound sound common_sound is_blank same_list all_below
damage_worked = (refl, refl, refl, refl, refl, refl)
