-- Marks to come back to (N11): eight beside a run, and two calls, which set one and go back to one.
use Rattle.std.specs.Prelude.{ℕ, List, [], ◌∷◌, ◌++◌, Bool, true, false, not, ◌||◌, get_or, set, replicate, ltb, eqb, Err, Ok, Result, ⊤}
use Rattle.table.specs.declared.Refusal.{Refusal}
use Rattle.table.specs.Sum.{pick, any_below}
use Rattle.table.specs.Pass.{Check, try_at}
use Rattle.table.specs.Load.{found_number, found_place}
use Rattle.schedule.specs.declared.Run.{Run}
use Rattle.schedule.specs.Turn.{unsound}
use Rattle.schedule.specs.Calls.{Call, after_call, row_of, row_of_calls}

-- a mark: not set, or the run as it was, the whole record. An unset one has nothing that could be damaged.
pub data Mark : Type 0 where
  unset : Mark
  kept : Run → Mark

abbrev pub max_marks : ℕ
max_marks = 8

-- "A run has eight marks, 0 to 7"
pub record Marked : Type 0 where
  pub run : Run
  pub marks : List Mark

abbrev pub marked : Run → List Mark → Marked
marked r l = record { run = r; marks = l }

-- "none set at the beginning"
abbrev pub unmarked : Run → Marked
unmarked r = marked r (replicate max_marks unset)

abbrev pub mark_of : Marked → ℕ → Mark
mark_of m i = get_or m.marks i unset

abbrev pub is_set : Mark → Bool
is_set unset = false
is_set (kept r) = true

-- check 32 of a set mark: the record there is neither sound nor blank
abbrev pub bad_mark : Mark → Bool
bad_mark unset = false
bad_mark (kept r) = unsound r

-- "32 looks at the run and at every set mark"
unfoldable pub bad_marked : Marked → Bool
bad_marked m = unsound m.run || any_below (λ i. bad_mark (mark_of m i)) max_marks

-- "45 mark above 7; 46 mark not set, on going back only; both after 32, in this order"
abbrev pub set_checks : Marked → ℕ → List Check
set_checks m i =
    record { number = 32; applies = λ j. bad_marked m }
    ∷ record { number = 45; applies = λ j. not (ltb i max_marks) }
    ∷ []

abbrev pub back_checks : Marked → ℕ → List Check
back_checks m i =
    record { number = 32; applies = λ j. bad_marked m }
    ∷ record { number = 45; applies = λ j. not (ltb i max_marks) }
    ∷ record { number = 46; applies = λ j. not (is_set (mark_of m i)) }
    ∷ []

-- number and place of what is found, 0 and 0 where nothing is; the place is always 0
pub record MarkValues : Type 0 where
  pub number : ℕ
  pub place : ℕ

abbrev pub mark_values : Result ⊤ Refusal → MarkValues
mark_values x = record { number = found_number x; place = found_place x }

unfoldable pub set_values : Marked → ℕ → MarkValues
set_values m i = mark_values (try_at (set_checks m i) 0)

unfoldable pub back_values : Marked → ℕ → MarkValues
back_values m i = mark_values (try_at (back_checks m i) 0)

-- "Setting one stores the run as it is"; "Setting again replaces". Refused, nothing changes.
abbrev pub set_as : Result ⊤ Refusal → ℕ → Marked → Marked
set_as (Ok _) i m = marked m.run (set m.marks i (kept m.run))
set_as (Err x) i m = m

-- the run at a mark; the second where it is not set, which no call comes to
abbrev pub run_at : Mark → Run → Run
run_at unset r = r
run_at (kept q) r = q

-- "going back restores exactly that run, turns and peak too, while the marks themselves remain"
abbrev pub back_as : Result ⊤ Refusal → ℕ → Marked → Marked
back_as (Ok _) i m = marked (run_at (mark_of m i) m.run) m.marks
back_as (Err x) i m = m

-- ---- lists of calls

-- "the other calls look at the run alone and leave its marks as they are"
pub data MarkCall : Type 0 where
  moving : Call → MarkCall
  setting : ℕ → MarkCall
  going : ℕ → MarkCall

unfoldable pub after_mark : MarkCall → Marked → Marked
after_mark (moving c) m = marked (after_call c m.run) m.marks
after_mark (setting i) m = set_as (try_at (set_checks m i) 0) i m
after_mark (going i) m = back_as (try_at (back_checks m i) 0) i m

unfoldable pub after_marks : List MarkCall → Marked → Marked
after_marks [] m = m
after_marks (c ∷ cs) m = after_marks cs (after_mark c m)

-- ---- "the turns that led to the mark and those since"

-- what led to a run, and what led to each of its marks: rows of calls or of turns
pub record Led (A : Type 0) : Type 0 where
  pub here : List A
  pub marks : List (List A)

abbrev pub led : {A : Type 0} → List A → List (List A) → Led A
led l ms = record { here = l; marks = ms }

abbrev pub set_led : {A : Type 0} → Result ⊤ Refusal → ℕ → Led A → Led A
set_led (Ok _) i l = led l.here (set l.marks i l.here)
set_led (Err x) i l = l

abbrev pub back_led : {A : Type 0} → Result ⊤ Refusal → ℕ → Led A → Led A
back_led (Ok _) i l = led (get_or l.marks i []) l.marks
back_led (Err x) i l = l

-- the calls that led there, after one more
unfoldable pub led_by : MarkCall → Marked → Led Call → Led Call
led_by (moving c) m l = led (l.here ++ c ∷ []) l.marks
led_by (setting i) m l = set_led (try_at (set_checks m i) 0) i l
led_by (going i) m l = back_led (try_at (back_checks m i) 0) i l

unfoldable pub led_to : List MarkCall → Marked → Led Call → Led Call
led_to [] m l = l
led_to (c ∷ cs) m l = led_to cs (after_mark c m) (led_by c m l)

-- at the beginning
abbrev pub nowhere : {A : Type 0} → Led A
nowhere = led [] (replicate max_marks [])

-- the row of the turns that led to the run after a list of calls: "the turns that led to the mark and those since"
unfoldable pub row_of_marks : List MarkCall → Run → List ℕ
row_of_marks cs r = row_of_calls (led_to cs (unmarked r) nowhere).here r

-- ---- the same from what was answered

-- the row of turns that a call lays
abbrev pub row_by : MarkCall → Marked → List ℕ
row_by (moving c) m = row_of c m.run
row_by (setting i) m = []
row_by (going i) m = []

-- the number that a call on marks answers; another call's is not looked at
abbrev pub number_of : MarkCall → Marked → ℕ
number_of (moving c) m = 0
number_of (setting i) m = (set_values m i).number
number_of (going i) m = (back_values m i).number

-- the turns that led there, after a call that laid a row and answered a number: where it set a mark or went back to one, the number is 0
abbrev pub turns_by : MarkCall → List ℕ → ℕ → Led ℕ → Led ℕ
turns_by (moving c) row number w = led (w.here ++ row) w.marks
turns_by (setting i) row number w = pick (eqb number 0) (set_led (Ok tt) i w) w
turns_by (going i) row number w = pick (eqb number 0) (back_led (Ok tt) i w) w

unfoldable pub turns_to : List MarkCall → Marked → Led ℕ → Led ℕ
turns_to [] m w = w
turns_to (c ∷ cs) m w = turns_to cs (after_mark c m) (turns_by c (row_by c m) (number_of c m) w)
