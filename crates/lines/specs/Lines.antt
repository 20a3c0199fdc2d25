-- The lines of the programs as text (document 01, "The turn listing"). A line is a row of texts, put one after another.
use Rattle.std.specs.Prelude.{ℕ, ◌≡◌, refl}
use mathlib.Core.List.{List, [], ◌∷◌, ◌++◌, flatten}
use Rattle.table.specs.declared.kinds.Kind.{Kind}
use Rattle.table.specs.declared.kinds.Kind.TheVariants.{End as end, Work as work, Alloc as alloc, Free as free, Fork as fork, Join as join, Unknown as unknown}
use Rattle.table.specs.Pass.{refusal}
use Rattle.text.specs.Text.{ascii, digits_of, decimal, space, newline, refused_line}
use Rattle.schedule.specs.declared.Run.{Run}
use Rattle.schedule.specs.Record.{blank}
use Rattle.schedule.specs.declared.Report.{Report}
use Rattle.schedule.specs.declared.Report.TheVariants.{Finished, Spent, Refused}
use Rattle.schedule.specs.Listing.{Told, idle, did, quota, wait, Line, Last, done, not_done, refused, Listing}

-- ---- a turn's line

-- "the kind's name"; an action of no known kind is never done
unfoldable pub kind_word : Kind → List ℕ
kind_word end = ascii " end"
kind_word work = ascii " work"
kind_word alloc = ascii " alloc"
kind_word free = ascii " free"
kind_word fork = ascii " fork"
kind_word join = ascii " join"
kind_word unknown = ascii " -"

abbrev pub quota_word : List ℕ
quota_word = ascii " quota"

abbrev pub wait_word : List ℕ
wait_word = ascii " wait"

abbrev pub idle_word : List ℕ
idle_word = ascii " - - idle"

-- thread and action, each after a space
abbrev pub pair_texts : ℕ → ℕ → List (List ℕ)
pair_texts t a = space ∷ decimal t ∷ space ∷ decimal a ∷ []

-- "thread, action, the kind's name (or quota, wait, idle)"
unfoldable pub told_texts : Told → List (List ℕ)
told_texts idle = idle_word ∷ []
told_texts (did t a k) = pair_texts t a ++ (kind_word k ∷ [])
told_texts (quota t a) = pair_texts t a ++ (quota_word ∷ [])
told_texts (wait t a) = pair_texts t a ++ (wait_word ∷ [])

-- "Lines: turn from 1, worker, thread, action, the kind's name (or quota, wait, idle), held."
unfoldable pub turn_texts : Line → List (List ℕ)
turn_texts l = decimal l.turn ∷ space ∷ decimal l.worker ∷ told_texts l.told ++ (space ∷ decimal l.held ∷ newline ∷ [])

-- ---- the last line

abbrev pub done_word : List ℕ
done_word = ascii "done "

abbrev pub open_word : List ℕ
open_word = ascii "open "

abbrev pub peak_word : List ℕ
peak_word = ascii " peak "

abbrev pub held_word : List ℕ
held_word = ascii " held "

abbrev pub finished_word : List ℕ
finished_word = ascii "finished "

abbrev pub spent_word : List ℕ
spent_word = ascii "spent "

-- a word, turns and peak
abbrev pub totals_texts : List ℕ → ℕ → ℕ → List (List ℕ)
totals_texts word turns peak = word ∷ decimal turns ∷ peak_word ∷ decimal peak ∷ []

-- "Last: `done` or, with the root not ended, `open`, with turns and peak; or `refused`, number, place."
unfoldable pub last_texts : Last → List (List ℕ)
last_texts (done k h) = totals_texts done_word k h ++ (newline ∷ [])
last_texts (not_done k h) = totals_texts open_word k h ++ (newline ∷ [])
last_texts (refused n p) = refused_line (refusal n p) ∷ []

-- lines, and what comes after them
unfoldable pub lines_then : List Line → List (List ℕ) → List (List ℕ)
lines_then [] rest = rest
lines_then (l ∷ ls) rest = turn_texts l ++ lines_then ls rest

abbrev pub texts_of : Listing → List (List ℕ)
texts_of l = lines_then l.lines (last_texts l.last)

-- ---- the line of a run in rounds

-- `finished TURNS peak PEAK held HELD`, `spent TURNS peak PEAK held HELD`, or the refusal's line
unfoldable pub report_texts : Report → Run → List (List ℕ)
report_texts (Finished k) r = totals_texts finished_word k r.highest ++ (held_word ∷ decimal r.held ∷ newline ∷ [])
report_texts (Spent k) r = totals_texts spent_word k r.highest ++ (held_word ∷ decimal r.held ∷ newline ∷ [])
report_texts (Refused k x) r = refused_line x ∷ []

finished_example : flatten (report_texts (Finished 14) blank) ≡ ascii "finished 14 peak 0 held 0\n"
unfolding flatten report_texts decimal digits_of blank
finished_example = refl

spent_example : flatten (report_texts (Spent 7) blank) ≡ ascii "spent 7 peak 0 held 0\n"
unfolding flatten report_texts decimal digits_of blank
spent_example = refl
