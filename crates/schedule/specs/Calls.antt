-- Lists of calls, what they answer, the record that they leave and the row of workers that they lay end to end (document 01, "What demand 3 ranges over").
use Rattle.std.specs.Prelude.{ℕ, ◌%◌, List, [], ◌∷◌, ◌++◌, take, Err, Ok, Result}
use Rattle.table.specs.declared.Refusal.{Refusal}
use Rattle.schedule.specs.declared.Taken.{Taken}
use Rattle.schedule.specs.declared.Run.{Run}
use Rattle.schedule.specs.declared.Report.{Report}
use Rattle.schedule.specs.declared.Report.TheVariants.{Finished, Spent, Refused}
use Rattle.order.specs.Firsts.{firsts}
use Rattle.schedule.specs.Turn.{turned}
use Rattle.schedule.specs.Runs.{list_run, rounds_run}

-- "Three calls move a run record on: a single turn, a run over a list, a run in rounds."
pub data Call : Type 0 where
  turn : ℕ → Call
  over_list : List ℕ → Call
  in_rounds : ℕ → Call

-- the record after a call
unfoldable pub after_call : Call → Run → Run
after_call (turn w) r = (turned r w).run
after_call (over_list l) r = (list_run r l).run
after_call (in_rounds limit) r = (rounds_run r limit).run

-- the number of turns that a report names
abbrev pub turns_in : Report → ℕ
turns_in (Finished k) = k
turns_in (Spent k) = k
turns_in (Refused k x) = k

abbrev pub turn_row : Result Taken Refusal → ℕ → List ℕ
turn_row (Ok t) w = w ∷ []
turn_row (Err x) w = []

-- "of a single turn, its worker; of a run over a list, as many from the front as it reports; of a run in rounds, as many of 0 to p − 1, again and again, as it reports"
unfoldable pub row_of : Call → Run → List ℕ
row_of (turn w) r = turn_row (turned r w).answer w
row_of (over_list l) r = take (turns_in (list_run r l).report) l
row_of (in_rounds limit) r = firsts (λ i. i % r.workers) 0 (turns_in (rounds_run r limit).report)

-- a whole list of calls
unfoldable pub after_calls : List Call → Run → Run
after_calls [] r = r
after_calls (c ∷ cs) r = after_calls cs (after_call c r)

-- "The turns taken, laid end to end, are one row of workers"
unfoldable pub row_of_calls : List Call → Run → List ℕ
row_of_calls [] r = []
row_of_calls (c ∷ cs) r = row_of c r ++ row_of_calls cs (after_call c r)

-- ---- answers

-- what a call answers besides the record
pub data Answer : Type 0 where
  turning : Result Taken Refusal → Answer
  report : Report → Answer

abbrev pub answer_of : Call → Run → Answer
answer_of (turn w) r = turning (turned r w).answer
answer_of (over_list l) r = report (list_run r l).report
answer_of (in_rounds limit) r = report (rounds_run r limit).report

-- each on the record that the last one left
unfoldable pub answers_of : List Call → Run → List Answer
answers_of [] r = []
answers_of (c ∷ calls) r = answer_of c r ∷ answers_of calls (after_call c r)
