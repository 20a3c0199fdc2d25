-- What the calls of a list answer, from the definitions on the record.
use Rattle.std.specs.Prelude.{List, [], ◌∷◌, Result}
use Rattle.schedule.specs.declared.Reply.{Reply}
use Rattle.table.specs.declared.Refusal.{Refusal}
use Rattle.schedule.specs.declared.Report.{Report}
use Rattle.deques.specs.declared.DequeRun.{DequeRun}
use Rattle.deques.specs.DequeTurn.{deque_turned}
use Rattle.deques.specs.DequeRuns.{pairs_run}
use Rattle.deques.specs.DequeCalls.{DequeCall, turn, over_pairs, after_deque_call}

-- what a call answers besides the record
pub data DequeAnswer : Type 0 where
  turning : Result Reply Refusal → DequeAnswer
  report : Report → DequeAnswer

abbrev pub deque_answer_of : DequeCall → DequeRun → DequeAnswer
deque_answer_of (turn w c) r = turning (deque_turned r w c).answer
deque_answer_of (over_pairs l) r = report (pairs_run r l).report

-- each on the record that the last one left
unfoldable pub deque_answers_of : List DequeCall → DequeRun → List DequeAnswer
deque_answers_of [] r = []
deque_answers_of (c ∷ calls) r = deque_answer_of c r ∷ deque_answers_of calls (after_deque_call c r)
