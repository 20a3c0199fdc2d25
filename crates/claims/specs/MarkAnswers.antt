-- What the calls of a list with marks in it answer (N11), from the definitions on the run and its marks.
use Rattle.std.specs.Prelude.{List, [], ◌∷◌}
use Rattle.schedule.specs.Calls.{Answer, answer_of}
use Rattle.marks.specs.Marks.{Marked, MarkValues, set_values, back_values, MarkCall, moving, setting, going, after_mark}

-- what a call answers besides the run and the marks: a call on marks, its number and place
pub data MarkAnswer : Type 0 where
  moved : Answer → MarkAnswer
  values : MarkValues → MarkAnswer

abbrev pub mark_answer_of : MarkCall → Marked → MarkAnswer
mark_answer_of (moving c) m = moved (answer_of c m.run)
mark_answer_of (setting i) m = values (set_values m i)
mark_answer_of (going i) m = values (back_values m i)

-- each on the run and the marks that the last one left
unfoldable pub mark_answers_of : List MarkCall → Marked → List MarkAnswer
mark_answers_of [] m = []
mark_answers_of (c ∷ cs) m = mark_answer_of c m ∷ mark_answers_of cs (after_mark c m)
