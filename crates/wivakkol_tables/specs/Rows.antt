-- What the calls from C leave in the rows lent to them: the place, and then the call's values, all 0 where it is refused but for which table or part is.
use Rattle.std.specs.Prelude.{ℕ, List, [], ◌∷◌}
use Rattle.canonical.specs.Answers.{FormValues, CompareValues}
use Rattle.joining.specs.Answers.{JoinValues}

-- of a form: the place and its bytes
abbrev pub form_row : FormValues → List ℕ
form_row v = v.place ∷ v.size ∷ []

-- of two tables: the place, 1 before, 2 equal or 3 after, and the table that is refused
abbrev pub compare_row : CompareValues → List ℕ
compare_row v = v.place ∷ v.said ∷ v.table ∷ []

-- of a joined table: the place, n, m, S1, D and N, and the part that is refused
abbrev pub join_row : JoinValues → List ℕ
join_row v = v.place ∷ v.threads ∷ v.actions ∷ v.peak ∷ v.depth ∷ v.nested ∷ v.part ∷ []
