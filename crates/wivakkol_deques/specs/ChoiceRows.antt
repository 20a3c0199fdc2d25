-- What `wivakkol_deque_limit_on` leaves in the numbers lent to it. Its answer is the refusal's number, 0 where there is none; the row has the place, the limit for choices below c and that for choices 0,
-- both 0 where the call is refused.
use Rattle.std.specs.Prelude.{ℕ, List, [], ◌∷◌, Err, Ok, Result}
use Rattle.deque_limit.specs.declared.Bounds.{Bounds}
use Rattle.table.specs.declared.Refusal.{Refusal}

abbrev pub choice_number : Result Bounds Refusal → ℕ
choice_number (Ok x) = 0
choice_number (Err r) = r.number

abbrev pub choice_row : Result Bounds Refusal → List ℕ
choice_row (Ok x) = 0 ∷ x.memory ∷ x.near ∷ []
choice_row (Err r) = r.place ∷ 0 ∷ 0 ∷ []
