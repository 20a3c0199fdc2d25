-- Two workers and b 1, worked out: after turns of 0, 1 and 0 another turn of 0 would be its second since 1's latest, and breaks the rule; 1 may go, and is next in rounds.
use Rattle.std.specs.Prelude.{◌≡◌, refl, List, [], ◌∷◌, ℕ}
use Rattle.pace.specs.Pace.{blank, most_from, asked, may, may_number, next_in, kept_in, counted, renewed, took, took_each, start_pace}

turns : List ℕ
unfolding took_each took asked most_from counted renewed
turns = took_each (blank 2 1) (0 ∷ 1 ∷ 0 ∷ [])

zero_waits : may_number turns 0 ≡ 60
unfolding turns took_each took asked most_from counted renewed may may_number
zero_waits = refl

one_may : may_number turns 1 ≡ 0
unfolding turns took_each took asked most_from counted renewed may may_number
one_may = refl

two_is_none : may_number turns 2 ≡ 30
unfolding turns took_each took asked most_from counted renewed may may_number
two_is_none = refl

one_is_next : next_in turns ≡ 1
unfolding turns took_each took asked most_from counted renewed next_in
one_is_next = refl

-- the row keeps the rule with 1; with one more turn of 0, refused or not, with 2 and no less
kept_one : kept_in turns ≡ 1
unfolding turns took_each took asked most_from counted renewed
kept_one = refl

kept_two : kept_in (took turns 0) ≡ 2
unfolding turns took_each took asked most_from counted renewed
kept_two = refl

too_small : (start_pace 2 0 []).number ≡ 41
unfolding start_pace
too_small = refl

nobody : (start_pace 0 1 []).number ≡ 20
unfolding start_pace
nobody = refl
