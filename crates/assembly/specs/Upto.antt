-- A word as a number of at most so much.
use Rattle.std.specs.Prelude.{ℕ, ◌+◌, ◌-◌, ◌*◌, ◌≡◌, refl, List, [], ◌∷◌, Bool, ◌&&◌, leb, None, Option, Some}
use Rattle.table.specs.Sum.{pick}
use Rattle.text.specs.Text.{ascii}
use Rattle.assembly.specs.Words.{is_digit, zero_led}

-- the number of digits read so far, and one byte more
abbrev pub next_value : ℕ → ℕ → ℕ
next_value v b = 10 * v + (b - 48)

-- a digit, after which the number is still at most so much
abbrev pub goes_on : ℕ → ℕ → ℕ → Bool
goes_on most v b = is_digit b && leb (next_value v b) most

unfoldable pub value_from : ℕ → ℕ → List ℕ → Option ℕ
value_from most v [] = Some v
value_from most v (b ∷ w) = pick (goes_on most v b) (value_from most (next_value v b) w) None

-- a word's number, in decimal as one writes it
unfoldable pub number_in : ℕ → List ℕ → Option ℕ
number_in most w = pick (zero_led w) None (value_from most 0 w)

largest_example : number_in 18446744073709551615 (ascii "18446744073709551615") ≡ Some 18446744073709551615
unfolding number_in value_from
largest_example = refl

beyond_example : number_in 255 (ascii "256") ≡ None
unfolding number_in value_from
beyond_example = refl
