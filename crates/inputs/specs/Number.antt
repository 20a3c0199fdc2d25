-- The one number after a keyword.
use Rattle.std.specs.Prelude.{ℕ, List, [], ◌∷◌, Err, None, Ok, Option, Result, Some}
use Rattle.inputs.specs.declared.Wanted.{Wanted}
use Rattle.assembly.specs.Upto.{number_in}
use Rattle.inputs.specs.declared.Wanted.TheVariants.{Number as NumberTo, LineEnd}

-- a number and no more words
abbrev pub figure_last : ℕ → List (List ℕ) → Result ℕ Wanted
figure_last x [] = Ok x
figure_last x (w ∷ ws) = Err LineEnd

abbrev pub figure_by : ℕ → Option ℕ → List (List ℕ) → Result ℕ Wanted
figure_by most (Some x) ws = figure_last x ws
figure_by most None ws = Err (NumberTo most)

-- the words after a keyword: one number, of at most so much
unfoldable pub figure_of : ℕ → List (List ℕ) → Result ℕ Wanted
figure_of most [] = Err (NumberTo most)
figure_of most (w ∷ ws) = figure_by most (number_in most w) ws
