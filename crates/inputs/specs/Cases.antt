-- Worked cases, computed on the definitions: the inputs of the README's commands as text.
use Rattle.std.specs.Prelude.{◌≡◌, refl, ℕ}
use mathlib.Core.List.{List, [], ◌∷◌, ◌++◌, flatten}
use Rattle.text.specs.Text.{ascii}
use Rattle.assembly.specs.Words.{span_of, parts, nonempty, same}
use Rattle.assembly.specs.Cases.{text_of_e}
use Rattle.assembly.specs.Upto.{value_from, number_in}
use Rattle.inputs.specs.Number.{figure_of}
use Rattle.assembly.specs.Unseen.{after_lines}
use Rattle.inputs.specs.Front.{turns, rounds, board, added, order_from, step_with, front_from, front_of, whole, fault}
use Rattle.inputs.specs.Input.{front_texts, front_bytes}
use Rattle.inputs.specs.declared.Wanted.TheVariants.{Workers, OrderOrLimit, Number as NumberTo}

-- two workers in turn with a quota of 6
abbrev pub text_of_run : List ℕ
text_of_run = ascii "# two workers\nworkers 2\nquota 6\n\norder 0 1 0 1 0 1 0\norder 1 0 1 0 1 0 1\n" ++ text_of_e

run_front : front_of text_of_run ≡ whole (turns 2 6 (0 ∷ 1 ∷ 0 ∷ 1 ∷ 0 ∷ 1 ∷ 0 ∷ 1 ∷ 0 ∷ 1 ∷ 0 ∷ 1 ∷ 0 ∷ 1 ∷ [])) 6
unfolding span_of parts nonempty same value_from number_in figure_of added order_from step_with front_from
run_front = refl

run_rest : after_lines 6 text_of_run ≡ text_of_e
unfolding span_of after_lines
run_rest = refl

run_bytes : front_bytes (turns 2 6 (0 ∷ 1 ∷ 0 ∷ [])) ≡ 2 ∷ 6 ∷ 0 ∷ 0 ∷ 3 ∷ 0 ∷ 0 ∷ 1 ∷ 0 ∷ []
unfolding front_texts flatten
run_bytes = refl

rounds_front : front_of (ascii "workers 2\nquota 6\nlimit 100\nthread 0\n") ≡ whole (rounds 2 6 100) 3
unfolding span_of parts nonempty same value_from number_in figure_of step_with front_from
rounds_front = refl

rounds_bytes : front_bytes (rounds 2 6 100) ≡ 2 ∷ 6 ∷ 0 ∷ 0 ∷ 100 ∷ 0 ∷ 0 ∷ 0 ∷ []
unfolding front_texts flatten
rounds_bytes = refl

-- a board with 55 units of memory
board_front : front_of (ascii "workers 2\nbetween 1\nmemory 55\n") ≡ whole (board 2 1 55) 3
unfolding span_of parts nonempty same value_from number_in figure_of step_with front_from
board_front = refl

board_bytes : front_bytes (board 2 1 55) ≡ 2 ∷ 1 ∷ 0 ∷ 0 ∷ 0 ∷ 55 ∷ 0 ∷ 0 ∷ 0 ∷ 0 ∷ 0 ∷ 0 ∷ 0 ∷ []
unfolding front_texts flatten
board_bytes = refl

-- no line at all, a number that does not fit its byte, and a front that stops halfway
empty_front : front_of [] ≡ fault 1 Workers
unfolding parts front_from
empty_front = refl

large_front : front_of (ascii "workers 256\n") ≡ fault 1 (NumberTo 255)
unfolding span_of parts nonempty same value_from number_in figure_of step_with front_from
large_front = refl

half_front : front_of (ascii "workers 2\nquota 6\nthread 0\n") ≡ fault 3 OrderOrLimit
unfolding span_of parts nonempty same value_from number_in figure_of step_with front_from
half_front = refl
