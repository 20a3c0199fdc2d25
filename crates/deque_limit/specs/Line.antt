-- What `dequelimit` prints, from the bytes that it reads; one line out.
use Rattle.std.specs.Prelude.{◌≡◌, refl, ℕ, List, ◌++◌, length, drop, ltb, Err, Ok, Result}
use Rattle.table.specs.declared.Refusal.{Refusal}
use Rattle.table.specs.Sum.{pick}
use Rattle.table.specs.Format.{u24_at, u32_at}
use Rattle.table.specs.Pass.{refusal}
use Rattle.text.specs.Text.{ascii, digits_of, decimal, newline, refused_line}
use Rattle.quota.specs.Line.{workers_in}
use Rattle.deque_limit.specs.declared.Bounds.{Bounds}
use Rattle.deque_limit.specs.ChoiceLimit.{choice_limits}

-- the bytes of `runrounds` with c for L, 1 and the greatest choice that will be given: p 1 byte, K 3, c 4, a table; under 8 bytes 33
unfoldable pub choices_to : List ℕ → Result Bounds Refusal
choices_to s = pick (ltb (length s) 8) (Err (refusal 33 0)) (choice_limits (drop 8 s) (workers_in s) (u24_at s 1) (u32_at s 4))

-- `memory X near Y`
unfoldable pub bounds_line : Bounds → List ℕ
bounds_line x = ascii "memory " ++ decimal x.memory ++ ascii " near " ++ decimal x.near ++ newline

abbrev pub choices_line : Result Bounds Refusal → List ℕ
choices_line (Ok x) = bounds_line x
choices_line (Err r) = refused_line r

choices_example : choices_line (Ok (record { memory = 1160; near = 12 })) ≡ ascii "memory 1160 near 12\n"
unfolding bounds_line decimal digits_of
choices_example = refl
