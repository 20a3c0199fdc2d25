-- What is said of a text that gives no input, on one line.
use Rattle.std.specs.Prelude.{ℕ, ◌≡◌, refl, Err, Ok, Result}
use mathlib.Core.List.{List, [], ◌∷◌, flatten}
use Rattle.text.specs.Text.{ascii, digits_of, decimal}
use Rattle.assembly.specs.Words.{span_of, same}
use Rattle.assembly.specs.Unseen.{after_lines, unseen_in, unseen_at}
use Rattle.assembly.specs.Message.{unseen_texts, fault_texts, message_of}
use Rattle.inputs.specs.declared.Wanted.{Wanted}
use Rattle.inputs.specs.declared.Wanted.TheVariants.{Workers, QuotaOrBetween, OrderOrLimit, Memory, Number, LineEnd, FewerWorkers}
use Rattle.inputs.specs.declared.InputError.{InputError}
use Rattle.inputs.specs.declared.InputError.TheVariants.{Malformed, NoTable}

unfoldable pub wanted_texts : Wanted → List (List ℕ)
wanted_texts Workers = ascii "workers" ∷ []
wanted_texts QuotaOrBetween = ascii "quota or between" ∷ []
wanted_texts OrderOrLimit = ascii "order or limit" ∷ []
wanted_texts Memory = ascii "memory" ∷ []
wanted_texts (Number most) = ascii "a number up to " ∷ decimal most ∷ []
wanted_texts LineEnd = ascii "the end of the line" ∷ []
wanted_texts FewerWorkers = ascii "an order of at most 4096 workers" ∷ []

-- of a text s: the table's own message, and none where there is an input
abbrev pub said : List ℕ → Result ℕ InputError → List ℕ
said s (Ok k) = []
said s (Err (Malformed line e)) = flatten (fault_texts line (unseen_at s line) (wanted_texts e))
said s (Err (NoTable e)) = message_of s (Err e)

number_example : said (ascii "workers x\n") (Err (Malformed 1 (Number 255))) ≡ ascii "line 1: expected a number up to 255\n"
unfolding wanted_texts fault_texts unseen_texts unseen_in after_lines span_of same flatten decimal digits_of
number_example = refl
