-- The input of a text: the front's numbers as bytes, and the table that the rest of the text assembles to.
use Rattle.std.specs.Prelude.{ℕ, ◌+◌, ◌/◌, ◌%◌, eqb, ltb, length, take, Err, Ok, Result}
use mathlib.Core.List.{List, [], ◌∷◌, ◌++◌, flatten}
use Rattle.table.specs.Sum.{pick}
use Rattle.assembly.specs.Said.{saids}
use Rattle.assembly.specs.Assembly.{table_bytes, over, longest_text, assembled}
use Rattle.assembly.specs.declared.AssemblyError.{AssemblyError}
use Rattle.assembly.specs.declared.AssemblyError.TheVariants.{TooLong, Malformed, Refused}
use Rattle.assembly.specs.Unseen.{after_lines}
use Rattle.inputs.specs.Front.{Front, nothing, workers, quota, between, turns, rounds, board, Fronted, whole, fault, front_of}
use Rattle.inputs.specs.declared.InputError.{InputError}
use Rattle.inputs.specs.declared.InputError.TheVariants.{Malformed as WrongFront, NoTable}

-- ---- the bytes

-- a number's lowest bytes, little-endian, at most 8
abbrev pub low_bytes : ℕ → ℕ → List ℕ
low_bytes width x =
    take width
    (x % 256 ∷ x / 256 % 256 ∷ x / 65536 % 256 ∷ x / 16777216 % 256
    ∷ x / 4294967296 % 256 ∷ x / 1099511627776 % 256 ∷ x / 281474976710656 % 256 ∷ x / 72057594037927936 % 256 ∷ [])

-- "p (1 byte), K (3 bytes), the order's length (2 bytes), the order (a worker per byte)"; p, K and L in 1, 3 and 4 bytes; p, b and M in 1, 4 and 8
unfoldable pub front_texts : Front → List (List ℕ)
front_texts nothing = []
front_texts (workers p) = []
front_texts (quota p K) = []
front_texts (between p b) = []
front_texts (turns p K o) = low_bytes 1 p ∷ low_bytes 3 K ∷ low_bytes 2 (length o) ∷ o ∷ []
front_texts (rounds p K L) = low_bytes 1 p ∷ low_bytes 3 K ∷ low_bytes 4 L ∷ []
front_texts (board p b M) = low_bytes 1 p ∷ low_bytes 4 b ∷ low_bytes 8 M ∷ []

abbrev pub front_bytes : Front → List ℕ
front_bytes f = flatten (front_texts f)

-- the input of a front and a text of a table
abbrev pub input_bytes : Front → List ℕ → List ℕ
input_bytes f s = front_bytes f ++ table_bytes (saids s)

-- ---- the answer

-- a line after the front's k; 0 where no line tells
abbrev pub later : ℕ → ℕ → ℕ
later k line = pick (eqb line 0) 0 (k + line)

-- with what is answered to the table's text
abbrev pub with_table : Front → ℕ → List ℕ → Result ℕ AssemblyError → Result ℕ InputError
with_table f k s (Ok n) = Ok (length (input_bytes f s))
with_table f k s (Err TooLong) = Err (NoTable TooLong)
with_table f k s (Err (Malformed line e)) = Err (NoTable (Malformed (later k line) e))
with_table f k s (Err (Refused r line)) = Err (NoTable (Refused r (later k line)))

abbrev pub made_by : Fronted → List ℕ → Result ℕ InputError
made_by (fault line e) s = Err (WrongFront line e)
made_by (whole f k) s = with_table f k (after_lines k s) (assembled (after_lines k s))

unfoldable pub made : List ℕ → Result ℕ InputError
made s = pick (ltb longest_text (length s)) (Err (NoTable TooLong)) (made_by (front_of s) s)

-- the lent buffer afterwards: the input at its start, and as it was where there is none
abbrev pub filled_with : Result ℕ AssemblyError → Front → List ℕ → List ℕ → List ℕ
filled_with (Ok n) f s out = over (input_bytes f s) out
filled_with (Err e) f s out = out

abbrev pub filled_by : Fronted → List ℕ → List ℕ → List ℕ
filled_by (fault line e) s out = out
filled_by (whole f k) s out = filled_with (assembled (after_lines k s)) f (after_lines k s) out

unfoldable pub made_in : List ℕ → List ℕ → List ℕ
made_in s out = pick (ltb longest_text (length s)) out (filled_by (front_of s) s out)
