-- What a text assembles to: the first line that says what it should not, or the table's bytes and what loading them answers.
use Rattle.std.specs.Prelude.{ℕ, suc, ◌+◌, ◌-◌, ◌*◌, ◌/◌, ◌%◌, Bool, true, false, ◌&&◌, ◌||◌, eqb, ltb, length, drop, Err, Ok, Result}
use Rattle.table.specs.declared.Facts.{Facts}
use mathlib.Core.List.{List, [], ◌∷◌, ◌++◌, flatten}
use Rattle.table.specs.Sum.{pick}
use Rattle.table.specs.Pass.{refusal}
use Rattle.table.specs.Checks.{outside, max_threads, max_actions}
use Rattle.table.specs.Load.{loaded}
use Rattle.table.specs.declared.Refusal.{Refusal}
use Rattle.assembly.specs.Said.{saids}
use Rattle.assembly.specs.declared.Expected.TheVariants.{NextThread}
use Rattle.assembly.specs.declared.Said.{Said}
use Rattle.assembly.specs.declared.Said.TheVariants.{Nothing, Thread, Action, Expects}
use Rattle.assembly.specs.declared.AssemblyError.{AssemblyError}
use Rattle.assembly.specs.declared.AssemblyError.TheVariants.{TooLong, Malformed, Refused}
use Rattle.assembly.specs.declared.Short.{Short}
use Rattle.assembly.specs.declared.check.Counts.{Counts}
use Rattle.assembly.specs.declared.check.Fault.{Fault}
use Rattle.assembly.specs.declared.Expected.{Expected}

-- ---- well-formed texts

abbrev pub counts_of : ℕ → ℕ → Counts
counts_of n m = record { threads = n; actions = m }

abbrev pub fault_at : ℕ → Expected → Fault
fault_at line e = record { line = line; expected = e }

-- after n threads and m actions, one line more: threads stand in order from 0 without a gap, and an action stands in a thread
abbrev pub counted_by : Said → ℕ → ℕ → Result Counts Expected
counted_by Nothing n m = Ok (counts_of n m)
counted_by (Thread t) n m = pick (eqb t n) (Ok (counts_of (n + 1) m)) (Err (NextThread n))
counted_by (Action k x) n m = pick (eqb n 0) (Err (NextThread 0)) (Ok (counts_of n (m + 1)))
counted_by (Expects e) n m = Err e

abbrev pub onward : Result Counts Expected → ℕ → (ℕ → ℕ → Result Counts Fault) → Result Counts Fault
onward (Ok c) line rest = rest c.threads c.actions
onward (Err e) line rest = Err (fault_at line e)

-- threads and actions of a text from a line on, or its first line that is not as it should be
unfoldable pub checked_from : ℕ → ℕ → ℕ → List Said → Result Counts Fault
checked_from line n m [] = Ok (counts_of n m)
checked_from line n m (x ∷ l) = onward (counted_by x n m) line (λ (a b : ℕ). checked_from (suc line) a b l)

-- lines are counted from 1
abbrev pub checked : List Said → Result Counts Fault
checked l = checked_from 1 0 0 l

-- ---- the table's bytes

-- two numbers of 16 bits, little-endian: n and m, and "the thread's first action (16 bits), its count of actions (16 bits)"
abbrev pub pair_row : ℕ → ℕ → List ℕ
pair_row a b = a % 256 ∷ a / 256 % 256 ∷ b % 256 ∷ b / 256 % 256 ∷ []

-- "kind (8 bits), argument (24 bits)"
abbrev pub action_row : ℕ → ℕ → List ℕ
action_row k x = k ∷ x % 256 ∷ x / 256 % 256 ∷ x / 65536 % 256 ∷ []

abbrev pub is_thread : Said → Bool
is_thread Nothing = false
is_thread (Thread t) = true
is_thread (Action k x) = false
is_thread (Expects e) = false

abbrev pub is_action : Said → Bool
is_action Nothing = false
is_action (Thread t) = false
is_action (Action k x) = true
is_action (Expects e) = false

unfoldable pub how_many : (Said → Bool) → List Said → ℕ
how_many p [] = 0
how_many p (x ∷ l) = pick (p x) (suc (how_many p l)) (how_many p l)

-- the actions before the next thread
unfoldable pub body_count : List Said → ℕ
body_count [] = 0
body_count (x ∷ l) = pick (is_thread x) 0 (pick (is_action x) (suc (body_count l)) (body_count l))

-- a thread's entry, where a actions stand before it
abbrev pub entry_rows : Said → ℕ → List Said → List (List ℕ)
entry_rows Nothing a l = []
entry_rows (Thread t) a l = pair_row a (body_count l) ∷ []
entry_rows (Action k x) a l = []
entry_rows (Expects e) a l = []

-- the actions after one line more
abbrev pub actions_after : Said → ℕ → ℕ
actions_after x a = pick (is_action x) (a + 1) a

unfoldable pub entries_from : ℕ → List Said → List (List ℕ)
entries_from a [] = []
entries_from a (x ∷ l) = entry_rows x a l ++ entries_from (actions_after x a) l

abbrev pub action_rows : Said → List (List ℕ)
action_rows Nothing = []
action_rows (Thread t) = []
action_rows (Action k x) = action_row k x ∷ []
action_rows (Expects e) = []

unfoldable pub actions_in : List Said → List (List ℕ)
actions_in [] = []
actions_in (x ∷ l) = action_rows x ++ actions_in l

-- head, contents, bodies
abbrev pub table_rows : ℕ → ℕ → List Said → List (List ℕ)
table_rows n m l = pair_row n m ∷ entries_from 0 l ++ actions_in l

unfoldable pub table_bytes : List Said → List ℕ
table_bytes l = flatten (table_rows (how_many is_thread l) (how_many is_action l) l)

-- ---- the answer

abbrev pub longest_text : ℕ
longest_text = 262144

-- the line of the k-th that passes a test, from a line on; 0 where there is none
abbrev pub left_after : Bool → ℕ → ℕ
left_after counts k = pick counts (k - 1) k

unfoldable pub line_that : (Said → Bool) → ℕ → ℕ → List Said → ℕ
line_that p line k [] = 0
line_that p line k (x ∷ l) = pick (p x && eqb k 0) line (line_that p (suc line) (left_after (p x) k) l)

-- for 4 and 11 the `thread` line
abbrev pub names_thread : ℕ → Bool
names_thread number = eqb number 4 || eqb number 11

-- the line of a table's refusal: for 4 and 11 the place is a thread, for the others an action
unfoldable pub refused_at : Refusal → List Said → ℕ
refused_at r l = pick (names_thread r.number) (line_that is_thread 1 r.place l) (line_that is_action 1 r.place l)

abbrev pub judged : Result Facts Refusal → List Said → Result ℕ AssemblyError
judged (Ok f) l = Ok (length (table_bytes l))
judged (Err r) l = Err (Refused r (refused_at r l))

-- 2: "n or m outside its range", which no line tells
abbrev pub sizes_outside : ℕ → ℕ → Bool
sizes_outside n m = outside 1 max_threads n || outside 1 max_actions m

abbrev pub answered : Result Counts Fault → List Said → Result ℕ AssemblyError
answered (Err e) l = Err (Malformed e.line e.expected)
answered (Ok c) l = pick (sizes_outside c.threads c.actions) (Err (Refused (refusal 2 0) 0)) (judged (loaded (table_bytes l)) l)

unfoldable pub assembled : List ℕ → Result ℕ AssemblyError
assembled s = pick (ltb longest_text (length s)) (Err TooLong) (answered (checked (saids s)) (saids s))

-- the lent buffer afterwards: the table, refused or not, where the text is well-formed and n and m are in range; else as it was
abbrev pub over : List ℕ → List ℕ → List ℕ
over front out = front ++ drop (length front) out

abbrev pub written_in : Result Counts Fault → List Said → List ℕ → List ℕ
written_in (Err e) l out = out
written_in (Ok c) l out = pick (sizes_outside c.threads c.actions) out (over (table_bytes l) out)

unfoldable pub assembled_in : List ℕ → List ℕ → List ℕ
assembled_in s out = pick (ltb longest_text (length s)) out (written_in (checked (saids s)) (saids s) out)

-- ---- in a buffer of some length

-- the bytes of the table that is written, "4 + 4n + 4m"; none where the text gives none
abbrev pub bytes_by : Result Counts Fault → ℕ
bytes_by (Err e) = 0
bytes_by (Ok c) = pick (sizes_outside c.threads c.actions) 0 (4 + 4 * c.threads + 4 * c.actions)

unfoldable pub bytes_needed : List ℕ → ℕ
bytes_needed s = pick (ltb longest_text (length s)) 0 (bytes_by (checked (saids s)))

-- an answer for which a buffer of `room` bytes needs k of them
abbrev pub needing : ℕ → Short
needing k = record { needed = k }

abbrev pub or_short : {E : Type 0} → ℕ → ℕ → Result ℕ E → Result (Result ℕ E) Short
or_short room k a = pick (ltb room k) (Err (needing k)) (Ok a)

unfoldable pub assembling : ℕ → List ℕ → Result (Result ℕ AssemblyError) Short
assembling room s = or_short room (bytes_needed s) (assembled s)

-- the buffer afterwards, as it was where it has fewer than k bytes
abbrev pub kept_if_short : ℕ → List ℕ → List ℕ → List ℕ
kept_if_short k out after = pick (ltb (length out) k) out after

unfoldable pub assembling_in : List ℕ → List ℕ → List ℕ
assembling_in s out = kept_if_short (bytes_needed s) out (assembled_in s out)
