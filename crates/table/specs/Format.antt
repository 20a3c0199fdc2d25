-- The byte format of a job table (document 01, "The job table"), read as functions of thread and action numbers.
use Rattle.std.specs.Prelude.{ℕ, zero, suc, ◌+◌, ◌*◌, ◌%◌, List, Bool, get_or, drop, eqb}
use Rattle.table.specs.Sum.{pick}
use Rattle.table.specs.declared.kinds.Kind.{Kind}
use Rattle.table.specs.declared.kinds.Kind.TheVariants.{End as end, Work as work, Alloc as alloc, Free as free, Fork as fork, Join as join, Unknown as unknown}

-- "Kinds: 0 end, 1 work ..; 2 alloc, 3 free ..; 4 fork, 5 join .."
unfoldable pub kind_of : ℕ → Kind
kind_of zero = end
kind_of (suc zero) = work
kind_of (suc (suc zero)) = alloc
kind_of (suc (suc (suc zero))) = free
kind_of (suc (suc (suc (suc zero)))) = fork
kind_of (suc (suc (suc (suc (suc zero))))) = join
kind_of (suc (suc (suc (suc (suc (suc k)))))) = unknown

unfoldable pub code_of : Kind → ℕ
code_of end = 0
code_of work = 1
code_of alloc = 2
code_of free = 3
code_of fork = 4
code_of join = 5
code_of unknown = 6

-- the two kinds are the same
unfoldable pub is : Kind → Kind → Bool
unfolding code_of
is k j = eqb (code_of k) (code_of j)

-- what an action of kind k counts for the kind own: its argument x where it is of that kind, else 0
abbrev pub own_amount : Kind → Kind → ℕ → ℕ
own_amount own k x = pick (is own k) x 0

-- What a table says: threads n, actions m, "the thread's first action .., its count of actions ..", "kind .., argument ..".
pub record Table : Type 0 where
  pub threads : ℕ
  pub actions : ℕ
  pub first : ℕ → ℕ
  pub count : ℕ → ℕ
  pub code : ℕ → ℕ
  pub argument : ℕ → ℕ

-- an action's kind, from its code of 8 bits
abbrev pub kind : Table → ℕ → Kind
kind T a = kind_of (T.code a)

-- "All numbers are unsigned, little-endian, counted from 0."
abbrev pub u16_at : List ℕ → ℕ → ℕ
u16_at s i = get_or s i 0 + 256 * get_or s (i + 1) 0

abbrev pub u24_at : List ℕ → ℕ → ℕ
u24_at s i = get_or s i 0 + 256 * get_or s (i + 1) 0 + 65536 * get_or s (i + 2) 0

abbrev pub u32_at : List ℕ → ℕ → ℕ
u32_at s i = get_or s i 0 + 256 * get_or s (i + 1) 0 + 65536 * get_or s (i + 2) 0 + 16777216 * get_or s (i + 3) 0

-- "Head, 4 bytes: threads n (16 bits, ..), actions m (16 bits, ..)"
abbrev pub threads_of : List ℕ → ℕ
threads_of s = u16_at s 0

abbrev pub actions_of : List ℕ → ℕ
actions_of s = u16_at s 2

-- "Contents, n entries of 4 bytes: the thread's first action (16 bits), its count of actions (16 bits)"
abbrev pub first_of : List ℕ → ℕ → ℕ
first_of s t = u16_at s (4 + 4 * t)

abbrev pub count_of : List ℕ → ℕ → ℕ
count_of s t = u16_at s (6 + 4 * t)

-- "Bodies, m actions of 4 bytes: kind (8 bits), argument (24 bits)". They stand after the n entries. A list of actions is
-- read alike from its start and from a thread's body on.
abbrev pub bodies_from : List ℕ → ℕ → List ℕ
bodies_from s n = drop (4 + 4 * n) s

abbrev pub bodies_of : List ℕ → List ℕ
bodies_of s = bodies_from s (threads_of s)

abbrev pub code_at : List ℕ → ℕ → ℕ
code_at l a = get_or l (4 * a) 0

abbrev pub argument_at : List ℕ → ℕ → ℕ
argument_at l a = u24_at l (4 * a + 1) % 16777216

-- "A thread's body is handled as the part of the action list where it begins."
abbrev pub body_of : List ℕ → ℕ → List ℕ
body_of s t = drop (4 * first_of s t) (bodies_of s)

unfoldable pub table_of : List ℕ → Table
table_of s =
    record { threads = threads_of s; actions = actions_of s; first = first_of s; count = count_of s; code = code_at (bodies_of s); argument = argument_at (bodies_of s) }
