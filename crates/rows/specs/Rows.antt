-- Rows of a table as code puts them: each number cut to the bytes that it has.
use Rattle.std.specs.Prelude.{ℕ, zero, suc, ◌+◌, ◌/◌, ◌%◌, List, [], ◌∷◌, ◌++◌, get_or, length, drop}
use Rattle.table.specs.Format.{kind_of, code_at, argument_at, first_of, count_of, bodies_of}
use Rattle.parts.specs.Copies.{renamed}

-- what is put at the start of a buffer, and what stood there after it
abbrev pub over : List ℕ → List ℕ → List ℕ
over front out = front ++ drop (length front) out

-- two numbers of 16 bits
abbrev pub cut_pair : ℕ → ℕ → List ℕ
cut_pair a b = a % 256 ∷ a / 256 % 256 ∷ b % 256 ∷ b / 256 % 256 ∷ []

-- "kind (8 bits), argument (24 bits)"
abbrev pub cut_action : ℕ → ℕ → List ℕ
cut_action k x = k ∷ x % 256 ∷ x / 256 % 256 ∷ x / 65536 % 256 ∷ []

-- k actions of a list from a on, where threads are renamed by f
unfoldable pub renamed_rows : List ℕ → (ℕ → ℕ) → ℕ → ℕ → List (List ℕ)
renamed_rows l f a zero = []
renamed_rows l f a (suc k) = cut_action (code_at l a) (renamed f (kind_of (code_at l a)) (argument_at l a)) ∷ renamed_rows l f (suc a) k

-- ---- a table's threads in another order

-- the new numbers out of a list
abbrev pub named_by : List ℕ → ℕ → ℕ
named_by names x = get_or names x 0

-- their entries, where k actions stand before
unfoldable pub ordered_entries : List ℕ → ℕ → List ℕ → List (List ℕ)
ordered_entries s k [] = []
ordered_entries s k (t ∷ ts) = cut_pair k (count_of s t) ∷ ordered_entries s ((k + count_of s t) % 65536) ts

-- their bodies, threads renamed by f
unfoldable pub ordered_rows : List ℕ → (ℕ → ℕ) → List ℕ → List (List ℕ)
ordered_rows s f [] = []
ordered_rows s f (t ∷ ts) = renamed_rows (bodies_of s) f (first_of s t) (count_of s t) ++ ordered_rows s f ts

-- ---- a table's threads and actions moved up

-- threads moved up by o
abbrev pub moved_by : ℕ → ℕ → ℕ
moved_by o x = o + x

-- the entries of k threads of a table from t on, where o actions stand before the table's
unfoldable pub shifted_entries : List ℕ → ℕ → ℕ → ℕ → List (List ℕ)
shifted_entries s o t zero = []
shifted_entries s o t (suc k) = cut_pair (o + first_of s t) (count_of s t) ∷ shifted_entries s o (suc t) k
