-- Document 01's worked cases on tables that bear a star, as rows of one table with one theorem over all of them, computed on the definitions.
use Rattle.std.specs.Prelude.{◌≡◌, refl, ℕ, ◌+◌, ◌/◌, ◌%◌, List, [], ◌∷◌, ◌++◌, map, length}
use Rattle.table.specs.Sum.{sum_to, sum_over, greatest, any_below, greatest_to}
use Rattle.table.specs.Format.{code_of, kind_of, is, table_of}
use Rattle.table.specs.declared.kinds.Kind.{Kind}
use Rattle.table.specs.declared.kinds.Kind.TheVariants.{End as end, Work as work, Alloc as alloc, Free as free, Fork as fork, Join as join}
use Rattle.table.specs.Pass.{try_at, try_from, try_pass, first_found}
use Rattle.table.specs.Checks.{entry_wrong, total_wrong, owner_below, kind_unknown, argument_wrong, end_misplaced, forked_below, forked_before}
use Rattle.table.specs.Checks.{open_before, join_not_latest, end_with_open, never_forked, alloc_of, free_of, whole_within, balance, balance_below0, passes}
use Rattle.table.specs.Serial.{serial_within, fronts, held_after, peak_of, S1}
use Rattle.table.specs.Level.{fork_below, fork_of, before_it, joined_end, depends_on, level_within, D}
use Rattle.table.specs.Nested.{nest_within, N}
use Rattle.table.specs.Load.{TableValues, values_of, loaded, facts_of}

-- ---- writing a table as bytes

pub record Action : Type 0 where
  pub kind : Kind
  pub argument : ℕ

abbrev pub act : Kind → ℕ → Action
act k x = record { kind = k; argument = x }

abbrev pub bytes16 : ℕ → List ℕ
bytes16 x = x % 256 ∷ x / 256 ∷ []

abbrev pub body_bytes : List Action → List ℕ
body_bytes [] = []
body_bytes (a ∷ l) =
    code_of a.kind ∷ a.argument % 256 ∷ a.argument / 256 % 256 ∷ a.argument / 65536 ∷ body_bytes l

abbrev pub contents_from : ℕ → List (List Action) → List ℕ
contents_from k [] = []
contents_from k (b ∷ bs) = bytes16 k ++ bytes16 (length b) ++ contents_from (k + length b) bs

abbrev pub joined : List (List Action) → List Action
joined [] = []
joined (b ∷ bs) = b ++ joined bs

-- the bytes of a table, from its threads' bodies
abbrev pub written : List (List Action) → List ℕ
written bs = bytes16 (length bs) ++ bytes16 (length (joined bs)) ++ contents_from 0 bs ++ body_bytes (joined bs)

-- ---- the tables

-- "E: thread 0 fork 1, fork 2, join 2, join 1, end; thread 1 alloc 6, work, free 6, end; thread 2 alloc 6, free 6, end."
abbrev pub leaves : List (List Action)
leaves =
    (act alloc 6 ∷ act work 0 ∷ act free 6 ∷ act end 0 ∷ [])
    ∷ (act alloc 6 ∷ act free 6 ∷ act end 0 ∷ [])
    ∷ []

abbrev pub E : List ℕ
E = written ((act fork 1 ∷ act fork 2 ∷ act join 2 ∷ act join 1 ∷ act end 0 ∷ []) ∷ leaves)

-- "Thread 0 of E with its two joins swapped"
abbrev pub swapped : List ℕ
swapped = written ((act fork 1 ∷ act fork 2 ∷ act join 1 ∷ act join 2 ∷ act end 0 ∷ []) ∷ leaves)

-- "Bytes 01 00 01 00 00 00 01 00 00 00 00 00"
abbrev pub least : List ℕ
least = 0x01 ∷ 0x00 ∷ 0x01 ∷ 0x00 ∷ 0x00 ∷ 0x00 ∷ 0x01 ∷ 0x00 ∷ 0x00 ∷ 0x00 ∷ 0x00 ∷ 0x00 ∷ []

-- "One thread alloc 4, alloc 4, end"
abbrev pub two_allocs : List ℕ
two_allocs = written ((act alloc 4 ∷ act alloc 4 ∷ act end 0 ∷ []) ∷ [])

-- "Alloc 6, free 7, end"
abbrev pub overfreed : List ℕ
overfreed = written ((act alloc 6 ∷ act free 7 ∷ act end 0 ∷ []) ∷ [])

-- ---- the rows

pub record Case : Type 0 where
  pub bytes : List ℕ
  pub values : TableValues

abbrev pub accepted : List ℕ → ℕ → ℕ → ℕ → ℕ → ℕ → Case
accepted s n m peak depth nested =
    record {
      bytes = s;
      values = record { number = 0; place = 0; threads = n; actions = m; peak = peak; depth = depth; nested = nested };
    }

abbrev pub refused : List ℕ → ℕ → ℕ → Case
refused s number place =
    record {
      bytes = s;
      values = record { number = number; place = place; threads = 0; actions = 0; peak = 0; depth = 0; nested = 0 };
    }

unfoldable pub cases : List Case
unfolding code_of
cases =
    accepted E 3 12 6 8 2
    ∷ accepted least 1 1 0 1 1
    ∷ refused (least ++ (0 ∷ [])) 3 0
    ∷ refused [] 1 0
    ∷ accepted two_allocs 1 3 8 3 1
    ∷ refused overfreed 10 1
    ∷ refused swapped 9 2
    ∷ []

-- every row's table, loaded, has the row's values
pub worked : map (λ (c : Case). values_of (loaded c.bytes)) cases ≡ map (λ (c : Case). c.values) cases
unfolding cases loaded facts_of sum_to sum_over greatest any_below code_of kind_of is table_of try_at try_from try_pass first_found entry_wrong total_wrong owner_below kind_unknown argument_wrong end_misplaced forked_below forked_before open_before join_not_latest end_with_open never_forked alloc_of free_of whole_within balance balance_below0 passes serial_within fronts held_after peak_of S1 fork_below fork_of before_it joined_end depends_on level_within D greatest_to nest_within N
worked = refl
