-- What the tests of a record answer: whether it passes, and each thread's parent, which the turns after it look up.
use Rattle.std.specs.Prelude.{ℕ, ◌-◌, ◌^◌, List, ◌++◌, Bool, ◌&&◌, length, get_or, replicate, ltb, leb, eqb, Option, None, Some, Result, ⊤}
use Rattle.table.specs.declared.Refusal.{Refusal}
use Rattle.table.specs.Sum.{pick, any_below}
use Rattle.table.specs.Format.{Table, table_of}
use Rattle.table.specs.Pass.{first_found}
use Rattle.table.specs.Checks.{max_threads, passes}
use Rattle.schedule.specs.declared.Worker.{Worker}
use Rattle.schedule.specs.declared.Run.{Run}
use Rattle.schedule.specs.Machine.{parent_of, nobody}
use Rattle.schedule.specs.Links.{Links, list_of, laid}
use Rattle.schedule.specs.Record.{max_workers, table_in}
use Rattle.order.specs.Words.{filled, all_below, is_nothing, same_list}
use Rattle.filling.specs.Filled.{big, filled_out}
use Rattle.filling.specs.Filling.{answer_as, filled_into}
use Rattle.schedule.specs.Begin.{begin_passes}
use Rattle.order.specs.Firsts.{firsts}
use Rattle.schedule.specs.Sound.{common_sound, listed, same_links, sound}
use Rattle.schedule.specs.Turn.{is_nobody, unsound}

-- the parents of a table's threads, 0 from n on
unfoldable pub parents_in : Table → List ℕ
parents_in T = filled max_threads (firsts (parent_of T) 0 T.threads)

-- the parents of a table's threads if a test holds, else 0
abbrev pub parents_if : Bool → Table → List ℕ
parents_if q T = pick q (parents_in T) (replicate max_threads 0)

-- each thread's first action as its next, 0 from n on, if a test holds, else 0
abbrev pub next_if : Bool → Table → List ℕ
next_if q T = pick q (filled max_threads (firsts T.first 0 T.threads)) (replicate max_threads 0)

-- what the checks of a beginning find: the table's own, then 20, 21, 44
abbrev pub begin_found : List ℕ → ℕ → ℕ → Result ⊤ Refusal
begin_found s p K = first_found (passes s ++ begin_passes (table_of s) p K)

-- what the checks of a beginning find, and a number of bytes
pub record Filling : Type 0 where
  pub found : Result ⊤ Refusal
  pub bytes : ℕ

-- and how many bytes the filled-out table has, 0 where a check applies or nothing is above K: then the table as given runs
unfoldable pub begin_filling : List ℕ → ℕ → ℕ → Filling
begin_filling s p K =
    record {
      found = begin_found s p K;
      bytes = pick (is_nothing (begin_found s p K) && any_below (big (table_of s) K) (table_of s).actions) (length (filled_out s K)) 0;
    }

-- what a beginning answers: the bytes, or what is found
abbrev pub begin_answer : List ℕ → ℕ → ℕ → Result ℕ Refusal
begin_answer s p K = answer_as (begin_filling s p K).found (begin_filling s p K).bytes

-- no check applies, and what is to be filled out has room
abbrev pub begins : List ℕ → ℕ → ℕ → ℕ → Bool
begins s p K room = is_nothing (begin_found s p K) && leb (begin_filling s p K).bytes room

-- the lent buffer: as it was where a check applies
abbrev pub begun_into : List ℕ → ℕ → ℕ → List ℕ → List ℕ
begun_into s p K out = pick (is_nothing (begin_found s p K)) (filled_into s K out) out

-- of a record: nothing where 32 applies, "record not sound and not blank"; else the parents, those of the blank record 0
unfoldable pub tested : Run → Option (List ℕ)
tested r = pick (unsound r) None (Some (parents_if (sound r) (table_in r)))

-- what a sound record says of its parts, over the table's bytes: all clauses but those on the copy of the table in the record (`sound_is`, proofs/OnParts)
unfoldable pub sound_on : List ℕ → ℕ → ℕ → List ℕ → List ℕ → List ℕ → Links → List Worker → ℕ → ℕ → ℕ → ℕ → Bool
sound_on s p K next status amounts k workers set amount highest turns =
    common_sound s p K next status amounts workers set amount highest
    && (listed (table_of s) next status (list_of k)
    && (same_links k (laid (list_of k))
    && ltb turns (2 ^ 64 - 1)))

-- what the blank record says of its parts, its table and the table's length apart (`blank_is`, proofs/OnParts)
unfoldable pub blank_on : ℕ → ℕ → List ℕ → List ℕ → List ℕ → Links → List Worker → ℕ → ℕ → ℕ → ℕ → Bool
blank_on p K next status amounts k workers set amount highest turns =
    eqb p 0
    && (eqb K 0
    && (same_list next (replicate max_threads 0)
    && (same_list status (replicate max_threads 0)
    && (same_list amounts (replicate max_threads 0)
    && (same_list k.left (replicate max_threads 0)
    && (same_list k.right (replicate max_threads 0)
    && (eqb k.head 0
    && (eqb (length workers) max_workers
    && (all_below (λ w. is_nobody (get_or workers w nobody)) max_workers
    && (eqb set 0
    && (eqb amount 0
    && (eqb highest 0
    && eqb turns 0))))))))))))
