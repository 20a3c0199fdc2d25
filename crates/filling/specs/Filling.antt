-- What the calls of this crate answer.
use Rattle.std.specs.Prelude.{ℕ, List, [], ◌∷◌, ◌++◌, Bool, ◌&&◌, ltb, leb, length, drop, Err, Ok, Result, ⊤}
use Rattle.table.specs.declared.Refusal.{Refusal}
use Rattle.table.specs.Sum.{pick, any_below}
use Rattle.table.specs.Format.{Table, table_of, u24_at}
use Rattle.table.specs.Checks.{outside, passes}
use Rattle.table.specs.Pass.{Pass, refusal, try_pass, first_found}
use Rattle.order.specs.Words.{is_nothing}
use Rattle.filling.specs.declared.Total.{Total}
use Rattle.filling.specs.Filled.{big, filled_out, threads_to, actions_to, fill_pass}

-- the threads and actions of the filled-out table; 44 where it would pass a limit
abbrev pub total_as : Table → ℕ → Result ⊤ Refusal → Result Total Refusal
total_as T K (Ok _) = Ok (record { threads = threads_to T K T.actions; actions = actions_to T K T.actions })
total_as T K (Err x) = Err x

abbrev pub total_of : Table → ℕ → Result Total Refusal
total_of T K = total_as T K (try_pass (fill_pass T K))

-- 21: "K outside its range", 1 to 16,777,215
abbrev pub quota_pass : ℕ → Pass
quota_pass K = record { from = 0; places = 1; checks = record { number = 21; applies = λ i. outside 1 16777215 K } ∷ [] }

-- the table's own checks, 21 and 44
abbrev pub fill_found : List ℕ → ℕ → Result ⊤ Refusal
fill_found s K = first_found (passes s ++ (quota_pass K ∷ fill_pass (table_of s) K ∷ []))

-- no check applies, and some alloc is above K; else the table is refused, or runs in place
abbrev pub fills_out : List ℕ → ℕ → Bool
fills_out s K = is_nothing (fill_found s K) && any_below (big (table_of s) K) (table_of s).actions

-- a number of bytes, or what is found
abbrev pub answer_as : Result ⊤ Refusal → ℕ → Result ℕ Refusal
answer_as (Ok _) k = Ok k
answer_as (Err r) k = Err r

-- of such an answer: what is found, and the bytes, 0 where a check applies
abbrev pub found_in : Result ℕ Refusal → Result ⊤ Refusal
found_in (Ok k) = Ok tt
found_in (Err r) = Err r

abbrev pub bytes_in : Result ℕ Refusal → ℕ
bytes_in (Ok k) = k
bytes_in (Err r) = 0

-- how many bytes the filled-out table has, 0 where nothing is filled out, or what is found
unfoldable pub filling_of : List ℕ → ℕ → Result ℕ Refusal
filling_of s K = answer_as (fill_found s K) (pick (fills_out s K) (length (filled_out s K)) 0)

-- the lent buffer: the filled-out table at its start, the rest as it was; nothing is written where nothing is filled out or the room is too little
unfoldable pub filled_into : List ℕ → ℕ → List ℕ → List ℕ
filled_into s K out = pick (fills_out s K && leb (length (filled_out s K)) (length out)) (filled_out s K ++ drop (length (filled_out s K)) out) out

-- ---- the program

-- the bytes of the table that runs, or what is found
abbrev pub answer_of : List ℕ → ℕ → Result ℕ Refusal
answer_of s K = answer_as (fill_found s K) (length (filled_out s K))

-- the table that runs, in place or filled out, at the start of a buffer; the buffer as it was where a check applies
abbrev pub whole_into : List ℕ → ℕ → List ℕ → List ℕ
whole_into s K out = pick (is_nothing (fill_found s K)) (filled_out s K ++ drop (length (filled_out s K)) out) out

-- the input of `filltable`: K (3 bytes) and a table; 33 where it is under 3 bytes
unfoldable pub answer_to : List ℕ → Result ℕ Refusal
answer_to input = pick (ltb (length input) 3) (Err (refusal 33 0)) (answer_of (drop 3 input) (u24_at input 0))

unfoldable pub answered_in : List ℕ → List ℕ → List ℕ
answered_in input out = pick (ltb (length input) 3) out (whole_into (drop 3 input) (u24_at input 0) out)
