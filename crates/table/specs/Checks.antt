-- The rules of a job table, each as the condition of the check that refuses its breach (document 01, "The job table" and "Where each check stands").
use Rattle.std.specs.Prelude.{ℕ, zero, suc, pred, ◌+◌, ◌-◌, ◌*◌, List, [], ◌∷◌, ◌++◌, Bool, true, false, not, ◌&&◌, ◌||◌, length, ltb, leb, eqb, ℤ, pos, negsuc}
use Rattle.std.proofs.Math.IntN.{sub_ℕ}
use Rattle.table.specs.Sum.{pick, sum_to, any_below}
use Rattle.table.specs.Format.{is, Table, kind, threads_of, actions_of, table_of}
use Rattle.table.specs.declared.kinds.Kind.{Kind}
use Rattle.table.specs.declared.kinds.Kind.TheVariants.{End as end, Work as work, Alloc as alloc, Free as free, Fork as fork, Join as join, Unknown as unknown}
use Rattle.table.specs.Pass.{Pass}

-- ---- the head

-- 1: "under 4 bytes"
abbrev pub too_short : List ℕ → Bool
too_short s = ltb (length s) 4

abbrev pub outside : ℕ → ℕ → ℕ → Bool
outside low high x = ltb x low || ltb high x

-- 2: "n or m outside its range": "threads n (16 bits, 1 to 1,024), actions m (16 bits, 1 to 8,192)"
abbrev pub max_threads : ℕ
max_threads = 1024

abbrev pub max_actions : ℕ
max_actions = 8192

abbrev pub out_of_range : List ℕ → Bool
out_of_range s = outside 1 max_threads (threads_of s) || outside 1 max_actions (actions_of s)

-- 3: "length not 4 + 4n + 4m"
abbrev pub wrong_length : List ℕ → Bool
wrong_length s = not (eqb (length s) (4 + 4 * threads_of s + 4 * actions_of s))

-- ---- the contents

-- "the sum of earlier counts"
abbrev pub counts_below : Table → ℕ → ℕ
counts_below T t = sum_to T.count t

-- 4: "first action not the sum of earlier counts, or count 0"
unfoldable pub entry_wrong : Table → ℕ → Bool
entry_wrong T t = not (eqb (T.first t) (counts_below T t)) || eqb (T.count t) 0

-- 4: "all counts don't add up to m"
unfoldable pub total_wrong : Table → Bool
total_wrong T = not (eqb (counts_below T T.threads) T.actions)

-- ---- the bodies, first pass

-- the thread in whose body an action lies: of the first k, the last that begins at or before it
unfoldable pub owner_below : Table → ℕ → ℕ → ℕ
owner_below T zero a = 0
owner_below T (suc t) a = pick (leb (T.first t) a) t (owner_below T t a)

abbrev pub owner : Table → ℕ → ℕ
owner T a = owner_below T T.threads a

-- the last action of a thread's body
abbrev pub end_of : Table → ℕ → ℕ
end_of T t = pred (T.first t + T.count t)

-- 5: "kind above 5"
unfoldable pub kind_unknown : Table → ℕ → Bool
kind_unknown T a = is unknown (kind T a)

-- "0 end, 1 work (both with argument 0); 2 alloc, 3 free (argument at least 1); 4 fork, 5 join (argument a thread number above the thread's own and below n)"
abbrev pub argument_fits : Kind → ℕ → ℕ → ℕ → Bool
argument_fits end own n x = eqb x 0
argument_fits work own n x = eqb x 0
argument_fits alloc own n x = leb 1 x
argument_fits free own n x = leb 1 x
argument_fits fork own n x = ltb own x && ltb x n
argument_fits join own n x = ltb own x && ltb x n
argument_fits unknown own n x = true

-- 6: "argument against the kind's rule"
unfoldable pub argument_wrong : Table → ℕ → Bool
argument_wrong T a = not (argument_fits (kind T a) (owner T a) T.threads (T.argument a))

-- two truth values that differ
abbrev pub differ : Bool → Bool → Bool
differ true b = not b
differ false b = b

-- 7: "end not last in its body, or last not end"
unfoldable pub end_misplaced : Table → ℕ → Bool
end_misplaced T a = differ (is end (kind T a)) (eqb a (end_of T (owner T a)))

-- ---- the bodies, second pass

-- action a forks thread c
abbrev pub forks : Table → ℕ → ℕ → Bool
forks T c a = is fork (kind T a) && eqb (T.argument a) c

-- an action below a forks thread c
unfoldable pub forked_below : Table → ℕ → ℕ → Bool
forked_below T a c = any_below (forks T c) a

-- 8: "thread forked by an earlier action"
unfoldable pub forked_before : Table → ℕ → Bool
forked_before T a = is fork (kind T a) && forked_below T a (T.argument a)

-- the children that stand open after an action of this kind, from those before it, the latest first; the next thread begins with none
abbrev pub tail : List ℕ → List ℕ
tail [] = []
tail (c ∷ l) = l

abbrev pub opened : Kind → ℕ → List ℕ → List ℕ
opened end c l = []
opened work c l = l
opened alloc c l = l
opened free c l = l
opened fork c l = c ∷ l
opened join c l = tail l
opened unknown c l = l

-- The children that an action's thread has forked and not yet joined before it, the latest first, where the bodies are right (checks 4 to 7) and 8 and 9 apply to no action before it (`open_unjoined`,
-- proofs/Unjoined). A join takes the latest off whatever it names, so after one that names another the list says nothing; but that join is refused, so 9 is given exactly at the first action that
-- breaks the paper's sentence (`refused_nine`, proofs/FirstUnnested).
unfoldable pub open_before : Table → ℕ → List ℕ
open_before T zero = []
open_before T (suc a) = opened (kind T a) (T.argument a) (open_before T a)

abbrev pub is_latest : ℕ → List ℕ → Bool
is_latest c [] = false
is_latest c (d ∷ l) = eqb c d

abbrev pub is_empty : List ℕ → Bool
is_empty [] = true
is_empty (c ∷ l) = false

-- 9: "join not of the latest unjoined child"
unfoldable pub join_not_latest : Table → ℕ → Bool
join_not_latest T a = is join (kind T a) && not (is_latest (T.argument a) (open_before T a))

-- 9: "end with one unjoined"
unfoldable pub end_with_open : Table → ℕ → Bool
end_with_open T a = is end (kind T a) && not (is_empty (open_before T a))

-- ---- after the second pass

-- 11: "thread other than 0 never forked"
unfoldable pub never_forked : Table → ℕ → Bool
never_forked T t = not (forked_below T T.actions t)

-- an action's alloc, and its free: the argument, and 0 for any other kind
unfoldable pub alloc_of : Table → ℕ → ℕ
alloc_of T a = pick (is alloc (kind T a)) (T.argument a) 0

unfoldable pub free_of : Table → ℕ → ℕ
free_of T a = pick (is free (kind T a)) (T.argument a) 0

-- An action's own amount, plus that of a whole child where it is of the kind at which a child counts.
abbrev pub with_child : Table → Kind → (ℕ → ℕ) → (ℕ → ℕ) → ℕ → ℕ
with_child T at own whole a = own a + pick (is at (kind T a)) (whole (T.argument a)) 0

-- The amount of a whole thread: of its actions, and of its children at their joins. Threads nest at most n deep, which is the fuel;
-- `whole_is` (proofs/Amounts) is the same sentence without it.
unfoldable pub whole_within : ℕ → Table → (ℕ → ℕ) → ℕ → ℕ
whole_within zero T own t = 0
whole_within (suc f) T own t = sum_to (λ i. with_child T join own (whole_within f T own) (T.first t + i)) (T.count t)

abbrev pub whole : Table → (ℕ → ℕ) → ℕ → ℕ
whole T own t = whole_within T.threads T own t

-- "so far": the same over the first k actions of a thread
abbrev pub part_of : Table → (ℕ → ℕ) → ℕ → ℕ → ℕ
part_of T own t k = sum_to (λ i. with_child T join own (whole T own) (T.first t + i)) k

-- the number of actions of its thread up to and with action a
abbrev pub up_to : Table → ℕ → ℕ
up_to T a = suc a - T.first (owner T a)

-- "A thread's balance after an action is its allocs less its frees so far, plus the final balances of the children joined so far. It is a signed number";
-- `balance_is` and `balance_only` (proofs/Balances) say that the sentence holds of it, and of no other
unfoldable pub balance : Table → ℕ → ℤ
balance T a = sub_ℕ (part_of T (alloc_of T) (owner T a) (up_to T a)) (part_of T (free_of T) (owner T a) (up_to T a))

abbrev pub negative : ℤ → Bool
negative (pos k) = false
negative (negsuc k) = true

-- 10: "balance below 0"
unfoldable pub balance_below0 : Table → ℕ → Bool
balance_below0 T a = negative (balance T a)

-- ---- the passes, as the document lists them

abbrev pub head_pass : List ℕ → Pass
head_pass s =
    record {
      from = 0;
      places = 1;
      checks =
          record { number = 1; applies = λ i. too_short s }
          ∷ record { number = 2; applies = λ i. out_of_range s }
          ∷ record { number = 3; applies = λ i. wrong_length s }
          ∷ [];
    }

abbrev pub entries_pass : Table → Pass
entries_pass T = record { from = 0; places = T.threads; checks = record { number = 4; applies = entry_wrong T } ∷ [] }

abbrev pub total_pass : Table → Pass
total_pass T = record { from = T.threads; places = 1; checks = record { number = 4; applies = λ i. total_wrong T } ∷ [] }

abbrev pub first_pass : Table → Pass
first_pass T =
    record {
      from = 0;
      places = T.actions;
      checks =
          record { number = 5; applies = kind_unknown T }
          ∷ record { number = 6; applies = argument_wrong T }
          ∷ record { number = 7; applies = end_misplaced T }
          ∷ [];
    }

abbrev pub second_pass : Table → Pass
second_pass T =
    record {
      from = 0;
      places = T.actions;
      checks =
          record { number = 8; applies = forked_before T }
          ∷ record { number = 9; applies = join_not_latest T }
          ∷ record { number = 9; applies = end_with_open T }
          ∷ [];
    }

abbrev pub forked_pass : Table → Pass
forked_pass T = record { from = 1; places = pred T.threads; checks = record { number = 11; applies = never_forked T } ∷ [] }

abbrev pub balance_pass : Table → Pass
balance_pass T = record { from = 0; places = T.actions; checks = record { number = 10; applies = balance_below0 T } ∷ [] }

-- the passes between the head and the balances
abbrev pub shape_passes : Table → List Pass
shape_passes T = entries_pass T ∷ total_pass T ∷ first_pass T ∷ second_pass T ∷ forked_pass T ∷ []

-- "Checks run from top to bottom"
unfoldable pub passes : List ℕ → List Pass
passes s = head_pass s ∷ shape_passes (table_of s) ++ (balance_pass (table_of s) ∷ [])
