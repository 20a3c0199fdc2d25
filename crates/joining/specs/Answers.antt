-- What joining answers to any bytes and lengths, and what it leaves in the lent buffer.
use Rattle.std.specs.Prelude.{ℕ, suc, ◌+◌, List, [], ◌∷◌, map, Bool, not, ◌||◌, ltb, eqb, length, take, drop, Err, Ok, Result, ⊤}
use Rattle.table.specs.Sum.{pick}
use Rattle.table.specs.Pass.{first_found, refusal}
use Rattle.table.specs.Checks.{max_threads, max_actions, passes}
use Rattle.table.specs.declared.Facts.{Facts}
use Rattle.table.specs.declared.Refusal.{Refusal}
use Rattle.rows.specs.Rows.{over}
use Rattle.joining.specs.Joining.{joined_bytes, weighed, joined_facts}
use Rattle.joining.specs.declared.JoinError.{JoinError}
use Rattle.joining.specs.declared.JoinError.TheVariants.{Whole, InPart}

-- "lent back to back with a list of their lengths"
unfoldable pub parts_of : List ℕ → List ℕ → List (List ℕ)
parts_of [] s = []
parts_of (l ∷ ls) s = take l s ∷ parts_of ls (drop l s)

unfoldable pub sum_of : List ℕ → ℕ
sum_of [] = 0
sum_of (l ∷ ls) = l + sum_of ls

abbrev pub max_parts : ℕ
max_parts = 16

-- 47: "no part, above 16, or lengths that don't add up to the bytes lent"
unfoldable pub parts_wrong : List ℕ → List ℕ → Bool
parts_wrong ls s = eqb (length ls) 0 || (ltb max_parts (length ls) || not (eqb (sum_of ls) (length s)))

-- "then each part's own number and place, first part first", parts counted from i; what follows where none is refused
abbrev pub in_part : Result ⊤ Refusal → ℕ → Result Facts JoinError → Result Facts JoinError
in_part (Ok _) i rest = rest
in_part (Err r) i rest = Err (InPart i r)

unfoldable pub first_refused : ℕ → List (List ℕ) → Result Facts JoinError → Result Facts JoinError
first_refused i [] rest = rest
first_refused i (s ∷ ps) rest = in_part (first_found (passes s)) i (first_refused (suc i) ps rest)

-- 48: "the joined table passes a limit"
abbrev pub too_large : Facts → Bool
too_large f = ltb max_threads f.threads || ltb max_actions f.actions

-- what is joined, where every part is accepted
abbrev pub joined_with : Facts → Result Facts JoinError
joined_with f = pick (too_large f) (Err (Whole (refusal 48 0))) (Ok f)

unfoldable pub joined : List ℕ → List ℕ → Result Facts JoinError
joined ls s = pick (parts_wrong ls s) (Err (Whole (refusal 47 0))) (first_refused 0 (parts_of ls s) (joined_with (joined_facts (map weighed (parts_of ls s)))))

-- the buffer afterwards: the joined table at its start, or as it was
abbrev pub left_by : Result Facts JoinError → List ℕ → List ℕ → List ℕ
left_by (Ok f) bytes out = over bytes out
left_by (Err e) bytes out = out

unfoldable pub joined_in : List ℕ → List ℕ → List ℕ → List ℕ
joined_in ls s out = left_by (joined ls s) (joined_bytes (parts_of ls s)) out

-- the paper's values of an answer: number and place, 0 and 0 for a joined table; n, m, S1, D and N, 0 where none is written; the refused part, else 0
pub record JoinValues : Type 0 where
  pub number : ℕ
  pub place : ℕ
  pub threads : ℕ
  pub actions : ℕ
  pub peak : ℕ
  pub depth : ℕ
  pub nested : ℕ
  pub part : ℕ

abbrev pub refused_values : Refusal → ℕ → JoinValues
refused_values r i =
    record { number = r.number; place = r.place; threads = 0; actions = 0; peak = 0; depth = 0; nested = 0; part = i }

abbrev pub whole_values : Facts → JoinValues
whole_values f =
    record { number = 0; place = 0; threads = f.threads; actions = f.actions; peak = f.peak; depth = f.depth; nested = f.nested; part = 0 }

abbrev pub join_values_of : Result Facts JoinError → JoinValues
join_values_of (Ok f) = whole_values f
join_values_of (Err (Whole r)) = refused_values r 0
join_values_of (Err (InPart i r)) = refused_values r i

-- the same values without the answer: 47, the first part that is refused, 48, or the facts
abbrev pub part_values : Result ⊤ Refusal → ℕ → JoinValues → JoinValues
part_values (Ok _) i rest = rest
part_values (Err r) i rest = refused_values r i

unfoldable pub first_values : ℕ → List (List ℕ) → JoinValues → JoinValues
first_values i [] rest = rest
first_values i (s ∷ ps) rest = part_values (first_found (passes s)) i (first_values (suc i) ps rest)

unfoldable pub join_values : List ℕ → List ℕ → JoinValues
join_values ls s =
    pick (parts_wrong ls s) (refused_values (refusal 47 0) 0)
    (first_values 0 (parts_of ls s)
    (pick (too_large (joined_facts (map weighed (parts_of ls s)))) (refused_values (refusal 48 0) 0) (whole_values (joined_facts (map weighed (parts_of ls s))))))
