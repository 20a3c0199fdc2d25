-- Memory held by a row of turns, from the replies and the table alone; the rule with b; the limit (document 01, "What demand 3 ranges over").
use Rattle.std.specs.Prelude.{◌≡◌, ℕ, ◌+◌, ◌-◌, ◌*◌, ◌≤◌, List, [], ◌∷◌, ◌++◌, map, eqb}
use Rattle.table.specs.Sum.{pick, greatest}
use Rattle.table.specs.Format.{Table}
use Rattle.table.specs.Checks.{alloc_of, free_of}
use Rattle.table.specs.Serial.{S1}
use Rattle.table.specs.Level.{D}
use Rattle.schedule.specs.declared.Reply.{Reply}
use Rattle.schedule.specs.declared.Reply.TheVariants.{Idle, Done, Quota, Wait}
use Rattle.schedule.specs.Machine.{State, turn_of}
use Rattle.schedule.specs.Begin.{start_state}

-- ---- memory held by a row

-- the state after a row of turns
unfoldable pub row_state : Table → ℕ → State → List ℕ → State
row_state T K st [] = st
row_state T K st (w ∷ l) = row_state T K (turn_of T K w st).state l

-- the replies of a row of turns
unfoldable pub replies : Table → ℕ → State → List ℕ → List Reply
replies T K st [] = []
replies T K st (w ∷ l) = (turn_of T K w st).reply ∷ replies T K (turn_of T K w st).state l

-- an amount of the action that a reply says was done, 0 where none was
abbrev pub of_reply : (ℕ → ℕ) → Reply → ℕ
of_reply own Idle = 0
of_reply own (Done t a) = own a
of_reply own (Quota t x) = 0
of_reply own (Wait t c) = 0

unfoldable pub sum_replies : (ℕ → ℕ) → List Reply → ℕ
sum_replies own [] = 0
sum_replies own (x ∷ l) = of_reply own x + sum_replies own l

-- the sum of the arguments of the allocs done in a row, `row_sum alloc_of`, and of the frees done, `row_sum free_of`
abbrev pub row_sum : (Table → ℕ → ℕ) → Table → ℕ → List ℕ → ℕ
row_sum own T K row = sum_replies (own T) (replies T K (start_state T) row)

-- "memory held is the sum of the arguments of the allocs done, less that of the frees done". The difference never stops at 0: the frees done are at most the allocs done (`row_balanced`,
-- proofs/Runs/Rows, and the field `balanced` of the limit, crates/bounds/proofs/Limit).
unfoldable pub row_memory : Table → ℕ → List ℕ → ℕ
row_memory T K row =
    let l : List Reply = replies T K (start_state T) row in
    sum_replies (alloc_of T) l - sum_replies (free_of T) l

-- the front parts of a row, the empty one included
unfoldable pub front_rows : List ℕ → List (List ℕ)
front_rows [] = [] ∷ []
front_rows (w ∷ l) = [] ∷ map (w ∷◌) (front_rows l)

-- "its greatest value after any front part of the row, the empty one included"
unfoldable pub peak_memory : Table → ℕ → List ℕ → ℕ
peak_memory T K row = greatest (row_memory T K) (front_rows row)

-- ---- the rule with b

unfoldable pub count_in : ℕ → List ℕ → ℕ
count_in v [] = 0
count_in v (w ∷ l) = pick (eqb w v) 1 0 + count_in v l

-- A row keeps the rule with b: in every stretch that comes after a turn of w and has no turn of w in it, whether it ends at w's next turn or at the row's end, each other worker has
-- at most b turns. A worker with no turn yet sets no condition.
unfoldable pub Keeps : ℕ → List ℕ → Type 0
Keeps b row =
    (front stretch rest : List ℕ) (w v : ℕ) → row ≡ front ++ w ∷ stretch ++ rest → count_in w stretch ≡ 0 → count_in v stretch ≤ b

-- ---- the limit

-- S1 + b·K·(p − 1)·(D − 1)
unfoldable pub limit : Table → ℕ → ℕ → ℕ → ℕ
limit T p K b = S1 T + b * K * (p - 1) * (D T - 1)
