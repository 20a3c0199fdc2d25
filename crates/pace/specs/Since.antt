-- What the rule with b asks of the next turn, from the turns taken: of each two workers, how many turns the one has had since the other's latest.
use Rattle.std.specs.Prelude.{ℕ, ◌+◌, ◌≤◌, List, [], ◌∷◌, eqb}
use Rattle.table.specs.Sum.{pick}
use Rattle.schedule.specs.Memory.{count_in}

-- 0 where x has had no turn; else one more than the turns of w since x's latest: what w's turns since then come to if w has the next turn
unfoldable pub since_latest : ℕ → ℕ → List ℕ → ℕ
since_latest x w [] = 0
since_latest x w (v ∷ row) = pick (eqb (since_latest x w row) 0) (pick (eqb v x) (1 + count_in w row) 0) (since_latest x w row)

-- the same of another worker, and 0 of a worker and itself
unfoldable pub asked_of : ℕ → ℕ → List ℕ → ℕ
asked_of x w row = pick (eqb x w) 0 (since_latest x w row)

-- the rule with b asks no more of the next turn, if worker w has it
unfoldable pub Asks : ℕ → List ℕ → ℕ → Type 0
Asks b row w = (x : ℕ) → asked_of x w row ≤ b

-- one more than the worker of the latest turn, 0 where there is none
unfoldable pub after_latest : List ℕ → ℕ
after_latest [] = 0
after_latest (w ∷ row) = pick (eqb (after_latest row) 0) (1 + w) (after_latest row)
