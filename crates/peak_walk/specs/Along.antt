-- R along the actions of a table, without its threads: on accepted tables it is R (`rise_along_lem`, proofs/RiseAlong).
use Rattle.std.specs.Prelude.{ℕ, zero, suc, ◌+◌, ◌-◌}
use Rattle.table.specs.Sum.{pick, greatest_to}
use Rattle.table.specs.Format.{Table}
use Rattle.table.specs.Checks.{alloc_of, free_of}
use Rattle.peaks.specs.Rests.{rests}

-- an action's own amount since the last resting place, before action a
unfoldable pub since_rest : Table → (ℕ → ℕ) → ℕ → ℕ
since_rest T own zero = 0
since_rest T own (suc a) = pick (rests T (suc a)) 0 (since_rest T own a + own a)

unfoldable pub rise_along : Table → ℕ
rise_along T = greatest_to (λ a. since_rest T (alloc_of T) a - since_rest T (free_of T) a) T.actions
