-- The threads in the list after a row of turns, and their limit (change request N2).
use Rattle.std.specs.Prelude.{ℕ, ◌+◌, ◌-◌, ◌*◌, List, length}
use Rattle.table.specs.Format.{Table}
use Rattle.table.specs.Level.{D}
use Rattle.table.specs.Nested.{N}
use Rattle.schedule.specs.Begin.{start_state}
use Rattle.schedule.specs.Memory.{row_state}

-- how many threads the list has after a row of turns from the beginning
unfoldable pub listed_after : Table → ℕ → List ℕ → ℕ
listed_after T K row = length (row_state T K (start_state T) row).list

-- "N + b × (p − 1) × (D − 1)"
unfoldable pub thread_limit : Table → ℕ → ℕ → ℕ
thread_limit T p b = N T + b * (p - 1) * (D T - 1)
