-- What the inner functions of the code promise.
use Rattle.std.specs.Prelude.{ℕ, ◌-◌, List, get_or, eqb}
use Rattle.table.specs.Sum.{pick}
use Rattle.schedule.specs.Links.{no_thread}

-- the thread left of place i of a row, `no_thread` at the first
unfoldable pub left_there : List ℕ → ℕ → ℕ
left_there row i = pick (eqb i 0) no_thread (get_or row (i - 1) 0)
