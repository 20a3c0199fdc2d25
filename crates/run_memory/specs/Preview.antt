-- A turn on a run in lent memory, shown before it is taken (N4).
use Rattle.std.specs.Prelude.{ℕ, List, eqb, get_or, Err, Ok, Result}
use Rattle.table.specs.Sum.{pick}
use Rattle.schedule.specs.declared.Reply.{Reply}
use Rattle.run_memory.specs.declared.preview.Foreseen.{Foreseen}
use Rattle.run_memory.specs.Memory.{Memory, Told, turn_in, passed_over}

-- what a turn would say, how many threads it would pass over, and after it memory held, its highest and the worker's quota left
abbrev pub would : Reply → ℕ → ℕ → ℕ → ℕ → Result Foreseen ℕ
would reply passed held highest quota = Ok (record { reply = reply; passed = passed; held = held; highest = highest; quota = quota })

-- of a turn of worker w and how many threads it passes over: its reply and, in the memory that it leaves, "memory held, its highest and the worker's quota left"; or its refusal's number
abbrev pub foreseen_as : Told → ℕ → ℕ → Result Foreseen ℕ
foreseen_as t passed w =
    pick (eqb t.number 0) (would t.reply passed (get_or t.memory.totals 0 0) (get_or t.memory.totals 1 0) (get_or t.memory.quotas w 0)) (Err t.number)

-- "It equals taking the turn on a copy, refusals included"
unfoldable pub foreseen_in : List ℕ → ℕ → Memory → Result Foreseen ℕ
foreseen_in s w M = foreseen_as (turn_in s w M) (passed_over M w) w
