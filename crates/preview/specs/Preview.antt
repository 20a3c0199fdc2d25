-- A turn shown before it is taken (N4): "the reply that a turn would give and, after it, memory held, its highest and the worker's quota left".
use Rattle.std.specs.Prelude.{ℕ, get_or, Err, Ok, Result}
use Rattle.schedule.specs.declared.Reply.{Reply}
use Rattle.schedule.specs.declared.Taken.{Taken}
use Rattle.schedule.specs.Turn.{taken_turn}
use Rattle.table.specs.declared.Refusal.{Refusal}
use Rattle.schedule.specs.declared.Run.{Run}
use Rattle.schedule.specs.Machine.{nobody}
use Rattle.schedule.specs.Turn.{turned}
use Rattle.schedule.specs.Answers.{turning_values}
use Rattle.schedule.specs.Shown.{Shown}
use Rattle.run_memory.specs.declared.preview.Foreseen.{Foreseen}

-- what a turn would say, how many threads it would pass over, and after it memory held, its highest and the worker's quota left
abbrev pub would : Reply → ℕ → ℕ → ℕ → ℕ → Result Foreseen Refusal
would reply passed held highest quota = Ok (record { reply = reply; passed = passed; held = held; highest = highest; quota = quota })

-- from a turn's answer and the record after it; "refusals included (number and place alone)"
abbrev pub preview_as : Result Taken Refusal → Run → ℕ → Result Foreseen Refusal
preview_as (Ok t) r w = would t.reply t.passed r.held r.highest (get_or r.worker w nobody).quota
preview_as (Err x) r w = Err x

-- "It equals taking the turn on a copy"
unfoldable pub preview_of : Run → ℕ → Result Foreseen Refusal
preview_of r w = preview_as (turned r w).answer (turned r w).run w

-- the paper's numbers and values
abbrev pub shown_values : Result Foreseen Refusal → Shown
shown_values (Ok f) = record { said = turning_values (taken_turn f.reply f.passed); held = f.held; highest = f.highest; quota = f.quota }
shown_values (Err x) = record { said = turning_values (Err x); held = 0; highest = 0; quota = 0 }
