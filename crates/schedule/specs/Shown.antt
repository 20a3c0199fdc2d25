-- The paper's number and values of a turn shown before it is taken (N4): "the reply that a turn would give and, after it, memory held, its highest and the worker's quota left".
use Rattle.std.specs.Prelude.{ℕ, Result, ⊤}
use Rattle.table.specs.declared.Refusal.{Refusal}
use Rattle.table.specs.Pass.{try_at}
use Rattle.table.specs.Load.{if_found}
use Rattle.schedule.specs.declared.Run.{Run}
use Rattle.schedule.specs.Machine.{worker_of}
use Rattle.schedule.specs.Turn.{turn_checks, step_run}
use Rattle.schedule.specs.Answers.{Values}
use Rattle.schedule.specs.Values.{turn_values}

-- those of the turn's answer, and the three amounts, 0 for a refusal
pub record Shown : Type 0 where
  pub said : Values
  pub held : ℕ
  pub highest : ℕ
  pub quota : ℕ

-- from the turn's checks and the machine's step alone
unfoldable pub preview_values : Run → ℕ → Shown
preview_values r w =
    let found : Result ⊤ Refusal = try_at (turn_checks r w) 0 in
    record {
      said = turn_values r w;
      held = if_found found 0 (step_run r w).state.held;
      highest = if_found found 0 (step_run r w).state.highest;
      quota = if_found found 0 (worker_of (step_run r w).state w).quota;
    }
