-- Each thread's parent, looked up once for all the turns of a run.
use Rattle.std.specs.Prelude.{◌≡◌, ℕ, ◌<◌, List, get_or}
use Rattle.table.specs.Format.{Table}
use Rattle.schedule.specs.Machine.{parent_of}

pub record Parents (T : Table) (parents : List ℕ) : Type 0 where
  pub right : (t : ℕ) → t < T.threads → get_or parents t 0 ≡ parent_of T t
