-- What is asked of a run and of the memory from which its record is read.
use Rattle.std.specs.Prelude.{◌≡◌, ◌<◌, eqb, length, get_or}
use Rattle.order.specs.Words.{filled}
use Rattle.schedule.specs.declared.Run.{Run}
use Rattle.schedule.specs.Record.{max_bytes, bytes_of}
use Rattle.run_memory.specs.Memory.{Memory}
use Rattle.wivakkol.specs.Opened.{blank_in}

-- the table's bytes are inside its array, with zeros past them; without workers the record is the blank one, and there are few
pub record Restored (run : Run) (M : Memory) : Type 0 where
  pub size : length (bytes_of run) ≡ run.length
  pub rest : run.table ≡ filled max_bytes (bytes_of run)
  pub empty : blank_in M ≡ eqb (get_or M.settings 0 0) 0
  pub few : get_or M.settings 0 0 < 256
