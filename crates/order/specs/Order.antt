-- Serial order as numbers.
use Rattle.std.specs.Prelude.{ℕ}
use Rattle.table.specs.Format.{Table}
use Rattle.table.specs.Serial.{serial_order}
use Rattle.order.specs.Words.{place_in}

-- the 1DF-number of an action: its place in serial order
unfoldable pub number_of : Table → ℕ → ℕ
number_of T a = place_in a (serial_order T)
