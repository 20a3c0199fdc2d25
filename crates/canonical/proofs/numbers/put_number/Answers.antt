-- `canonical::numbers::put_number` meets its contract.
use mathlib.Core.Path.{sym}
use Prim.Native.Nat.{◌%◌}
use native.Mathlib.Omega.{arith}
use lib.Seq.{set_out}
use Rattle.canonical.proofs.numbers.put_number.Goals as goal

pub returns-else-x-lt1024 : goal.returns-else-x-lt1024
returns-else-x-lt1024 c = sym (set_out c.args.numbers.now c.args.x (c.args.v % 65536) (omega (arith, c.requires, c.if-x-lt1024.false)))
