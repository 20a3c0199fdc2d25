-- `canonical::numbers::number_at` meets its contract.
use mathlib.Core.Path.{sym}
use native.Mathlib.Omega.{arith}
use lib.ListN.{get_or-eq_default}
use Rattle.canonical.proofs.numbers.number_at.Goals as goal

pub returns-else-x-lt1024 : goal.returns-else-x-lt1024
returns-else-x-lt1024 c =
    record { value = sym (get_or-eq_default c.args.numbers.now 0 (omega (arith, c.requires, c.if-x-lt1024.false))); small = omega arith }
