-- `rows::name_of` meets its contract.
use mathlib.Core.Path.{sym}
use native.Mathlib.Omega.{arith}
use lib.ListN.{get_or-eq_default}
use Rattle.rows.proofs.name_of.Goals as goal

pub returns-else-x-names : goal.returns-else-x-names
returns-else-x-names c = record { value = sym (get_or-eq_default c.args.names.now 0 (omega (arith, c.if-x-names.false))); small = omega arith }
