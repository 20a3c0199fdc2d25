-- `table::read::bodies` meets its contract: the part from a place on is all that is left from there, and nothing past the end.
use mathlib.Core.Path.{sym, ◌∙◌}
use Prim.Native.Nat.{◌+◌, ◌*◌}
use native.Mathlib.Omega.{arith}
use lib.ListN.{length, drop_of_length-le}
use Rattle.table.proofs.Parts.{rest_part}
use Rattle.table.proofs.read.bodies.Goals as goal

pub returns-then-end-n : goal.returns-then-end-n
returns-then-end-n c =
    let s = c.args.table.now in
    rest_part s (length s)
    ∙ drop_of_length-le s {i = length s} (omega arith)
    ∙ sym (drop_of_length-le s {i = 4 + 4 * c.args.n} (omega (arith, c.if-end-n.true)))

pub returns : goal.returns
returns c = rest_part c.args.table.now (4 + 4 * c.args.n)
