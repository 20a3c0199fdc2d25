-- `table::read::item` meets its contract: past the end there are zeros, and so in the last byte of an item that is cut off.
use native.Mathlib.Omega.{arith}
use Prim.Native.Nat.{◌*◌}
use Rattle.table.proofs.Words.{double_word_cut, double_word_past_end}
use Rattle.table.proofs.read.item.Goals as goal

pub returns-then-whole-a : goal.returns-then-whole-a
returns-then-whole-a c =
    double_word_past_end c.args.l.now (4 * c.args.a) (omega (arith, c.if-whole-a.true))

pub returns : goal.returns
returns c =
    double_word_cut _ _ _ _ _ (omega arith) (rw c.byte.ensures at c.wide.ensures) (rw c.byte-2.ensures at c.wide-2.ensures) (rw c.byte-3.ensures at c.wide-3.ensures)
