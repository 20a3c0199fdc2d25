-- `soundness::numbers::fill_numbers` meets its contract. The invariant: the walk has come to thread t, whose body begins at `first`.
use Rattle.table.specs.Format.{table_of}
use Rattle.soundness.specs.Code.Order.{Numbering}
use Rattle.soundness.proofs.numbers.fill_numbers.Given as goal

abbrev pub invariant-loop-t : goal.invariant-loop-t
invariant-loop-t l = Numbering (table_of l.table) l.next l.t l.first l.numbers
