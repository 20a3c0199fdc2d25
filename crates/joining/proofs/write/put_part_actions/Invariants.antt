-- `joining::write::put_part_actions` meets its contract. The invariant is OverParts'.
use Rattle.joining.specs.Answers.{parts_of}
use Rattle.joining.specs.Code.Rows.{moved_over, threads_over}
use Rattle.joining.proofs.OverParts.{Inv}
use Rattle.joining.proofs.write.put_part_actions.Given as goal

abbrev pub invariant-loop-i : goal.invariant-loop-i
invariant-loop-i l = Inv moved_over threads_over l.initial.out l.initial.at 1 (parts_of l.lengths l.tables) l.out l.at l.root l.i
