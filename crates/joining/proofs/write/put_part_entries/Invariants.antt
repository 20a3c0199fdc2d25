-- `joining::write::put_part_entries` meets its contract. The invariant is OverParts'.
use Prim.Native.Nat.{suc, ◌*◌}
use lib.ListN.{length}
use Rattle.joining.specs.Answers.{parts_of}
use Rattle.joining.specs.Code.Rows.{entries_over, actions_over}
use Rattle.joining.proofs.OverParts.{Inv}
use Rattle.joining.proofs.write.put_part_entries.Given as goal

abbrev pub invariant-loop-i : goal.invariant-loop-i
invariant-loop-i l = Inv entries_over actions_over l.initial.out l.initial.at (suc (2 * length l.lengths)) (parts_of l.lengths l.tables) l.out l.at l.before l.i
