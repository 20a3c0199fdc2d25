-- `rows::put_actions` meets its contract. The invariant: the rows of the actions that are left are what is left (RowsLeft).
use Prim.Native.Nat.{◌-◌}
use Rattle.rows.specs.Rows.{moved_by}
use Rattle.rows.proofs.RowsLeft.{Inv}
use Rattle.rows.proofs.put_actions.Given as goal

abbrev pub invariant-loop-i : goal.invariant-loop-i
invariant-loop-i l = Inv l.initial.out l.initial.at l.actions 0 l.count (moved_by l.o) l.out l.at l.i
