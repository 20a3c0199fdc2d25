-- `rows::put_body` meets its contract. The invariant: the rows of the actions that are left are what is left (RowsLeft).
use Prim.Native.Nat.{◌-◌}
use Rattle.rows.specs.Rows.{named_by}
use Rattle.rows.proofs.RowsLeft.{Inv}
use Rattle.rows.proofs.put_body.Given as goal

abbrev pub invariant-loop-i : goal.invariant-loop-i
invariant-loop-i l = Inv l.initial.out l.initial.at l.actions l.first l.count (named_by l.names) l.out l.at l.i
