-- `peak_walk::fill::fill_load` meets its contract. The invariant: the lists are right from thread t on.
use Rattle.std.proofs.Common.{◌≡◌, suc, ◌-◌, ◌≤◌, sym, ◌∙◌, subst, arith, rules}
use Rattle.table.specs.Format.{table_of}
use Rattle.peak_walk.specs.Code.Walk.{Right}
use Rattle.peak_walk.proofs.Filled.{few, filled_down}
use Rattle.peak_walk.proofs.fill.fill_load.Given as goal

abbrev pub invariant-loop-t : goal.invariant-loop-t
invariant-loop-t l = (l.t ≤ l.n) × Right (table_of l.table) l.resting l.peaks l.finals l.rows l.r l.t
