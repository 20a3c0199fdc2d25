-- `peak_walk::fill::peak_of` meets its contract. The invariant: the lists are right at all loads below r.
use Rattle.std.proofs.Common.{◌≡◌, ℕ, suc, ◌+◌, ◌-◌, ◌<◌, ◌≤◌, Bool, List, get_or, sym, ap, ◌∙◌, add-one, arith, rules}
use Rattle.table.specs.Format.{Table, table_of}
use Rattle.order.proofs.Lawful.{lawful}
use Rattle.peaks.specs.Peak.{peak_on}
use Rattle.peak_walk.specs.Peaked.{standing}
use Rattle.peak_walk.specs.Code.Walk.{Accepted, Right}
use Rattle.peak_walk.proofs.Filled.{filled_load}
use Rattle.peak_walk.proofs.fill.peak_of.Given as goal

abbrev pub invariant-loop-r : goal.invariant-loop-r
invariant-loop-r l = (l.r ≤ suc l.load) × Right (table_of l.table) l.resting l.peaks l.finals l.rows l.r l.n
