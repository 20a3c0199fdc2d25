-- `peak_walk::along::stretch` meets its contract. The invariant: the greatest of the actions before a, and what the stretch of a has drawn before a.
use Rattle.std.proofs.Common.{◌≡◌, ◌+◌, ◌≤◌}
use Rattle.table.specs.Sum.{greatest_to}
use Rattle.table.specs.Format.{table_of}
use Rattle.peaks.specs.Rests.{drawn_at, drawn_before}
use Rattle.peak_walk.proofs.along.stretch.Given as goal

abbrev pub invariant-loop-a : goal.invariant-loop-a
invariant-loop-a l =
    (l.a ≤ l.m) × (l.best ≡ greatest_to (λ i. drawn_before (table_of l.table) l.quota i + drawn_at (table_of l.table) l.quota i) l.a) × (l.before ≡ drawn_before (table_of l.table) l.quota l.a)
