-- `peak_walk::along::rise` meets its contract. The invariant: the greatest of the places before a, and what was drawn and given back since the last resting place.
use Rattle.std.proofs.Common.{◌≡◌, ◌-◌, ◌≤◌}
use Rattle.table.specs.Sum.{greatest_to}
use Rattle.table.specs.Format.{table_of}
use Rattle.table.specs.Checks.{alloc_of, free_of}
use Rattle.peak_walk.specs.Along.{since_rest}
use Rattle.peak_walk.proofs.along.rise.Given as goal

abbrev pub invariant-loop-a : goal.invariant-loop-a
invariant-loop-a l =
    (l.a ≤ l.m) × (l.best ≡ greatest_to (λ i. since_rest (table_of l.table) (alloc_of (table_of l.table)) i - since_rest (table_of l.table) (free_of (table_of l.table)) i) l.a) × (l.up ≡ since_rest (table_of l.table) (alloc_of (table_of l.table)) l.a) × (l.down ≡ since_rest (table_of l.table) (free_of (table_of l.table)) l.a)
