-- `peak_walk::parallel::pass_body` meets its contract. The invariant: what is reached is the walk over the actions before i.
use Rattle.std.proofs.Common.{◌≡◌, ◌≤◌}
use Rattle.table.specs.Format.{code_at, argument_at, bodies_from}
use Rattle.peak_walk.specs.Code.Parallel.{pass, passed}
use Rattle.peak_walk.proofs.parallel.pass_body.Given as goal

abbrev pub invariant-loop-i : goal.invariant-loop-i
invariant-loop-i l =
    (l.i ≤ l.count) × (pass l.w.balance l.w.children l.w.most ≡ passed (code_at (bodies_from l.table l.n)) (argument_at (bodies_from l.table l.n)) l.bests l.finals l.first l.i)
