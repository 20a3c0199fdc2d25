-- `soundness::bodies::end_of` meets its contract: a body is not empty, so that the action before its end is its last.
use native.Mathlib.Omega.{arith}
use Rattle.table.specs.Format.{table_of}
use Rattle.order.proofs.Lawful.{lawful}
use Rattle.soundness.proofs.Lookups.{Body, body}
use Rattle.soundness.proofs.bodies.end_of.Goals.{Start}
use Rattle.soundness.proofs.bodies.end_of.Goals as goal

at_start : (c : Start) → Body (table_of c.args.table.now) c.args.t
at_start c = body (lawful _ c.requires.rules) c.requires.t_bound

pub overflow_add-result : goal.overflow_add-result
overflow_add-result c = omega arith

pub overflow_sub-result : goal.overflow_sub-result
overflow_sub-result c = omega (arith, (at_start (goal.at.overflow_sub-result c).Start).some, c.count.ensures.value)

pub returns : goal.returns
returns c = omega (arith, (at_start (goal.at.returns c).Start).ends, c.first.ensures.value, c.count.ensures.value)
