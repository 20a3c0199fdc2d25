use mathlib.Core.Path.{refl}
use native.Mathlib.Omega.{arith}
use Rattle.run_memory.proofs.WorkerRecords.{one_more, all_sixteen}
use Rattle.run_memory.proofs.lent.workers_at.Goals as goal

pub loop-w-init : goal.loop-w-init
loop-w-init c = record { size = refl; right = λ i l. absurd (omega (arith, l)) }

pub loop-w-preserved : goal.loop-w-preserved
loop-w-preserved c = one_more c.loop-w.invariant c.loop-w-test.true _ c.worker_at.ensures

pub returns : goal.returns
returns c = all_sixteen c.loop-w.invariant c.loop-w-test.false
