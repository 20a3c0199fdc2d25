-- `run_memory::packing::unpack` meets its contract: each part is read where it stands.
use Rattle.schedule.specs.declared.Run.{Run}
use Rattle.run_memory.proofs.packing.unpack.Goals as goal

pub returns : goal.returns
returns c =
    let run : Run = c.args.run in
    λ i.
    record {
      table = run.table;
      length = run.length;
      workers = run.workers;
      quota = run.quota;
      next = c.row_out.ensures i;
      status = c.statuses_out.ensures i;
      amounts = c.amounts_out.ensures i;
      left = c.row_out-2.ensures i;
      right = c.row_out-3.ensures i;
      leftmost = c.head_at.ensures i;
      worker = c.workers_out-worker.ensures i;
      busy = c.head_at-2.ensures i;
      held = c.total_at.ensures i;
      highest = c.total_at-2.ensures i;
      turns = c.total_at-3.ensures i;
    }
