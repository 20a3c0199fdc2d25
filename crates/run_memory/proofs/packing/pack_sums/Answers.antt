-- `run_memory::packing::pack_sums` meets its contract: the copies are those of the record's sums.
use Rattle.run_memory.specs.Blocks.{sums_in}
use Rattle.run_memory.proofs.Laying.{sums_laid}
use Rattle.run_memory.proofs.packing.pack_sums.Goals as goal

pub returns : goal.returns
returns c =
    sums_laid c.args.run (sums_in c.args.sums.now) c.copy_amounts.ensures c.put_total.ensures c.put_total-2.ensures c.put_total-3.ensures
