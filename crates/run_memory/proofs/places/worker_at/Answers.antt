-- `run_memory::places::worker_at` meets its contract: each field is what its cell holds.
use Rattle.run_memory.proofs.places.worker_at.Goals as goal

pub returns : goal.returns
returns c =
    λ i.
    record {
      holds = c.holds_at.ensures i;
      thread = c.thread_at.ensures i;
      quota = c.quota_at.ensures i;
    }
