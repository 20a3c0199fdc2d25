-- `useful_limit::gather::parallel_at` meets its contract: no check applies to an accepted table.
use Rattle.useful_limit.proofs.Gathered.{parallel_given}
use Rattle.useful_limit.proofs.gather.parallel_at.Goals as goal

pub returns : goal.returns
returns c = parallel_given _ c.requires c.parallel_in.ensures.value c.unwrap_or.ensures
