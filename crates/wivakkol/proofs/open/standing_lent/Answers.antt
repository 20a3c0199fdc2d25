-- `wivakkol::open::standing_lent` meets its contract: what the parts hold, with the workers' truth values.
use Rattle.wivakkol.proofs.Opens.{tests_standing}
use Rattle.wivakkol.proofs.open.standing_lent.Goals as goal

pub returns : goal.returns
returns c =
    let e = c.standing_of.ensures in
    record {
      by_index = λ parents under over. tests_standing _ _ c.workers.ensures c.workers_at-records.ensures c.truths_right.ensures e.value;
      seen_after = e.seen_after;
      rises_after = e.rises_after;
      forks_after = e.forks_after;
    }
