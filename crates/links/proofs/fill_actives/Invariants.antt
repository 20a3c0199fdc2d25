-- `links::fill_actives` meets its contract. The invariant: the whole filling is what the filling from t on makes of the links so far.
use Rattle.schedule.specs.Links.{no_thread}
use Rattle.schedule.specs.Actives.{no_links, filled_from}
use Rattle.links.proofs.Filling.{FilledTo}
use Rattle.links.proofs.fill_actives.Given as goal

abbrev pub invariant-loop-passed : goal.invariant-loop-passed
invariant-loop-passed l =
    FilledTo (filled_from 1024 l.status l.right l.leftmost no_thread no_links) 1024 l.status l.right (record { left = l.under; right = l.over; head = l.first }) l.last l.t l.passed
