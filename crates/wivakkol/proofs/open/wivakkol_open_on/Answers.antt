-- `wivakkol::open::wivakkol_open_on` meets its contract, answer by answer.
use mathlib.Core.Path.{refl, ap}
use Rattle.wivakkol.specs.Code.Standing.{is_sound}
use Rattle.wivakkol.proofs.Opens.{none_seen, opens_sound, opens_blank, opens_refused}
use Rattle.wivakkol.proofs.open.wivakkol_open_on.Goals as goal

pub returns-in-Sound : goal.returns-in-Sound
returns-in-Sound c =
    let e = c.standing_lent-found.ensures in
    record { totals_after = opens_sound _ _ (e.by_index _ _ _) c.in-Sound.is e.seen_after c.fill_actives-first.ensures; rises_after = e.rises_after; forks_after = (e.forks_after.0, refl, e.forks_after.1) }

pub returns-in-Blank : goal.returns-in-Blank
returns-in-Blank c =
    let e = c.standing_lent-found.ensures in
    record { totals_after = opens_blank _ _ (e.by_index _ _ _) c.in-Blank.is; rises_after = e.rises_after; forks_after = (e.forks_after.0, none_seen _ _ e.seen_after (ap is_sound c.in-Blank.is), e.forks_after.1) }

pub returns-in-Neither : goal.returns-in-Neither
returns-in-Neither c =
    let e = c.standing_lent-found.ensures in
    record { totals_after = opens_refused _ _ (e.by_index _ _ _) c.in-Neither.is; rises_after = e.rises_after; forks_after = (e.forks_after.0, none_seen _ _ e.seen_after (ap is_sound c.in-Neither.is), e.forks_after.1) }
