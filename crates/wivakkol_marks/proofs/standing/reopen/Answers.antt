-- `wivakkol_marks::standing::reopen` meets its contract, answer by answer.
use Rattle.wivakkol_marks.proofs.Fits.{reopens_sound, reopens_blank, reopens_none}
use Rattle.wivakkol_marks.proofs.standing.reopen.Goals as goal

pub returns-in-Sound : goal.returns-in-Sound
returns-in-Sound c =
    let e = c.standing_in-found.ensures in
    let a = c.args in
    reopens_sound a.table.now a.bytes.now a.words.now a.numbers.now a.sums.now e.value c.in-Sound.is c.put_beside.ensures e.seen_after e.laid_out
    c.head_at-leftmost.ensures c.fill_actives-first.ensures

pub returns-in-Blank : goal.returns-in-Blank
returns-in-Blank c =
    let e = c.standing_in-found.ensures in
    let a = c.args in
    reopens_blank a.table.now a.bytes.now a.words.now a.numbers.now a.sums.now e.value c.in-Blank.is c.put_beside-in-Blank.ensures e.seen_after e.forks_after.0 e.forks_after.1

pub returns-in-Neither : goal.returns-in-Neither
returns-in-Neither c =
    let e = c.standing_in-found.ensures in
    let a = c.args in
    reopens_none a.table.now a.bytes.now a.words.now a.numbers.now a.sums.now e.value c.in-Neither.is
