-- `wivakkol::begin::wivakkol_begin_on` meets its contract: the memory of a refused beginning, of one that lacks room, and of one that is accepted; and the lent buffer.
use mathlib.Core.Path.{◌∙◌}
use lib.ListN.{length}
use Rattle.wivakkol.proofs.Begins.{handed_into, refuses, lacks, starts}
use Rattle.wivakkol.proofs.begin.wivakkol_begin_on.Goals as goal

pub returns-in-Err : goal.returns-in-Err
returns-in-Err c =
    let a = c.args in
    let e = c.accept_in-begun.ensures in
    record {
      totals_after = refuses a.table.now a.p a.quota c.workers.ensures (length a.filled.now) e.value e.next_after e.parents_after
          (c.put_nobody.ensures.holds_after, c.put_nobody.ensures.heads_after) c.in-Err.is (c.put_links-in-Err.ensures.left_after, c.put_links-in-Err.ensures.under_after);
      filled_after = e.filled_after ∙ handed_into a.table.now a.p a.quota c.workers.ensures a.filled.now;
      rises_after = e.rises_after;
    }

pub returns-then-room-bytes : goal.returns-then-room-bytes
returns-then-room-bytes c =
    let a = c.args in
    let e = c.accept_in-begun.ensures in
    record {
      totals_after = lacks a.table.now a.p a.quota c.workers.ensures (length a.filled.now) e.value e.next_after e.parents_after
          (c.put_nobody.ensures.holds_after, c.put_nobody.ensures.heads_after) c.in-Ok.is c.if-room-bytes.true (c.put_links.ensures.left_after, c.put_links.ensures.under_after);
      filled_after = e.filled_after ∙ handed_into a.table.now a.p a.quota c.workers.ensures a.filled.now;
      rises_after = e.rises_after;
    }

pub returns-else-room-bytes : goal.returns-else-room-bytes
returns-else-room-bytes c =
    let a = c.args in
    let e = c.accept_in-begun.ensures in
    record {
      totals_after = starts a.table.now a.p a.quota c.workers.ensures (length a.filled.now) e.value e.next_after e.parents_after
          (c.put_nobody.ensures.holds_after, c.put_nobody.ensures.heads_after) c.in-Ok.is c.if-room-bytes.false (c.put_links-in-Ok.ensures.left_after, c.put_links-in-Ok.ensures.under_after);
      filled_after = e.filled_after ∙ handed_into a.table.now a.p a.quota c.workers.ensures a.filled.now;
      rises_after = e.rises_after;
    }
