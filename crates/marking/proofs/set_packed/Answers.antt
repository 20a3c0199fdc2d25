-- `marking::set_packed` meets its contract: what is packed is the record's memory.
use mathlib.Core.Path.{sym, ap, ◌∙◌}
use lib.Seq.{length-take-le}
use borrow.Author.Rules.{rules}
use Rattle.schedule.specs.Record.{bytes_of}
use Rattle.run_memory.specs.Memory.{Memory}
use Rattle.wivakkol_marks.specs.LentMarks.{marks_of, lent_mark}
use Rattle.marking.proofs.Values.{table_inside}
use Rattle.marking.proofs.set_packed.Goals as goal

pub slice_bounds-all-end : goal.slice_bounds-all-end
slice_bounds-all-end c = table_inside _ c.requires

pub slice_bounds-table-end : goal.slice_bounds-table-end
slice_bounds-table-end c =
    sym (length-take-le c.args.run.length c.args.run.table (table_inside c.args.run c.requires))

pub returns : goal.returns
returns c = let a = c.args in
    let e = c.wivakkol_mark_on.ensures in record { marksums_after = e.marksums_after ∙ ap (λ (M : Memory). lent_mark (bytes_of a.run) a.i M (marks_of a.set.now a.markbytes.now a.markwords.now a.marknumbers.now a.marksums.now)) c.pack.ensures; set_len = e.set_len }
