-- `marking::back_packed` meets its contract: what is packed is the record's memory, and the record is read back from it.
use mathlib.Core.Path.{refl, sym, ap, subst, ◌∙◌}
use lib.Seq.{length-take-le}
use borrow.Author.Rules.{rules}
use Rattle.schedule.specs.Record.{bytes_of}
use Rattle.run_memory.specs.Memory.{Memory}
use Rattle.wivakkol_marks.specs.LentMarks.{marks_of, Going, lent_back}
use Rattle.wivakkol_marks.specs.MarkedIn.{record_in, numbered}
use Rattle.marking.specs.Code.Restored.{Restored}
use Rattle.marking.proofs.Values.{table_inside, back_few, back_stays, back_restored}
use Rattle.marking.proofs.back_packed.Goals as goal

pub slice_bounds-all-end : goal.slice_bounds-all-end
slice_bounds-all-end c = table_inside _ c.requires

pub slice_bounds-table-end : goal.slice_bounds-table-end
slice_bounds-table-end c =
    sym (length-take-le c.args.run.length c.args.run.table (table_inside c.args.run c.requires))

pub answer_of-requires : goal.answer_of-requires
answer_of-requires c =
    let a = c.args in
    let f = c.wivakkol_back_on-number.ensures.sums_after ∙ ap (λ (M : Memory). lent_back (bytes_of a.run) a.i M (marks_of a.set.now a.markbytes.now a.markwords.now a.marknumbers.now a.marksums.now)) c.pack.ensures in
    back_few a.run c.requires _ _ _ (ap (λ (x : Going). x.number) f)

pub returns-then-number-ne0 : goal.returns-then-number-ne0
returns-then-number-ne0 c = let a = c.args in
    let f = c.wivakkol_back_on-number.ensures.sums_after ∙ ap (λ (M : Memory). lent_back (bytes_of a.run) a.i M (marks_of a.set.now a.markbytes.now a.markwords.now a.marknumbers.now a.marksums.now)) c.pack.ensures in
    let n = ap (λ (x : Going). x.number) f in record { answer_value = c.answer_of.ensures.result_value ∙ ap numbered n; answer_value_2 = c.answer_of.ensures.result_value_2; run_value = back_stays a.run c.requires a.parents.now (marks_of a.set.now a.markbytes.now a.markwords.now a.marknumbers.now a.marksums.now) a.i (λ z. c.if-number-ne0.true (n ∙ z)) }

pub restored-after-requires : goal.restored-after-requires
restored-after-requires c =
    let a = c.args in
    let f = c.wivakkol_back_on-number.ensures.sums_after ∙ ap (λ (M : Memory). lent_back (bytes_of a.run) a.i M (marks_of a.set.now a.markbytes.now a.markwords.now a.marknumbers.now a.marksums.now)) c.pack.ensures in
    let n = ap (λ (x : Going). x.number) f in
    subst (λ (N : Memory). Restored a.run N) (sym (ap (λ (x : Going). x.memory) f))
    (back_restored a.run c.requires a.parents.now (marks_of a.set.now a.markbytes.now a.markwords.now a.marknumbers.now a.marksums.now) a.i (sym n ∙ c.if-number-ne0.false))

pub returns : goal.returns
returns c = let a = c.args in
    let f = c.wivakkol_back_on-number.ensures.sums_after ∙ ap (λ (M : Memory). lent_back (bytes_of a.run) a.i M (marks_of a.set.now a.markbytes.now a.markwords.now a.marknumbers.now a.marksums.now)) c.pack.ensures in
    let n = ap (λ (x : Going). x.number) f in record { answer_value = ap numbered (sym c.if-number-ne0.false ∙ n); answer_value_2 = refl; run_value = c.restored-after.ensures ∙ ap (λ (x : Going). record_in (bytes_of a.run) x.memory) f }
