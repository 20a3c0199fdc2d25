-- `marking::go_back` meets its contract: check 32 of the run, and then the call on its memory.
use mathlib.Core.Path.{refl, ◌∙◌}
use borrow.Author.Rules.{rules}
use Rattle.soundness.proofs.Passed.{test_fails, test_passes}
use Rattle.wivakkol_marks.specs.LentMarks.{marks_of}
use Rattle.marking.proofs.Values.{back_number_lem, back_run, unsound_back, unsound_run}
use Rattle.marking.proofs.go_back.Goals as goal

pub returns-in_default : goal.returns-in_default
returns-in_default c = let a = c.args in
    let h = test_fails _ c.in_default.ensures in record { answer_value = c.answer_of.ensures.result_value ∙ unsound_back a.run h (marks_of a.set.now a.markbytes.now a.markwords.now a.marknumbers.now a.marksums.now) a.i; run_value = unsound_run a.run h (marks_of a.set.now a.markbytes.now a.markwords.now a.marknumbers.now a.marksums.now) a.i; cleared = c.clear.ensures; answer_value_2 = c.answer_of.ensures.result_value_2 }

pub back_packed-gone-requires : goal.back_packed-gone-requires
back_packed-gone-requires c =
    test_passes _ _ c.in-Some.ensures

pub returns : goal.returns
returns c =
    let a = c.args in
    let h = test_passes a.run _ c.in-Some.ensures in
    let f = c.back_packed-gone.ensures in
    let K = marks_of a.set.now a.markbytes.now a.markwords.now a.marknumbers.now a.marksums.now in
    record { answer_value = f.answer_value ∙ back_number_lem a.run h c.in-Some.parents K a.i refl; run_value = back_run a.run h c.in-Some.parents K a.i f.run_value; cleared = c.clear-2.ensures; answer_value_2 = f.answer_value_2 }
