-- `marking::set_mark` meets its contract: check 32 of the run, and then the call on its memory.
use mathlib.Core.Path.{◌∙◌}
use borrow.Author.Rules.{rules}
use Rattle.soundness.proofs.Passed.{test_fails, test_passes, test_gives}
use Rattle.wivakkol_marks.specs.LentMarks.{marks_of}
use Rattle.wivakkol_marks.proofs.MarkRefines.{kept_size}
use Rattle.marking.proofs.Values.{set_values_lem, set_marks, set_after, set_small, unsound_set, unsound_marks, unsound_after}
use Rattle.marking.proofs.set_mark.Goals as goal

pub returns-in_default : goal.returns-in_default
returns-in_default c = let a = c.args in
    let h = test_fails _ c.in_default.ensures in
    let K = marks_of a.set.now a.markbytes.now a.markwords.now a.marknumbers.now a.marksums.now in record { result_value = c.answer_of.ensures.result_value ∙ unsound_set a.run h K a.i; marksums_after = unsound_marks a.run h K a.i; cleared = c.clear.ensures; marksums_after_2 = unsound_after a.run h K a.i; result_value_2 = c.answer_of.ensures.result_value_2 }

pub set_packed-number-requires : goal.set_packed-number-requires
set_packed-number-requires c =
    test_passes _ _ c.in-Some.ensures

pub answer_of-requires-2 : goal.answer_of-requires-2
answer_of-requires-2 c =
    set_small _ (test_passes _ _ c.in-Some.ensures) _ _ _ c.set_packed-number.ensures.marksums_after

pub returns : goal.returns
returns c = let a = c.args in
    let h = test_passes _ _ c.in-Some.ensures in
    let f = c.set_packed-number.ensures in record { result_value = c.answer_of-2.ensures.result_value ∙ set_values_lem _ h _ _ _ f.marksums_after; marksums_after = set_marks _ h _ _ _ f.marksums_after f.set_len (kept_size a.set.now a.markbytes.now a.markwords.now a.marknumbers.now a.marksums.now); cleared = c.clear-2.ensures; marksums_after_2 = set_after _ h _ _ _ f.marksums_after (test_gives _ _ c.in-Some.ensures); result_value_2 = c.answer_of-2.ensures.result_value_2 }
