-- `most::most_turns_in` meets its contract: the table's own checks, then those of a beginning; the working memory is as checking leaves it.
use Rattle.std.specs.Prelude.{Err}
use mathlib.Core.Path.{sym, ap, ◌∙◌}
use Rattle.std.proofs.lemmas.Result.{err_from_is_err_and}
use Rattle.table.proofs.Passes.{passes_rules}
use Rattle.most.proofs.Answers.{refused_own, own_whole, values_are}
use Rattle.most.proofs.most_turns_in.Goals as goal

pub turns_for-requires : goal.turns_for-requires
turns_for-requires c = (passes_rules _).0 (sym c.check_in.ensures.value ∙ c.in_ok-check_in.was)

pub returns-in_err-check_in : goal.returns-in_err-check_in
returns-in_err-check_in c =
    let (y, e, q) = err_from_is_err_and _ c.from_residual.ensures.1 in
    let v = values_are _ _ _ (e ∙ (ap Err q ∙ refused_own _ _ _ _ (sym c.check_in.ensures.value ∙ c.in_err-check_in.was))) in
    record { value = v.0; result_value = v.1; rises_after = c.check_in.ensures.rises_after }

pub returns : goal.returns
returns c =
    let v = values_are _ _ _ (c.turns_for.ensures ∙ own_whole _ _ _ (sym c.check_in.ensures.value ∙ c.in_ok-check_in.was)) in
    record { value = v.0; result_value = v.1; rises_after = c.check_in.ensures.rises_after }
