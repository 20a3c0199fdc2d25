-- `useful_limit::answer` meets its contract: the table's own checks first.
use Rattle.std.specs.Prelude.{Err}
use mathlib.Core.Path.{sym, ap, ◌∙◌}
use Rattle.std.proofs.lemmas.Result.{err_from_is_err_and}
use Rattle.quota.proofs.Checks.{accepted_own}
use Rattle.useful_limit.proofs.Answers.{refused_own, own_whole}
use Rattle.useful_limit.proofs.answer.Goals as goal

pub fit_for-requires : goal.fit_for-requires
fit_for-requires c = accepted_own _ _ (sym c.load_in.ensures.value ∙ c.in_ok-facts.was)

pub returns-in_err-facts : goal.returns-in_err-facts
returns-in_err-facts c =
    let (y, e, q) = err_from_is_err_and _ c.from_residual.ensures.1 in
    e ∙ (ap Err q ∙ refused_own _ _ _ _ _ (sym c.load_in.ensures.value ∙ c.in_err-facts.was))

pub returns : goal.returns
returns c =
    let a = accepted_own _ _ (sym c.load_in.ensures.value ∙ c.in_ok-facts.was) in
    c.fit_for.ensures ∙ own_whole _ _ _ _ a.rules
