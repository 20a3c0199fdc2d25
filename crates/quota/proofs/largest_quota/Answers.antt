-- `quota::largest_quota` meets its contract: the table's own checks, then those of the quota.
use Rattle.std.specs.Prelude.{Err}
use mathlib.Core.Path.{sym, ap, ◌∙◌}
use Rattle.std.proofs.lemmas.Result.{err_from_is_err_and}
use Rattle.quota.proofs.Checks.{refused_own, accepted_own, own_whole, values_are}
use Rattle.quota.proofs.largest_quota.Goals as goal

pub quota_for-requires : goal.quota_for-requires
quota_for-requires c = accepted_own _ _ (sym c.load.ensures.value ∙ c.in_ok-facts.was)

pub returns-in_err-facts : goal.returns-in_err-facts
returns-in_err-facts c =
    let (y, e, q) = err_from_is_err_and _ c.from_residual.ensures.1 in
    let both = values_are _ _ _ _ (e ∙ (ap Err q ∙ refused_own _ _ _ _ _ (sym c.load.ensures.value ∙ c.in_err-facts.was))) in
    record { value = both.0; result_value = both.1 }

pub returns : goal.returns
returns c =
    let a = accepted_own _ _ (sym c.load.ensures.value ∙ c.in_ok-facts.was) in
    let both = values_are _ _ _ _ (c.quota_for.ensures ∙ own_whole _ _ _ _ a.rules) in
    record { value = both.0; result_value = both.1 }
