-- `facts::load_in` meets its contract: loading's answer is that of weighing without what is left.
use mathlib.Core.Path.{sym, ap, ◌∙◌}
use Rattle.std.proofs.lemmas.Result.{err_from_is_err_and}
use Rattle.facts.proofs.Accepted.{answered, unweigh, unweigh_is}
use Rattle.facts.proofs.load_in.Goals as goal

pub returns-in_err-weighed : goal.returns-in_err-weighed
returns-in_err-weighed c =
    let p = err_from_is_err_and c.from_residual.result c.from_residual.ensures.1 in
    let r = answered _ (ap unweigh (sym c.in_err-weighed.was ∙ c.weigh_in.ensures.value) ∙ unweigh_is _) in
    record { value = rw (p.1, p.2) r.0; result_value = rw (p.1, p.2) r.1; rises_after = c.weigh_in.ensures.rises_after }

pub returns : goal.returns
returns c =
    let r = answered _ (ap unweigh (sym c.in_ok-weighed.was ∙ c.weigh_in.ensures.value) ∙ unweigh_is _) in
    record { value = r.0; result_value = r.1; rises_after = c.weigh_in.ensures.rises_after }
