-- `inputs::front::quota_line` meets its contract: K is given, or something else should have stood there.
use mathlib.Core.Path.{refl, sym, ◌∙◌}
use Rattle.inputs.specs.Front.{quota}
use Rattle.inputs.proofs.Given.{given_goes, given_stops}
use Rattle.std.proofs.lemmas.Result.{err_from_is_err_and}
use Rattle.inputs.proofs.front.quota_line.Goals as goal

pub returns : goal.returns
returns c = given_goes (quota c.args.p) _ (sym c.read_figure.ensures ∙ c.in_ok-k.was) (λ buf. refl) refl

pub returns-in_err-k : goal.returns-in_err-k
returns-in_err-k c = let q = err_from_is_err_and c.from_residual.result c.from_residual.ensures.1 in rw (q.1, q.2) (given_stops (quota c.args.p) _ (sym c.read_figure.ensures ∙ c.in_err-k.was))
