-- `inputs::front::limit_line` meets its contract: L is given, or something else should have stood there.
use mathlib.Core.Path.{refl, sym, ◌∙◌}
use Rattle.inputs.specs.Front.{rounds}
use Rattle.inputs.proofs.Given.{given_goes, given_stops}
use Rattle.std.proofs.lemmas.Result.{err_from_is_err_and}
use Rattle.inputs.proofs.front.limit_line.Goals as goal

pub returns : goal.returns
returns c = given_goes (rounds c.args.p c.args.k) _ (sym c.read_figure.ensures ∙ c.in_ok-l.was) (λ buf. refl) refl

pub returns-in_err-l : goal.returns-in_err-l
returns-in_err-l c = let q = err_from_is_err_and c.from_residual.result c.from_residual.ensures.1 in rw (q.1, q.2) (given_stops (rounds c.args.p c.args.k) _ (sym c.read_figure.ensures ∙ c.in_err-l.was))
