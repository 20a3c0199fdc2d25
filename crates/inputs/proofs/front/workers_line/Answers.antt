-- `inputs::front::workers_line` meets its contract: p is given, or something else should have stood there.
use mathlib.Core.Path.{refl, sym, ◌∙◌}
use Rattle.inputs.specs.Front.{workers}
use Rattle.inputs.proofs.Given.{given_goes, given_stops}
use Rattle.std.proofs.lemmas.Result.{err_from_is_err_and}
use Rattle.inputs.proofs.front.workers_line.Goals as goal

pub returns : goal.returns
returns c = given_goes workers _ (sym c.read_figure.ensures ∙ c.in_ok-p.was) (λ buf. refl) refl

pub returns-in_err-p : goal.returns-in_err-p
returns-in_err-p c = let q = err_from_is_err_and c.from_residual.result c.from_residual.ensures.1 in rw (q.1, q.2) (given_stops workers _ (sym c.read_figure.ensures ∙ c.in_err-p.was))
