-- `inputs::front::memory_line` meets its contract: M is given, or something else should have stood there.
use mathlib.Core.Path.{refl, sym, ◌∙◌}
use Rattle.inputs.specs.Front.{board}
use Rattle.inputs.proofs.Given.{given_goes, given_stops}
use Rattle.std.proofs.lemmas.Result.{err_from_is_err_and}
use Rattle.inputs.proofs.front.memory_line.Goals as goal

pub returns : goal.returns
returns c = given_goes (board c.args.p c.args.b) _ (sym c.read_figure.ensures ∙ c.in_ok-m.was) (λ buf. refl) refl

pub returns-in_err-m : goal.returns-in_err-m
returns-in_err-m c = let q = err_from_is_err_and c.from_residual.result c.from_residual.ensures.1 in rw (q.1, q.2) (given_stops (board c.args.p c.args.b) _ (sym c.read_figure.ensures ∙ c.in_err-m.was))
