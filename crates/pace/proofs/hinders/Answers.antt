-- `pace::hinders` meets its contract.
use mathlib.Core.Path.{sym, ◌∙◌}
use native.Mathlib.Omega.{arith}
use Rattle.pace.proofs.Steps.{number_30, number_may}
use borrow.Author.Rules.{rules}
use Rattle.pace.proofs.hinders.Goals as goal

pub returns-then-pace-w : goal.returns-then-pace-w
returns-then-pace-w c = let d = c.args in sym (number_30 d.pace.now d.w (omega arith))

pub returns-then-may : goal.returns-then-may
returns-then-may c =
    let d = c.args in
    sym (number_may d.pace.now d.w (omega arith) (sym c.if-may.true ∙ c.may.ensures))

pub returns-else-may : goal.returns-else-may
returns-else-may c =
    let d = c.args in
    sym (number_may d.pace.now d.w (omega arith) (sym c.if-may.false ∙ c.may.ensures))
