-- `facts::load` meets its contract: where no check applies every rule is kept, and the facts are the definitions'.
use Rattle.std.specs.Prelude.{Ok}
use mathlib.Core.Path.{◌≡◌, sym, ◌∙◌}
use native.Mathlib.Omega.{arith}
use Rattle.table.specs.Pass.{first_found}
use Rattle.table.specs.Checks.{passes}
use Rattle.facts.specs.Code.Steps.{Kept}
use Rattle.std.proofs.lemmas.Result.{err_from_is_err_and}
use Rattle.facts.proofs.Accepted.{kept, small, shallow, few_levels, facts_are, refused, accepted, answered}
use Rattle.facts.proofs.load.Goals.{After-actions-m}
use Rattle.facts.proofs.load.Goals as goal

-- the table keeps the rules
none : (c : After-actions-m) → first_found (passes c.args.table.now) ≡ Ok tt
none c = sym c.check.ensures ∙ c.in_ok-check.was

known : (c : After-actions-m) → Kept c.args.table.now c.threads-n.result c.actions-m.result
known c = kept _ (none c) c.threads-n.ensures.value c.actions-m.ensures.value

pub returns-in_err-check : goal.returns-in_err-check
returns-in_err-check c =
    let p = err_from_is_err_and c.from_residual.result c.from_residual.ensures.1 in
    let both = answered _ (refused c.args.table.now (sym c.check.ensures ∙ c.in_err-check.was)) in
    record { value = rw (p.1, p.2) both.0; result_value = rw (p.1, p.2) both.1 }

pub serial_amounts-amounts-requires : goal.serial_amounts-amounts-requires
serial_amounts-amounts-requires c = known (goal.at.serial_amounts-amounts-requires c).After-actions-m

pub depth-depth-requires : goal.depth-depth-requires
depth-depth-requires c = known (goal.at.depth-depth-requires c).After-actions-m

pub nested_levels-nested-requires : goal.nested_levels-nested-requires
nested_levels-nested-requires c = (known (goal.at.nested_levels-nested-requires c).After-actions-m).nested

pub overflow_cast-result : goal.overflow_cast-result
overflow_cast-result c = omega (arith, small (known (goal.at.overflow_cast-result c).After-actions-m))

pub overflow_cast-result-2 : goal.overflow_cast-result-2
overflow_cast-result-2 c = omega (arith, small (known (goal.at.overflow_cast-result-2 c).After-actions-m))

pub overflow_cast-result-3 : goal.overflow_cast-result-3
overflow_cast-result-3 c = omega (arith, c.depth-depth.ensures, shallow (known (goal.at.overflow_cast-result-3 c).After-actions-m))

pub overflow_cast-result-4 : goal.overflow_cast-result-4
overflow_cast-result-4 c = omega (arith, c.nested_levels-nested.ensures, few_levels (known (goal.at.overflow_cast-result-4 c).After-actions-m))

pub returns : goal.returns
returns c = let both = answered _ (accepted _ (none (goal.at.returns c).After-actions-m) (facts_are (known (goal.at.returns c).After-actions-m) c.serial_amounts-amounts.ensures.peak_value c.depth-depth.ensures c.nested_levels-nested.ensures)) in record { value = both.0; result_value = both.1 }
