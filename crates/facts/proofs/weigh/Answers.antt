-- `facts::weigh` meets its contract: as `load`, without recursion and with what is left.
use Rattle.std.specs.Prelude.{Ok}
use mathlib.Core.Path.{◌≡◌, sym, ◌∙◌}
use native.Mathlib.Omega.{arith}
use Rattle.table.specs.Pass.{first_found}
use Rattle.table.specs.Checks.{passes}
use Rattle.facts.specs.Code.Steps.{Kept}
use Rattle.std.proofs.lemmas.Result.{err_from_is_err_and}
use Rattle.facts.proofs.Accepted.{kept, small, shallow, few_levels, facts_are, weighed_not, weighed_is}
use Rattle.facts.proofs.weigh.Goals.{After-actions-m}
use Rattle.facts.proofs.weigh.Goals as goal

-- the table keeps the rules
none : (c : After-actions-m) → first_found (passes c.args.table.now) ≡ Ok tt
none c = sym c.check_in.ensures.value ∙ c.in_ok-check_in.was

known : (c : After-actions-m) → Kept c.args.table.now c.threads-n.result c.actions-m.result
known c = kept _ (none c) c.threads-n.ensures.value c.actions-m.ensures.value

pub returns-in_err-check_in : goal.returns-in_err-check_in
returns-in_err-check_in c =
    let p = err_from_is_err_and c.from_residual.result c.from_residual.ensures.1 in
    rw (p.1, p.2) (weighed_not c.args.table.now (sym c.check_in.ensures.value ∙ c.in_err-check_in.was))

pub serial_amounts-amounts-requires : goal.serial_amounts-amounts-requires
serial_amounts-amounts-requires c = known (goal.at.serial_amounts-amounts-requires c).After-actions-m

pub nested_levels-nested-requires : goal.nested_levels-nested-requires
nested_levels-nested-requires c = (known (goal.at.nested_levels-nested-requires c).After-actions-m).nested

pub depth_in-depth-requires : goal.depth_in-depth-requires
depth_in-depth-requires c = known (goal.at.depth_in-depth-requires c).After-actions-m

pub overflow_cast-facts : goal.overflow_cast-facts
overflow_cast-facts c = omega (arith, small (known (goal.at.overflow_cast-facts c).After-actions-m))

pub overflow_cast-facts-2 : goal.overflow_cast-facts-2
overflow_cast-facts-2 c = omega (arith, small (known (goal.at.overflow_cast-facts-2 c).After-actions-m))

pub overflow_cast-facts-3 : goal.overflow_cast-facts-3
overflow_cast-facts-3 c = omega (arith, c.depth_in-depth.ensures, shallow (known (goal.at.overflow_cast-facts-3 c).After-actions-m))

pub overflow_cast-facts-4 : goal.overflow_cast-facts-4
overflow_cast-facts-4 c = omega (arith, c.nested_levels-nested.ensures, few_levels (known (goal.at.overflow_cast-facts-4 c).After-actions-m))

pub returns : goal.returns
returns c =
    weighed_is _ (none (goal.at.returns c).After-actions-m) (facts_are (known (goal.at.returns c).After-actions-m) c.serial_amounts-amounts.ensures.peak_value c.depth_in-depth.ensures c.nested_levels-nested.ensures) c.serial_amounts-amounts.ensures.left_value
