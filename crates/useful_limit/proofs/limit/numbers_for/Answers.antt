-- `useful_limit::limit::numbers_for` meets its contract: no check applies to an accepted table.
use Rattle.std.specs.Prelude.{Ok}
use mathlib.Core.Path.{◌≡◌, sym, ap, ◌∙◌}
use native.Mathlib.Omega.{arith}
use Rattle.quota.proofs.Checks.{accepted_own, depth_some, depth_is}
use Rattle.useful_limit.proofs.LimitAnswers.{not_refused}
use borrow.Author.Rules.{rules}
use Rattle.useful_limit.proofs.limit.numbers_for.Goals as goal

pub numbers-requires : goal.numbers-requires
numbers-requires c =
    let q = c.requires.1 in
    let a = accepted_own _ _ (sym c.load_in.ensures.value ∙ c.in_ok-facts.was) in
    (a, record { some_worker = q.some_worker; few_workers = q.few_workers; small_gap = q.small_gap; some_depth = omega (arith, depth_is a, depth_some _ a.rules) }, q.few_quota)

pub returns-in_err-facts : goal.returns-in_err-facts
returns-in_err-facts c = not_refused _ c.requires.0 (sym c.load_in.ensures.value ∙ c.in_err-facts.was)

pub returns : goal.returns
returns c = ap Ok c.numbers.ensures
