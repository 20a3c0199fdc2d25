-- `most::turns_for` meets its contract: the answer, check by check.
use Rattle.std.specs.Prelude.{Err}
use Rattle.std.proofs.lemmas.Result.{err_from_is_err_and}
use mathlib.Core.Path.{◌≡◌, sym, ap, ◌∙◌}
use Prim.Native.Nat.{◌≤◌}
use native.Mathlib.Nat.{mul-le-mul}
use native.Mathlib.Omega.{arith}
use mathlib.Core.Bool.{false}
use Rattle.table.specs.Checks.{outside}
use Rattle.table.proofs.Sizes.{inside}
use Rattle.most.proofs.Answers.{many_workers, wide_quota, too_full, count_ready, at_most}
use Rattle.most.proofs.turns_for.Goals.{Else-outside, Else-outside-2}
use Rattle.most.proofs.turns_for.Goals as goal

workers_in_lem : (c : Else-outside) → outside 1 16 c.args.p ≡ false
workers_in_lem c = sym c.outside.ensures ∙ c.if-outside.false

quota_in_lem : (c : Else-outside-2) → outside 1 16777215 c.args.quota ≡ false
quota_in_lem c = sym c.outside-2.ensures ∙ c.if-outside-2.false

pub returns-then-outside : goal.returns-then-outside
returns-then-outside c = ap Err c.new.ensures ∙ many_workers _ _ _ (sym c.outside.ensures ∙ c.if-outside.true)

pub returns-then-outside-2 : goal.returns-then-outside-2
returns-then-outside-2 c = ap Err c.new-then-outside-2.ensures ∙ wide_quota _ _ _ (workers_in_lem (goal.at.returns-then-outside-2 c).Else-outside) (sym c.outside-2.ensures ∙ c.if-outside-2.true)

pub turns_of-requires : goal.turns_of-requires
turns_of-requires c =
    let a = c.args in
    count_ready a.table.now a.p a.quota (workers_in_lem (goal.at.turns_of-requires c).Else-outside) (quota_in_lem (goal.at.turns_of-requires c).Else-outside-2) _ c.count.ensures c.in_ok-total.was c.requires

pub overflow_mul-result : goal.overflow_mul-result
overflow_mul-result c =
    let w = inside 1 16 c.args.p (workers_in_lem (goal.at.overflow_mul-result c).Else-outside) in
    let x : c.turns_of.result ≤ 150000 = omega (arith, c.turns_of.ensures.small) in
    omega (arith, mul-le-mul w.1 x)

pub returns-in_err-total : goal.returns-in_err-total
returns-in_err-total c =
    let (y, e, q) = err_from_is_err_and _ c.from_residual.ensures.1 in
    e ∙ (ap Err q ∙ too_full _ _ _ (workers_in_lem (goal.at.returns-in_err-total c).Else-outside) (quota_in_lem (goal.at.returns-in_err-total c).Else-outside-2) _ c.count.ensures c.in_err-total.was)

pub returns : goal.returns
returns c =
    at_most _ _ _ (workers_in_lem (goal.at.returns c).Else-outside) (quota_in_lem (goal.at.returns c).Else-outside-2) _ c.count.ensures c.in_ok-total.was c.requires _ c.turns_of.ensures.value
