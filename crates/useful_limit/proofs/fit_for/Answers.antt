-- `useful_limit::fit_for` meets its contract: the answer, check by check.
use Rattle.std.specs.Prelude.{Err}
use mathlib.Core.Path.{◌≡◌, sym, ap, ◌∙◌}
use native.Mathlib.Omega.{arith}
use Prim.Native.Nat.{◌≤◌}
use Rattle.table.proofs.Sizes.{inside}
use Rattle.quota.proofs.Checks.{depth_some, depth_is}
use Rattle.useful_limit.proofs.Answers.{many_workers, wide_gap, own_fit_lem}
use borrow.Author.Rules.{rules}
use Rattle.useful_limit.proofs.fit_for.Goals as goal

pub returns-then-outside : goal.returns-then-outside
returns-then-outside c = ap Err c.new.ensures ∙ many_workers _ _ _ _ (sym c.outside.ensures ∙ c.if-outside.true)

pub returns-then-b-gt65535 : goal.returns-then-b-gt65535
returns-then-b-gt65535 c = ap Err c.new-then-b-gt65535.ensures ∙ wide_gap _ _ _ _ (sym c.outside.ensures ∙ c.if-outside.false) c.if-b-gt65535.true

pub parts-parts-requires : goal.parts-parts-requires
parts-parts-requires c =
    let w = inside 1 16 _ (sym c.outside.ensures ∙ c.if-outside.false) in
    let a = c.requires in
    (a, record { some_worker = w.0; few_workers = w.1; small_gap = c.if-b-gt65535.false; some_depth = omega (arith, depth_is a, depth_some _ a.rules) })

pub returns : goal.returns
returns c = own_fit_lem _ _ _ _ (sym c.outside.ensures ∙ c.if-outside.false) c.if-b-gt65535.false c.parts-parts.ensures.value c.fit.ensures
