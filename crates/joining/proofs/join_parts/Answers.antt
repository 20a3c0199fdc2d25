-- `joining::join_parts` meets its contract: 48, or the joined table.
use mathlib.Core.Path.{refl, sym, ◌∙◌}
use Prim.Native.Nat.{◌+◌, ◌*◌, ◌≤◌}
use native.Mathlib.Omega.{arith}
use lib.ListN.{length}
use Rattle.joining.specs.Code.Steps.{Small}
use Rattle.joining.proofs.JoinAnswers.{small, total_n, total_m, lent_few, joined_there, few_of, too_large, fits_in}
use Rattle.joining.proofs.join_parts.Goals.{Else-too_large, Start}
use Rattle.joining.proofs.join_parts.Goals as goal

-- the totals are small
bound : (b : Start) → Small 16 b.args.totals
bound b = small b.args.lengths.now b.args.tables.now b.requires.0 b.args.totals b.requires.1

-- 48 does not apply
few : (c : Else-too_large) → (1 + c.args.totals.threads ≤ 1024) × (2 * length c.args.lengths.now + 1 + c.args.totals.actions ≤ 8192)
few c = few_of _ _ (sym c.too_large.ensures ∙ c.if-too_large.false)

pub overflow_add-n : goal.overflow_add-n
overflow_add-n c = omega (arith, (bound (goal.at.overflow_add-n c).Start).threads)

pub overflow_add-m-2 : goal.overflow_add-m-2
overflow_add-m-2 c = omega (arith, (bound (goal.at.overflow_add-m-2 c).Start).actions, c.requires.0.few)

pub returns-then-too_large : goal.returns-then-too_large
returns-then-too_large c = record { value = too_large (length c.args.lengths.now) c.args.totals (sym c.too_large.ensures ∙ c.if-too_large.true); out_after = refl }

pub put_joined-requires : goal.put_joined-requires
put_joined-requires c =
    let f = few (goal.at.put_joined-requires c).Else-too_large in
    let l = lent_few c.args.lengths.now c.args.tables.now c.requires.0 c.args.totals c.requires.1 (omega (arith, f)) (omega (arith, f)) in
    (l, omega (arith, total_n c.args.lengths.now c.args.tables.now c.requires.0 c.args.totals c.requires.1), omega (arith, total_m c.args.lengths.now c.args.tables.now c.requires.0 c.args.totals c.requires.1))

pub overflow_cast-result : goal.overflow_cast-result
overflow_cast-result c = omega (arith, few (goal.at.overflow_cast-result c).Else-too_large)

pub overflow_cast-result-2 : goal.overflow_cast-result-2
overflow_cast-result-2 c = omega (arith, few (goal.at.overflow_cast-result-2 c).Else-too_large)

pub overflow_add-result : goal.overflow_add-result
overflow_add-result c = omega (arith, (bound (goal.at.overflow_add-result c).Start).depth)

pub overflow_cast-result-3 : goal.overflow_cast-result-3
overflow_cast-result-3 c = omega (arith, (bound (goal.at.overflow_cast-result-3 c).Start).depth)

pub overflow_add-result-2 : goal.overflow_add-result-2
overflow_add-result-2 c = omega (arith, (bound (goal.at.overflow_add-result-2 c).Start).nested)

pub overflow_cast-result-4 : goal.overflow_cast-result-4
overflow_cast-result-4 c = omega (arith, (bound (goal.at.overflow_cast-result-4 c).Start).nested)

pub returns : goal.returns
returns c = let f = few (goal.at.returns c).Else-too_large in record { value = fits_in (length c.args.lengths.now) c.args.totals (sym c.too_large.ensures ∙ c.if-too_large.false); out_after = joined_there c.args.lengths.now c.args.tables.now c.requires.0 c.args.totals c.requires.1 (omega (arith, f)) (omega (arith, f)) c.args.out.now _ _ c.requires.2 c.put_joined.ensures }
