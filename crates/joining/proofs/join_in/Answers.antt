-- `joining::join_in` meets its contract: 47, the first part that is refused, or what joining accepted parts gives.
use mathlib.Core.Path.{◌≡◌, refl, sym, ap, ◌∙◌}
use Prim.Native.Nat.{ℕ}
use mathlib.Core.List.{List}
use mathlib.Core.Bool.{false}
use native.Mathlib.Omega.{arith}
use Rattle.std.proofs.lemmas.Result.{err_from_is_err_and}
use lib.ListN.{length}
use Rattle.table.specs.Pass.{refusal}
use Rattle.joining.specs.Joining.{joined_bytes}
use Rattle.joining.specs.Answers.{parts_of, parts_wrong, left_by, joined, joined_in, join_values, join_values_of}
use Rattle.joining.specs.Code.Steps.{Lent, no_part, weights_from, answered}
use Rattle.joining.proofs.JoinAnswers.{lent, answer_is, wrong_is, values_are}
use Rattle.joining.proofs.join_in.Goals.{Else-parts_wrong}
use Rattle.joining.proofs.join_in.Goals as goal
use Rattle.joining.specs.declared.JoinError.{JoinError}
use Rattle.joining.specs.declared.JoinError.TheVariants.{Whole}
use Rattle.std.specs.Prelude.{Err, Result}
use Rattle.table.specs.declared.Facts.{Facts}
use Rattle.joining.specs.declared.weights.Totals.{Totals}

-- the answer, its values and the buffer
record Says (ls s out : List ℕ) (x : Result Facts JoinError) (out' : List ℕ) : Type 0 where
  answer : x ≡ joined ls s
  values : join_values_of x ≡ join_values ls s
  left : out' ≡ joined_in ls s out

says : (ls s out : List ℕ) (x : Result Facts JoinError) (out' : List ℕ) → x ≡ joined ls s → out' ≡ left_by x (joined_bytes (parts_of ls s)) out → Says ls s out x out'
unfolding joined_in
says ls s out x out' e p = record { answer = e; values = ap join_values_of e ∙ values_are ls s; left = p ∙ ap (λ (y : Result Facts JoinError). left_by y (joined_bytes (parts_of ls s)) out) e }

weighed_is : (ls s : List ℕ) → parts_wrong ls s ≡ false → (w y : Result Totals JoinError) → w ≡ weights_from 0 no_part (parts_of ls s) → w ≡ y → answered y (length ls) ≡ joined ls s
weighed_is ls s e w y p q = ap (λ (x : Result Totals JoinError). answered x (length ls)) (sym q ∙ p) ∙ answer_is ls s e

right : (c : Else-parts_wrong) → Lent c.args.lengths.now c.args.tables.now
right c = lent _ _ (sym c.parts_wrong.ensures ∙ c.if-parts_wrong.false)

pub returns-then-parts_wrong : goal.returns-then-parts_wrong
returns-then-parts_wrong c = let d = c.args in
    let v = says d.lengths.now d.tables.now d.out.now (Err (Whole (refusal 47 0))) d.out.now (wrong_is d.lengths.now d.tables.now (sym c.parts_wrong.ensures ∙ c.if-parts_wrong.true)) refl in record { value = v.answer; result_value = v.values; out_after = v.left; rises_after = (refl, refl, refl, refl) }

pub weigh_parts-requires : goal.weigh_parts-requires
weigh_parts-requires c = right (goal.at.weigh_parts-requires c).Else-parts_wrong

pub join_parts-requires : goal.join_parts-requires
join_parts-requires c =
    (right (goal.at.join_parts-requires c).Else-parts_wrong, record { weighed = sym c.weigh_parts.ensures.value ∙ c.in_ok-totals.was }, omega arith)

pub returns-in_err-totals : goal.returns-in_err-totals
returns-in_err-totals c = let d = c.args in
    let a = weighed_is d.lengths.now d.tables.now (sym c.parts_wrong.ensures ∙ c.if-parts_wrong.false) _ _ c.weigh_parts.ensures.value c.in_err-totals.was in
    let v = says d.lengths.now d.tables.now d.out.now _ d.out.now a refl in
    let p = err_from_is_err_and c.from_residual.result c.from_residual.ensures.1 in
    rw (p.1, p.2) record { value = v.answer; result_value = v.values; out_after = v.left; rises_after = c.weigh_parts.ensures.rises_after }

pub returns : goal.returns
returns c = let d = c.args in
    let a = weighed_is d.lengths.now d.tables.now (sym c.parts_wrong.ensures ∙ c.if-parts_wrong.false) _ _ c.weigh_parts.ensures.value c.in_ok-totals.was in
    let v = says d.lengths.now d.tables.now d.out.now _ _ (c.join_parts.ensures.value ∙ a) c.join_parts.ensures.out_after in record { value = v.answer; result_value = v.values; out_after = v.left; rises_after = c.weigh_parts.ensures.rises_after }
