-- `canonical::compare_in` meets its contract: the first table's refusal, the second's, else the order of the forms.
use Rattle.std.specs.Prelude.{Ok}
use mathlib.Core.Path.{refl, sym, ap, ◌∙◌}
use native.Mathlib.Omega.{arith}
use Rattle.canonical.proofs.Answers.{compare_refused, compare_refused_second, compare_said}
use Rattle.canonical.proofs.compare_in.Goals as goal

pub returns-in-Err : goal.returns-in-Err
returns-in-Err c = let d = c.args in
    let v = compare_refused d.first.now d.second.now d.a.now d.b.now _ (sym c.check_in.ensures.value ∙ c.in-Err.is) in record { value = v.answer; result_value = v.values; a_after = v.left; b_after = v.left'; rises_after = c.check_in.ensures.rises_after; names_after = (refl, refl) }

pub returns-in-Err-check_in : goal.returns-in-Err-check_in
returns-in-Err-check_in c = let d = c.args in
    let v = compare_refused_second d.first.now d.second.now d.a.now d.b.now _ (sym c.check_in.ensures.value ∙ c.in_default.is) (sym c.check_in-2.ensures.value ∙ c.in-Err-check_in.is) in record { value = v.answer; result_value = v.values; a_after = v.left; b_after = v.left'; rises_after = c.check_in-2.ensures.rises_after; names_after = (refl, refl) }

pub compare_forms-requires : goal.compare_forms-requires
compare_forms-requires c = (
  (sym c.check_in.ensures.value ∙ c.in_default.is, omega arith),
  (sym c.check_in-2.ensures.value ∙ c.in_default-check_in.is, omega arith),
)

pub returns : goal.returns
returns c = let d = c.args in
    let v = compare_said d.first.now d.second.now d.a.now d.b.now (sym c.check_in.ensures.value ∙ c.in_default.is) (sym c.check_in-2.ensures.value ∙ c.in_default-check_in.is) _ _ _ (ap Ok c.compare_forms.ensures.value) c.compare_forms.ensures.a_after c.compare_forms.ensures.b_after in record { value = v.answer; result_value = v.values; a_after = v.left; b_after = v.left'; rises_after = c.check_in-2.ensures.rises_after; names_after = c.compare_forms.ensures.names_after }
