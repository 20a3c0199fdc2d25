-- `canonical::form_in` meets its contract: nothing is written where a check applies, else the form.
use mathlib.Core.Path.{refl, sym, ◌∙◌}
use native.Mathlib.Omega.{arith}
use Rattle.std.proofs.lemmas.Result.{err_from_is_err_and}
use Rattle.canonical.proofs.Answers.{form_refused, form_written}
use Rattle.canonical.proofs.form_in.Goals as goal

pub returns-in_err-check_in : goal.returns-in_err-check_in
returns-in_err-check_in c = let d = c.args in
    let v = form_refused d.table.now d.out.now _ (sym c.check_in.ensures.value ∙ c.in_err-check_in.was) in let p = err_from_is_err_and c.from_residual.result c.from_residual.ensures.1 in rw (p.1, p.2) record { value = v.answer; result_value = v.values; out_after = v.left; rises_after = c.check_in.ensures.rises_after; names_after = (refl, refl) }

pub write_form-requires : goal.write_form-requires
write_form-requires c =
    (sym c.check_in.ensures.value ∙ c.in_ok-check_in.was, omega arith)

pub returns : goal.returns
returns c = let d = c.args in
    let v = form_written d.table.now d.out.now (sym c.check_in.ensures.value ∙ c.in_ok-check_in.was) _ _ c.write_form.ensures.value.0 c.write_form.ensures.value.1 in record { value = v.answer; result_value = v.values; out_after = v.left; rises_after = c.check_in.ensures.rises_after; names_after = c.write_form.ensures.names_after }
