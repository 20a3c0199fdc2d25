-- `filling::measure` meets its contract.
use mathlib.Core.Path.{sym, ◌∙◌}
use Rattle.std.proofs.lemmas.Result.{err_from_is_err_and}
use Rattle.filling.proofs.Measured.{total_refused}
use Rattle.filling.proofs.measure.Goals as goal

pub returns-in_err-total : goal.returns-in_err-total
returns-in_err-total c =
    let p = err_from_is_err_and c.from_residual.result c.from_residual.ensures.1 in
    let e = total_refused c.args.table.now c.args.quota (sym c.in_err-total.was ∙ c.total_for.ensures.value) in
    record { value = rw (p.1, p.2) e; rises_after = c.total_for.ensures.rises_after }
