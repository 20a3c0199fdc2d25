-- `soundness::beginning::begin_fault` meets its contract: with p outside its range the table's own checks and then 20, else what the filling finds.
use mathlib.Core.Path.{sym, ◌∙◌}
use Rattle.std.proofs.lemmas.Result.{err_from_is_err_and}
use Rattle.soundness.proofs.Fillings.{measured, refused_table, refused_workers}
use Rattle.soundness.proofs.beginning.begin_fault.Goals as goal

pub returns-in_err-check_in : goal.returns-in_err-check_in
returns-in_err-check_in c =
    let a = c.args in
    let p = err_from_is_err_and c.from_residual.result c.from_residual.ensures.1 in
    let e = refused_table a.table.now a.p a.quota _ (sym c.check_in.ensures.value ∙ c.in_err-check_in.was) in
    record { value = rw (p.1, p.2) e; rises_after = c.check_in.ensures.rises_after }

pub returns-then-outside : goal.returns-then-outside
returns-then-outside c =
    let a = c.args in
    let e = refused_workers a.table.now a.p a.quota (sym c.check_in.ensures.value ∙ c.in_ok-check_in.was) (sym c.outside.ensures ∙ c.if-outside.true) in
    record { value = rw c.new.ensures e; rises_after = c.check_in.ensures.rises_after }

pub returns : goal.returns
returns c = let a = c.args in record { value = c.measure.ensures.value ∙ measured a.table.now a.p a.quota (sym c.outside.ensures ∙ c.if-outside.false); rises_after = c.measure.ensures.rises_after }
