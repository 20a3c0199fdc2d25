-- `wivakkol::useful::wivakkol_fit_on` meets its contract: what the call on the quota that fits answers, case by case.
use mathlib.Core.Path.{◌≡◌, ap, ◌∙◌}
use Rattle.std.specs.Prelude.{Ok}
use Rattle.useful_limit.specs.declared.Fitted.TheVariants.{Fits, Short}
use Rattle.wivakkol.proofs.UsefulRows.{fit_handed, fit_fits, fit_short, fit_refused}
use Rattle.wivakkol.proofs.useful.wivakkol_fit_on.Goals as goal

pub returns-in-Ok-Fits : goal.returns-in-Ok-Fits
returns-in-Ok-Fits c =
    let a = c.args in
    let e = c.fit_in-answer.ensures in
    let q : c.in-Ok-Fits.field-0 ≡ Fits c.in-Ok-Fits.quota c.in-Ok-Fits.memory = rw c.in-Ok-Fits.is at c.in-Ok-Fits.field-0-is in
    let r = fit_fits (fit_handed a.table.now a.b a.memory a.p c.workers-w.ensures e.value) (c.in-Ok-Fits.is ∙ ap Ok q) in record { value = r.0; row_after = r.1; rises_after = e.rises_after }

pub returns-in-Ok-Short : goal.returns-in-Ok-Short
returns-in-Ok-Short c =
    let a = c.args in
    let e = c.fit_in-answer.ensures in
    let q : c.in-Ok-Short.field-0 ≡ Short c.in-Ok-Short.quota c.in-Ok-Short.memory = rw c.in-Ok-Short.is at c.in-Ok-Short.field-0-is in
    let r = fit_short (fit_handed a.table.now a.b a.memory a.p c.workers-w.ensures e.value) (c.in-Ok-Short.is ∙ ap Ok q) in record { value = r.0; row_after = r.1; rises_after = e.rises_after }

pub returns-in-Err : goal.returns-in-Err
returns-in-Err c =
    let a = c.args in
    let e = c.fit_in-answer.ensures in
    let r = fit_refused (fit_handed a.table.now a.b a.memory a.p c.workers-w.ensures e.value) c.in-Err.is in record { value = r.0; row_after = r.1; rises_after = e.rises_after }
