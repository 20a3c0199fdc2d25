-- `filling::total_for` meets its contract.
use mathlib.Core.Path.{sym, ◌∙◌}
use Rattle.std.proofs.lemmas.Result.{err_from_is_err_and}
use Rattle.filling.proofs.Measured.{refused_table, refused_quota, found_fill}
use Rattle.filling.proofs.total_for.Goals as goal

pub returns-in_err-check_in : goal.returns-in_err-check_in
returns-in_err-check_in c =
    let p = err_from_is_err_and c.from_residual.result c.from_residual.ensures.1 in
    let e = refused_table c.args.table.now c.args.quota _ (sym c.check_in.ensures.value ∙ c.in_err-check_in.was) in
    record { value = rw (p.1, p.2, e); rises_after = c.check_in.ensures.rises_after }

pub returns-then-outside : goal.returns-then-outside
returns-then-outside c =
    let e = refused_quota c.args.table.now c.args.quota (sym c.check_in.ensures.value ∙ c.in_ok-check_in.was) (sym c.outside.ensures ∙ c.if-outside.true) in
    record { value = rw (e, c.new.ensures); rises_after = c.check_in.ensures.rises_after }

pub returns : goal.returns
returns c =
    let e = found_fill c.args.table.now c.args.quota (sym c.check_in.ensures.value ∙ c.in_ok-check_in.was) (sym c.outside.ensures ∙ c.if-outside.false) in
    record { value = rw e c.count.ensures; rises_after = c.check_in.ensures.rises_after }
