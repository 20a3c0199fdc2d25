-- `filling::input::fill_whole` meets its contract.
use mathlib.Core.Path.{refl, sym, ◌∙◌}
use native.Mathlib.Omega.{arith}
use Rattle.std.proofs.lemmas.Result.{err_from_is_err_and}
use Rattle.filling.proofs.Measured.{whole_refused, whole_filled, whole_in_place}
use Rattle.filling.proofs.input.fill_whole.Goals as goal

pub returns-in_err-bytes : goal.returns-in_err-bytes
returns-in_err-bytes c =
    let p = err_from_is_err_and c.from_residual.result c.from_residual.ensures.1 in
    let both = whole_refused c.args.table.now c.args.quota c.args.out.now _ (omega (arith, c.fill_in-arg-1.given)) _ (sym c.in_err-bytes.was ∙ c.fill_in.ensures.value) c.fill_in.ensures.out_after _ _ refl refl in
    record { value = rw (p.1, p.2) both.0; out_after = both.1 }

pub returns-then-bytes-eq0 : goal.returns-then-bytes-eq0
returns-then-bytes-eq0 c =
    let both = whole_in_place c.args.table.now c.args.quota c.args.out.now _ (omega (arith, c.fill_in-arg-1.given)) _ (sym c.in_ok-bytes.was ∙ c.fill_in.ensures.value) c.fill_in.ensures.out_after _ refl refl c.if-bytes-eq0.true _ _ c.put_word.ensures in
    record { value = both.0; out_after = both.1 }

pub returns : goal.returns
returns c =
    let both = whole_filled c.args.table.now c.args.quota c.args.out.now _ (omega (arith, c.fill_in-arg-1.given)) _ (sym c.in_ok-bytes.was ∙ c.fill_in.ensures.value) c.fill_in.ensures.out_after _ refl refl c.if-bytes-eq0.false in
    record { value = both.0; out_after = both.1 }
