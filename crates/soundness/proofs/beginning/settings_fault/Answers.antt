-- `soundness::beginning::settings_fault` meets its contract, test by test.
use Rattle.std.specs.Prelude.{Err, Ok}
use mathlib.Core.Path.{◌≡◌, sym, ap, ◌∙◌}
use Prim.Native.Nat.{ℕ}
use mathlib.Core.Bool.{true, false}
use Rattle.table.specs.Pass.{refusal, try_at, try_from, try_pass, first_found}
use Rattle.table.specs.Checks.{outside}
use Rattle.schedule.specs.Begin.{setting_passes}
use Rattle.soundness.proofs.beginning.settings_fault.Goals as goal

module _ (p K : ℕ) where
  many_workers : outside 1 16 p ≡ true → Err (refusal 20 0) ≡ first_found (setting_passes p K)
  unfolding first_found try_pass try_from try_at
  many_workers h = rw h

  wide_quota : outside 1 16 p ≡ false → outside 1 16777215 K ≡ true → Err (refusal 21 0) ≡ first_found (setting_passes p K)
  unfolding first_found try_pass try_from try_at
  wide_quota h k = rw (h, k)

  in_range : outside 1 16 p ≡ false → outside 1 16777215 K ≡ false → (Ok tt) ≡ first_found (setting_passes p K)
  unfolding first_found try_pass try_from try_at
  in_range h k = rw (h, k)

pub returns-then-outside : goal.returns-then-outside
returns-then-outside c =
    let a = c.args in
    ap Err c.new.ensures ∙ many_workers a.p a.quota (sym c.outside.ensures ∙ c.if-outside.true)

pub returns-then-outside-2 : goal.returns-then-outside-2
returns-then-outside-2 c =
    let a = c.args in
    ap Err c.new-then-outside-2.ensures
    ∙ wide_quota a.p a.quota (sym c.outside.ensures ∙ c.if-outside.false) (sym c.outside-2.ensures ∙ c.if-outside-2.true)

pub returns : goal.returns
returns c =
    let a = c.args in
    in_range a.p a.quota (sym c.outside.ensures ∙ c.if-outside.false) (sym c.outside-2.ensures ∙ c.if-outside-2.false)
