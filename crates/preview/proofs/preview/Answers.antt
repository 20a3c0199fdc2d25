-- `preview::preview` meets its contract: refused by the test, of no worker, and as it is foreseen on the blocks.
use mathlib.Core.Path.{◌≡◌, sym, ap, ◌∙◌}
use Prim.Native.Nat.{ℕ}
use mathlib.Core.List.{List}
use mathlib.Core.Bool.{false}
use native.Mathlib.Omega.{arith}
use borrow.Author.Rules.{rules}
use Rattle.std.specs.Prelude.{Err, Ok, Result}
use Rattle.table.specs.declared.Refusal.{Refusal}
use Rattle.schedule.specs.declared.Run.{Run}
use Rattle.schedule.specs.Shown.{preview_values}
use Rattle.soundness.proofs.Passed.{test_fails, test_passes, test_parents, has_workers}
use Rattle.run_memory.specs.declared.preview.Foreseen.{Foreseen}
use Rattle.preview.specs.Preview.{preview_of, shown_values}
use Rattle.preview.proofs.Previews.{preview_values_lem, as_preview, foreseen_preview, small_refusal, shows_unsound, shows_none}
use Rattle.preview.proofs.preview.Goals as goal

both : (r : Run) (w : ℕ) {x : Result Foreseen Refusal} → x ≡ preview_of r w → (x ≡ preview_of r w) × (shown_values x ≡ preview_values r w)
both r w e = (e, ap shown_values e ∙ preview_values_lem r w)

-- a refusal that was made
made : {y z : Refusal} {x : Result Foreseen Refusal} → y ≡ z → Err z ≡ x → Err y ≡ x
made e d = ap (λ (v : Refusal). Err v) e ∙ d

-- an answer on the blocks
answered : {f g : Result Foreseen ℕ} {x : Result Foreseen Refusal} → f ≡ g → as_preview f ≡ x → as_preview g ≡ x
answered e d = ap as_preview (sym e) ∙ d

pub returns-in_default : goal.returns-in_default
returns-in_default c =
    let both = both c.args.run c.args.w (made c.new.ensures (shows_unsound c.args.run c.args.w (test_fails _ (sym c.in_default.is ∙ c.test.ensures)))) in
    record { value = both.0; result_value = both.1 }

pub returns-then-run-eq0 : goal.returns-then-run-eq0
returns-then-run-eq0 c =
    let e = test_passes _ _ (sym c.in-Some.is ∙ c.test.ensures) in
    let both = both c.args.run c.args.w (made c.new-then-run-eq0.ensures (shows_none c.args.run c.args.w e (omega (arith, c.if-run-eq0.true)))) in
    record { value = both.0; result_value = both.1 }

pub foresee-requires : goal.foresee-requires
foresee-requires c = (has_workers _ (test_passes _ _ (sym c.in-Some.is ∙ c.test.ensures)) (omega (arith, c.if-run-eq0.false))).steady

pub overflow_cast-number : goal.overflow_cast-number
overflow_cast-number c =
    let e = sym c.in-Some.is ∙ c.test.ensures in
    let h = has_workers _ (test_passes _ _ e) (omega (arith, c.if-run-eq0.false)) in
    omega (arith, small_refusal c.args.run c.args.w h (test_parents _ _ e h) (search rules) c.foresee.ensures _ c.in-Err.is)

pub returns-in-Ok : goal.returns-in-Ok
returns-in-Ok c =
    let e = sym c.in-Some.is ∙ c.test.ensures in
    let h = has_workers _ (test_passes _ _ e) (omega (arith, c.if-run-eq0.false)) in
    let both = both c.args.run c.args.w (answered c.in-Ok.is (foreseen_preview c.args.run c.args.w h (test_parents _ _ e h) (search rules) c.foresee.ensures)) in
    record { value = both.0; result_value = both.1 }

pub returns-in-Err : goal.returns-in-Err
returns-in-Err c =
    let e = sym c.in-Some.is ∙ c.test.ensures in
    let h = has_workers _ (test_passes _ _ e) (omega (arith, c.if-run-eq0.false)) in
    let both = both c.args.run c.args.w (made c.new-in-Err.ensures (answered c.in-Err.is (foreseen_preview c.args.run c.args.w h (test_parents _ _ e h) (search rules) c.foresee.ensures))) in
    record { value = both.0; result_value = both.1 }
