-- `stealing::hindrance` meets its contract: what hinders AsyncDF's turn, then the choice.
use mathlib.Core.Path.{◌≡◌, ap, ◌∙◌}
use Prim.Native.Nat.{ℕ}
use borrow.Author.Tests.{ne_eqb}
use Rattle.std.specs.Prelude.{Err}
use Rattle.run_memory.specs.Memory.{unless}
use Rattle.run_memory.proofs.Takes.{free, refused_as, err_is}
use Rattle.stealing.proofs.Steals.{hindered_before, choice_here, choice_none}
use Rattle.stealing.proofs.hindrance.Goals as goal

numbered : {k n : ℕ} → k ≡ n → (k ≡ 0 → ⊥) → Err k ≡ unless n
numbered {k} e h = rw (← e, ne_eqb k 0 h)

pub returns-in_err-hindrance : goal.returns-in_err-hindrance
returns-in_err-hindrance c =
    let d = c.args in
    let f = refused_as _ c.hindrance.ensures c.in_err-hindrance.was in
    err_is c.from_residual.result c.from_residual.ensures ∙ numbered (hindered_before d.turns d.p d.w d.c d.root f.0 f.1) f.1

pub returns-then-c-p : goal.returns-then-c-p
returns-then-c-p c =
    let d = c.args in
    ap (λ (n : ℕ). unless n) (choice_here d.turns d.p d.w d.c d.root (free _ c.hindrance.ensures c.in_ok-hindrance.was) c.if-c-p.true)

pub returns-else-c-p : goal.returns-else-c-p
returns-else-c-p c =
    let d = c.args in
    ap (λ (n : ℕ). unless n) (choice_none d.turns d.p d.w d.c d.root (free _ c.hindrance.ensures c.in_ok-hindrance.was) c.if-c-p.false)
