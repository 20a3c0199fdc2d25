-- `marking::restored` meets its contract: the record is read off the blocks, with their p and K.
use mathlib.Core.Path.{sym, subst, ◌∙◌}
use Prim.Native.Nat.{ℕ, ◌<◌}
use native.Mathlib.Omega.{arith}
use borrow.Author.Rules.{rules}
use Rattle.marking.proofs.Values.{restored_blank, restored_run}
use Rattle.marking.proofs.restored.Goals as goal

pub returns-then-p-eq0 : goal.returns-then-p-eq0
returns-then-p-eq0 c =
    restored_blank c.requires (sym c.setting_at-p.ensures ∙ c.if-p-eq0.true) c.blank.ensures

pub overflow_cast-record : goal.overflow_cast-record
overflow_cast-record c =
    let f = subst (λ (n : ℕ). n < 256) (sym c.setting_at-p.ensures) c.requires.few in
    omega (arith, f)

pub returns : goal.returns
returns c =
    restored_run c.requires (λ z. c.if-p-eq0.false (c.setting_at-p.ensures ∙ z)) c.unpack-record.ensures c.setting_at-p.ensures c.setting_at-quota.ensures
