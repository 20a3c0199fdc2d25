-- `useful_limit::limit::wide_fault` meets its contract.
use Rattle.std.specs.Prelude.{Err, Ok, Result, ⊤}
use mathlib.Core.Path.{◌≡◌, refl, sym, ◌∙◌}
use Prim.Native.Nat.{ℕ}
use mathlib.Core.Bool.{Bool, true, false}
use Rattle.table.specs.Pass.{refusal}
use Rattle.table.specs.declared.Refusal.{Refusal}
use Rattle.useful_limit.specs.Code.Parts.{wide_fault}
use borrow.Author.Rules.{rules}
use Rattle.useful_limit.proofs.limit.wide_fault.Goals as goal

own : (f : Result ⊤ Refusal) (q : Bool) (k : ℕ) {r : Refusal} → f ≡ Err r → r ≡ wide_fault f q k
own f q k e = rw e

workers : (f : Result ⊤ Refusal) (q : Bool) (k : ℕ) → f ≡ Ok tt → q ≡ true → refusal 20 0 ≡ wide_fault f q k
workers f q k e d = rw (e, d)

behind : (f : Result ⊤ Refusal) (q : Bool) (k : ℕ) → f ≡ Ok tt → q ≡ false → refusal k 0 ≡ wide_fault f q k
behind f q k e d = rw (e, d)

pub returns-in-Err : goal.returns-in-Err
returns-in-Err c = record { value = own _ _ _ (sym c.check_in-found.ensures.value ∙ c.in-Err.is); rises_after = c.check_in-found.ensures.rises_after }

pub returns-then-outside : goal.returns-then-outside
returns-then-outside c = record { value = c.new.ensures ∙ workers _ _ _ (sym c.check_in-found.ensures.value ∙ c.in_default.is) (sym c.outside.ensures ∙ c.if-outside.true); rises_after = c.check_in-found.ensures.rises_after }

pub returns : goal.returns
returns c = record { value = c.new-2.ensures ∙ behind _ _ _ (sym c.check_in-found.ensures.value ∙ c.in_default.is) (sym c.outside.ensures ∙ c.if-outside.false); rises_after = c.check_in-found.ensures.rises_after }
