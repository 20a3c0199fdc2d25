-- `stealing::plain` meets its contract: the turn's answer without how many threads it passed over.
use mathlib.Core.Path.{◌≡◌, sym, ap, ◌∙◌}
use Prim.Native.Nat.{ℕ}
use Rattle.std.specs.Prelude.{Result}
use Rattle.schedule.specs.declared.Taken.{Taken}
use Rattle.run_memory.specs.Memory.{Memory, Told, told, number_in, reply_in}
use Rattle.stealing.proofs.plain.Goals as goal

as_told : {r x : Result Taken ℕ} {M : Memory} {t : Told} → r ≡ x → told (number_in r) (reply_in r) M ≡ t → told (number_in x) (reply_in x) M ≡ t
as_told {M} e d = ap (λ (y : Result Taken ℕ). told (number_in y) (reply_in y) M) (sym e) ∙ d

pub returns-in-Ok-clause-turn_value : goal.returns-in-Ok-clause-turn_value
returns-in-Ok-clause-turn_value c = as_told c.in-Ok.is c.turn_in.ensures.sums_after

pub returns-in-Err-clause-turn_value : goal.returns-in-Err-clause-turn_value
returns-in-Err-clause-turn_value c = as_told c.in-Err.is c.turn_in.ensures.sums_after
