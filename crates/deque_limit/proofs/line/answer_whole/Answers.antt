-- `deque_limit::line::answer_whole` meets its contract: its buffer has the room for every table.
use mathlib.Core.Path.{◌∙◌}
use native.Mathlib.Omega.{arith}
use lib.ListN.{length-replicate}
use Prim.Native.Nat.{ℕ}
use Rattle.deque_limit.proofs.ChoiceAnswers.{choices_whole}
use borrow.Author.Rules.{rules}
use Rattle.deque_limit.proofs.line.answer_whole.Goals as goal

pub returns : goal.returns
returns c = c.choice_limit_in.ensures.value ∙ choices_whole _ _ _ _ _ (omega (arith, length-replicate {A = ℕ} 36868 0))
