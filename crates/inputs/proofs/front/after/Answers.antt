-- `inputs::front::after` meets its contract, by what the lines so far have given.
use native.Mathlib.Omega.{arith}
use mathlib.Core.Path.{refl, sym, ◌∙◌}
use Rattle.inputs.specs.Front.{step_with}
use Rattle.inputs.proofs.Given.{plainly_stepping}
use Rattle.inputs.proofs.front.after.Goals as goal

pub returns-then-same : goal.returns-then-same
unfolding step_with
returns-then-same c = rw (c.in-Nothing.is, sym c.same.ensures ∙ c.if-same.true) (plainly_stepping _ c.workers_line.ensures)

pub after_quota-requires : goal.after_quota-requires
after_quota-requires c = record { full = c.requires.full; few = omega arith }

pub returns-then-same-2 : goal.returns-then-same-2
unfolding step_with
returns-then-same-2 c = rw (c.in-Between.is, sym c.same-in-Between.ensures ∙ c.if-same-2.true) (plainly_stepping _ c.memory_line.ensures)

pub turns_line-requires : goal.turns_line-requires
turns_line-requires c = rw c.in-Turns.is at c.requires

pub returns-then-same-3 : goal.returns-then-same-3
unfolding step_with
returns-then-same-3 c = rw (c.in-Turns.is, sym c.same-in-Turns.ensures ∙ c.if-same-3.true) c.turns_line.ensures

pub returns-else-same : goal.returns-else-same
unfolding step_with
returns-else-same c = rw (c.in-Nothing.is, sym c.same.ensures ∙ c.if-same.false) (record { value = refl; few = omega arith })

pub returns-in-Workers : goal.returns-in-Workers
returns-in-Workers c = rw c.in-Workers.is (plainly_stepping _ c.after_workers.ensures)

pub returns-in-Quota : goal.returns-in-Quota
returns-in-Quota c = rw c.in-Quota.is c.after_quota.ensures

pub returns-else-same-2 : goal.returns-else-same-2
unfolding step_with
returns-else-same-2 c = rw (c.in-Between.is, sym c.same-in-Between.ensures ∙ c.if-same-2.false) (record { value = refl; few = omega arith })

pub returns-else-same-3 : goal.returns-else-same-3
unfolding step_with
returns-else-same-3 c = rw (c.in-Turns.is, sym c.same-in-Turns.ensures ∙ c.if-same-3.false) (record { value = refl; few = rw c.in-Turns.is at c.requires.few })

pub returns-in-Rounds : goal.returns-in-Rounds
unfolding step_with
returns-in-Rounds c = rw c.in-Rounds.is (record { value = refl; few = omega arith })

pub returns-in-Board : goal.returns-in-Board
unfolding step_with
returns-in-Board c = rw c.in-Board.is (record { value = refl; few = omega arith })
