-- `checks::contents::entry_wrong` meets its contract: `||` is the definition's.
use borrow.Author.Tests.{eq-eqb, ne_eqb}
use Rattle.checks.proofs.contents.entry_wrong.Goals as goal

pub returns-then-first-sum : goal.returns-then-first-sum
returns-then-first-sum c = simp (ne_eqb _ _ c.if-first-sum.true)

pub returns-else-first-sum : goal.returns-else-first-sum
returns-else-first-sum c = simp (eq-eqb _ _ c.if-first-sum.false)
