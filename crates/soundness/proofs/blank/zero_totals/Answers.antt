-- `soundness::blank::zero_totals` meets its contract: a chain of tests that goes up to the first that fails.
use mathlib.Core.Path.{refl}
use borrow.Author.Tests.{eq-eqb, ne_eqb}
use Rattle.soundness.proofs.Chains.{pass, stop}
use Rattle.soundness.proofs.blank.zero_totals.Goals as goal

pub returns-then-highest-eq0 : goal.returns-then-highest-eq0
returns-then-highest-eq0 c = pass (eq-eqb _ 0 c.if-busy-eq0.true) (pass (eq-eqb _ 0 c.if-held-eq0.true) (pass (eq-eqb _ 0 c.if-highest-eq0.true) refl))

pub returns-else-highest-eq0 : goal.returns-else-highest-eq0
returns-else-highest-eq0 c = pass (eq-eqb _ 0 c.if-busy-eq0.true) (pass (eq-eqb _ 0 c.if-held-eq0.true) (stop _ _ (ne_eqb _ 0 c.if-highest-eq0.false)))

pub returns-else-held-eq0 : goal.returns-else-held-eq0
returns-else-held-eq0 c = pass (eq-eqb _ 0 c.if-busy-eq0.true) (stop _ _ (ne_eqb _ 0 c.if-held-eq0.false))

pub returns-else-busy-eq0 : goal.returns-else-busy-eq0
returns-else-busy-eq0 c = stop _ _ (ne_eqb _ 0 c.if-busy-eq0.false)
