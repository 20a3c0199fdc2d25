-- `quota::most_within` meets its contract: the quotient, or the largest quota of all where that is smaller or nothing is to pay.
use Prim.Native.Nat.{◌≤◌, ◌<◌}
use native.Mathlib.Omega.{arith}
use borrow.Author.Tests.{eq-eqb, ne_eqb}
use Rattle.quota.specs.Quota.{most_within}
use Rattle.quota.proofs.most_within.Goals as goal

pub returns-then-cost-eq0 : goal.returns-then-cost-eq0
unfolding most_within
returns-then-cost-eq0 c = simp (eq-eqb _ _ c.if-cost-eq0.true)

pub returns : goal.returns
unfolding most_within
returns c = rw (ne_eqb c.args.cost 0 c.if-cost-eq0.false) (omega (arith, c.min.ensures))
