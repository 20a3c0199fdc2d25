-- `pace::one_more` meets its contract.
use mathlib.Core.Path.{sym}
use mathlib.Core.Logic.{inl, inr}
use Rattle.pace.proofs.Steps.{one_more_stays, one_more_counts}
use borrow.Author.Rules.{rules}
use Rattle.pace.proofs.one_more.Goals as goal

pub returns-then-n-eq0 : goal.returns-then-n-eq0
returns-then-n-eq0 c = sym (one_more_stays c.args.n (inl c.if-n-eq0.true))

pub returns-then-n-eq4294967295 : goal.returns-then-n-eq4294967295
returns-then-n-eq4294967295 c = sym (one_more_stays c.args.n (inr c.if-n-eq4294967295.true))

pub returns-else-n-eq4294967295 : goal.returns-else-n-eq4294967295
returns-else-n-eq4294967295 c = sym (one_more_counts c.args.n c.if-n-eq0.false c.if-n-eq4294967295.false)
