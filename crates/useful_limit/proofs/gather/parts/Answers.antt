-- `useful_limit::gather::parts` meets its contract.
use native.Mathlib.Omega.{arith}
use Rattle.useful_limit.proofs.Gathered.{parts_are, both, peak_given}
use Rattle.useful_limit.proofs.InRange.{least_in_range}
use borrow.Author.Rules.{rules}
use Rattle.useful_limit.proofs.gather.parts.Goals as goal

pub overflow_cast-least : goal.overflow_cast-least
overflow_cast-least c = record { fits = omega (arith, c.least_quota-least.ensures, (least_in_range c.args.table.now).high) }

pub returns : goal.returns
returns c =
    let r = c.requires.1 in
    let e =
    both c.requires.0 _ _ _ r.few_workers r.small_gap
    (parts_are c.requires.0 _ _ _ c.cost-cost.ensures (peak_given _ c.requires.0.rules _ _ (omega arith) c.peak_in.ensures.value c.unwrap_or-peak.ensures) c.resting_peak-resting.ensures c.stretch-stretch.ensures c.least_quota-least.ensures) in
    record { value = e.0; sums = e.1 }
