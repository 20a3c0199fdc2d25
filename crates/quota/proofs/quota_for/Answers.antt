-- `quota::quota_for` meets its contract: the answer, check by check.
use Rattle.std.specs.Prelude.{Ok, Err}
use mathlib.Core.Path.{◌≡◌, sym, ap, ◌∙◌}
use Prim.Native.Nat.{ℕ, ◌-◌, ◌≤◌}
use mathlib.Core.Bool.{false}
use native.Mathlib.Omega.{arith}
use Rattle.table.specs.Format.{table_of}
use Rattle.table.specs.Checks.{outside}
use Rattle.table.specs.Serial.{S1}
use Rattle.table.proofs.Sizes.{inside}
use Rattle.quota.specs.Quota.{most_within, most_quota}
use Rattle.quota.proofs.Checks.{many_workers, wide_gap, little_memory, below_least, at_most, depth_some, peak_is, depth_is, most_is}
use Rattle.quota.proofs.quota_for.Goals.{After-most_within-most, Else-memory-peak, Else-outside, Else-outside-2}
use Rattle.quota.proofs.quota_for.Goals as goal

workers_in_lem : (c : Else-outside) → outside 1 16 c.args.p ≡ false
workers_in_lem c = sym c.outside.ensures ∙ c.if-outside.false

gap_in_lem : (c : Else-outside-2) → outside 1 65535 c.args.b ≡ false
gap_in_lem c = sym c.outside-2.ensures ∙ c.if-outside-2.false

peak_in : (c : Else-memory-peak) → S1 (table_of c.args.table.now) ≤ c.args.memory
peak_in c = omega (arith, peak_is c.requires, c.if-memory-peak.false)

most_found_lem : (c : After-most_within-most) → c.most_within-most.result
    ≡ most_quota (table_of c.args.table.now) c.args.p c.args.b c.args.memory
most_found_lem c =
    let a = c.args in
    c.most_within-most.ensures
    ∙ ap (λ (x : ℕ). most_within x (a.memory - a.facts.peak)) c.cost.ensures
    ∙ most_is c.requires a.p a.b a.memory

pub returns-then-outside : goal.returns-then-outside
returns-then-outside c = ap Err c.new.ensures ∙ many_workers _ _ _ _ (sym c.outside.ensures ∙ c.if-outside.true)

pub returns-then-outside-2 : goal.returns-then-outside-2
returns-then-outside-2 c = ap Err c.new-then-outside-2.ensures ∙ wide_gap _ _ _ _ (workers_in_lem (goal.at.returns-then-outside-2 c).Else-outside) (sym c.outside-2.ensures ∙ c.if-outside-2.true)

pub returns-then-memory-peak : goal.returns-then-memory-peak
returns-then-memory-peak c =
    ap Err c.new-then-memory-peak.ensures
    ∙ little_memory _ _ _ _ (workers_in_lem (goal.at.returns-then-memory-peak c).Else-outside) (gap_in_lem (goal.at.returns-then-memory-peak c).Else-outside-2) (omega (arith, peak_is c.requires, c.if-memory-peak.true))

pub returns-then-most-least_quota : goal.returns-then-most-least_quota
returns-then-most-least_quota c =
    ap Err c.new-then-most-least_quota.ensures
    ∙ below_least _ _ _ _ (workers_in_lem (goal.at.returns-then-most-least_quota c).Else-outside) (gap_in_lem (goal.at.returns-then-most-least_quota c).Else-outside-2) (peak_in (goal.at.returns-then-most-least_quota c).Else-memory-peak) (omega (arith, most_found_lem (goal.at.returns-then-most-least_quota c).After-most_within-most, c.least_quota.ensures, c.if-most-least_quota.true))

pub returns : goal.returns
returns c =
    ap Ok (most_found_lem (goal.at.returns c).After-most_within-most)
    ∙ at_most _ _ _ _ (workers_in_lem (goal.at.returns c).Else-outside) (gap_in_lem (goal.at.returns c).Else-outside-2) (peak_in (goal.at.returns c).Else-memory-peak) (omega (arith, most_found_lem (goal.at.returns c).After-most_within-most, c.least_quota.ensures, c.if-most-least_quota.false))
