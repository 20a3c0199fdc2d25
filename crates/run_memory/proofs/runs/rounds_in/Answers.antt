-- `run_memory::runs::rounds_in` meets its contract: 32 first, 30 with no worker, then the run.
use mathlib.Core.Path.{◌≡◌, sym, ◌∙◌}
use Prim.Native.Nat.{ℕ, ◌<◌}
use native.Mathlib.Omega.{arith}
use Rattle.run_memory.specs.Memory.{Memory}
use Rattle.run_memory.specs.Blocks.{memory_of}
use Rattle.run_memory.proofs.Drives.{stopped_as_lem, full_rounds, no_rounds, driven_rounds}
use Rattle.run_memory.proofs.runs.rounds_in.Goals.{Start}
use Rattle.run_memory.proofs.runs.rounds_in.Goals as goal

abbrev start : Start → Memory
start d = memory_of d.args.bytes.now d.args.words.now d.args.numbers.now d.args.sums.now

some : {p q : ℕ} → p ≡ q → (p ≡ 0 → ⊥) → 0 < q
some e h = omega (arith, e, h)

pub returns-then-total_at-eq18446744073709551615-clause-run_value : goal.returns-then-total_at-eq18446744073709551615-clause-run_value
returns-then-total_at-eq18446744073709551615-clause-run_value c =
    stopped_as_lem _ _ c.refused.ensures (full_rounds c.args.table.now (start (goal.at.returns-then-total_at-eq18446744073709551615-clause-run_value c).Start) (sym c.total_at.ensures ∙ c.if-total_at-eq18446744073709551615.true) c.args.limit)

pub returns-then-setting_at-eq0-clause-run_value : goal.returns-then-setting_at-eq0-clause-run_value
returns-then-setting_at-eq0-clause-run_value c =
    stopped_as_lem _ _ c.refused-then-setting_at-eq0.ensures
    (no_rounds c.args.table.now (start (goal.at.returns-then-setting_at-eq0-clause-run_value c).Start) (λ x. c.if-total_at-eq18446744073709551615.false (c.total_at.ensures ∙ x)) c.args.limit (sym c.setting_at.ensures ∙ c.if-setting_at-eq0.true))

pub drive-requires : goal.drive-requires
drive-requires c =
    λ e. some c.setting_at.ensures c.if-setting_at-eq0.false

pub returns-clause-run_value : goal.returns-clause-run_value
returns-clause-run_value c =
    driven_rounds c.args.table.now (start (goal.at.returns-clause-run_value c).Start) (λ x. c.if-total_at-eq18446744073709551615.false (c.total_at.ensures ∙ x)) c.args.limit (λ x. c.if-setting_at-eq0.false (c.setting_at.ensures ∙ x)) c.drive.ensures.run_value
