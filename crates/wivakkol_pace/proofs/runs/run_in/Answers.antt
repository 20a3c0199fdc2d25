-- `wivakkol_pace::runs::run_in` meets its contract: 32 first, in rounds with no worker 30, then the run.
use mathlib.Core.Path.{sym, ◌∙◌}
use Rattle.run_memory.specs.Blocks.{memory_of}
use Rattle.wivakkol_pace.specs.PacedRuns.{paced_worker}
use Rattle.wivakkol_pace.proofs.PacedDrives.{stopped_as_lem, full, no_worker_lem, driven}
use Rattle.wivakkol_pace.proofs.runs.run_in.Goals as goal

pub returns-then-total_at-eq18446744073709551615-clause-run_value : goal.returns-then-total_at-eq18446744073709551615-clause-run_value
returns-then-total_at-eq18446744073709551615-clause-run_value c =
    let a = c.args in
    stopped_as_lem _ _ _ c.refused.ensures
    (full a.table.now (paced_worker a.order.now a.rounds) a.rounds a.limit (memory_of a.bytes.now a.words.now a.numbers.now a.sums.now) a.pace.now (sym c.total_at.ensures ∙ c.if-total_at-eq18446744073709551615.true))

pub returns-then-nobody-clause-run_value : goal.returns-then-nobody-clause-run_value
returns-then-nobody-clause-run_value c =
    let a = c.args in
    stopped_as_lem _ _ _ c.refused-then-nobody.ensures
    (no_worker_lem a.table.now (paced_worker a.order.now a.rounds) a.rounds a.limit (memory_of a.bytes.now a.words.now a.numbers.now a.sums.now) a.pace.now (λ x. c.if-total_at-eq18446744073709551615.false (c.total_at.ensures ∙ x)) c.nobody.ensures
    c.if-nobody.true)

pub returns-clause-run_value : goal.returns-clause-run_value
returns-clause-run_value c =
    let a = c.args in
    driven a.table.now (paced_worker a.order.now a.rounds) a.rounds a.limit (memory_of a.bytes.now a.words.now a.numbers.now a.sums.now) a.pace.now (λ x. c.if-total_at-eq18446744073709551615.false (c.total_at.ensures ∙ x)) c.nobody.ensures
    c.if-nobody.false c.drive.ensures.run_value
