-- `run_memory::runs::list_in` meets its contract: 32 first, then the run.
use mathlib.Core.Path.{sym, ◌∙◌}
use Rattle.table.proofs.Tests.{no_way}
use Rattle.run_memory.specs.Memory.{Memory}
use Rattle.run_memory.specs.Blocks.{memory_of}
use Rattle.run_memory.proofs.Drives.{stopped_as_lem, full_list, driven_list}
use Rattle.run_memory.proofs.runs.list_in.Goals.{Start}
use Rattle.run_memory.proofs.runs.list_in.Goals as goal

abbrev start : Start → Memory
start d = memory_of d.args.bytes.now d.args.words.now d.args.numbers.now d.args.sums.now

pub returns-then-total_at-eq18446744073709551615-clause-run_value : goal.returns-then-total_at-eq18446744073709551615-clause-run_value
returns-then-total_at-eq18446744073709551615-clause-run_value c =
    stopped_as_lem _ _ c.refused.ensures (full_list c.args.table.now (start (goal.at.returns-then-total_at-eq18446744073709551615-clause-run_value c).Start) (sym c.total_at.ensures ∙ c.if-total_at-eq18446744073709551615.true) c.args.order.now)

pub drive-requires : goal.drive-requires
drive-requires c = λ e. no_way (cc (e))

pub returns-clause-run_value : goal.returns-clause-run_value
returns-clause-run_value c =
    driven_list c.args.table.now (start (goal.at.returns-clause-run_value c).Start) (λ x. c.if-total_at-eq18446744073709551615.false (c.total_at.ensures ∙ x)) c.args.order.now c.drive.ensures.run_value
