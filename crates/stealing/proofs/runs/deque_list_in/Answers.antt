-- `stealing::runs::deque_list_in` meets its contract: 32 first, then the run.
use mathlib.Core.Path.{sym, ◌∙◌}
use Rattle.run_memory.specs.Blocks.{memory_of}
use Rattle.run_memory.proofs.Drives.{stopped_as_lem}
use Rattle.stealing.proofs.PairDrives.{full_list, driven_list}
use Rattle.stealing.proofs.runs.deque_list_in.Goals as goal

pub returns-then-total_at-eq18446744073709551615-clause-run_value : goal.returns-then-total_at-eq18446744073709551615-clause-run_value
returns-then-total_at-eq18446744073709551615-clause-run_value c =
    stopped_as_lem _ _ c.refused.ensures (full_list c.args.table.now c.args.order.now (memory_of c.args.bytes.now c.args.words.now c.args.numbers.now c.args.sums.now) (sym c.total_at.ensures ∙ c.if-total_at-eq18446744073709551615.true))

pub returns-clause-run_value : goal.returns-clause-run_value
returns-clause-run_value c =
    driven_list c.args.table.now c.args.order.now (memory_of c.args.bytes.now c.args.words.now c.args.numbers.now c.args.sums.now) (λ x. c.if-total_at-eq18446744073709551615.false (c.total_at.ensures ∙ x)) c.drive.ensures.run_value
