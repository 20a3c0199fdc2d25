-- `run_memory::act::quota_left` meets its contract: the test chooses.
use mathlib.Core.Path.{sym, ◌∙◌}
use Rattle.run_memory.proofs.act.quota_left.Goals as goal

pub returns-then-holds_at : goal.returns-then-holds_at
returns-then-holds_at c = rw (sym c.holds_at.ensures ∙ c.if-holds_at.true) c.quota_at.ensures

pub returns-else-holds_at : goal.returns-else-holds_at
returns-else-holds_at c = rw (sym c.holds_at.ensures ∙ c.if-holds_at.false) c.setting_at.ensures
