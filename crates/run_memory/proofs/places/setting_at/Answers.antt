-- `run_memory::places::setting_at` meets its contract: there are two settings.
use Rattle.run_memory.specs.Blocks.{numbers_in}
use Rattle.run_memory.proofs.Numbers.{setting_get, setting_past}
use Rattle.run_memory.proofs.places.setting_at.Goals as goal

pub returns-then-i-lt2 : goal.returns-then-i-lt2
returns-then-i-lt2 c =
    let d = c.args in
    setting_get d.numbers.now d.i c.if-i-lt2.true

pub returns-else-i-lt2 : goal.returns-else-i-lt2
returns-else-i-lt2 c =
    let d = c.args in
    setting_past (numbers_in d.numbers.now) d.i c.if-i-lt2.false
