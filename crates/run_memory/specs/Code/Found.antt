-- What a search finds, as the code answers it.
use Rattle.std.specs.Prelude.{None, Option, Some, ltb}
use Rattle.table.specs.Sum.{pick}
use Rattle.schedule.specs.Links.{no_thread}
use Rattle.schedule.specs.Links.{Sought as Search}
use Rattle.run_memory.specs.declared.list.Sought.{Sought}

-- a thread and how many stand left of it, or none
abbrev pub found : Search → Option Sought
found x = pick {A = Option Sought} (ltb x.thread no_thread) (Some (record { thread = x.thread; passed = x.passed })) None
