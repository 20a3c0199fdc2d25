-- What a preview shows of an action alone.
use Rattle.std.specs.Prelude.{ℕ, get_or, None, Option, Some}
use Rattle.table.specs.Sum.{pick}
use Rattle.table.specs.Format.{Table}
use Rattle.table.specs.declared.kinds.Kind.{Kind}
use Rattle.schedule.specs.declared.Reply.{Reply}
use Rattle.array_machine.specs.Turn.{Outcome, act_on}
use Rattle.run_memory.specs.declared.preview.Seen.{Seen}
use Rattle.run_memory.specs.Memory.{Memory, moved_in}
use Rattle.run_memory.specs.Code.Writes.{having}

abbrev pub seeing : Reply → ℕ → ℕ → ℕ → Option Seen
seeing reply held highest quota = Some (record { reply = reply; held = held; highest = highest; quota = quota })

-- something does not fit
abbrev pub unseen : Option Seen
unseen = None

abbrev pub seen_of : Outcome → Option Seen
seen_of o = pick o.fits (seeing o.reply o.totals.held o.totals.highest o.worker.quota) unseen

-- of action a of kind k with argument x, of thread t, whose worker has this quota left
abbrev pub seen_in : Kind → Table → ℕ → ℕ → ℕ → ℕ → Memory → Option Seen
seen_in k T t a x quota M = seen_of (act_on k T (get_or M.settings 1 0) M.parents t a x M.arrays (moved_in M).totals (having t quota))
