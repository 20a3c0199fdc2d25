-- How many turns at most (N8): the turns of a row that aren't idle.
use Rattle.std.specs.Prelude.{ℕ, ◌+◌, List, [], ◌∷◌}
use Rattle.schedule.specs.declared.Reply.{Reply}
use Rattle.schedule.specs.declared.Reply.TheVariants.{Idle, Done, Quota, Wait}

-- 0 of an idle turn, 1 of any other
abbrev pub unless_idle : Reply → ℕ
unless_idle Idle = 0
unless_idle (Done t a) = 1
unless_idle (Quota t x) = 1
unless_idle (Wait t c) = 1

-- "the turns that aren't idle", by their replies
unfoldable pub not_idle : List Reply → ℕ
not_idle [] = 0
not_idle (x ∷ l) = unless_idle x + not_idle l
