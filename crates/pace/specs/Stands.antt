-- When a pace stands for a row of turns: its counters are those of the row.
use Rattle.std.specs.Prelude.{◌≡◌, ◌↔◌, ℕ, ◌+◌, ◌*◌, ◌≤◌, ◌<◌, length, get_or}
use mathlib.Core.List.{List, Memᴰ}
use Rattle.schedule.specs.Memory.{Keeps}
use Rattle.pace.specs.Since.{asked_of, after_latest}
use Rattle.pace.specs.Pace.{size, bound_in, workers_in, kept_in, after_in}

pub record StandsFor (l : List ℕ) (p b : ℕ) (row : List ℕ) : Type 0 where
  pub long : length l ≡ size
  pub bound : bound_in l ≡ b
  pub workers : workers_in l ≡ p
  pub some_worker : 1 ≤ p
  pub few_workers : p ≤ 16
  pub some_bound : 1 ≤ b
  pub small_bound : b ≤ 65535
  -- the turns are those of workers below p
  pub below : (w : ℕ) → Memᴰ w row → w < p
  -- a counter for each two workers
  pub counters : (w x : ℕ) → w < 16 → x < 16 → get_or l (16 * w + x) 0 ≡ asked_of x w row
  -- whose turn was the latest
  pub after : after_in l ≡ after_latest row
  -- the least b kept: the row keeps the rule with exactly those numbers that are no smaller
  pub kept : (c : ℕ) → Keeps c row ↔ (kept_in l ≤ c)
