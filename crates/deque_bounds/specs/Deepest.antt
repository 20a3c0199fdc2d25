-- How deep a row of turns of DFDeques robs: 1 and the greatest place robbed.
use Rattle.std.specs.Prelude.{ℕ, suc, max, List, [], ◌∷◌}
use Rattle.table.specs.Sum.{pick}
use Rattle.table.specs.Format.{Table}
use Rattle.deques.specs.Deques.{Deques, deque_turn}
use Rattle.deques.specs.DequeRuns.{Pair}
use Rattle.deque_bounds.specs.DequeRows.{robs}

-- 1 and the place that the turn robs, 0 where it robs none
unfoldable pub robbed_at : ℕ → ℕ → Deques → ℕ
robbed_at w c d = pick (robs w c d) (suc c) 0

unfoldable pub deepest : Table → ℕ → Deques → List Pair → ℕ
deepest T K d [] = 0
deepest T K d (g ∷ row) = max (robbed_at g.worker g.choice d) (deepest T K (deque_turn T K g.worker g.choice d).after row)
