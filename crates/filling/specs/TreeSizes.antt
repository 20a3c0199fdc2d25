-- The trees without recursion: the size of the tree at each new thread, its own included, and the thread's body from it.
use Rattle.std.specs.Prelude.{ℕ, zero, suc, ◌+◌, ◌-◌, ◌*◌, List, [], ◌∷◌, ◌++◌, leb}
use Rattle.table.specs.Sum.{pick}
use Rattle.table.specs.Format.{Table}
use Rattle.table.specs.Written.{Action}
use Rattle.filling.specs.Filled.{big, dummies, half, leaf, fork2}

-- the dummies at each thread of a tree of d, in the order of the threads
unfoldable pub sizes_of : ℕ → ℕ → List ℕ
sizes_of zero d = []
sizes_of (suc f) d = pick (leb d 1) (d ∷ []) (d ∷ (sizes_of f (half d) ++ sizes_of f (d - half d)))

-- the body of thread c, the root of a tree of e
unfoldable pub tree_body : ℕ → ℕ → List Action
tree_body c e = pick (leb e 1) leaf (fork2 (suc c) (c + 2 * half e))

abbrev pub sizes_at : Table → ℕ → ℕ → List ℕ
sizes_at T K a = pick (big T K a) (sizes_of (dummies T K a) (dummies T K a)) []

-- along a list of actions
unfoldable pub sizes_along : Table → ℕ → List ℕ → List ℕ
sizes_along T K [] = []
sizes_along T K (a ∷ l) = sizes_at T K a ++ sizes_along T K l
