-- Dependencies, levels and the depth D (document 01, "Serial order, peak, depth").
use Rattle.std.specs.Prelude.{ℕ, zero, suc, pred, List, [], ◌∷◌, ◌++◌, eqb}
use Rattle.table.specs.Sum.{pick, greatest}
use Rattle.table.specs.Format.{is, Table, kind}
use Rattle.table.specs.declared.kinds.Kind.TheVariants.{Join as join}
use Rattle.table.specs.Checks.{owner, end_of, forks}

-- the action below a that forks thread c (the last, where there are several; 0 where there is none)
unfoldable pub fork_below : Table → ℕ → ℕ → ℕ
fork_below T zero c = 0
fork_below T (suc a) c = pick (forks T c a) a (fork_below T a c)

-- "for a first action, the fork"; the root's first action depends on nothing
unfoldable pub fork_of : Table → ℕ → List ℕ
fork_of T zero = []
fork_of T (suc t) = fork_below T T.actions (suc t) ∷ []

-- "the one before it in its thread; for a first action, the fork"
unfoldable pub before_it : Table → ℕ → List ℕ
before_it T a = pick (eqb a (T.first (owner T a))) (fork_of T (owner T a)) (pred a ∷ [])

-- "for a join, also the child's end"
unfoldable pub joined_end : Table → ℕ → List ℕ
joined_end T a = pick (is join (kind T a)) (end_of T (T.argument a) ∷ []) []

-- "the actions it depends on"
unfoldable pub depends_on : Table → ℕ → List ℕ
depends_on T a = before_it T a ++ joined_end T a

-- "level 1 plus the greatest level among the actions it depends on"; the root's first action depends on none and has level 1. What an action depends on
-- comes before it in serial order, so the count of actions is fuel enough; `level_is` (proofs/Levels) is the same sentence without it.
unfoldable pub level_within : ℕ → Table → ℕ → ℕ
level_within zero T a = 0
level_within (suc f) T a = suc (greatest (level_within f T) (depends_on T a))

abbrev pub level : Table → ℕ → ℕ
level T a = level_within T.actions T a

-- "D is the level of the root's end."
unfoldable pub D : Table → ℕ
D T = level T (end_of T 0)
