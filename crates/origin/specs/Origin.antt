-- Which action of the table as given an action of the filled-out table is (change request N6): by the filling's layout, and from the filled-out table and K alone.
use Rattle.std.specs.Prelude.{ℕ, zero, suc, ◌+◌, ◌-◌, ◌*◌, Bool, ◌&&◌, ◌||◌, eqb, ltb, leb, length}
use Rattle.table.specs.Sum.{pick, sum_to}
use Rattle.table.specs.Format.{is, Table, kind}
use Rattle.table.specs.declared.kinds.Kind.TheVariants.{Fork as fork, Join as join}
use Rattle.table.specs.Checks.{outside}
use Rattle.filling.specs.Filled.{big, new_threads, in_front, filled_from}

-- no action: m has 16 bits, so that no table has this one
abbrev pub no_action : ℕ
no_action = 65535

-- ---- by the layout, from the table as given

-- how many actions are written for those below a, each with what it gets in front of it
abbrev pub written_to : Table → ℕ → ℕ → ℕ
written_to T K a = length (filled_from T K 0 a)

-- where action a of the table as given stands in the filled-out table: "gets a fork and a join of a dummy tree in front of it"
abbrev pub place_of : Table → ℕ → ℕ → ℕ
place_of T K a = written_to T K a + length (in_front T K a)

-- the one of the first k actions that stands at i
unfoldable pub origin_below : Table → ℕ → ℕ → ℕ → ℕ
origin_below T K i zero = no_action
origin_below T K i (suc a) = pick (eqb (place_of T K a) i) a (origin_below T K i a)

-- the action of the table as given that action i of the filled-out table is, none where it was put in
abbrev pub origin_of : Table → ℕ → ℕ → ℕ
origin_of T K i = origin_below T K i T.actions

-- ---- from the filled-out table U and K

-- "New threads are numbered from n on": n is what is left without those that the allocs above K have brought
abbrev pub given_threads : Table → ℕ → ℕ
given_threads U K = U.threads - sum_to (new_threads U K) U.actions

-- allocs above K among the first k actions
abbrev pub bigs_to : Table → ℕ → ℕ → ℕ
bigs_to U K k = sum_to (λ a. pick (big U K a) 1 0) k

-- where the bodies of the threads from n on begin
abbrev pub bodies_to : Table → ℕ → ℕ
bodies_to U n = pick (ltb n U.threads) (U.first n) U.actions

-- an action that was put in lies in the body of a thread from n on, or forks or joins one
unfoldable pub put_in : Table → ℕ → ℕ → Bool
put_in U n i = leb (bodies_to U n) i || ((is fork (kind U i) || is join (kind U i)) && leb n (U.argument i))

-- Each alloc above K has a fork and a join in front of it. With no such action, or no such quota, there is none.
unfoldable pub origin_in : Table → ℕ → ℕ → ℕ
origin_in U K i =
    pick (outside 1 16777215 K || leb U.actions i) no_action (pick (put_in U (given_threads U K) i) no_action (i - 2 * bigs_to U K (suc i)))
