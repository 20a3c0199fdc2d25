-- The filled-out table (change request N6): in front of an alloc above the quota K a fork and a join of a tree of dummy threads.
use Rattle.std.specs.Prelude.{ℕ, zero, suc, ◌+◌, ◌-◌, ◌*◌, ◌/◌, List, [], ◌∷◌, ◌++◌, Bool, ◌&&◌, ◌||◌, eqb, ltb, leb}
use Rattle.table.specs.Sum.{pick, sum_to, any_below}
use Rattle.table.specs.Format.{Table, table_of}
use Rattle.table.specs.Checks.{max_threads, max_actions, alloc_of}
use Rattle.table.specs.Pass.{Pass}
use Rattle.table.specs.Serial.{serial_order}
use Rattle.table.specs.Written.{Action, action_at, written}

abbrev pub act : ℕ → ℕ → Action
act k x = record { code = k; argument = x }

-- "an alloc of a above K"
unfoldable pub big : Table → ℕ → ℕ → Bool
big T K a = ltb K (alloc_of T a)

-- what an alloc of x draws from the quota: "The big alloc takes nothing from the quota and isn't put back for it", big being above K, whatever is left
abbrev pub drawn : ℕ → ℕ → ℕ
drawn K x = pick (ltb K x) 0 x

-- "d dummies, d being a / K rounded up"
unfoldable pub dummies : Table → ℕ → ℕ → ℕ
dummies T K a = (alloc_of T a + K - 1) / K

unfoldable pub new_threads : Table → ℕ → ℕ → ℕ
new_threads T K a = pick (big T K a) (2 * dummies T K a - 1) 0

unfoldable pub new_actions : Table → ℕ → ℕ → ℕ
new_actions T K a = pick (big T K a) (7 * dummies T K a - 3) 0

-- what it adds to m + A + J (N8): 7d - 3 actions, 2d - 1 of them joins
unfoldable pub new_turns : Table → ℕ → ℕ → ℕ
new_turns T K a = pick (big T K a) (9 * dummies T K a - 4) 0

-- "the rounded-up half"
abbrev pub half : ℕ → ℕ
half d = (d + 1) / 2

-- "A tree of one is work, end."
abbrev pub leaf : List Action
leaf = act 1 0 ∷ act 0 0 ∷ []

-- "A larger tree forks a tree of the rounded-up half, then one of the rest, joins them in reverse, and ends."
abbrev pub fork2 : ℕ → ℕ → List Action
fork2 x y = act 4 x ∷ act 4 y ∷ act 5 y ∷ act 5 x ∷ act 0 0 ∷ []

-- The tree of d dummies whose root has number c; its threads follow in serial order of their forks. The d is fuel enough.
unfoldable pub tree_of : ℕ → ℕ → ℕ → List (List Action)
tree_of zero c d = []
tree_of (suc f) c d =
    pick (leb d 1) (leaf ∷ []) (fork2 (suc c) (c + 2 * half d) ∷ (tree_of f (suc c) (half d) ++ tree_of f (c + 2 * half d) (d - half d)))

-- the sum of f over what stands before a in a list
unfoldable pub sum_before : (ℕ → ℕ) → ℕ → List ℕ → ℕ
sum_before f a [] = 0
sum_before f a (x ∷ l) = pick (eqb a x) 0 (f x + sum_before f a l)

-- "New threads are numbered from n on in serial order of their forks": the root of the tree in front of alloc a
unfoldable pub root_of : Table → ℕ → ℕ → ℕ
root_of T K a = T.threads + sum_before (new_threads T K) a (serial_order T)

-- "gets a fork and a join of a dummy tree in front of it"
abbrev pub in_front : Table → ℕ → ℕ → List Action
in_front T K a = pick (big T K a) (act 4 (root_of T K a) ∷ act 5 (root_of T K a) ∷ []) []

-- k actions from a on, each with what it gets in front of it
unfoldable pub filled_from : Table → ℕ → ℕ → ℕ → List Action
filled_from T K a zero = []
filled_from T K a (suc k) = in_front T K a ++ (action_at T a ∷ filled_from T K (suc a) k)

abbrev pub filled_body : Table → ℕ → ℕ → List Action
filled_body T K t = filled_from T K (T.first t) (T.count t)

-- k threads from t on
unfoldable pub old_bodies : Table → ℕ → ℕ → ℕ → List (List Action)
old_bodies T K t zero = []
old_bodies T K t (suc k) = filled_body T K t ∷ old_bodies T K (suc t) k

abbrev pub tree_at : Table → ℕ → ℕ → ℕ → List (List Action)
tree_at T K c a = pick (big T K a) (tree_of (dummies T K a) c (dummies T K a)) []

-- the trees of the big allocs in a list, numbered from c on
unfoldable pub trees_along : Table → ℕ → ℕ → List ℕ → List (List Action)
trees_along T K c [] = []
trees_along T K c (a ∷ l) = tree_at T K c a ++ trees_along T K (c + new_threads T K a) l

unfoldable pub filled_bodies : Table → ℕ → List (List Action)
filled_bodies T K = old_bodies T K 0 T.threads ++ trees_along T K T.threads (serial_order T)

-- With nothing big it is the table as given, byte for byte.
unfoldable pub filled_out : List ℕ → ℕ → List ℕ
filled_out s K = pick (any_below (big (table_of s) K) (table_of s).actions) (written (filled_bodies (table_of s) K)) s

-- threads and actions of the filled-out table, as far as the allocs below k make them
abbrev pub threads_to : Table → ℕ → ℕ → ℕ
threads_to T K k = T.threads + sum_to (new_threads T K) k

abbrev pub actions_to : Table → ℕ → ℕ → ℕ
actions_to T K k = T.actions + sum_to (new_actions T K) k

-- the bytes of a table of n threads and m actions
abbrev pub size_of_table : ℕ → ℕ → ℕ
size_of_table n m = 4 + 4 * n + 4 * m

-- 44: "the filled-out table would pass 1,024 threads or 8,192 actions .. at the alloc that first does so, counted by rising action of the table as given"
unfoldable pub overfull : Table → ℕ → ℕ → Bool
overfull T K a = big T K a && (ltb max_threads (threads_to T K (suc a)) || ltb max_actions (actions_to T K (suc a)))

abbrev pub fill_pass : Table → ℕ → Pass
fill_pass T K = record { from = 0; places = T.actions; checks = record { number = 44; applies = overfull T K } ∷ [] }
