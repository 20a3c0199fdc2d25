-- What the steps of the filling promise to each other.
use Rattle.std.specs.Prelude.{◌≡◌, ℕ, suc, ◌+◌, ◌-◌, ◌*◌, ◌≤◌, ◌<◌, List, [], ◌∷◌, true, length, get_or, set, ltb, leb}
use Rattle.table.specs.Sum.{pick}
use Rattle.table.specs.Format.{Table, table_of, kind}
use Rattle.table.specs.declared.kinds.Kind.TheVariants.{Fork as fork}
use Rattle.table.specs.Checks.{owner, with_child, whole}
use Rattle.table.specs.Rules.{Rules}
use Rattle.table.specs.Code.Steps.{Filled}
use Rattle.table.specs.Serial.{serial_order}
use Rattle.filling.specs.Filled.{big, half, new_threads, root_of, threads_to, actions_to}
use Rattle.rows.specs.Rows.{cut_action}
use Rattle.filling.specs.TreeSizes.{sizes_along}

-- an accepted table of n threads, and a quota with which its filled-out table is within the limits
pub record Ready (s : List ℕ) (n K : ℕ) : Type 0 where
  pub rules : Rules s
  pub threads : n ≡ (table_of s).threads
  pub some : 1 ≤ K
  pub few : K < 16777216
  pub few_threads : threads_to (table_of s) K (table_of s).actions ≤ 1024
  pub few_actions : actions_to (table_of s) K (table_of s).actions ≤ 8192

-- the new threads before the allocs of a thread with its children
abbrev pub new_of : Table → ℕ → ℕ → ℕ
new_of T K t = whole T (new_threads T K) t

-- by how much the roots after action a are higher than at it
abbrev pub root_step : Table → ℕ → ℕ → ℕ
root_step T K a = with_child T fork (new_threads T K) (new_of T K) a

-- the dummies of the tree at new thread c
abbrev pub size_at : Table → ℕ → ℕ → ℕ
size_at T K c = get_or (sizes_along T K (serial_order T)) (c - T.threads) 0

-- The array of sums has the new threads of the table's own threads from u on; from n on it has the trees' sizes, as far as they are known.
abbrev pub Sums : Table → ℕ → List ℕ → ℕ → Type 0
Sums T K sums u = Filled T (new_of T K) sums u

-- the sizes at the roots of the big allocs below a
abbrev pub RootsTo : Table → ℕ → ℕ → List ℕ → Type 0
RootsTo T K a sums = (x : ℕ) → x < a → big T K x ≡ true → get_or sums (root_of T K x) 0 ≡ size_at T K (root_of T K x)

-- all sizes
abbrev pub Sizes : Table → ℕ → List ℕ → Type 0
Sizes T K sums = (c : ℕ) → T.threads ≤ c → c < threads_to T K T.actions → get_or sums c 0 ≡ size_at T K c

-- where the roots of a thread's allocs begin, for the threads forked below action a
pub record Starts (T : Table) (K a : ℕ) (starts : List ℕ) : Type 0 where
  pub size : length starts ≡ 1024
  pub root : get_or starts 0 0 ≡ root_of T K (T.first 0)
  pub forked : (x : ℕ) → x < a → kind T x ≡ fork → get_or starts (T.argument x) 0 ≡ root_of T K (T.first (T.argument x))

-- action a's thread, and the root that stands there
pub record At (T : Table) (K a thread root : ℕ) : Type 0 where
  pub owner_is : thread ≡ owner T a
  pub root_is : root ≡ root_of T K a

-- the sizes of the two trees that thread c of a tree of d forks
abbrev pub split_at : ℕ → ℕ → List ℕ → List ℕ
split_at c d l = pick (leb d 1) l (set (set l (suc c) (half d)) (c + 2 * half d) (d - half d))

-- the fork and the join in front of an alloc of x, where it is big
abbrev pub front_rows : ℕ → ℕ → ℕ → List (List ℕ)
front_rows K x root = pick (ltb K x) (cut_action 4 root ∷ cut_action 5 root ∷ []) []
