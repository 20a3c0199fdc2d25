-- What the walks over the bodies promise, on flat lists: 17 numbers of 64 bits for each thread, its peaks by the load allowed, and 17 for each open child, what the open children up to it
-- hold at most by how many of them are unended. `walk_right_lem` (proofs/Walked) ties them to the peaks.
use Rattle.std.specs.Prelude.{◌≡◌, ℕ, zero, suc, ◌+◌, ◌-◌, ◌*◌, ◌%◌, ◌^◌, ◌<◌, ◌≤◌, max, Bool, true, ◌||◌, List, length, slice_index, slice_set}
use Rattle.table.specs.Sum.{pick, greatest_to}
use Rattle.table.specs.Format.{is, kind_of, Table, table_of}
use Rattle.table.specs.declared.kinds.Kind.{Kind}
use Rattle.table.specs.declared.kinds.Kind.TheVariants.{End as end, Alloc as alloc, Free as free, Fork as fork, Join as join}
use Rattle.table.specs.Rules.{Rules}
use Rattle.peaks.specs.Peak.{final, peak_on}
use Rattle.peak_walk.specs.Peaked.{standing}

-- number j of row d
abbrev pub slot : ℕ → ℕ → ℕ
slot d j = 17 * d + j

-- 64 bits
abbrev pub cut : ℕ → ℕ
cut x = x % 2 ^ 64

-- the sizes with which no place of a number is too large
pub record Small (r c d : ℕ) : Type 0 where
  pub load : r ≤ 16
  pub child : c < 16777216
  pub depth : d ≤ 65536

-- ---- the rows of open children

-- number j of the row of child c on row d: c has ended, or it is unended with j − 1 unended elders
unfoldable pub row_value : List ℕ → List ℕ → ℕ → ℕ → ℕ → List ℕ → ℕ → ℕ
row_value peaks finals r c d rows zero = cut (slice_index finals c + slice_index rows (slot d 0))
row_value peaks finals r c d rows (suc j) =
    max (cut (slice_index finals c + slice_index rows (slot d (suc j)))) (cut (slice_index peaks (slot c (r - j)) + slice_index rows (slot d j)))

-- its first k numbers written
unfoldable pub pushed : List ℕ → List ℕ → ℕ → ℕ → ℕ → List ℕ → ℕ → List ℕ
pushed peaks finals r c d rows zero = rows
pushed peaks finals r c d rows (suc k) =
    slice_set (pushed peaks finals r c d rows k) (slot (suc d) k) (row_value peaks finals r c d (pushed peaks finals r c d rows k) k)

-- the greatest of the first r + 1 numbers of row d
abbrev pub row_greatest : List ℕ → ℕ → ℕ → ℕ
row_greatest rows d r = greatest_to (λ j. slice_index rows (slot d j)) (suc r)

-- ---- one action

unfoldable pub balance_after : List ℕ → Kind → ℕ → ℕ → ℕ
balance_after finals k x b =
    pick (is alloc k) (cut (b + x)) (pick (is free k) (b - x) (pick (is join k) (cut (b + slice_index finals x)) b))

unfoldable pub depth_after : Kind → ℕ → ℕ
depth_after k d = pick (is fork k) (suc d) (pick (is join k) (d - 1) d)

unfoldable pub rows_after : List ℕ → List ℕ → ℕ → Kind → ℕ → ℕ → List ℕ → List ℕ
rows_after peaks finals r k x d rows = pick (is fork k) (pushed peaks finals r x d rows (suc r)) rows

-- right after a fork of x one more may be unended
unfoldable pub extra_after : List ℕ → ℕ → Kind → ℕ → ℕ → List ℕ → ℕ
extra_after peaks r k x d rows = pick (is fork k) (cut (slice_index peaks (slot x 0) + slice_index rows (slot d r))) 0

pub record Walked : Type 0 where
  pub balance : ℕ
  pub best : ℕ
  pub depth : ℕ
  pub rows : List ℕ

abbrev pub walk : ℕ → ℕ → ℕ → List ℕ → Walked
walk b m d rows = record { balance = b; best = m; depth = d; rows = rows }

-- what is reached at the place after the action
abbrev pub place_after : List ℕ → List ℕ → ℕ → Kind → ℕ → Walked → ℕ
place_after peaks finals r k x w =
    cut (
    balance_after finals k x w.balance
    + max (row_greatest (rows_after peaks finals r k x w.depth w.rows) (depth_after k w.depth) r) (extra_after peaks r k x w.depth w.rows))

-- .. which counts where the thread may stand there
unfoldable pub stepped : List ℕ → List ℕ → ℕ → Bool → Kind → ℕ → Walked → Walked
stepped peaks finals r may k x w =
    walk (balance_after finals k x w.balance) (pick may (max w.best (place_after peaks finals r k x w)) w.best) (depth_after k w.depth)
    (rows_after peaks finals r k x w.depth w.rows)

-- ---- one body

-- the place after action a is a resting place, or all places count
unfoldable pub may_after : (ℕ → ℕ) → Bool → ℕ → Bool
may_after code resting a = pick resting ((is end (kind_of (code a)) || is fork (kind_of (code a))) || is join (kind_of (code (suc a)))) true

-- after k actions from `first` on
unfoldable pub walked : (ℕ → ℕ) → (ℕ → ℕ) → Bool → List ℕ → List ℕ → ℕ → ℕ → List ℕ → ℕ → Walked
walked code argument resting peaks finals r first rows zero = walk 0 0 0 rows
walked code argument resting peaks finals r first rows (suc k) =
    stepped peaks finals r (may_after code resting (first + k)) (kind_of (code (first + k))) (argument (first + k)) (walked code argument resting peaks finals r first rows k)

-- ---- all of them

-- a table of n threads that keeps every rule
pub record Accepted (s : List ℕ) (n : ℕ) : Type 0 where
  pub rules : Rules s
  pub threads : n ≡ (table_of s).threads

-- The lists have the peaks of all threads at loads below r, of those from t on at load r, and the final balances of those from t on; row 0 is the row of no open child.
pub record Right (T : Table) (resting : Bool) (peaks finals rows : List ℕ) (r t : ℕ) : Type 0 where
  pub lower : (d s : ℕ) → d < T.threads → s < r → slice_index peaks (slot d s) ≡ peak_on T (standing T resting) d s
  pub here : (d : ℕ) → t ≤ d → d < T.threads → slice_index peaks (slot d r) ≡ peak_on T (standing T resting) d r
  pub balances : (d : ℕ) → t ≤ d → d < T.threads → slice_index finals d ≡ final T d
  pub peaks_size : length peaks ≡ 17408
  pub finals_size : length finals ≡ 1024
  pub rows_size : length rows ≡ 17408
  pub none : (j : ℕ) → j < 17 → slice_index rows j ≡ 0
