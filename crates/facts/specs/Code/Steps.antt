-- What the code's inner functions promise: an accepted table, what a body holds at most, and the walk for levels.
use Rattle.std.specs.Prelude.{◌≡◌, ℕ, suc, ◌+◌, ◌-◌, ◌^◌, ◌≤◌, ◌<◌, max, List, length, get_or}
use Rattle.table.specs.Sum.{pick, sum_to}
use Rattle.table.specs.Format.{is, kind_of, code_at, argument_at, Table, table_of}
use Rattle.table.specs.declared.kinds.Kind.{Kind}
use Rattle.table.specs.declared.kinds.Kind.TheVariants.{Alloc as alloc, Free as free, Fork as fork, Join as join}
use Rattle.table.specs.Checks.{end_of}
use Rattle.table.specs.Rules.{BalanceRules}
use Rattle.table.specs.Level.{level}
use Rattle.table.specs.Code.Steps.{Nested, child_amount, amount_at}

-- all that the checks find
pub record Kept (s : List ℕ) (n m : ℕ) : Type 0 where
  pub nested : Nested s n m
  pub balances : BalanceRules (table_of s)

-- what is held before action i, counted from the body's start, and the highest while a child forked there runs
unfoldable pub top_of : List ℕ → List ℕ → List ℕ → List ℕ → ℕ → ℕ
top_of l rises falls peaks i =
    (sum_to (amount_at alloc fork l rises) i - sum_to (amount_at free fork l falls) i)
    + child_amount fork (kind_of (code_at l i)) (argument_at l i) peaks

-- nothing is given back that was not drawn, and the children's peaks are small
pub record PeaksReady (l : List ℕ) (count : ℕ) (rises falls peaks : List ℕ) : Type 0 where
  pub held : (i : ℕ) → i ≤ count → sum_to (amount_at free fork l falls) i ≤ sum_to (amount_at alloc fork l rises) i
  pub small : (i : ℕ) → i < count → kind_of (code_at l i) ≡ fork → get_or peaks (argument_at l i) 0 < 2 ^ 40

-- ---- the walk for levels

-- thread t begins at level start
pub record Starts (s : List ℕ) (n m t start : ℕ) : Type 0 where
  pub nested : Nested s n m
  pub thread : t < n
  pub level : start ≡ level (table_of s) ((table_of s).first t)

-- an array has end levels, and 0 where none is known yet
pub record EndLevels (T : Table) (ends : List ℕ) : Type 0 where
  pub size : length ends ≡ 1024
  pub right : (d : ℕ) → d < T.threads → (get_or ends d 0 ≡ 0 → ⊥) → get_or ends d 0 ≡ level T (end_of T d)

-- the end level r of thread t has been found, and no end level that was known is lost
pub record Walked (T : Table) (t : ℕ) (ends : List ℕ) (r : ℕ) (ends' : List ℕ) : Type 0 where
  pub level : r ≡ level T (end_of T t)
  pub known : EndLevels T ends'
  pub same : (d : ℕ) → d < T.threads → (get_or ends d 0 ≡ 0 → ⊥) → get_or ends' d 0 ≡ get_or ends d 0

-- the level of an action of kind k after one of level last
abbrev pub next_level : Kind → ℕ → ℕ → List ℕ → ℕ
next_level k x last ends = suc (pick (is join k) (max last (get_or ends x 0)) last)
