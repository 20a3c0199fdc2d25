-- What the code's inner functions promise here and in the crates of the checks and of the facts: four bytes as a number, what has been checked, and the sums of a walk over one body.
use Rattle.std.specs.Prelude.{◌≡◌, ℕ, ◌+◌, ◌*◌, ◌^◌, ◌≤◌, ◌<◌, List, length, get_or}
use Rattle.table.specs.Sum.{pick, sum_to}
use Rattle.table.specs.Format.{is, kind_of, u32_at, code_at, argument_at, threads_of, actions_of, Table, table_of, own_amount}
use Rattle.table.specs.declared.kinds.Kind.{Kind}
use Rattle.table.specs.declared.kinds.Kind.TheVariants.{Alloc as alloc, Free as free}
use Rattle.table.specs.Rules.{HeadRules, ContentRules, BodyRules, NestRules, ForkRules}

-- a number r that is the four bytes from i on, each below 256
pub record DoubleWord (s : List ℕ) (i r : ℕ) : Type 0 where
  pub value : r ≡ u32_at s i
  pub byte0 : get_or s i 0 < 256
  pub byte1 : get_or s (i + 1) 0 < 256
  pub byte2 : get_or s (i + 2) 0 < 256
  pub byte3 : get_or s (i + 3) 0 < 256

-- ---- what has been checked when a pass begins

pub record Headed (s : List ℕ) (n m : ℕ) : Type 0 where
  pub head : HeadRules s
  pub threads : n ≡ threads_of s
  pub actions : m ≡ actions_of s

pub record Laid (s : List ℕ) (n m : ℕ) : Type 0 where
  pub headed : Headed s n m
  pub contents : ContentRules (table_of s)

pub record Formed (s : List ℕ) (n m : ℕ) : Type 0 where
  pub laid : Laid s n m
  pub bodies : BodyRules (table_of s)

pub record Nested (s : List ℕ) (n m : ℕ) : Type 0 where
  pub formed : Formed s n m
  pub nesting : NestRules (table_of s)
  pub forking : ForkRules (table_of s)

-- ---- the walks over one body l, with the children's amounts in arrays

-- the child's amount where k is the kind at which children count
abbrev pub child_amount : Kind → Kind → ℕ → List ℕ → ℕ
child_amount at k x amounts = pick (is at k) (get_or amounts x 0) 0

-- what action i adds
unfoldable pub amount_at : Kind → Kind → List ℕ → List ℕ → ℕ → ℕ
amount_at own at l amounts i =
    own_amount own (kind_of (code_at l i)) (argument_at l i) + child_amount at (kind_of (code_at l i)) (argument_at l i) amounts

-- the body is there, its children are below 1,024, and its sums are small
pub record WalkReady (at : Kind) (l : List ℕ) (count : ℕ) (rises falls : List ℕ) : Type 0 where
  pub room : 4 * count ≤ length l
  pub few : count ≤ 8192
  pub children : (i : ℕ) → i < count → kind_of (code_at l i) ≡ at → argument_at l i < 1024
  pub rise_small : sum_to (amount_at alloc at l rises) count < 2 ^ 40
  pub fall_small : sum_to (amount_at free at l falls) count < 2 ^ 40

-- an array has the amount of each thread from u on
pub record Filled (T : Table) (amount : ℕ → ℕ) (amounts : List ℕ) (u : ℕ) : Type 0 where
  pub size : length amounts ≡ 1024
  pub right : (t : ℕ) → u ≤ t → t < T.threads → get_or amounts t 0 ≡ amount t
