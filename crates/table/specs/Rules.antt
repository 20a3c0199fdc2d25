-- The rules of a job table, in the order of document 01's list, each as a fact at every place: what an accepted table keeps. They are the tests of specs/Checks;
-- specs/JobTable says the same without them, in the paper's words.
use Rattle.std.specs.Prelude.{◌≡◌, ℕ, ◌<◌, List, false}
use Rattle.table.specs.Format.{Table, table_of}
use Rattle.table.specs.Checks.{too_short, out_of_range, wrong_length, entry_wrong, total_wrong, kind_unknown, argument_wrong, end_misplaced}
use Rattle.table.specs.Checks.{forked_before, join_not_latest, end_with_open, never_forked, balance_below0}

-- 1 to 3
pub record HeadRules (s : List ℕ) : Type 0 where
  pub long : too_short s ≡ false
  pub ranged : out_of_range s ≡ false
  pub sized : wrong_length s ≡ false

-- 4
pub record ContentRules (T : Table) : Type 0 where
  pub entries : (t : ℕ) → t < T.threads → entry_wrong T t ≡ false
  pub total : total_wrong T ≡ false

-- 5 to 7
pub record BodyRules (T : Table) : Type 0 where
  pub kinds : (a : ℕ) → a < T.actions → kind_unknown T a ≡ false
  pub arguments : (a : ℕ) → a < T.actions → argument_wrong T a ≡ false
  pub ends : (a : ℕ) → a < T.actions → end_misplaced T a ≡ false

-- 8 and 9
pub record NestRules (T : Table) : Type 0 where
  pub once : (a : ℕ) → a < T.actions → forked_before T a ≡ false
  pub latest : (a : ℕ) → a < T.actions → join_not_latest T a ≡ false
  pub joined : (a : ℕ) → a < T.actions → end_with_open T a ≡ false

-- 11
pub record ForkRules (T : Table) : Type 0 where
  pub forked : (t : ℕ) → 0 < t → t < T.threads → never_forked T t ≡ false

-- 10
pub record BalanceRules (T : Table) : Type 0 where
  pub balanced : (a : ℕ) → a < T.actions → balance_below0 T a ≡ false

-- every rule
pub record Rules (s : List ℕ) : Type 0 where
  pub head : HeadRules s
  pub contents : ContentRules (table_of s)
  pub bodies : BodyRules (table_of s)
  pub nesting : NestRules (table_of s)
  pub forking : ForkRules (table_of s)
  pub balances : BalanceRules (table_of s)
