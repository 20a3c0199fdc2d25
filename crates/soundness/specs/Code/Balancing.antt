-- How the code finds what each thread holds: first each thread's balance so far, the children's before their parents'; then the threads that are joined have nothing.
use Rattle.std.specs.Prelude.{◌≡◌, ℕ, ◌+◌, ◌-◌, ◌≤◌, ◌<◌, List, Bool, ◌&&◌, eqb, length, get_or}
use Rattle.table.specs.Sum.{pick, any_below}
use Rattle.table.specs.Format.{is, Table, kind, table_of}
use Rattle.table.specs.declared.kinds.Kind.TheVariants.{Join as join}
use Rattle.schedule.specs.Sound.{done_in, balance_to, progress_in}
use Rattle.soundness.specs.Code.Checks.{Accepted}

-- the threads from u on have their balances so far, and those from n on nothing
pub record Balances (T : Table) (next status balances : List ℕ) (u : ℕ) : Type 0 where
  pub size : length balances ≡ 1024
  pub right : (t : ℕ) → u ≤ t → t < T.threads → get_or balances t 0 ≡ balance_to T t (progress_in T next status t)
  pub rest : (t : ℕ) → T.threads ≤ t → get_or balances t 0 ≡ 0

-- thread t's actions below stop may be balanced: a child that one of them joins has its final balance
pub record Balancing (s : List ℕ) (n t stop : ℕ) (balances : List ℕ) : Type 0 where
  pub accepted : Accepted s n
  pub thread : t < n
  pub from : (table_of s).first t ≤ stop
  pub upto : stop ≤ (table_of s).first t + (table_of s).count t
  pub small : (a : ℕ) → (table_of s).argument a < 16777216
  pub children : (a : ℕ) → (table_of s).first t ≤ a → a < stop → kind (table_of s) a ≡ join
      → get_or balances ((table_of s).argument a) 0 ≡ balance_to (table_of s) ((table_of s).argument a) ((table_of s).count ((table_of s).argument a))

-- the thread's actions below a come to so much
pub record Balanced (s : List ℕ) (t stop a sum : ℕ) : Type 0 where
  pub from : (table_of s).first t ≤ a
  pub upto : a ≤ stop
  pub value : sum ≡ balance_to (table_of s) t (a - (table_of s).first t)

-- a join of thread u is done below action a
unfoldable pub joined_below : Table → List ℕ → List ℕ → ℕ → ℕ → Bool
joined_below T next status u a = any_below (λ d. is join (kind T d) && (eqb (T.argument d) u && done_in T next status d)) a

-- the threads that are joined below action a have nothing, the others their balances so far
pub record Cleared (T : Table) (next status amounts : List ℕ) (a : ℕ) : Type 0 where
  pub size : length amounts ≡ 1024
  pub right : (u : ℕ) → u < T.threads → get_or amounts u 0 ≡ pick (joined_below T next status u a) 0 (balance_to T u (progress_in T next status u))
  pub rest : (u : ℕ) → T.threads ≤ u → get_or amounts u 0 ≡ 0
