-- What the walk that finds the 1DF-numbers has done at a place: one array has first the threads' lengths, then their first actions' numbers, then their next actions'.
use Rattle.std.specs.Prelude.{◌≡◌, ℕ, suc, ◌≤◌, ◌<◌, List, length, get_or}
use Rattle.table.specs.Format.{Table, kind}
use Rattle.table.specs.declared.kinds.Kind.TheVariants.{Fork as fork}
use Rattle.table.specs.Checks.{counts_below, end_of}
use Rattle.table.specs.Serial.{serial}
use Rattle.order.specs.Order.{number_of}

-- an action of thread t that is not its end
pub record Inside (T : Table) (t a : ℕ) : Type 0 where
  pub thread : t < T.threads
  pub from : T.first t ≤ a
  pub upto : a < end_of T t

-- Of the threads from u on, those forked before action a have the numbers of their first actions, those forked later their lengths.
pub record Marked (T : Table) (u a : ℕ) (numbers : List ℕ) : Type 0 where
  pub size : length numbers ≡ 1024
  pub begun : (x : ℕ) → x < a → kind T x ≡ fork → u ≤ T.argument x → get_or numbers (T.argument x) 0 ≡ number_of T (T.first (T.argument x))
  pub ahead : (x : ℕ) → a ≤ x → x < T.actions → kind T x ≡ fork → u ≤ T.argument x
      → get_or numbers (T.argument x) 0 ≡ length (serial T (T.first (T.argument x)))

-- The walk along thread t has come to action a, which has this number; the threads up to t are as they were before.
pub record NumbersTo (T : Table) (t a number : ℕ) (before numbers : List ℕ) : Type 0 where
  pub thread : t < T.threads
  pub from : T.first t ≤ a
  pub upto : a ≤ end_of T t
  pub right : number ≡ number_of T a
  pub marked : Marked T (suc t) a numbers
  pub same : (u : ℕ) → u ≤ t → get_or numbers u 0 ≡ get_or before u 0

-- The walk has come to thread t, whose body begins at action a: the threads before it have the numbers of their next actions.
pub record Numbering (T : Table) (next : List ℕ) (t a : ℕ) (numbers : List ℕ) : Type 0 where
  pub place : a ≡ counts_below T t
  pub done : (u : ℕ) → u < t → get_or numbers u 0 ≡ number_of T (get_or next u 0)
  pub root : t ≡ 0 → get_or numbers 0 0 ≡ 0
  pub marked : Marked T t a numbers
