-- A job table in the words of document 01, "The job table", said of the numbers that specs/Format reads off the bytes and without any of the checks. That a
-- table is accepted exactly when it is one is `accepted_job_table` (proofs/JobTables). At the end, in the same words, where 9 is given.
use Rattle.std.specs.Prelude.{◌≡◌, ℕ, zero, suc, ◌+◌, ◌*◌, ◌≤◌, ◌<◌, List, length, ℤ, pos, neg_ℤ, ◌+ℤ◌}
use Rattle.table.specs.Format.{Table, kind, threads_of, actions_of, table_of}
use Rattle.table.specs.declared.kinds.Kind.{Kind}
use Rattle.table.specs.declared.kinds.Kind.TheVariants.{End as end, Work as work, Alloc as alloc, Free as free, Fork as fork, Join as join, Unknown as unknown}
use Rattle.table.specs.Checks.{end_of}

-- ---- the bytes

-- "threads n (16 bits, 1 to 1,024), actions m (16 bits, 1 to 8,192)"; a head of 4 bytes, "n entries of 4 bytes", "m actions of 4 bytes"
pub record Sized (s : List ℕ) : Type 0 where
  pub threads_least : 1 ≤ threads_of s
  pub threads_most : threads_of s ≤ 1024
  pub actions_least : 1 ≤ actions_of s
  pub actions_most : actions_of s ≤ 8192
  pub bytes : length s ≡ 4 + 4 * threads_of s + 4 * actions_of s

-- ---- the bodies

-- action a lies in thread t's body
pub record InBody (T : Table) (t a : ℕ) : Type 0 where
  pub thread : t < T.threads
  pub from : T.first t ≤ a
  pub below : a < T.first t + T.count t

-- "Bodies follow each other in thread order with no gap": the first begins at action 0, each other where the one before it ends, the last ends with the m actions
pub record LaidOut (T : Table) : Type 0 where
  pub begins : T.first 0 ≡ 0
  pub follows : (t : ℕ) → suc t < T.threads → T.first (suc t) ≡ T.first t + T.count t
  pub closes : (t : ℕ) → suc t ≡ T.threads → T.first t + T.count t ≡ T.actions

-- "0 end, 1 work (both with argument 0); 2 alloc, 3 free (argument at least 1); 4 fork, 5 join (argument a thread number above the thread's own and below n)":
-- argument x at an action of thread t
abbrev pub Argument : Table → ℕ → Kind → ℕ → Type 0
Argument T t end x = x ≡ 0
Argument T t work x = x ≡ 0
Argument T t alloc x = 1 ≤ x
Argument T t free x = 1 ≤ x
Argument T t fork x = (t < x) × (x < T.threads)
Argument T t join x = (t < x) × (x < T.threads)
Argument T t unknown x = ⊥

-- "A body has one end, its last action."
pub record OneEnd (T : Table) (t : ℕ) : Type 0 where
  pub action : ℕ
  pub within : InBody T t action
  pub ends : kind T action ≡ end
  pub only : (a : ℕ) → InBody T t a → kind T a ≡ end → a ≡ action
  pub last : (a : ℕ) → InBody T t a → a ≤ action

pub record WellFormed (T : Table) : Type 0 where
  pub kinds : (a : ℕ) → a < T.actions → T.code a ≤ 5
  pub arguments : (t a : ℕ) → InBody T t a → Argument T t (kind T a) (T.argument a)
  pub ended : (t : ℕ) → t < T.threads → OneEnd T t

-- ---- forks and joins

-- action a of thread t's body is of kind k and names thread c
pub record Names (T : Table) (k : Kind) (t c a : ℕ) : Type 0 where
  pub within : InBody T t a
  pub of_kind_lem : kind T a ≡ k
  pub named : T.argument a ≡ c

-- "Every other thread is forked exactly once in the table." That the thread which forks it has a lower number is the rule on arguments (`parent_lower`,
-- proofs/JobTables).
pub record ForkedOnce (T : Table) (c : ℕ) : Type 0 where
  pub parent : ℕ
  pub action : ℕ
  pub forks : Names T fork parent c action
  pub only : (t a : ℕ) → Names T fork t c a → a ≡ action

-- before action a, thread t "has forked and not yet joined" child c; x is the fork
pub record Unjoined (T : Table) (t a c x : ℕ) : Type 0 where
  pub forked : Names T fork t c x
  pub before : x < a
  pub not_yet : (j : ℕ) → Names T join t c j → j < a → ⊥

-- "the latest child that its thread has forked and not yet joined"
pub record Latest (T : Table) (t a c : ℕ) : Type 0 where
  pub action : ℕ
  pub unjoined : Unjoined T t a c action
  pub latest : (d x : ℕ) → Unjoined T t a d x → x ≤ action

-- "A join names the latest child that its thread has forked and not yet joined; at its end a thread has none left unjoined."
pub record WellNested (T : Table) : Type 0 where
  pub joins : (t c a : ℕ) → Names T join t c a → Latest T t a c
  pub ends : (t a : ℕ) → InBody T t a → kind T a ≡ end → (c x : ℕ) → Unjoined T t a c x → ⊥

-- action a breaks that sentence
pub data BreaksNesting (T : Table) (a : ℕ) : Type 0 where
  not_latest : (t c : ℕ) → Names T join t c a → (Latest T t a c → ⊥) → BreaksNesting T a
  left_unjoined : (t c x : ℕ) → InBody T t a → kind T a ≡ end → Unjoined T t a c x → BreaksNesting T a

-- ---- balances

-- z 0 + z 1 + .. + z (k - 1), signed
unfoldable pub sum_signed : (ℕ → ℤ) → ℕ → ℤ
sum_signed z zero = pos 0
sum_signed z (suc k) = sum_signed z k +ℤ z k

-- by how much an action of this kind with argument x moves its thread's balance, where final is the final balance of the child that it names
abbrev pub moves : Kind → ℕ → ℤ → ℤ
moves end x final = pos 0
moves work x final = pos 0
moves alloc x final = pos x
moves free x final = neg_ℤ (pos x)
moves fork x final = pos 0
moves join x final = final
moves unknown x final = pos 0

-- a child's final balance is the one after its last action
abbrev pub moves_at : Table → (ℕ → ℤ) → ℕ → ℤ
moves_at T after a = moves (kind T a) (T.argument a) (after (end_of T (T.argument a)))

-- "A thread's balance after an action is its allocs less its frees so far, plus the final balances of the children joined so far.": at action k of thread t,
-- the sum over its actions 0 to k
abbrev pub IsBalance : Table → (ℕ → ℤ) → Type 0
IsBalance T after =
    (t k : ℕ) → t < T.threads → k < T.count t → after (T.first t + k) ≡ sum_signed (λ i. moves_at T after (T.first t + i)) (suc k)

-- "It is a signed number and may never fall below 0." Where bodies, kinds and arguments are right, one function and no other is the balance (proofs/Balances).
pub record Balanced (T : Table) : Type 0 where
  pub after : ℕ → ℤ
  pub balance : IsBalance T after
  pub never_below : (a : ℕ) → a < T.actions → (k : ℕ) × (after a ≡ pos k)

-- ---- the whole

pub record JobTable (s : List ℕ) : Type 0 where
  pub sized : Sized s
  pub laid : LaidOut (table_of s)
  pub formed : WellFormed (table_of s)
  pub forked : (c : ℕ) → 0 < c → c < (table_of s).threads → ForkedOnce (table_of s) c
  pub nested : WellNested (table_of s)
  pub balanced : Balanced (table_of s)

-- ---- refusal 9

-- 9 at action a: no earlier check applies (1 to 7: the bytes are sized, laid out and well formed; 8: no action before a forks a thread that an earlier one has forked), and a is the first action
-- that breaks the sentence on joins and ends. That a table is refused so exactly there is `refused_nine` (proofs/FirstUnnested).
pub record FirstUnnested (s : List ℕ) (a : ℕ) : Type 0 where
  pub sized : Sized s
  pub laid : LaidOut (table_of s)
  pub formed : WellFormed (table_of s)
  pub once : (x y : ℕ) → x < y → y < a → kind (table_of s) x ≡ fork → kind (table_of s) y ≡ fork → (table_of s).argument x ≡ (table_of s).argument y → ⊥
  pub kept : (x : ℕ) → x < a → BreaksNesting (table_of s) x → ⊥
  pub breaks : BreaksNesting (table_of s) a
