-- The place of an action in serial order, counted from 0: its rank. Its equations from action to action, and that it lies below the count of actions.
use mathlib.Core.Path.{◌≡◌, refl, sym}
use Prim.Native.Nat.{ℕ, zero, suc, ◌+◌, ◌-◌, ◌≤◌, ◌<◌}
use mathlib.Core.List.{Memᴰ}
use mathlib.Core.Bool.{Bool, true, false}
use native.Mathlib.Omega.{arith}
use lib.ListN.{length, length-append}
use Rattle.table.specs.Format.{is, Table, kind}
use Rattle.table.specs.declared.kinds.Kind.TheVariants.{End as end, Fork as fork, Join as join}
use Rattle.table.specs.Checks.{owner, end_of, open_before}
use Rattle.table.specs.Rules.{ContentRules, BodyRules, NestRules, ForkRules}
use Rattle.table.specs.Serial.{serial}
use Rattle.table.specs.Level.{fork_below}
use Rattle.table.proofs.Tests.{is_true, fork_no_end}
use Rattle.table.proofs.Bodies.{after_end, first_within, end_within, owner_of_first, owner_of_end, owner_below_lem, owner_first, owner_end, end_kind, end_last}
use Rattle.table.proofs.Bodies.{fork_above, fork_below_lem, join_below, next_within, next_owner}
use Rattle.table.proofs.Nesting.{open_join, open_forked, fork_found, fork_exists}
use Rattle.table.proofs.NestedThreads.{parent_lower}
use Rattle.table.proofs.Serial.{serial_end, serial_fork, serial_step, serial_bound}

-- ---- the definition

-- how many actions serial order has from an action to its thread's end
abbrev pub rest : Table → ℕ → ℕ
rest T a = length (serial T a)

-- The place after a thread's end. A child's actions follow its fork x at once, and x lies rest T x places before the one after its own thread's end. A
-- fork lies in a thread of a lower number, so the count of threads is fuel enough; `after_root` and `after_child` say the same without it.
unfoldable pub after_within : ℕ → Table → ℕ → ℕ
after_within zero T t = 0
after_within (suc k) T zero = rest T (T.first 0)
after_within (suc k) T (suc t) =
    let x : ℕ = fork_below T T.actions (suc t) in
    suc (after_within k T (owner T x) - rest T x) + rest T (T.first (suc t))

abbrev pub after : Table → ℕ → ℕ
after T t = after_within T.threads T t

-- the place of an action in serial order
unfoldable pub rank : Table → ℕ → ℕ
rank T a = after T (owner T a) - rest T a

-- ---- the rest of a thread

module _ (T : Table) (c : ContentRules T) (b : BodyRules T) where
  rest_end : (t : ℕ) → t < T.threads → rest T (end_of T t) ≡ 1
  rest_end t h = rw (serial_end T c b (end_of T t) (end_within T c t h) (end_kind T c b t h))

  pub rest_fork : (a : ℕ) → a < T.actions → kind T a ≡ fork → rest T a ≡ suc (rest T (T.first (T.argument a)) + rest T (suc a))
  rest_fork a h k = rw (serial_fork T c b a h k, length-append)

  rest_step : (a : ℕ) → a < T.actions → is end (kind T a) ≡ false → is fork (kind T a) ≡ false → rest T a ≡ suc (rest T (suc a))
  rest_step a h e k = rw (serial_step T c b a h e k)

  rest_next : (a : ℕ) → a < T.actions → is end (kind T a) ≡ false → rest T (suc a) < rest T a
  rest_next a h e = go (is fork (kind T a)) refl
    where
      go : (t : Bool) → is fork (kind T a) ≡ t → rest T (suc a) < rest T a
      go true k = omega (arith, rest_fork a h (is_true fork (kind T a) k))
      go false k = omega (arith, rest_step a h e k)

  -- an action with a later one in its thread is no end
  pub no_end : (a d : ℕ) → a < d → d < T.actions → owner T a ≡ owner T d → is end (kind T a) ≡ false
  no_end a d h k o = go (is end (kind T a)) refl
    where
      go : (t : Bool) → is end (kind T a) ≡ t → t ≡ false
      go true e =
          let p : a ≡ end_of T (owner T d) = rw o at (end_last T c b a (omega arith) (is_true end (kind T a) e)) in
          absurd (omega (arith, after_end T c (owner T d) (owner_below_lem T c d k), owner_end T c d k))
      go false e = refl

  pub rest_along : (k a d : ℕ) → a + k ≡ d → d < T.actions → owner T a ≡ owner T d → rest T d + k ≤ rest T a
  rest_along zero a d h j o =
      let e : a ≡ d = omega arith in
      rw e (omega arith)
  rest_along (suc k) a d h j o =
      let e : is end (kind T a) ≡ false = no_end a d (omega arith) j o in
      let p : owner T (suc a) ≡ owner T d = cc (next_owner T c b a (omega arith) e) in
      omega (arith, rest_along k (suc a) d (omega arith) j p, rest_next a (omega arith) e)

  pub rest_pos : (a : ℕ) → a < T.actions → 0 < rest T a
  rest_pos a h =
      let t : ℕ = owner T a in
      let l : t < T.threads = owner_below_lem T c a h in
      let e : a + (end_of T t - a) ≡ end_of T t = omega (arith, after_end T c t l, owner_end T c a h) in
      omega (arith, rest_end t l, rest_along (end_of T t - a) a (end_of T t) e (end_within T c t l) (sym (owner_of_end T c t l)))

module _ (T : Table) (c : ContentRules T) (b : BodyRules T) (n : NestRules T) (f : ForkRules T) where
  after_enough : (k j t : ℕ) → t < T.threads → t < k → t < j → after_within k T t ≡ after_within j T t
  unfolding after_within
  after_enough zero j t h p q = omega arith
  after_enough (suc k) zero t h p q = omega arith
  after_enough (suc k) (suc j) zero h p q = refl
  after_enough (suc k) (suc j) (suc t) h p q =
      let l : owner T (fork_below T T.actions (suc t)) < suc t = parent_lower T c b n f (suc t) (omega arith) h in
      rw (after_enough k j (owner T (fork_below T T.actions (suc t))) (omega arith) (omega arith) (omega arith))

  pub after_root : 0 < T.threads → after T 0 ≡ rest T (T.first 0)
  unfolding after_within
  after_root h = after_enough T.threads 1 0 h h (omega arith)

  pub after_child : (a : ℕ) → a < T.actions → kind T a ≡ fork
      → after T (T.argument a) ≡ suc (rank T a) + rest T (T.first (T.argument a))
  unfolding after_within rank
  after_child a h k = go (T.argument a) refl
    where
      go : (t : ℕ) → T.argument a ≡ t → after T t ≡ suc (after T (owner T a) - rest T a) + rest T (T.first t)
      go zero e = omega (arith, fork_above T c b a h k)
      go (suc t) e =
          let l : suc t < T.threads = rw e at (fork_below_lem T c b a h k) in
          let x : fork_below T T.actions (suc t) ≡ a = rw e at (fork_found T c b n a h k) in
          rw (after_enough T.threads (suc T.threads) (suc t) l l (omega arith), x)

  -- ---- ranks along a thread

  rest_below : (t : ℕ) → t < T.threads → rest T (T.first t) ≤ after T t
  rest_below zero h = omega (arith, after_root h)
  rest_below (suc t) h =
      let x = fork_exists T c b n f (suc t) (omega arith) h in
      let e : after T (suc t) ≡ suc (rank T x.0) + rest T (T.first (suc t)) = rw x.3 at (after_child x.0 x.1 x.2) in
      omega arith

  -- along a thread the rank and what is left of the thread add up to the same
  pub rank_rest : (a : ℕ) → a < T.actions → rank T a + rest T a ≡ after T (owner T a)
  unfolding rank
  rank_rest a h =
      let t : ℕ = owner T a in
      let l : t < T.threads = owner_below_lem T c a h in
      let p : T.first t ≤ a = owner_first T c a h in
      omega (arith, rest_below t l, rest_along T c b (a - T.first t) (T.first t) a (omega arith) h (owner_of_first T c t l))

  pub rank_end : (t : ℕ) → t < T.threads → suc (rank T (end_of T t)) ≡ after T t
  rank_end t h =
      let e : rank T (end_of T t) + rest T (end_of T t) ≡ after T t = rw (owner_of_end T c t h) at (rank_rest (end_of T t) (end_within T c t h)) in
      omega (arith, rest_end T c b t h)

  pub rank_first : (t : ℕ) → t < T.threads → rank T (T.first t) + rest T (T.first t) ≡ after T t
  rank_first t h = rw (owner_of_first T c t h) at (rank_rest (T.first t) (first_within T c t h))

  pub rank_root : 0 < T.threads → rank T (T.first 0) ≡ 0
  rank_root h = omega (arith, rank_first 0 h, after_root h)

  pub rank_child : (a : ℕ) → a < T.actions → kind T a ≡ fork → rank T (T.first (T.argument a)) ≡ suc (rank T a)
  rank_child a h k = omega (arith, rank_first (T.argument a) (fork_below_lem T c b a h k), after_child a h k)

  rank_next : (a : ℕ) → a < T.actions → is end (kind T a) ≡ false → rank T (suc a) + rest T (suc a) ≡ rank T a + rest T a
  rank_next a h e = cc (rank_rest a h, rank_rest (suc a) (next_within T c b a h e), next_owner T c b a h e)

  pub rank_step : (a : ℕ) → a < T.actions → is end (kind T a) ≡ false → is fork (kind T a) ≡ false → rank T (suc a) ≡ suc (rank T a)
  rank_step a h e k = omega (arith, rank_next a h e, rest_step T c b a h e k)

  pub rank_fork : (a : ℕ) → a < T.actions → kind T a ≡ fork → rank T (suc a) ≡ suc (rank T a) + rest T (T.first (T.argument a))
  rank_fork a h k = omega (arith, rank_next a h (fork_no_end k), rest_fork T c b a h k)

  rank_along : (k a d : ℕ) → a + k ≡ d → d < T.actions → owner T a ≡ owner T d → rank T a + k ≤ rank T d
  rank_along k a d h j o =
      let e : rank T a + rest T a ≡ rank T d + rest T d = cc (rank_rest a (omega arith), rank_rest d j) in
      omega (arith, rest_along T c b k a d h j o)

  pub rank_rises : (a d : ℕ) → a < d → d < T.actions → owner T a ≡ owner T d → rank T a < rank T d
  rank_rises a d h k o = omega (arith, rank_along (d - a) a d (omega arith) k o)

  -- a joined child's end comes before the join
  pub rank_join : (a : ℕ) → a < T.actions → kind T a ≡ join → rank T (end_of T (T.argument a)) < rank T a
  rank_join a h k =
      let m : Memᴰ (T.argument a) (open_before T a) = rw (open_join T c b n a h k) (mathlib.Core.List.Memᴰ.head refl) in
      let o = open_forked T c b n a (T.argument a) h m in
      let x : ℕ = o.0 in
      let l : x < T.actions = omega (arith, o.1) in
      let e : after T (T.argument a) ≡ rank T (suc x) = cc (o.3, after_child x l o.2, rank_fork x l o.2) in
      let p : owner T (suc x) ≡ owner T a = cc (o.4, next_owner T c b x l (fork_no_end o.2)) in
      omega (arith, rank_end (T.argument a) (join_below T c b a h k), rank_along (a - suc x) (suc x) a (omega (arith, o.1)) h p)

  -- ---- ranks are below the count of actions

  after_bound : (k t : ℕ) → t < k → t < T.threads → after T t ≤ T.actions
  after_bound zero t h j = omega arith
  after_bound (suc k) zero h j = omega (arith, after_root j, serial_bound T c b n (T.first 0) (first_within T c 0 j))
  after_bound (suc k) (suc t) h j =
      let x = fork_exists T c b n f (suc t) (omega arith) j in
      let l : owner T x.0 < suc t = rw x.3 at (fork_above T c b x.0 x.1 x.2) in
      let e : rank T x.0 + rest T x.0 ≤ T.actions = rw (rank_rest x.0 x.1) (after_bound k (owner T x.0) (omega arith) (omega arith)) in
      let q : after T (T.argument x.0) ≤ rank T x.0 + rest T x.0 = omega (arith, after_child x.0 x.1 x.2, rest_fork T c b x.0 x.1 x.2) in
      omega (arith, rw x.3 at q)

  pub rank_bound : (a : ℕ) → a < T.actions → rank T a < T.actions
  rank_bound a h =
      let l : owner T a < T.threads = owner_below_lem T c a h in
      omega (arith, rank_rest a h, rest_pos T c b a h, after_bound (suc (owner T a)) (owner T a) (omega arith) l)
