-- Where the bodies lie: thread after thread with no gap, so that every action has one owner; and what the first pass says of kinds, arguments and ends.
use mathlib.Core.Path.{◌≡◌, refl, ap}
use Prim.Native.Nat.{ℕ, zero, suc, pred, ◌+◌, ◌≤◌, ◌<◌}
use mathlib.Core.Bool.{false, not, ◌&&◌}
use native.Mathlib.Decide.{dec_lt}
use native.Mathlib.Omega.{arith}
use lib.Dec.{ltb, leb, eqb}
use borrow.Author.Tests.{le-leb, lt-leb, eqb-true, eqb-false, eq-eqb, not-false}
use Rattle.table.specs.Sum.{pick, sum_to}
use Rattle.table.specs.Format.{is, Table, kind}
use Rattle.table.specs.declared.kinds.Kind.{Kind}
use Rattle.table.specs.declared.kinds.Kind.TheVariants.{End as end, Fork as fork, Join as join, Unknown as unknown}
use Rattle.table.specs.Checks.{counts_below, entry_wrong, total_wrong, owner_below, owner, end_of, kind_unknown, argument_fits, argument_wrong, end_misplaced}
use Rattle.table.specs.Rules.{ContentRules, BodyRules}
use Rattle.table.proofs.Sums.{sum_to_part}
use Rattle.table.proofs.Tests.{no_way, or_neither, between, not_differ, is_true, same_is}

-- ---- the contents

module _ (T : Table) (c : ContentRules T) where
  pub first_is : (t : ℕ) → t < T.threads → T.first t ≡ counts_below T t
  unfolding entry_wrong
  first_is t h = eqb-true (T.first t) (counts_below T t) (not-false _ (or_neither _ _ (c.entries t h)).0)

  pub count_pos : (t : ℕ) → t < T.threads → 0 < T.count t
  unfolding entry_wrong
  count_pos t h = omega (arith, eqb-false (T.count t) 0 (or_neither (not (eqb (T.first t) (counts_below T t))) _ (c.entries t h)).1)

  pub counts_all : counts_below T T.threads ≡ T.actions
  unfolding total_wrong
  counts_all = eqb-true (counts_below T T.threads) T.actions (not-false _ c.total)

  -- a body ends at or before the start of every later one, and within the actions
  pub body_before : (t u : ℕ) → t < u → u < T.threads → T.first t + T.count t ≤ T.first u
  unfolding sum_to
  body_before t u h k =
      let l : t < T.threads = omega arith in
      omega (arith, first_is t l, first_is u k, sum_to_part T.count (suc t) u h)

  pub body_within : (t : ℕ) → t < T.threads → T.first t + T.count t ≤ T.actions
  unfolding sum_to
  body_within t h = omega (arith, first_is t h, counts_all, sum_to_part T.count (suc t) T.threads h)

  -- a body begins where the one before it ends
  pub first_next : (t : ℕ) → suc t < T.threads → T.first (suc t) ≡ T.first t + T.count t
  unfolding sum_to
  first_next t h =
      let l : t < T.threads = omega arith in
      omega (arith, first_is t l, first_is (suc t) h)

  -- and the last one ends with the actions
  pub last_ends : (t : ℕ) → suc t ≡ T.threads → T.first t + T.count t ≡ T.actions
  unfolding sum_to
  last_ends t e =
      let l : t < T.threads = omega arith in
      omega (arith, ap (λ k. counts_below T k) e, counts_all, first_is t l)

  -- `end_of` is a subtraction: the same said with a sum
  pub after_end : (t : ℕ) → t < T.threads → suc (end_of T t) ≡ T.first t + T.count t
  after_end t h =
      let e : suc (pred (T.first t + T.count t)) ≡ T.first t + T.count t = omega (arith, count_pos t h) in
      e

  owner_below_is : (k t a : ℕ) → k ≤ T.threads → t < k → T.first t ≤ a → a < T.first t + T.count t → owner_below T k a ≡ t
  unfolding owner_below
  owner_below_is zero t a h l p q = omega arith
  owner_below_is (suc k) t a h l p q = go (owner_below_is k t a (omega arith)) (dec_lt t k)
    where
      go : (t < k → T.first t ≤ a → a < T.first t + T.count t → owner_below T k a ≡ t) → Dec (t < k) → pick (leb (T.first k) a) k (owner_below T k a) ≡ t
      go ih (yes m) = rw (lt-leb (T.first k) a (omega (arith, body_before t k m h))) (ih m p q)
      go ih (no m) =
          let e : k ≡ t = omega arith in
          rw (e, le-leb (T.first t) a p)

  -- the thread in whose body an action lies owns it
  pub owner_is : (t a : ℕ) → t < T.threads → T.first t ≤ a → a < T.first t + T.count t → owner T a ≡ t
  owner_is t a h p q = owner_below_is T.threads t a (omega arith) h p q

  pub owner_at : (t i : ℕ) → t < T.threads → i < T.count t → owner T (T.first t + i) ≡ t
  owner_at t i h k = owner_is t (T.first t + i) h (omega arith) (omega arith)

  pub end_within : (t : ℕ) → t < T.threads → end_of T t < T.actions
  end_within t h = omega (arith, after_end t h, body_within t h)

  pub first_within : (t : ℕ) → t < T.threads → T.first t < T.actions
  first_within t h = omega (arith, count_pos t h, body_within t h)

  pub owner_of_first : (t : ℕ) → t < T.threads → owner T (T.first t) ≡ t
  owner_of_first t h = owner_is t (T.first t) h (omega arith) (omega (arith, count_pos t h))

  pub owner_of_end : (t : ℕ) → t < T.threads → owner T (end_of T t) ≡ t
  owner_of_end t h = owner_is t (end_of T t) h (omega (arith, count_pos t h, after_end t h)) (omega (arith, after_end t h))

  -- every action lies in some body
  holder : (k a : ℕ) → k ≤ T.threads → a < counts_below T k → (t : ℕ) × (t < T.threads) × (T.first t ≤ a) × (a < T.first t + T.count t)
  unfolding sum_to
  holder zero a h l = absurd (omega arith)
  holder (suc k) a h l = go (holder k a (omega arith)) (dec_lt a (counts_below T k))
    where
      Held : Type 0
      Held = (t : ℕ) × (t < T.threads) × (T.first t ≤ a) × (a < T.first t + T.count t)

      go : (a < counts_below T k → Held) → Dec (a < counts_below T k) → Held
      go ih (yes m) = ih m
      go ih (no m) = (k, h, omega (arith, first_is k h), omega (arith, first_is k h))

  owner_holds : (a : ℕ) → a < T.actions → (owner T a < T.threads) × (T.first (owner T a) ≤ a) × (a < T.first (owner T a) + T.count (owner T a))
  owner_holds a h =
      let (t, l, p, q) = holder T.threads a (omega arith) (omega (arith, counts_all)) in
      rw (owner_is t a l p q) (l, p, q)

  pub owner_below_lem : (a : ℕ) → a < T.actions → owner T a < T.threads
  owner_below_lem a h = (owner_holds a h).0

  pub owner_first : (a : ℕ) → a < T.actions → T.first (owner T a) ≤ a
  owner_first a h = (owner_holds a h).1

  pub owner_end : (a : ℕ) → a < T.actions → a < T.first (owner T a) + T.count (owner T a)
  owner_end a h = (owner_holds a h).2

-- ---- the first pass

-- the kinds whose argument is a child
abbrev pub NamesChild : Kind → Type 0
NamesChild k = (own n x : ℕ) → argument_fits k own n x ≡ (ltb own x && ltb x n)

pub names_fork : NamesChild fork
names_fork own n x = refl

pub names_join : NamesChild join
names_join own n x = refl

module _ (T : Table) (c : ContentRules T) (b : BodyRules T) where
  pub kind_known : (a : ℕ) → a < T.actions → kind T a ≡ unknown → ⊥
  unfolding kind_unknown
  kind_known a h k = no_way (cc (b.kinds a h, same_is unknown (kind T a) k))

  -- a child is a thread with a higher number
  pub child_between : (k : Kind) → NamesChild k → (a : ℕ) → a < T.actions → kind T a ≡ k
      → (owner T a < T.argument a) × (T.argument a < T.threads)
  unfolding argument_wrong
  child_between k names a h e = between (owner T a) (T.argument a) T.threads (rw (e, names) at (b.arguments a h))

  pub fork_above : (a : ℕ) → a < T.actions → kind T a ≡ fork → owner T a < T.argument a
  fork_above a h e = (child_between fork names_fork a h e).0

  pub fork_below_lem : (a : ℕ) → a < T.actions → kind T a ≡ fork → T.argument a < T.threads
  fork_below_lem a h e = (child_between fork names_fork a h e).1

  pub join_above : (a : ℕ) → a < T.actions → kind T a ≡ join → owner T a < T.argument a
  join_above a h e = (child_between join names_join a h e).0

  pub join_below : (a : ℕ) → a < T.actions → kind T a ≡ join → T.argument a < T.threads
  join_below a h e = (child_between join names_join a h e).1

  -- a forked child's body lies beyond the fork
  pub fork_later : (a : ℕ) → a < T.actions → kind T a ≡ fork → a < T.first (T.argument a)
  fork_later a h k =
      omega (arith, owner_end T c a h, body_before T c (owner T a) (T.argument a) (fork_above a h k) (fork_below_lem a h k))

  -- an end is the last action of its body, and the last action is an end
  pub end_is_last : (a : ℕ) → a < T.actions → is end (kind T a) ≡ eqb a (end_of T (owner T a))
  unfolding end_misplaced
  end_is_last a h = not_differ _ _ (b.ends a h)

  -- an action that is no end has the next one in its thread
  next_in_body_lem : (a : ℕ) → a < T.actions → is end (kind T a) ≡ false → suc a < T.first (owner T a) + T.count (owner T a)
  next_in_body_lem a h k =
      omega (
        arith,
        owner_end T c a h,
        after_end T c (owner T a) (owner_below_lem T c a h),
        eqb-false a (end_of T (owner T a)) (cc (end_is_last a h)),
      )

  pub next_within : (a : ℕ) → a < T.actions → is end (kind T a) ≡ false → suc a < T.actions
  next_within a h k = omega (arith, next_in_body_lem a h k, body_within T c (owner T a) (owner_below_lem T c a h))

  pub next_owner : (a : ℕ) → a < T.actions → is end (kind T a) ≡ false → owner T (suc a) ≡ owner T a
  next_owner a h k =
      owner_is T c (owner T a) (suc a) (owner_below_lem T c a h) (omega (arith, owner_first T c a h)) (next_in_body_lem a h k)

  pub end_kind : (t : ℕ) → t < T.threads → kind T (end_of T t) ≡ end
  end_kind t h =
      is_true end (kind T (end_of T t))
      (cc (end_is_last (end_of T t) (end_within T c t h), owner_of_end T c t h, eq-eqb (end_of T t) (end_of T t) refl))

  pub end_last : (a : ℕ) → a < T.actions → kind T a ≡ end → a ≡ end_of T (owner T a)
  end_last a h k = eqb-true a (end_of T (owner T a)) (cc (end_is_last a h, same_is end (kind T a) k))
