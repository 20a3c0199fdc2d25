-- Joins: no child is joined twice, and every thread but the root is joined, in a thread of a lower number. So what passes from a thread to those that it joins holds of all.
use mathlib.Core.Path.{◌≡◌, refl, sym}
use Prim.Native.Nat.{ℕ, zero, suc, ◌+◌, ◌≤◌, ◌<◌}
use mathlib.Core.Bool.{Bool, true, false}
use lib.Dec.{eqb}
use native.Mathlib.Omega.{arith}
use native.Mathlib.Decide.{ℕ_discrete}
use borrow.Author.Tests.{eqb-true, eq-eqb, ne_eqb}
use Rattle.table.specs.Sum.{pick, sum_to, sum_over}
use Rattle.table.specs.Format.{code_of, is, Table, kind}
use Rattle.table.specs.declared.kinds.Kind.{Kind}
use Rattle.table.specs.declared.kinds.Kind.TheVariants.{End as end, Fork as fork, Join as join}
use Rattle.table.specs.Checks.{open_before, owner, end_of}
use Rattle.table.specs.Rules.{ContentRules, BodyRules, NestRules, ForkRules}
use Rattle.table.proofs.Tests.{no_way, is_true, same_is, fork_no_end}
use Rattle.table.proofs.Sums.{sum_to_zero, sum_to_one}
use Rattle.table.proofs.Nesting.{open_end, open_fork, open_join, open_same, fork_once, fork_exists}
use Rattle.order.proofs.Totals.{one, sum_to_term}
use mathlib.Core.List.{Memᴰ}
use mathlib.Core.Logic.{◌⊎◌, inl, inr}
use Rattle.table.specs.Level.{before_it, joined_end, depends_on}
use Rattle.table.proofs.Bodies.{fork_above, next_within, next_owner}
use Rattle.table.proofs.Serial.{serial_induction}

-- ---- forks and joins counted: the children forked before an action are those joined before it and those that stand open

-- what the arguments of the actions of kind k before action a weigh
abbrev pub weight_of : Table → Kind → (ℕ → ℕ) → ℕ → ℕ
weight_of T k w a = sum_to (λ i. pick (is k (kind T i)) (w (T.argument i)) 0) a

module _ (T : Table) (c : ContentRules T) (b : BodyRules T) (n : NestRules T) where
  pub forked_weight : (w : ℕ → ℕ) (a : ℕ) → a ≤ T.actions → weight_of T fork w a ≡ weight_of T join w a + sum_over w (open_before T a)
  unfolding sum_to sum_over open_before is code_of
  forked_weight w zero h = refl
  forked_weight w (suc a) h = go (is end (kind T a)) (is fork (kind T a)) (is join (kind T a)) refl refl refl (forked_weight w a (omega arith))
    where
      x : ℕ
      x = w (T.argument a)

      go : (e f j : Bool) → is end (kind T a) ≡ e → is fork (kind T a) ≡ f → is join (kind T a) ≡ j
          → weight_of T fork w a ≡ weight_of T join w a + sum_over w (open_before T a)
          → weight_of T fork w a + pick f x 0 ≡ weight_of T join w a + pick j x 0 + sum_over w (open_before T (suc a))
      go e true true p q r ih = no_way (cc (is_true fork (kind T a) q, is_true join (kind T a) r))
      go true true false p q r ih = no_way (cc (is_true end (kind T a) p, is_true fork (kind T a) q))
      go true false true p q r ih = no_way (cc (is_true end (kind T a) p, is_true join (kind T a) r))
      go true false false p q r ih =
          let k : kind T a ≡ end = is_true end (kind T a) p in
          rw k (omega (arith, rw (open_end T c b n a h k) at ih))
      go false true false p q r ih = rw (open_fork T c b n a (is_true fork (kind T a) q)) (omega arith)
      go false false true p q r ih = omega (arith, rw (open_join T c b n a h (is_true join (kind T a) r)) at ih)
      go false false false p q r ih = rw (open_same T c b n a p q r) (omega arith)

  -- at most one action forks a thread
  pub forks_one : (d m : ℕ) → m ≤ T.actions → weight_of T fork (one d) m ≤ 1
  unfolding sum_to
  forks_one d zero h = omega arith
  forks_one d (suc m) h = go (is fork (kind T m)) (eqb (T.argument m) d) refl refl (forks_one d m (omega arith))
    where
      go : (s t : Bool) → is fork (kind T m) ≡ s → eqb (T.argument m) d ≡ t → weight_of T fork (one d) m ≤ 1 → weight_of T fork (one d) m + pick s (pick t 1 0) 0 ≤ 1
      go false t p q ih = omega arith
      go true false p q ih = omega arith
      go true true p q ih = omega (arith, sum_to_zero (λ i. pick (is fork (kind T i)) (one d (T.argument i)) 0) m λ i l. other i l (is fork (kind T i)) (eqb (T.argument i) d) refl refl)
        where
          other : (i : ℕ) → i < m → (u v : Bool) → is fork (kind T i) ≡ u → eqb (T.argument i) d ≡ v → ◌≡◌ {A = ℕ} (pick u (pick v 1 0) 0) 0
          other i l false v x y = refl
          other i l true false x y = refl
          other i l true true x y =
              absurd
              (omega (
                arith,
                fork_once T c b n i m (omega arith) h (is_true fork (kind T i) x) (is_true fork (kind T m) p)
                    (cc (eqb-true (T.argument i) d y, eqb-true (T.argument m) d q)),
              ))

  -- and so at most one joins it
  pub joins_one : (d : ℕ) → weight_of T join (one d) T.actions ≤ 1
  joins_one d = omega (arith, forked_weight (one d) T.actions (omega arith), forks_one d T.actions (omega arith))

  pub join_once : (i j : ℕ) → i < T.actions → j < T.actions → kind T i ≡ join → kind T j ≡ join → T.argument i ≡ T.argument j → i ≡ j
  join_once i j hi hj ki kj e = go (ℕ_discrete j i)
    where
      joins : ℕ → ℕ
      joins x = pick (is join (kind T x)) (one (T.argument i) (T.argument x)) 0

      others : ℕ → ℕ
      others x = pick (eqb x i) 0 (joins x)

      go : Dec (j ≡ i) → i ≡ j
      go (yes q) = sym q
      go (no q) =
          let first : joins i ≡ 1 = rw (same_is join (kind T i) ki, eq-eqb (T.argument i) (T.argument i) refl) in
          let apart : others i ≡ 0 = rw (eq-eqb i i refl) in
          let second : others j ≡ 1 = rw (ne_eqb j i q, same_is join (kind T j) kj, eq-eqb (T.argument j) (T.argument i) (sym e)) in
          absurd
          (omega (
            arith,
            joins_one (T.argument i),
            sum_to_one joins others i T.actions hi (λ x h n. rw (ne_eqb x i n)),
            sum_to_term others j T.actions hj,
          ))

-- ---- every thread is joined

-- a join depends on its child's end
pub join_depends : (T : Table) (a : ℕ) → kind T a ≡ join → Memᴰ (end_of T (T.argument a)) (depends_on T a)
unfolding depends_on joined_end
join_depends T a k = mathlib.Core.List.Memᴰ.append_right (before_it T a) (rw (same_is join (kind T a) k) (mathlib.Core.List.Memᴰ.head refl))

-- from a on there is a join of child d in a's thread
abbrev JoinedFrom : Table → ℕ → ℕ → Type 0
JoinedFrom T d a = (j : ℕ) × (a ≤ j) × (j < T.actions) × (kind T j ≡ join) × (T.argument j ≡ d) × (owner T j ≡ owner T a)

module _ (T : Table) (c : ContentRules T) (b : BodyRules T) (n : NestRules T) (f : ForkRules T) where
  -- a child that stands open is joined later in the same thread
  joined_later : (a : ℕ) → a < T.actions → (d : ℕ) → Memᴰ d (open_before T a) → JoinedFrom T d a
  joined_later = serial_induction T c b (λ a. (d : ℕ) → Memᴰ d (open_before T a) → JoinedFrom T d a)
      (λ a h k d m. absurd (mathlib.Core.List.Memᴰ.not-nil (rw (open_end T c b n a h k) at m)))
      (λ a h k p q d m. back a d h (fork_no_end k) (q d (rw (open_fork T c b n a k) (mathlib.Core.List.Memᴰ.tail m))))
      (λ a h e k q d m. next a h e k q d m (is join (kind T a)) refl)
    where
      back : (a d : ℕ) → a < T.actions → is end (kind T a) ≡ false → JoinedFrom T d (suc a) → JoinedFrom T d a
      back a d h e (j, p, q, r, s, o) = (j, omega arith, q, r, s, cc (next_owner T c b a h e))

      at_join : (a : ℕ) → a < T.actions → is end (kind T a) ≡ false → kind T a ≡ join → ((d : ℕ) → Memᴰ d (open_before T (suc a)) → JoinedFrom T d (suc a))
          → (d : ℕ) → (d ≡ T.argument a) ⊎ Memᴰ d (open_before T (suc a)) → JoinedFrom T d a
      at_join a h e k q d (inl p) = (a, omega arith, h, k, sym p, refl)
      at_join a h e k q d (inr m) = back a d h e (q d m)

      next : (a : ℕ) → a < T.actions → is end (kind T a) ≡ false → is fork (kind T a) ≡ false → ((d : ℕ) → Memᴰ d (open_before T (suc a)) → JoinedFrom T d (suc a))
          → (d : ℕ) → Memᴰ d (open_before T a) → (t : Bool) → is join (kind T a) ≡ t → JoinedFrom T d a
      next a h e k q d m true j =
          let i : kind T a ≡ join = is_true join (kind T a) j in
          at_join a h e i q d (mathlib.Core.List.Memᴰ.cases_cons (rw (open_join T c b n a h i) at m))
      next a h e k q d m false j = back a d h e (q d (rw (open_same T c b n a e k j) m))

  -- every thread but the root is joined, in a thread of a lower number
  pub join_exists : (t : ℕ) → 0 < t → t < T.threads → (j : ℕ) × (j < T.actions) × (kind T j ≡ join) × (T.argument j ≡ t) × (owner T j < t)
  join_exists t h k =
      let x = fork_exists T c b n f t h k in
      let e : is end (kind T x.0) ≡ false = fork_no_end x.2 in
      let m : Memᴰ t (open_before T (suc x.0)) = rw (open_fork T c b n x.0 x.2) (mathlib.Core.List.Memᴰ.head (sym x.3)) in
      let (j, p, q, r, s, o) = joined_later (suc x.0) (next_within T c b x.0 x.1 e) t m in
      (j, q, r, s, omega (arith, o, next_owner T c b x.0 x.1 e, fork_above T c b x.0 x.1 x.2, x.3))

  -- what holds of the root, and passes from a thread to each that it joins, holds of every thread
  pub by_joins : (P : ℕ → Type 0) → P 0 → ((j : ℕ) → j < T.actions → kind T j ≡ join → P (owner T j) → P (T.argument j)) → (t : ℕ) → t < T.threads → P t
  by_joins P root joins t h = go (suc t) t (omega arith) h
    where
      go : (k t : ℕ) → t < k → t < T.threads → P t
      go zero t p q = absurd (omega arith)
      go (suc k) zero p q = root
      go (suc k) (suc t) p q =
          let (j, l, i, e, o) = join_exists (suc t) (omega arith) q in
          rw e at (joins j l i (go k (owner T j) (omega arith) (omega arith)))
