-- Forks and joins in a thread: which children stand open, and that a thread has one fork.
use mathlib.Core.Path.{◌≡◌, refl, sym}
use Prim.Native.Nat.{ℕ, zero, suc, ◌≤◌, ◌<◌}
use mathlib.Core.List.Memᴰ
use mathlib.Core.List.{List, [], ◌∷◌, Memᴰ}
use mathlib.Core.Bool.{Bool, true, false, ◌&&◌}
use mathlib.Core.Logic.{◌⊎◌, inl, inr}
use native.Mathlib.Decide.{dec_lt}
use native.Mathlib.Omega.{arith}
use lib.Dec.{eqb}
use borrow.Author.Tests.{eqb-true, eq-eqb, not-false}
use Rattle.table.specs.Sum.{pick, sum_to, any_below}
use Rattle.table.specs.Format.{code_of, is, Table, kind}
use Rattle.table.specs.declared.kinds.Kind.{Kind}
use Rattle.table.specs.declared.kinds.Kind.TheVariants.{End as end, Work as work, Alloc as alloc, Free as free, Fork as fork, Join as join, Unknown as unknown}
use Rattle.table.specs.Checks.{owner, forks, forked_below, forked_before, tail, opened, open_before, is_latest, is_empty, join_not_latest, end_with_open, never_forked}
use Rattle.table.specs.Rules.{ContentRules, BodyRules, NestRules, ForkRules}
use Rattle.table.specs.Level.{fork_below}
use Rattle.table.proofs.Tests.{no_way, and_both, is_true, same_is}
use Rattle.table.proofs.Bodies.{first_is, first_next, after_end, fork_below_lem, next_owner, end_kind}

-- ---- tests

pub is_empty_true : (l : List ℕ) → is_empty l ≡ true → l ≡ []
is_empty_true [] e = refl
is_empty_true (x ∷ l) e = cc

pub is_latest_true : (d : ℕ) (l : List ℕ) → is_latest d l ≡ true → l ≡ d ∷ tail l
is_latest_true d [] e = cc
is_latest_true d (x ∷ l) e = cc (eqb-true d x e)

-- of two tests that are not both true, the second is false where the first is true
pub and_second : (s t : Bool) → (s && t) ≡ false → s ≡ true → t ≡ false
and_second true t e p = e
and_second false t e p = cc

-- `any_below` is true exactly where some number below passes
pub some_any_below : (f : ℕ → Bool) (k i : ℕ) → i < k → f i ≡ true → any_below f k ≡ true
unfolding any_below
some_any_below f zero i h e = no_way (omega arith)
some_any_below f (suc k) i h e = go (f k) refl (some_any_below f k i) (dec_lt i k)
  where
    go : (t : Bool) → f k ≡ t → (i < k → f i ≡ true → any_below f k ≡ true) → Dec (i < k) → pick t true (any_below f k) ≡ true
    go true q ih d = refl
    go false q ih (yes l) = ih l e
    go false q ih (no l) =
        let p : i ≡ k = omega arith in
        cc

pub any_below_true : (f : ℕ → Bool) (k : ℕ) → any_below f k ≡ true → (i : ℕ) × (i < k) × (f i ≡ true)
unfolding any_below
any_below_true f zero e = no_way cc
any_below_true f (suc k) e = go (f k) refl e (any_below_true f k)
  where
    go : (t : Bool) → f k ≡ t → pick t true (any_below f k) ≡ true
        → (any_below f k ≡ true → (i : ℕ) × (i < k) × (f i ≡ true)) → (i : ℕ) × (i < suc k) × (f i ≡ true)
    go true q p ih = (k, omega arith, q)
    go false q p ih =
        let (i, l, r) = ih p in
        (i, omega arith, r)

-- the test `forks` is being a fork with that argument
pub forks_true : (T : Table) (d a : ℕ) → forks T d a ≡ true → (kind T a ≡ fork) × (T.argument a ≡ d)
forks_true T d a e =
    let p : (is fork (kind T a) ≡ true) × (eqb (T.argument a) d ≡ true) = and_both _ _ e in
    (is_true fork (kind T a) p.0, eqb-true (T.argument a) d p.1)

pub fork_forks : (T : Table) (d a : ℕ) → kind T a ≡ fork → T.argument a ≡ d → forks T d a ≡ true
fork_forks T d a k e = rw (same_is fork (kind T a) k) (eq-eqb (T.argument a) d e)

-- no two forks of one child, in order
pub fork_not_later : (T : Table) (x y : ℕ) → forked_before T y ≡ false → x < y → kind T x ≡ fork → kind T y ≡ fork → T.argument x ≡ T.argument y → ⊥
unfolding forked_before forked_below
fork_not_later T x y n l i j e =
    no_way (cc (
      and_second _ _ n (same_is fork (kind T y) j),
      some_any_below (forks T (T.argument y)) y x l (fork_forks T (T.argument y) x i e),
    ))

pub once_below : (T : Table) (m : ℕ) → ((a : ℕ) → a < m → forked_before T a ≡ false) → (x y : ℕ) → x < m → y < m → kind T x ≡ fork → kind T y ≡ fork → T.argument x ≡ T.argument y → x ≡ y
once_below T m n x y h k i j e = go (dec_lt x y) (dec_lt y x)
  where
    go : Dec (x < y) → Dec (y < x) → x ≡ y
    go (yes l) d = absurd (fork_not_later T x y (n y k) l i j e)
    go (no l) (yes r) = absurd (fork_not_later T y x (n x h) r j i (sym e))
    go (no l) (no r) = omega arith

-- kinds that open or close no child leave the list as it is
opened_same : (k : Kind) (d : ℕ) (l : List ℕ) → is end k ≡ false → is fork k ≡ false → is join k ≡ false → opened k d l ≡ l
unfolding is code_of
opened_same end d l e f j = cc
opened_same work d l e f j = refl
opened_same alloc d l e f j = refl
opened_same free d l e f j = refl
opened_same fork d l e f j = cc
opened_same join d l e f j = cc
opened_same unknown d l e f j = refl

mem_tail : (d : ℕ) (l : List ℕ) → Memᴰ d (tail l) → Memᴰ d l
mem_tail d [] m = m
mem_tail d (x ∷ l) m = Memᴰ.tail m

-- a child that stands open after an action of this kind: just forked, or open before; and the action is no end
mem_opened : (k : Kind) (x d : ℕ) (l : List ℕ) → Memᴰ d (opened k x l)
    → (is end k ≡ false) × (((k ≡ fork) × (x ≡ d)) ⊎ Memᴰ d l)
unfolding is code_of
mem_opened end x d l m = absurd (Memᴰ.not-nil m)
mem_opened work x d l m = (refl, inr m)
mem_opened alloc x d l m = (refl, inr m)
mem_opened free x d l m = (refl, inr m)
mem_opened fork x d l m = (refl, go (Memᴰ.cases_cons m))
  where
    go : (d ≡ x) ⊎ Memᴰ d l → ((fork ≡ fork) × (x ≡ d)) ⊎ Memᴰ d l
    go (inl e) = inl (refl, sym e)
    go (inr p) = inr p
mem_opened join x d l m = (refl, inr (mem_tail d l m))
mem_opened unknown x d l m = (refl, inr m)

-- ---- the open children

module _ (T : Table) (c : ContentRules T) (b : BodyRules T) (n : NestRules T) where
  pub open_first : (t : ℕ) → t < T.threads → open_before T (T.first t) ≡ []
  unfolding open_before sum_to
  open_first zero h = rw (first_is T c zero h)
  open_first (suc t) h =
      let l : t < T.threads = omega arith in
      rw (first_next T c t h, ← after_end T c t l, open_before, end_kind T c b t l)

  pub open_end : (a : ℕ) → a < T.actions → kind T a ≡ end → open_before T a ≡ []
  unfolding end_with_open
  open_end a h k = is_empty_true (open_before T a) (not-false _ (and_second _ _ (n.joined a h) (same_is end (kind T a) k)))

  pub open_fork : (a : ℕ) → kind T a ≡ fork → open_before T (suc a) ≡ T.argument a ∷ open_before T a
  unfolding open_before
  open_fork a k = rw k

  pub open_join : (a : ℕ) → a < T.actions → kind T a ≡ join → open_before T a ≡ T.argument a ∷ open_before T (suc a)
  unfolding open_before join_not_latest
  open_join a h k =
      rw k (is_latest_true (T.argument a) (open_before T a) (not-false _ (and_second _ _ (n.latest a h) (same_is join (kind T a) k))))

  pub open_same : (a : ℕ) → is end (kind T a) ≡ false → is fork (kind T a) ≡ false → is join (kind T a) ≡ false → open_before T (suc a) ≡ open_before T a
  unfolding open_before
  open_same a e f j = opened_same (kind T a) (T.argument a) (open_before T a) e f j

  -- an open child was forked before, by an action of the same thread
  pub open_forked : (a d : ℕ) → a < T.actions → Memᴰ d (open_before T a)
      → (x : ℕ) × (x < a) × (kind T x ≡ fork) × (T.argument x ≡ d) × (owner T x ≡ owner T a)
  unfolding open_before
  open_forked zero d h k = absurd (Memᴰ.not-nil k)
  open_forked (suc a) d h k = go (mem_opened (kind T a) (T.argument a) d (open_before T a) k) (open_forked a d l)
    where
      l : a < T.actions
      l = omega arith

      Forked : ℕ → Type 0
      Forked y = (x : ℕ) × (x < y) × (kind T x ≡ fork) × (T.argument x ≡ d) × (owner T x ≡ owner T y)

      go : (is end (kind T a) ≡ false) × (((kind T a ≡ fork) × (T.argument a ≡ d)) ⊎ Memᴰ d (open_before T a))
          → (Memᴰ d (open_before T a) → Forked a) → Forked (suc a)
      go (e, inl (p, q)) ih = (a, omega arith, p, q, sym (next_owner T c b a l e))
      go (e, inr m) ih =
          let (x, i, p, q, o) = ih m in
          (x, omega arith, p, q, cc (next_owner T c b a l e))

  pub open_below : (a d : ℕ) → a < T.actions → Memᴰ d (open_before T a) → d < T.threads
  open_below a d h m =
      let o = open_forked a d h m in
      rw o.3 at (fork_below_lem T c b o.0 (omega (arith, o.1)) o.2)

  pub fork_once : (x y : ℕ) → x < T.actions → y < T.actions → kind T x ≡ fork → kind T y ≡ fork → T.argument x ≡ T.argument y → x ≡ y
  fork_once = once_below T T.actions n.once

  fork_below_found : (m a : ℕ) → m ≤ T.actions → a < m → kind T a ≡ fork → fork_below T m (T.argument a) ≡ a
  unfolding fork_below
  fork_below_found zero a h l k = omega arith
  fork_below_found (suc m) a h l k = go (forks T (T.argument a) m) refl (λ (p : a < m). fork_below_found m a (omega arith) p k) (dec_lt a m)
    where
      go : (t : Bool) → forks T (T.argument a) m ≡ t → (a < m → fork_below T m (T.argument a) ≡ a) → Dec (a < m)
          → pick t m (fork_below T m (T.argument a)) ≡ a
      go true q ih d =
          let (i, e) = forks_true T (T.argument a) m q in
          fork_once m a h (omega arith) i k e
      go false q ih (yes p) = ih p
      go false q ih (no p) =
          let e : a ≡ m = omega arith in
          no_way (cc (fork_forks T (T.argument a) a k refl))

  pub fork_found : (a : ℕ) → a < T.actions → kind T a ≡ fork → fork_below T T.actions (T.argument a) ≡ a
  fork_found a h k = fork_below_found T.actions a (omega arith) h k

module _ (T : Table) (c : ContentRules T) (b : BodyRules T) (n : NestRules T) (f : ForkRules T) where
  -- every thread but the root has a fork
  pub fork_exists : (t : ℕ) → 0 < t → t < T.threads → (x : ℕ) × (x < T.actions) × (kind T x ≡ fork) × (T.argument x ≡ t)
  unfolding never_forked forked_below
  fork_exists t h k =
      let (x, l, e) = any_below_true (forks T t) T.actions (not-false _ (f.forked t h k)) in
      let (i, j) = forks_true T t x e in
      (x, l, i, j)
