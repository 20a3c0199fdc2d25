-- The children that stand open before an action are exactly those that its thread has forked before it and not yet joined, the latest first.
use mathlib.Core.Path.{◌≡◌, refl, sym, ◌∙◌, ap}
use mathlib.Core.Logic.{◌↔◌, ◌⊎◌, inl, inr}
use Prim.Native.Nat.{ℕ, zero, suc, ◌+◌, ◌≤◌, ◌<◌}
use mathlib.Core.List.{List, [], ◌∷◌, map, Memᴰ}
use mathlib.Core.Bool.{false}
use native.Mathlib.Decide.{ℕ_discrete}
use native.Mathlib.Omega.{arith}
use Rattle.table.specs.Format.{code_of, is, Table, kind}
use Rattle.table.specs.declared.kinds.Kind.{Kind}
use Rattle.table.specs.declared.kinds.Kind.TheVariants.{End as end, Work as work, Alloc as alloc, Free as free, Fork as fork, Join as join, Unknown as unknown}
use Rattle.table.specs.Checks.{owner, opened, open_before}
use Rattle.table.specs.Rules.{ContentRules, BodyRules, NestRules}
use Rattle.table.specs.JobTable.{InBody, Names, Unjoined}
use Rattle.table.proofs.Tests.{no_way}
use Rattle.table.proofs.Bodies.{owner_is, owner_below_lem, owner_first, owner_end, body_within, next_owner, end_last, after_end}
use Rattle.table.proofs.Nesting.{open_join, fork_once}

-- ---- lying in a body is having the thread as owner

module _ (T : Table) (c : ContentRules T) where
  pub in_body : (t a : ℕ) → a < T.actions → owner T a ≡ t → InBody T t a
  in_body t a h o =
      record { thread = rw o at (owner_below_lem T c a h); from = rw o at (owner_first T c a h); below = rw o at (owner_end T c a h) }

  pub body_owner : (t a : ℕ) → InBody T t a → owner T a ≡ t
  body_owner t a i = owner_is T c t a i.thread i.from i.below

  pub body_action : (t a : ℕ) → InBody T t a → a < T.actions
  body_action t a i = omega (arith, i.below, body_within T c t i.thread)

-- ---- the forks of the open children

-- the forks whose children stand open before an action, the latest first
unfoldable pub open_forks : Table → ℕ → List ℕ
open_forks T zero = []
open_forks T (suc a) = opened (kind T a) a (open_forks T a)

opened_map : (f : ℕ → ℕ) (k : Kind) (x : ℕ) (l : List ℕ) → opened k (f x) (map f l) ≡ map f (opened k x l)
opened_map f end x l = refl
opened_map f work x l = refl
opened_map f alloc x l = refl
opened_map f free x l = refl
opened_map f fork x l = refl
opened_map f join x [] = refl
opened_map f join x (y ∷ l) = refl
opened_map f unknown x l = refl

pub open_children : (T : Table) (a : ℕ) → open_before T a ≡ map T.argument (open_forks T a)
unfolding open_before open_forks
open_children T zero = refl
open_children T (suc a) = rw (open_children T a) (opened_map T.argument (kind T a) a (open_forks T a))

-- each number of the list is above all that follow it
abbrev pub Falling : List ℕ → Type 0
Falling [] = Unit
Falling (x ∷ l) = ((y : ℕ) → Memᴰ y l → y < x) × Falling l

-- what an action of a kind does to the list of open children
data Effect (k : Kind) : Type 0 where
  clears : k ≡ end → Effect k
  adds : k ≡ fork → is end k ≡ false → Effect k
  takes : k ≡ join → is end k ≡ false → Effect k
  keeps : is end k ≡ false → (k ≡ fork → ⊥) → (k ≡ join → ⊥) → ((x : ℕ) (l : List ℕ) → opened k x l ≡ l) → Effect k

effect : (k : Kind) → Effect k
unfolding is code_of
effect end = clears refl
effect work = keeps refl (λ e. no_way (cc)) (λ e. no_way (cc)) (λ x l. refl)
effect alloc = keeps refl (λ e. no_way (cc)) (λ e. no_way (cc)) (λ x l. refl)
effect free = keeps refl (λ e. no_way (cc)) (λ e. no_way (cc)) (λ x l. refl)
effect fork = adds refl refl
effect join = takes refl refl
effect unknown = keeps refl (λ e. no_way (cc)) (λ e. no_way (cc)) (λ x l. refl)

-- ---- the law

-- what has been settled of the actions below m: no two of them fork one child, and a join takes the latest open child
pub record NestedBelow (T : Table) (m : ℕ) : Type 0 where
  pub once : (x y : ℕ) → x < m → y < m → kind T x ≡ fork → kind T y ≡ fork → T.argument x ≡ T.argument y → x ≡ y
  pub latest : (j : ℕ) → j < m → kind T j ≡ join → open_before T j ≡ T.argument j ∷ open_before T (suc j)

-- the children that a thread has forked and not yet joined before action a, the latest first, by their forks
pub record OpenForks (T : Table) (t a : ℕ) (children : List ℕ) : Type 0 where
  pub forks : List ℕ
  pub of_forks : children ≡ map T.argument forks
  pub falling : Falling forks
  pub exactly : (x : ℕ) → Memᴰ x forks ↔ Unjoined T t a (T.argument x) x

module _ (T : Table) (c : ContentRules T) (b : BodyRules T) where
  -- an open child's fork lies before, in the same thread
  open_forks_before : (a x : ℕ) → a < T.actions → Memᴰ x (open_forks T a) → (x < a) × (kind T x ≡ fork) × (owner T x ≡ owner T a)
  unfolding open_forks
  open_forks_before zero x h m = absurd (mathlib.Core.List.Memᴰ.not-nil m)
  open_forks_before (suc a) x h m = go (effect (kind T a)) (open_forks_before a x l)
    where
      l : a < T.actions
      l = omega arith

      Before : ℕ → Type 0
      Before y = (x < y) × (kind T x ≡ fork) × (owner T x ≡ owner T y)

      later : is end (kind T a) ≡ false → Before a → Before (suc a)
      later e (p, q, o) = (omega arith, q, cc (next_owner T c b a l e))

      added : is end (kind T a) ≡ false → kind T a ≡ fork → (Memᴰ x (open_forks T a) → Before a) → (x ≡ a) ⊎ Memᴰ x (open_forks T a) → Before (suc a)
      added e k ih (inl p) = (omega arith, rw p k, rw p (sym (next_owner T c b a l e)))
      added e k ih (inr i) = later e (ih i)

      taken : (s : List ℕ) → Memᴰ x (opened join a s) → Memᴰ x s
      taken [] i = i
      taken (y ∷ s) i = mathlib.Core.List.Memᴰ.tail i

      go : Effect (kind T a) → (Memᴰ x (open_forks T a) → Before a) → Before (suc a)
      go (clears k) ih = absurd (mathlib.Core.List.Memᴰ.not-nil (rw k at m))
      go (adds k e) ih = added e k ih (mathlib.Core.List.Memᴰ.cases_cons (rw k at m))
      go (takes k e) ih = later e (ih (taken (open_forks T a) (rw k at m)))
      go (keeps e f j same) ih = later e (ih (rw (same a (open_forks T a)) at m))

-- the list l has the forks of the children unjoined before action a in thread t
abbrev Settled : Table → ℕ → ℕ → List ℕ → Type 0
Settled T t a l = Falling l × ((x : ℕ) → Memᴰ x l ↔ Unjoined T t a (T.argument x) x)

module _ (T : Table) (t a : ℕ) where
  unjoined_later : (d x : ℕ) → (Names T join t d a → ⊥) → Unjoined T t a d x → Unjoined T t (suc a) d x
  unjoined_later d x none u = record { forked = u.forked; before = omega (arith, u.before); not_yet = λ j q l. go j q l (ℕ_discrete j a) }
    where
      go : (j : ℕ) → Names T join t d j → j < suc a → Dec (j ≡ a) → ⊥
      go j q l (yes e) = none (rw e at q)
      go j q l (no e) = u.not_yet j q (omega (arith, e))

  unjoined_earlier : (d x : ℕ) → (x ≡ a → ⊥) → Unjoined T t (suc a) d x → Unjoined T t a d x
  unjoined_earlier d x other u =
      record { forked = u.forked; before = omega (arith, u.before, other); not_yet = λ j q l. u.not_yet j q (omega arith) }

  settled_fork : (l : List ℕ) → InBody T t a → kind T a ≡ fork → ((j : ℕ) → Names T join t (T.argument a) j → j < a → ⊥)
      → Settled T t a l → Settled T t (suc a) (a ∷ l)
  settled_fork l i k fresh (f, s) = (((λ y m. ((s y).0 m).before), f), λ x. (to x, λ u. from x u (ℕ_discrete x a)))
    where
      no_join : (d : ℕ) → Names T join t d a → ⊥
      no_join d q = no_way (cc q.of_kind_lem)

      to_either : (x : ℕ) → (x ≡ a) ⊎ Memᴰ x l → Unjoined T t (suc a) (T.argument x) x
      to_either x (inl e) =
          let u : Unjoined T t (suc a) (T.argument a) a =
          record {
            forked = record { within = i; of_kind_lem = k; named = refl };
            before = omega arith;
            not_yet = λ j q h. joined j q h (ℕ_discrete j a);
          } in
          rw e u
        where
          joined : (j : ℕ) → Names T join t (T.argument a) j → j < suc a → Dec (j ≡ a) → ⊥
          joined j q h (yes p) = no_join (T.argument a) (rw p at q)
          joined j q h (no p) = fresh j q (omega (arith, p))
      to_either x (inr m) = unjoined_later (T.argument x) x (no_join (T.argument x)) ((s x).0 m)

      to : (x : ℕ) → Memᴰ x (a ∷ l) → Unjoined T t (suc a) (T.argument x) x
      to x m = to_either x (mathlib.Core.List.Memᴰ.cases_cons m)

      from : (x : ℕ) → Unjoined T t (suc a) (T.argument x) x → Dec (x ≡ a) → Memᴰ x (a ∷ l)
      from x u (yes e) = mathlib.Core.List.Memᴰ.head e
      from x u (no e) = mathlib.Core.List.Memᴰ.tail ((s x).1 (unjoined_earlier (T.argument x) x e u))

  settled_join : (y : ℕ) (l : List ℕ) → InBody T t a → kind T a ≡ join → T.argument y ≡ T.argument a
      → ((x : ℕ) → x < a → y < a → kind T x ≡ fork → kind T y ≡ fork → T.argument x ≡ T.argument y → x ≡ y)
      → Settled T t a (y ∷ l) → Settled T t (suc a) l
  settled_join y l i k e once (f, s) = (f.1, λ x. (to x, from x))
    where
      v : Unjoined T t a (T.argument y) y
      v = (s y).0 (mathlib.Core.List.Memᴰ.head refl)

      to : (x : ℕ) → Memᴰ x l → Unjoined T t (suc a) (T.argument x) x
      to x m =
          let u : Unjoined T t a (T.argument x) x = (s x).0 (mathlib.Core.List.Memᴰ.tail m) in
          unjoined_later (T.argument x) x
          (λ q. omega (arith, f.0 x m, once x u.before v.before u.forked.of_kind_lem v.forked.of_kind_lem (cc q.named))) u

      from : (x : ℕ) → Unjoined T t (suc a) (T.argument x) x → Memᴰ x l
      from x u = go (mathlib.Core.List.Memᴰ.cases_cons ((s x).1 (unjoined_earlier (T.argument x) x (λ p. no_way (cc u.forked.of_kind_lem)) u)))
        where
          go : (x ≡ y) ⊎ Memᴰ x l → Memᴰ x l
          go (inl p) = absurd (u.not_yet a (record { within = i; of_kind_lem = k; named = cc }) (omega arith))
          go (inr m) = m

  settled_same : (l : List ℕ) → (kind T a ≡ fork → ⊥) → (kind T a ≡ join → ⊥) → Settled T t a l → Settled T t (suc a) l
  settled_same l no_fork no_join (f, s) = (
    f,
    λ x. (
      (λ m. unjoined_later (T.argument x) x (λ q. no_join q.of_kind_lem) ((s x).0 m)),
      (λ u. (s x).1 (unjoined_earlier (T.argument x) x (λ e. no_fork (rw e at u.forked.of_kind_lem)) u)),
    ),
  )

module _ (T : Table) (c : ContentRules T) (b : BodyRules T) (m : ℕ) (n : NestedBelow T m) where
  -- beyond an end a thread begins, and nothing of it lies before
  begins_settled : (a : ℕ) → suc a < T.actions → kind T a ≡ end → Settled T (owner T (suc a)) (suc a) []
  begins_settled a h k = (tt, λ x. ((λ i. absurd (mathlib.Core.List.Memᴰ.not-nil i)), λ q. absurd (none x q)))
    where
      u : ℕ
      u = owner T (suc a)

      none : (x : ℕ) → Unjoined T u (suc a) (T.argument x) x → ⊥
      none x q =
          let i : InBody T u x = q.forked.within in
          let e : suc a < T.first u + T.count u = owner_end T c (suc a) h in
          let o : owner T a ≡ u = owner_is T c u a i.thread (omega (arith, i.from, q.before)) (omega arith) in
          omega (arith, rw o at (end_last T c b a (omega arith) k), after_end T c u i.thread)

  -- a child is not joined before it is forked
  fork_fresh : (a : ℕ) → a < m → a < T.actions → kind T a ≡ fork → (j : ℕ) → Names T join (owner T a) (T.argument a) j → j < a → ⊥
  fork_fresh a h w k j q l =
      let o : map T.argument (open_forks T j) ≡ T.argument a ∷ open_before T (suc j) =
      sym (open_children T j) ∙ n.latest j (omega arith) q.of_kind_lem ∙ ap (λ (d : ℕ). d ∷ open_before T (suc j)) q.named in
      let there : Memᴰ (T.argument a) (map T.argument (open_forks T j)) = rw o (mathlib.Core.List.Memᴰ.head refl) in
      let (y, i, e) = mathlib.Core.List.Memᴰ.of_map T.argument (open_forks T j) there in
      let p = open_forks_before T c b j y (omega arith) i in
      omega (arith, p.0, n.once y a (omega (arith, p.0)) h p.1 k e)

  settled : (a : ℕ) → a ≤ m → a < T.actions → Settled T (owner T a) a (open_forks T a)
  unfolding open_forks
  settled zero h w = (tt, λ x. ((λ i. absurd (mathlib.Core.List.Memᴰ.not-nil i)), λ q. absurd (omega (arith, q.before))))
  settled (suc a) h w = go (effect (kind T a)) (settled a (omega arith) l)
    where
      l : a < T.actions
      l = omega arith

      t : ℕ
      t = owner T a

      i : InBody T t a
      i = in_body T c t a l refl

      taken : kind T a ≡ join → (s : List ℕ) → map T.argument s ≡ T.argument a ∷ open_before T (suc a) → Settled T t a s → Settled T t (suc a) (opened join a s)
      taken k [] e s = no_way (cc)
      taken k (y ∷ r) e s = settled_join T t a y r i k (cc) (λ x p q. n.once x y (omega arith) (omega arith)) s

      go : Effect (kind T a) → Settled T t a (open_forks T a) → Settled T (owner T (suc a)) (suc a) (opened (kind T a) a (open_forks T a))
      go (clears k) s = rw k (begins_settled a w k)
      go (adds k e) s = rw (next_owner T c b a l e, k) (settled_fork T t a (open_forks T a) i k (fork_fresh a h l k) s)
      go (takes k e) s = rw (next_owner T c b a l e, k) (taken k (open_forks T a) (sym (open_children T a) ∙ n.latest a h k) s)
      go (keeps e f j same) s = rw (next_owner T c b a l e, same) (settled_same T t a (open_forks T a) f j s)

  pub open_unjoined : (a : ℕ) → a ≤ m → a < T.actions → OpenForks T (owner T a) a (open_before T a)
  open_unjoined a h w =
      let s : Settled T (owner T a) a (open_forks T a) = settled a h w in
      record { forks = open_forks T a; of_forks = open_children T a; falling = s.0; exactly = s.1 }

-- a child is in the list exactly when it is forked before and not yet joined
pub open_exactly : (T : Table) (t a : ℕ) (l : List ℕ) → OpenForks T t a l → (d : ℕ) → Memᴰ d l ↔ ((x : ℕ) × Unjoined T t a d x)
open_exactly T t a l o d = (to, from)
  where
    to : Memᴰ d l → (x : ℕ) × Unjoined T t a d x
    to m =
        let (x, i, e) = mathlib.Core.List.Memᴰ.of_map T.argument o.forks (rw o.of_forks at m) in
        (x, rw e at ((o.exactly x).0 i))

    from : (x : ℕ) × Unjoined T t a d x → Memᴰ d l
    from (x, u) =
        let e : T.argument x ≡ d = u.forked.named in
        rw o.of_forks (mathlib.Core.List.Memᴰ.cast (sym e) (mathlib.Core.List.Memᴰ.map T.argument ((o.exactly x).1 (rw e u))))

-- ---- tables that pass checks 1 to 9

module _ (T : Table) (c : ContentRules T) (b : BodyRules T) (n : NestRules T) where
  nested_below : NestedBelow T T.actions
  nested_below = record { once = fork_once T c b n; latest = open_join T c b n }

  pub rules_unjoined : (t a : ℕ) → InBody T t a → OpenForks T t a (open_before T a)
  rules_unjoined t a i =
      let h : a < T.actions = body_action T c t a i in
      rw (body_owner T c t a i) at (open_unjoined T c b T.actions nested_below a (omega arith) h)
