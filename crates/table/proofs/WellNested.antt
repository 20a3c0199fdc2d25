-- Checks 8, 9 and 11 against the sentences: each thread but the root is forked exactly once, a join names the latest unjoined child, and an end leaves none. Both ways.
use mathlib.Core.Path.{◌≡◌, refl, sym, ◌∙◌}
use mathlib.Core.Logic.{◌↔◌, ◌⊎◌, inl, inr}
use Prim.Native.Nat.{ℕ, zero, suc, ◌≤◌, ◌<◌}
use mathlib.Core.List.Memᴰ
use mathlib.Core.List.{List, [], ◌∷◌, map, Memᴰ}
use mathlib.Core.Bool.{Bool, true, false, not, ◌&&◌}
use native.Mathlib.Decide.{ℕ_discrete}
use native.Mathlib.Omega.{arith}
use borrow.Author.Tests.{eq-eqb}
use Rattle.table.specs.Sum.{any_below}
use Rattle.table.specs.Format.{is, Table, kind}
use Rattle.table.specs.declared.kinds.Kind.{Kind}
use Rattle.table.specs.declared.kinds.Kind.TheVariants.{End as end, Fork as fork, Join as join}
use Rattle.table.specs.Checks.{owner, forks, forked_below, forked_before, tail, open_before, is_latest, join_not_latest, end_with_open, never_forked}
use Rattle.table.specs.Rules.{ContentRules, BodyRules, NestRules, ForkRules}
use Rattle.table.specs.JobTable.{InBody, Names, ForkedOnce, Unjoined, Latest, WellNested}
use Rattle.table.proofs.Tests.{no_way, is_true}
use Rattle.table.proofs.Bodies.{fork_above, fork_below_lem}
use Rattle.table.proofs.Nesting.{some_any_below, any_below_true, forks_true, fork_forks, fork_once, fork_exists, open_join, open_end}
use Rattle.table.proofs.Unjoined.{in_body, body_action, Falling, NestedBelow, OpenForks, open_unjoined, rules_unjoined}

-- every thread but the root is forked exactly once
abbrev pub Forked : Table → Type 0
Forked T = (t : ℕ) → 0 < t → t < T.threads → ForkedOnce T t

-- ---- the head of the open children is the latest unjoined child

module _ (T : Table) (t a : ℕ) where
  pub head_latest : (d : ℕ) (l r : List ℕ) → OpenForks T t a l → l ≡ d ∷ r → Latest T t a d
  head_latest d l r o e = go o.forks (sym o.of_forks ∙ e) o.falling o.exactly
    where
      go : (s : List ℕ) → map T.argument s ≡ d ∷ r → Falling s → ((x : ℕ) → Memᴰ x s ↔ Unjoined T t a (T.argument x) x) → Latest T t a d
      go [] p f m = no_way (cc)
      go (y ∷ s) p f m =
          let named : T.argument y ≡ d = cc in
          record { action = y; unjoined = rw named at ((m y).0 (Memᴰ.head refl)); latest = λ c x u. first x (Memᴰ.cases_cons ((m x).1 (rw u.forked.named u))) }
        where
          first : (x : ℕ) → (x ≡ y) ⊎ Memᴰ x s → x ≤ y
          first x (inl e) = omega arith
          first x (inr i) = omega (arith, f.0 x i)

  pub latest_head : (d : ℕ) (l : List ℕ) → OpenForks T t a l → Latest T t a d → l ≡ d ∷ tail l
  latest_head d l o q = rw o.of_forks (go o.forks o.falling (λ x. (o.exactly x).0) ((o.exactly q.action).1 (rw named q.unjoined)))
    where
      named : T.argument q.action ≡ d
      named = q.unjoined.forked.named

      go : (s : List ℕ) → Falling s → ((x : ℕ) → Memᴰ x s → Unjoined T t a (T.argument x) x) → Memᴰ q.action s
          → map T.argument s ≡ d ∷ tail (map T.argument s)
      go [] f m i = absurd (Memᴰ.not-nil i)
      go (y ∷ s) f m i = first (Memᴰ.cases_cons i)
        where
          first : (q.action ≡ y) ⊎ Memᴰ q.action s → map T.argument (y ∷ s) ≡ d ∷ map T.argument s
          first (inl e) = cc
          first (inr j) = absurd (omega (arith, f.0 q.action j, q.latest (T.argument y) y (m y (Memᴰ.head refl))))

  none_empty : (l : List ℕ) → OpenForks T t a l → ((d x : ℕ) → Unjoined T t a d x → ⊥) → l ≡ []
  none_empty l o none = rw o.of_forks (go o.forks (λ x. (o.exactly x).0))
    where
      go : (s : List ℕ) → ((x : ℕ) → Memᴰ x s → Unjoined T t a (T.argument x) x) → map T.argument s ≡ []
      go [] m = refl
      go (y ∷ s) m = absurd (none (T.argument y) y (m y (Memᴰ.head refl)))

  pub empty_none : OpenForks T t a [] → (d x : ℕ) → Unjoined T t a d x → ⊥
  empty_none o d x u = go o.forks o.of_forks ((o.exactly x).1 (rw u.forked.named u))
    where
      go : (s : List ℕ) → [] ≡ map T.argument s → Memᴰ x s → ⊥
      go [] e i = Memᴰ.not-nil i
      go (y ∷ s) e i = no_way (cc)

-- ---- from the checks

module _ (T : Table) (c : ContentRules T) (b : BodyRules T) (n : NestRules T) where
  rules_nested : WellNested T
  rules_nested =
      record {
        joins = λ t d a q.
            let i : InBody T t a = q.within in
            let e : open_before T a ≡ T.argument a ∷ open_before T (suc a) = open_join T c b n a (body_action T c t a i) q.of_kind_lem in
            head_latest T t a d (open_before T a) (open_before T (suc a)) (rules_unjoined T c b n t a i) (rw q.named at e);
        ends = λ t a i k. empty_none T t a (rw (open_end T c b n a (body_action T c t a i) k) at (rules_unjoined T c b n t a i));
      }

  rules_forked : ForkRules T → Forked T
  rules_forked f t h k =
      let (x, l, i, e) = fork_exists T c b n f t h k in
      record {
        parent = owner T x;
        action = x;
        forks = record { within = in_body T c (owner T x) x l refl; of_kind_lem = i; named = e };
        only = λ u a q. fork_once T c b n a x (body_action T c u a q.within) l q.of_kind_lem i (q.named ∙ sym e);
      }

-- ---- to the checks

-- a check of one kind does not apply, where what it asks is kept at that kind
spared : (j k : Kind) (t : Bool) → (k ≡ j → t ≡ false) → (is j k && t) ≡ false
spared j k t h = go (is j k) refl
  where
    go : (s : Bool) → is j k ≡ s → (s && t) ≡ false
    go true e = h (is_true j k e)
    go false e = refl

pub is_latest_head : (d : ℕ) (l r : List ℕ) → l ≡ d ∷ r → not (is_latest d l) ≡ false
is_latest_head d l r e = rw (e, eq-eqb d d refl)

module _ (T : Table) (c : ContentRules T) (b : BodyRules T) (f : Forked T) (w : WellNested T) where
  here : (a : ℕ) → a < T.actions → InBody T (owner T a) a
  here a h = in_body T c (owner T a) a h refl

  once : (x y : ℕ) → x < T.actions → y < T.actions → kind T x ≡ fork → kind T y ≡ fork → T.argument x ≡ T.argument y → x ≡ y
  once x y h k i j e =
      let o : ForkedOnce T (T.argument y) = f (T.argument y) (omega (arith, fork_above T c b y k j)) (fork_below_lem T c b y k j) in
      o.only (owner T x) x (record { within = here x h; of_kind_lem = i; named = e })
      ∙ sym (o.only (owner T y) y (record { within = here y k; of_kind_lem = j; named = refl }))

  -- one action more
  nested_next : (m : ℕ) → m < T.actions → NestedBelow T m → NestedBelow T (suc m)
  unfolding open_before
  nested_next m h below =
      record { once = λ x y p q. once x y (omega arith) (omega arith); latest = λ j p k. go j p k (ℕ_discrete j m) }
    where
      at_m : kind T m ≡ join → open_before T m ≡ T.argument m ∷ open_before T (suc m)
      at_m k =
          rw k
          (latest_head T (owner T m) m (T.argument m) (open_before T m) (open_unjoined T c b m below m (omega arith) h)
          (w.joins (owner T m) (T.argument m) m (record { within = here m h; of_kind_lem = k; named = refl })))

      go : (j : ℕ) → j < suc m → kind T j ≡ join → Dec (j ≡ m) → open_before T j ≡ T.argument j ∷ open_before T (suc j)
      go j p k (yes e) = rw e (at_m (rw e at k))
      go j p k (no d) = below.latest j (omega (arith, d)) k

  nested_upto : (m : ℕ) → m ≤ T.actions → NestedBelow T m
  nested_upto zero h = record { once = λ x y p. absurd (omega arith); latest = λ j p. absurd (omega arith) }
  nested_upto (suc m) h = nested_next m h (nested_upto m (omega arith))

  all_nested : NestedBelow T T.actions
  all_nested = nested_upto T.actions (omega arith)

  nested_rules : NestRules T
  unfolding forked_before forked_below join_not_latest end_with_open
  nested_rules =
      record {
        once = λ a h. spared fork (kind T a) _ (λ k. earlier a h k (any_below (forks T (T.argument a)) a) refl);
        latest = λ a h. spared join (kind T a) _ (λ k. is_latest_head (T.argument a) (open_before T a) (open_before T (suc a)) (all_nested.latest a h k));
        joined = λ a h. spared end (kind T a) _ (λ k. rw (none a h k));
      }
    where
      earlier : (a : ℕ) → a < T.actions → kind T a ≡ fork → (s : Bool) → any_below (forks T (T.argument a)) a ≡ s → s ≡ false
      earlier a h k true e =
          let (x, l, p) = any_below_true (forks T (T.argument a)) a e in
          let (i, q) = forks_true T (T.argument a) x p in
          absurd (omega (arith, once x a (omega arith) h i k q))
      earlier a h k false e = refl

      none : (a : ℕ) → a < T.actions → kind T a ≡ end → open_before T a ≡ []
      none a h k =
          none_empty T (owner T a) a (open_before T a) (open_unjoined T c b T.actions all_nested a (omega arith) h)
          (w.ends (owner T a) a (here a h) k)

  forked_rules : ForkRules T
  unfolding never_forked forked_below
  forked_rules =
      record {
        forked = λ t h k.
            let o : ForkedOnce T t = f t h k in
            let q : Names T fork o.parent t o.action = o.forks in
            let l : o.action < T.actions = body_action T c o.parent o.action q.within in
            rw (some_any_below (forks T t) T.actions o.action l (fork_forks T t o.action q.of_kind_lem q.named));
      }

pub nested_exactly : (T : Table) → ContentRules T → BodyRules T → (NestRules T × ForkRules T) ↔ (Forked T × WellNested T)
nested_exactly T c b = (
  (λ h. (rules_forked T c b h.0 h.1, rules_nested T c b h.0)),
  (λ h. (nested_rules T c b h.0 h.1, forked_rules T c b h.0 h.1)),
)
