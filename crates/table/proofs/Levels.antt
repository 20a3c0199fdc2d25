-- Levels without fuel: what an action depends on comes before it in serial order. Each law is a sentence of document 01 or follows from it.
use mathlib.Core.Path.{◌≡◌, refl, ap, sym}
use Prim.Native.Nat.{ℕ, zero, suc, ◌+◌, ◌-◌, ◌≤◌, ◌<◌, max}
use native.Mathlib.Nat.{max-zero, max-le}
use native.Mathlib.Omega.{arith}
use mathlib.Core.List.{List, [], ◌∷◌}
use mathlib.Core.List.{Memᴰ}
use mathlib.Core.Logic.{⊎_elim}
use mathlib.Core.Bool.{Bool, true, false}
use borrow.Author.Tests.{eq-eqb, ne_eqb}
use Rattle.table.specs.Sum.{greatest}
use Rattle.table.specs.Format.{is, Table, kind}
use Rattle.table.specs.declared.kinds.Kind.TheVariants.{End as end, Fork as fork, Join as join}
use Rattle.table.specs.Checks.{owner, end_of}
use Rattle.table.specs.Rules.{ContentRules, BodyRules, NestRules, ForkRules}
use Rattle.table.specs.Level.{fork_of, before_it, joined_end, depends_on, level_within, level}
use Rattle.table.proofs.Tests.{no_way, is_true}
use Rattle.table.proofs.Bodies.{first_within, end_within, owner_is, owner_of_first, owner_below_lem, owner_first, owner_end, fork_above, fork_below_lem, join_below, next_within, next_owner}
use Rattle.table.proofs.Nesting.{open_first, open_join, fork_found, fork_exists}
use Rattle.table.proofs.Rank.{rank, no_end, rank_child, rank_rises, rank_join, rank_bound}

-- ---- the greatest of a list

pub greatest_same {ℓ} : {A : Type ℓ} (f g : A → ℕ) (l : List A) → ((x : A) → Memᴰ x l → f x ≡ g x) → greatest f l ≡ greatest g l
unfolding greatest
greatest_same f g [] h = refl
greatest_same f g (x ∷ l) h = rw (h x (mathlib.Core.List.Memᴰ.head refl), greatest_same f g l (λ y m. h y (mathlib.Core.List.Memᴰ.tail m)))

pub greatest_bound {ℓ} : {A : Type ℓ} (f : A → ℕ) (l : List A) (B : ℕ) → ((x : A) → Memᴰ x l → f x ≤ B) → greatest f l ≤ B
unfolding greatest
greatest_bound f [] B h = omega arith
greatest_bound f (x ∷ l) B h = max-le (h x (mathlib.Core.List.Memᴰ.head refl)) (greatest_bound f l B (λ y m. h y (mathlib.Core.List.Memᴰ.tail m)))

-- ---- what an action depends on

-- d is an action that stands before a in serial order
abbrev pub Earlier : Table → ℕ → ℕ → Type 0
Earlier T a d = (d < T.actions) × (rank T d < rank T a)

module _ (T : Table) (c : ContentRules T) (b : BodyRules T) where
  before_next : (a : ℕ) → a < T.actions → is end (kind T a) ≡ false → before_it T (suc a) ≡ a ∷ []
  unfolding before_it
  before_next a h e =
      let p : T.first (owner T (suc a)) ≤ a = rw (next_owner T c b a h e) (owner_first T c a h) in
      rw (ne_eqb (suc a) (T.first (owner T (suc a))) (λ q. omega arith))

  pub depends_step : (a : ℕ) → a < T.actions → is end (kind T a) ≡ false → is join (kind T (suc a)) ≡ false → depends_on T (suc a) ≡ a ∷ []
  unfolding depends_on joined_end
  depends_step a h e j = rw (before_next a h e, j)

  pub depends_join : (a : ℕ) → a < T.actions → is end (kind T a) ≡ false → kind T (suc a) ≡ join
      → depends_on T (suc a) ≡ a ∷ end_of T (T.argument (suc a)) ∷ []
  unfolding depends_on joined_end is
  depends_join a h e j = rw (before_next a h e, j)

module _ (T : Table) (c : ContentRules T) (b : BodyRules T) (n : NestRules T) where
  -- a thread has nothing to join at its first action
  pub first_no_join : (t : ℕ) → t < T.threads → is join (kind T (T.first t)) ≡ false
  first_no_join t h = go (is join (kind T (T.first t))) refl
    where
      go : (q : Bool) → is join (kind T (T.first t)) ≡ q → q ≡ false
      go true e =
          no_way (cc (open_first T c b n t h, open_join T c b n (T.first t) (first_within T c t h) (is_true join (kind T (T.first t)) e)))
      go false e = refl

  pub depends_root : 0 < T.threads → depends_on T (T.first 0) ≡ []
  unfolding depends_on joined_end before_it fork_of
  depends_root h = rw (owner_of_first T c 0 h, eq-eqb (T.first 0) (T.first 0) refl, first_no_join 0 h)

  pub depends_child : (a : ℕ) → a < T.actions → kind T a ≡ fork → depends_on T (T.first (T.argument a)) ≡ a ∷ []
  unfolding depends_on joined_end before_it fork_of
  depends_child a h k =
      let t : ℕ = T.argument a in
      let l : t < T.threads = fork_below_lem T c b a h k in
      rw (owner_of_first T c t l, eq-eqb (T.first t) (T.first t) refl, first_no_join t l, fork_is t refl)
    where
      fork_is : (t : ℕ) → T.argument a ≡ t → fork_of T t ≡ a ∷ []
      fork_is zero e = absurd (omega (arith, fork_above T c b a h k))
      fork_is (suc t) e = rw (← e, fork_found T c b n a h k)

module _ (T : Table) (c : ContentRules T) (b : BodyRules T) (n : NestRules T) (f : ForkRules T) where
  -- every action is the root's first, a child's first or the next after another
  pub by_place : (P : ℕ → Type 0)
      → (0 < T.threads → P (T.first 0))
      → ((a : ℕ) → a < T.actions → kind T a ≡ fork → P (T.first (T.argument a)))
      → ((a : ℕ) → a < T.actions → is end (kind T a) ≡ false → P (suc a))
      → (a : ℕ) → a < T.actions → P a
  by_place P root child next a h = go (a - T.first t) (omega (arith, owner_first T c a h))
    where
      t : ℕ
      t = owner T a

      within : t < T.threads
      within = owner_below_lem T c a h

      first : (u : ℕ) → u < T.threads → P (T.first u)
      first zero l = root l
      first (suc u) l =
          let x = fork_exists T c b n f (suc u) (omega arith) l in
          rw x.3 at (child x.0 x.1 x.2)

      go : (k : ℕ) → T.first t + k ≡ a → P a
      go zero e =
          let p : T.first t ≡ a = omega arith in
          rw p at (first t within)
      go (suc k) e =
          let d : ℕ = T.first t + k in
          let p : suc d ≡ a = omega arith in
          let o : owner T d ≡ t = owner_is T c t d within (omega arith) (omega (arith, owner_end T c a h)) in
          rw p at (next d (omega arith) (no_end T c b d a (omega arith) h o))

  pub depends_earlier : (a : ℕ) → a < T.actions → (d : ℕ) → Memᴰ d (depends_on T a) → Earlier T a d
  depends_earlier = by_place (λ (a : ℕ). (d : ℕ) → Memᴰ d (depends_on T a) → Earlier T a d) root child next
    where
      root : (h : 0 < T.threads) (d : ℕ) → Memᴰ d (depends_on T (T.first 0)) → Earlier T (T.first 0) d
      root h d m = absurd (mathlib.Core.List.Memᴰ.not-nil (rw (depends_root T c b n h) at m))

      child : (a : ℕ) (h : a < T.actions) (k : kind T a ≡ fork) (d : ℕ) → Memᴰ d (depends_on T (T.first (T.argument a))) → Earlier T (T.first (T.argument a)) d
      child a h k d m = rw (mathlib.Core.List.Memᴰ.eq_of_singleton (rw (depends_child T c b n a h k) at m)) (h, omega (arith, rank_child T c b n f a h k))

      next : (a : ℕ) (h : a < T.actions) (e : is end (kind T a) ≡ false) (d : ℕ) → Memᴰ d (depends_on T (suc a)) → Earlier T (suc a) d
      next a h e d m = go (is join (kind T (suc a))) refl
        where
          l : suc a < T.actions
          l = next_within T c b a h e

          before : d ≡ a → Earlier T (suc a) d
          before p = rw p (h, rank_rises T c b n f a (suc a) (omega arith) l (sym (next_owner T c b a h e)))

          go : (q : Bool) → is join (kind T (suc a)) ≡ q → Earlier T (suc a) d
          go true q =
              let j : kind T (suc a) ≡ join = is_true join (kind T (suc a)) q in
              let x : ℕ = end_of T (T.argument (suc a)) in
              let below : T.argument (suc a) < T.threads = join_below T c b (suc a) l j in
              let joined : d ≡ x → Earlier T (suc a) d = λ p. rw p (end_within T c (T.argument (suc a)) below, rank_join T c b n f (suc a) l j) in
              let m' : Memᴰ d (a ∷ x ∷ []) = rw (depends_join T c b a h e j) at m in
              ⊎_elim before (λ (i : Memᴰ d (x ∷ [])). joined (mathlib.Core.List.Memᴰ.eq_of_singleton i)) (mathlib.Core.List.Memᴰ.cases_cons m')
          go false q = before (mathlib.Core.List.Memᴰ.eq_of_singleton (rw (depends_step T c b a h e q) at m))

  -- ---- levels

  level_enough : (k j a : ℕ) → a < T.actions → rank T a < k → rank T a < j → level_within k T a ≡ level_within j T a
  unfolding level_within
  level_enough zero j a h p q = omega arith
  level_enough (suc k) zero a h p q = omega arith
  level_enough (suc k) (suc j) a h p q =
      ap suc (greatest_same (level_within k T) (level_within j T) (depends_on T a) (λ d m.
      let e : Earlier T a d = depends_earlier a h d m in
      level_enough k j d e.0 (omega arith) (omega arith)))

  level_rank : (k a : ℕ) → a < T.actions → level_within k T a ≤ suc (rank T a)
  unfolding level_within
  level_rank zero a h = omega arith
  level_rank (suc k) a h =
      let g : greatest (level_within k T) (depends_on T a) ≤ rank T a = greatest_bound (level_within k T) (depends_on T a) (rank T a) (λ d m.
      let e : Earlier T a d = depends_earlier a h d m in
      omega (arith, level_rank k d e.0)) in
      omega arith

  pub level_is : (a : ℕ) → a < T.actions → level T a ≡ suc (greatest (level T) (depends_on T a))
  unfolding level_within
  level_is a h =
      let l : rank T a < T.actions = rank_bound T c b n f a h in
      level_enough T.actions (suc T.actions) a h l (omega arith)

  pub level_bound : (a : ℕ) → a < T.actions → level T a ≤ T.actions
  level_bound a h = omega (arith, level_rank T.actions a h, rank_bound T c b n f a h)

  pub level_root : 0 < T.threads → level T (T.first 0) ≡ 1
  unfolding greatest
  level_root h = rw (level_is (T.first 0) (first_within T c 0 h), depends_root T c b n h)

  pub level_child : (a : ℕ) → a < T.actions → kind T a ≡ fork → level T (T.first (T.argument a)) ≡ suc (level T a)
  unfolding greatest
  level_child a h k =
      rw (level_is (T.first (T.argument a)) (first_within T c (T.argument a) (fork_below_lem T c b a h k)), depends_child T c b n a h k, max-zero)

  pub level_step : (a : ℕ) → a < T.actions → is end (kind T a) ≡ false → is join (kind T (suc a)) ≡ false → level T (suc a) ≡ suc (level T a)
  unfolding greatest
  level_step a h e j = rw (level_is (suc a) (next_within T c b a h e), depends_step T c b a h e j, max-zero)

  pub level_join : (a : ℕ) → a < T.actions → is end (kind T a) ≡ false → kind T (suc a) ≡ join
      → level T (suc a) ≡ suc (max (level T a) (level T (end_of T (T.argument (suc a)))))
  unfolding greatest
  level_join a h e j = rw (level_is (suc a) (next_within T c b a h e), depends_join T c b a h e j, max-zero)
