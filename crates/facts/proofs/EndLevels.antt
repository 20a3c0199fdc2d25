-- The end levels that a walk over a thread finds: each turn takes the level of the action before to that of the next, and each fork makes its child's end level known.
use mathlib.Core.Path.{◌≡◌, refl, sym, ◌∙◌}
use Prim.Native.Nat.{ℕ, zero, suc, pred, ◌+◌, ◌-◌, ◌≤◌, ◌<◌, max}
use native.Mathlib.Nat.{le-max_left, suc-pred-eq_of_pos}
use native.Mathlib.Decide.{ℕ_discrete}
use native.Mathlib.Omega.{arith}
use mathlib.Core.List.{List, Memᴰ}
use mathlib.Core.Logic.{◌⊎◌, inl, inr}
use mathlib.Core.Bool.{Bool, true, false}
use lib.ListN.{get_or, set, length-set}
use lib.Seq.{get_or-set_same, get_or-set_other}
use Rattle.table.specs.Sum.{pick}
use Rattle.table.specs.Format.{is, code_of, Table, kind, table_of}
use Rattle.table.specs.declared.kinds.Kind.TheVariants.{End as end, Fork as fork, Join as join}
use Rattle.table.specs.Checks.{owner, end_of, open_before}
use Rattle.table.specs.Rules.{ContentRules, BodyRules, NestRules, ForkRules}
use Rattle.table.specs.Level.{level}
use Rattle.table.specs.Code.Steps.{Nested}
use Rattle.facts.specs.Code.Steps.{EndLevels, Walked, next_level}
use Rattle.table.proofs.Tests.{no_way, is_true, fork_no_end}
use Rattle.table.proofs.Sizes.{sizes}
use Rattle.table.proofs.Bodies.{first_within, end_within, count_pos, owner_at, owner_of_first, fork_below_lem, join_below, next_within}
use Rattle.table.proofs.Nesting.{open_first, open_fork, open_join, open_same, open_below}
use Rattle.table.proofs.Rank.{rest, rest_fork, rest_along, rest_pos, no_end}
use Rattle.table.proofs.Amounts.{action_within}
use Rattle.table.proofs.Levels.{first_no_join, level_is, level_bound, level_step, level_join}

-- the level of the action before action i of thread t; before the first, one less than that action's own
unfoldable pub level_before : Table → ℕ → ℕ → ℕ
level_before T t zero = pred (level T (T.first t))
level_before T t (suc i) = level T (T.first t + i)

before_is : (T : Table) (t i : ℕ) → 0 < i → level_before T t i ≡ level T (pred (T.first t + i))
unfolding level_before
before_is T t zero h = absurd (omega arith)
before_is T t (suc i) h =
    let z : pred (T.first t + suc i) ≡ T.first t + i = omega arith in
    rw z

-- the end levels of the children that stand open before an action
abbrev pub OpenEnds : Table → List ℕ → ℕ → Type 0
OpenEnds T ends a = (d : ℕ) → Memᴰ d (open_before T a) → get_or ends d 0 ≡ level T (end_of T d)

-- no end level that was known is lost
abbrev pub Same : Table → List ℕ → List ℕ → Type 0
Same T ends ends' = (d : ℕ) → d < T.threads → (get_or ends d 0 ≡ 0 → ⊥) → get_or ends' d 0 ≡ get_or ends d 0

same_along : (T : Table) (x y z : List ℕ) → Same T x y → Same T y z → Same T x z
same_along T x y z p q d h k = q d h (λ e. k (sym (p d h k) ∙ e)) ∙ p d h k

-- a walk that began with `ends₀` has come to action i of thread t
pub record Walking (T : Table) (t : ℕ) (ends₀ ends : List ℕ) (last i : ℕ) : Type 0 where
  pub before : last ≡ level_before T t i
  pub known : EndLevels T ends
  pub same : Same T ends₀ ends
  pub opens : i < T.count t → OpenEnds T ends (T.first t + i)

module _ (T : Table) (c : ContentRules T) (b : BodyRules T) (n : NestRules T) (f : ForkRules T) where
  pub level_pos : (a : ℕ) → a < T.actions → 0 < level T a
  level_pos a h = omega (arith, level_is T c b n f a h)

  same_level : (x y : List ℕ) → Same T x y → (d : ℕ) → d < T.threads → get_or x d 0 ≡ level T (end_of T d) → get_or y d 0 ≡ level T (end_of T d)
  same_level x y p d h e = p d h (λ z. omega (arith, level_pos (end_of T d) (end_within T c d h))) ∙ e

  -- ---- a turn's level

  module _ (t : ℕ) (h : t < T.threads) where
    pub goes_on : (i : ℕ) → suc i < T.count t → is end (kind T (T.first t + i)) ≡ false
    goes_on i k =
        let o : owner T (T.first t + i) ≡ owner T (T.first t + suc i) = owner_at T c t i h (omega arith) ∙ sym (owner_at T c t (suc i) h k) in
        no_end T c b (T.first t + i) (T.first t + suc i) (omega arith) (action_within T c b t (suc i) h k) o

    -- any action but a join comes after the one before it
    pub level_goes : (i : ℕ) → i < T.count t → is join (kind T (T.first t + i)) ≡ false → level T (T.first t + i) ≡ suc (level_before T t i)
    unfolding level_before
    level_goes zero k j =
        let z : T.first t + 0 ≡ T.first t = omega arith in
        rw z (sym (suc-pred-eq_of_pos (level_pos (T.first t) (first_within T c t h))))
    level_goes (suc i) k j =
        let z : T.first t + suc i ≡ suc (T.first t + i) = omega arith in
        rw z (level_step T c b n f (T.first t + i) (action_within T c b t i h (omega arith)) (goes_on i k) (rw z at j))

    -- a join comes after its child's end too
    pub level_joins : (i : ℕ) → i < T.count t → kind T (T.first t + i) ≡ join
        → level T (T.first t + i) ≡ suc (max (level_before T t i) (level T (end_of T (T.argument (T.first t + i)))))
    unfolding level_before is code_of
    level_joins zero k j =
        let z : T.first t + 0 ≡ T.first t = omega arith in
        no_way (cc (first_no_join T c b n t h))
    level_joins (suc i) k j =
        let z : T.first t + suc i ≡ suc (T.first t + i) = omega arith in
        rw z (level_join T c b n f (T.first t + i) (action_within T c b t i h (omega arith)) (goes_on i k) (rw z at j))

    level_turn : (i : ℕ) → i < T.count t → (ends : List ℕ) → OpenEnds T ends (T.first t + i)
        → next_level (kind T (T.first t + i)) (T.argument (T.first t + i)) (level_before T t i) ends ≡ level T (T.first t + i)
    level_turn i k ends o = go (is join (kind T (T.first t + i))) refl
      where
        go : (j : Bool) → is join (kind T (T.first t + i)) ≡ j
            → suc (pick j (max (level_before T t i) (get_or ends (T.argument (T.first t + i)) 0)) (level_before T t i)) ≡ level T (T.first t + i)
        go true j =
            let e : kind T (T.first t + i) ≡ join = is_true join (kind T (T.first t + i)) j in
            let m : Memᴰ (T.argument (T.first t + i)) (open_before T (T.first t + i)) = rw (open_join T c b n (T.first t + i) (action_within T c b t i h k) e) (mathlib.Core.List.Memᴰ.head refl) in
            rw (o (T.argument (T.first t + i)) m) (sym (level_joins i k e))
        go false j = sym (level_goes i k j)

  -- ---- one end level more

  module _ (x v : ℕ) (h : x < T.threads) (few : T.threads ≤ 1024) (e : v ≡ level T (end_of T x)) (ends : List ℕ) (known : EndLevels T ends) where
    set_here : get_or (set ends x v) x 0 ≡ level T (end_of T x)
    set_here = get_or-set_same ends x v 0 (omega arith) ∙ e

    set_kept : (d : ℕ) → get_or ends d 0 ≡ level T (end_of T d) → get_or (set ends x v) d 0 ≡ level T (end_of T d)
    set_kept d q = go (ℕ_discrete d x)
      where
        go : Dec (d ≡ x) → get_or (set ends x v) d 0 ≡ level T (end_of T d)
        go (yes p) = rw p set_here
        go (no p) = get_or-set_other ends x d v 0 p ∙ q

    set_known : EndLevels T (set ends x v)
    set_known = record { size = simp length-set known.size; right = λ d l q. go d l q (ℕ_discrete d x) }
      where
        go : (d : ℕ) → d < T.threads → (get_or (set ends x v) d 0 ≡ 0 → ⊥) → Dec (d ≡ x) → get_or (set ends x v) d 0 ≡ level T (end_of T d)
        go d l q (yes p) = rw p set_here
        go d l q (no p) =
            let s = get_or-set_other ends x d v 0 p in
            s ∙ known.right d l (λ z. q (s ∙ z))

    set_same : Same T ends (set ends x v)
    set_same d l q =
        let k = known.right d l q in
        set_kept d k ∙ sym k

  -- what stands open after an action that forks nothing stood open before it
  open_after : (a : ℕ) → a < T.actions → is end (kind T a) ≡ false → is fork (kind T a) ≡ false
      → (d : ℕ) → Memᴰ d (open_before T (suc a)) → Memᴰ d (open_before T a)
  open_after a h e k d m = go (is join (kind T a)) refl
    where
      go : (j : Bool) → is join (kind T a) ≡ j → Memᴰ d (open_before T a)
      go true j = rw (open_join T c b n a h (is_true join (kind T a) j)) (mathlib.Core.List.Memᴰ.tail m)
      go false j = rw (open_same T c b n a e k j) at m

  -- ---- a walk, turn by turn

  module _ (t : ℕ) (h : t < T.threads) where
    pub walking_first : (ends : List ℕ) (start : ℕ) → start ≡ level T (T.first t) → EndLevels T ends → Walking T t ends ends (start - 1) 0
    unfolding level_before
    walking_first ends start e known =
        let z : T.first t + 0 ≡ T.first t = omega arith in
        let p : start - 1 ≡ pred (level T (T.first t)) = omega arith in
        record {
          before = p;
          known = known;
          same = λ d l q. refl;
          opens = λ k d m. absurd (mathlib.Core.List.Memᴰ.not-nil (rw (z, open_first T c b n t h) at m));
        }

    pub walking_last : (ends₀ ends : List ℕ) (last : ℕ) → Walking T t ends₀ ends last (T.count t) → Walked T t ends₀ last ends
    walking_last ends₀ ends last w = record { level = w.before ∙ before_is T t (T.count t) (count_pos T c t h); known = w.known; same = w.same }

    module _ (ends₀ ends : List ℕ) (last i : ℕ) (w : Walking T t ends₀ ends last i) (k : i < T.count t) where
      within : T.first t + i < T.actions
      within = action_within T c b t i h k

      pub walking_level : next_level (kind T (T.first t + i)) (T.argument (T.first t + i)) last ends ≡ level T (T.first t + i)
      walking_level = rw w.before (level_turn t h i k ends (w.opens k))

      pub walking_room : T.actions ≤ 8192 → last < 8192
      walking_room few = go (is join (kind T (T.first t + i))) walking_level
        where
          go : (j : Bool) → suc (pick j (max last (get_or ends (T.argument (T.first t + i)) 0)) last) ≡ level T (T.first t + i) → last < 8192
          go true e = omega (arith, le-max_left last (get_or ends (T.argument (T.first t + i)) 0), level_bound T c b n f (T.first t + i) within)
          go false e = omega (arith, level_bound T c b n f (T.first t + i) within)

      pub walking_joined : T.actions ≤ 8192 → kind T (T.first t + i) ≡ join → get_or ends (T.argument (T.first t + i)) 0 ≤ 8192
      walking_joined few j =
          let x : ℕ = T.argument (T.first t + i) in
          let m : Memᴰ x (open_before T (T.first t + i)) = rw (open_join T c b n (T.first t + i) within j) (mathlib.Core.List.Memᴰ.head refl) in
          omega (arith, w.opens k x m, level_bound T c b n f (end_of T x) (end_within T c x (join_below T c b (T.first t + i) within j)))

      pub walking_falls : kind T (T.first t + i) ≡ fork → suc (rest T (T.first (T.argument (T.first t + i)))) < rest T (T.first t)
      walking_falls j =
          let a : ℕ = T.first t + i in
          let o : owner T (T.first t) ≡ owner T a = owner_of_first T c t h ∙ sym (owner_at T c t i h k) in
          omega (arith, rest_fork T c b a within j, rest_pos T c b (suc a) (next_within T c b a within (fork_no_end j)), rest_along T c b i (T.first t) a refl within o)

      before_next : level_before T t (i + 1) ≡ level T (T.first t + i)
      before_next =
          let z : pred (T.first t + (i + 1)) ≡ T.first t + i = omega arith in
          rw z at (before_is T t (i + 1) (omega arith))

      pub walking_step : is fork (kind T (T.first t + i)) ≡ false → (v : ℕ) → v ≡ level T (T.first t + i) → Walking T t ends₀ ends v (i + 1)
      walking_step j v e =
          let z : T.first t + (i + 1) ≡ suc (T.first t + i) = omega arith in
          record {
            before = e ∙ sym before_next;
            known = w.known;
            same = w.same;
            opens = λ l d m. w.opens k d (open_after (T.first t + i) within (goes_on t h i (omega arith)) j d (rw z at m));
          }

      pub walking_fork : T.threads ≤ 1024 → kind T (T.first t + i) ≡ fork → (v : ℕ) → v ≡ level T (T.first t + i)
          → (r : ℕ) (ends' : List ℕ) → Walked T (T.argument (T.first t + i)) ends r ends'
          → Walking T t ends₀ (set ends' (T.argument (T.first t + i)) r) v (i + 1)
      walking_fork few j v e r ends' q =
          record {
            before = e ∙ sym before_next;
            known = set_known x r below few q.level ends' q.known;
            same = same_along T ends₀ ends (set ends' x r) w.same kept;
            opens = λ l d m. is_open d (mathlib.Core.List.Memᴰ.cases_cons (rw (z, open_fork T c b n (T.first t + i) j) at m));
          }
        where
          x : ℕ
          x = T.argument (T.first t + i)

          z : T.first t + (i + 1) ≡ suc (T.first t + i)
          z = omega arith

          below : x < T.threads
          below = fork_below_lem T c b (T.first t + i) within j

          kept : Same T ends (set ends' x r)
          kept = same_along T ends ends' (set ends' x r) q.same (set_same x r below few q.level ends' q.known)

          is_open : (d : ℕ) → (d ≡ x) ⊎ Memᴰ d (open_before T (T.first t + i)) → get_or (set ends' x r) d 0 ≡ level T (end_of T d)
          is_open d (inl p) = rw p (set_here x r below few q.level ends' q.known)
          is_open d (inr m) = same_level ends (set ends' x r) kept d (open_below T c b n (T.first t + i) d within m) (w.opens k d m)

-- ---- a table that keeps the rules

module _ {s : List ℕ} {n m : ℕ} (r : Nested s n m) where
  -- what holds of every table that keeps them
  pub by_rules : {P : Table → Type 0} → ((T : Table) → ContentRules T → BodyRules T → NestRules T → ForkRules T → P T) → P (table_of s)
  by_rules law = law (table_of s) r.formed.laid.contents r.formed.bodies r.nesting r.forking

  pub in_threads : {t : ℕ} → t < n → t < (table_of s).threads
  unfolding table_of
  in_threads h = omega (arith, r.formed.laid.headed.threads)

  pub few_threads : (table_of s).threads ≤ 1024
  unfolding table_of
  few_threads = omega (arith, r.formed.laid.headed.threads, sizes r.formed.laid.headed)

  pub few_actions : (table_of s).actions ≤ 8192
  unfolding table_of
  few_actions = omega (arith, r.formed.laid.headed.actions, sizes r.formed.laid.headed)
