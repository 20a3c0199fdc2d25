-- The walk that finds every thread's nesting, action by action: what is known before an action, and after it.
use mathlib.Core.Path.{◌≡◌, refl, sym, ◌∙◌}
use Prim.Native.Nat.{ℕ, zero, suc, ◌+◌, ◌≤◌, ◌<◌, max}
use mathlib.Core.List.{List}
use mathlib.Core.Bool.{Bool, true, false}
use native.Mathlib.Decide.{ℕ_discrete, dec_lt}
use native.Mathlib.Omega.{arith}
use lib.ListN.{length, get_or, set, replicate, length-set, length-replicate}
use lib.Seq.{get_or-set_same, get_or-set_other}
use Rattle.table.specs.Sum.{pick, sum_to}
use Rattle.table.specs.Format.{is, Table, kind}
use Rattle.table.specs.declared.kinds.Kind.TheVariants.{End as end, Fork as fork}
use Rattle.table.specs.Checks.{owner}
use Rattle.table.specs.Rules.{ContentRules, BodyRules, NestRules, ForkRules}
use Rattle.table.specs.Nested.{nest, N}
use Rattle.table.proofs.Tests.{no_way, is_true, same_is}
use Rattle.table.proofs.Bodies.{first_is, first_next, last_ends, after_end, owner_of_first, owner_below_lem, owner_first, fork_above, fork_below_lem, fork_later, next_owner, end_last}
use Rattle.table.proofs.Nesting.{fork_once, fork_exists}
use Rattle.table.proofs.NestedThreads.{nest_root, nest_child, nest_greatest}

-- the walk has come to action a, of thread t
pub record NestsTo (T : Table) (levels : List ℕ) (deepest t a : ℕ) : Type 0 where
  pub size : length levels ≡ 1024
  pub thread : a < T.actions → owner T a ≡ t
  pub root : get_or levels 0 0 ≡ nest T 0
  pub forked : (x : ℕ) → x < a → kind T x ≡ fork → get_or levels (T.argument x) 0 ≡ nest T (T.argument x)
  -- one of them is the greatest
  pub one : (u : ℕ) × (u < T.threads) × (nest T u ≡ deepest)
  pub root_most : nest T 0 ≤ deepest
  pub forked_most : (x : ℕ) → x < a → kind T x ≡ fork → nest T (T.argument x) ≤ deepest

module _ (T : Table) (c : ContentRules T) (b : BodyRules T) (n : NestRules T) (f : ForkRules T) (some : 0 < T.threads) (few : T.threads ≤ 1024) where
  pub nests_first : NestsTo T (replicate 1024 1) 1 0 0
  unfolding sum_to
  nests_first =
      let e : nest T 0 ≡ 1 = nest_root T c b n f some in
      record {
        size = length-replicate {A = ℕ} 1024 1;
        thread = λ h. rw (first_is T c 0 some) at (owner_of_first T c 0 some);
        root = sym e;
        forked = λ x l. absurd (omega arith);
        one = (0, some, e);
        root_most = omega arith;
        forked_most = λ x l. absurd (omega arith);
      }

  module _ {levels : List ℕ} {deepest t a : ℕ} (w : NestsTo T levels deepest t a) (h : a < T.actions) where
    pub nests_below : t < T.threads
    nests_below = rw (w.thread h) at (owner_below_lem T c a h)

    -- the thread's own nesting is known: its fork comes before its body
    pub nests_known : get_or levels t 0 ≡ nest T t
    nests_known = go t refl
      where
        go : (u : ℕ) → t ≡ u → get_or levels u 0 ≡ nest T u
        go zero e = w.root
        go (suc u) e =
            let x = fork_exists T c b n f (suc u) (omega arith) (rw e at nests_below) in
            let o : owner T a ≡ suc u = w.thread h ∙ e in
            let l : x.0 < a = omega (arith, rw x.3 at (fork_later T c b x.0 x.1 x.2), rw o at (owner_first T c a h)) in
            rw x.3 at (w.forked x.0 l x.2)

    -- the next action's thread
    goes_on : (q : Bool) → is end (kind T a) ≡ q → suc a < T.actions → owner T (suc a) ≡ pick q (suc t) t
    goes_on false e l = next_owner T c b a h e ∙ w.thread h
    goes_on true e l =
        let last : suc a ≡ T.first t + T.count t =
        rw (w.thread h) at (ap_suc (end_last T c b a h (is_true end (kind T a) e)) ∙ after_end T c (owner T a) (owner_below_lem T c a h)) in
        go last (ℕ_discrete (suc t) T.threads)
      where
        ap_suc : {x y : ℕ} → x ≡ y → suc x ≡ suc y
        ap_suc p = rw p

        go : suc a ≡ T.first t + T.count t → Dec (suc t ≡ T.threads) → owner T (suc a) ≡ suc t
        go p (yes d) = absurd (omega (arith, last_ends T c t d))
        go p (no d) =
            let i : suc t < T.threads = omega (arith, d, nests_below) in
            let e : T.first (suc t) ≡ suc a = first_next T c t i ∙ sym p in
            rw e at (owner_of_first T c (suc t) i)

    -- a forked thread is one level below, and no other's level is touched
    abbrev level : ℕ
    level = suc (get_or levels t 0)

    child : kind T a ≡ fork → level ≡ nest T (T.argument a)
    child k = rw (nests_known, nest_child T c b n f a h k, w.thread h)

    forked_now : kind T a ≡ fork → (x : ℕ) → x < suc a → kind T x ≡ fork → get_or (set levels (T.argument a) level) (T.argument x) 0 ≡ nest T (T.argument x)
    forked_now k x l j = go (ℕ_discrete x a)
      where
        go : Dec (x ≡ a) → get_or (set levels (T.argument a) level) (T.argument x) 0 ≡ nest T (T.argument x)
        go (yes e) =
            rw (e, get_or-set_same levels (T.argument a) level 0 (omega (arith, w.size, fork_below_lem T c b a h k))) (child k)
        go (no d) =
            let i : x < a = omega (arith, d) in
            get_or-set_other levels (T.argument a) (T.argument x) level 0 (λ q. d (fork_once T c b n x a (omega arith) h j k q))
            ∙ w.forked x i j

    forked_under : kind T a ≡ fork → (x : ℕ) → x < suc a → kind T x ≡ fork → nest T (T.argument x) ≤ max deepest level
    forked_under k x l j = go (ℕ_discrete x a)
      where
        go : Dec (x ≡ a) → nest T (T.argument x) ≤ max deepest level
        go (yes e) = rw e (omega (arith, child k))
        go (no d) = omega (arith, w.forked_most x (omega (arith, d)) j)

    greatest : kind T a ≡ fork → (u : ℕ) × (u < T.threads) × (nest T u ≡ max deepest level)
    greatest k = go (dec_lt deepest level)
      where
        go : Dec (deepest < level) → (u : ℕ) × (u < T.threads) × (nest T u ≡ max deepest level)
        go (yes i) = (T.argument a, fork_below_lem T c b a h k, omega (arith, child k))
        go (no i) = (w.one.0, w.one.1, omega (arith, w.one.2))

    -- one action further
    pub nests_next : (q : Bool) → is fork (kind T a) ≡ q
        → NestsTo T (pick q (set levels (T.argument a) level) levels) (pick q (max deepest level) deepest) (pick (is end (kind T a)) (suc t) t) (suc a)
    nests_next true e =
        let k : kind T a ≡ fork = is_true fork (kind T a) e in
        record {
          size = length-set levels (T.argument a) level ∙ w.size;
          thread = goes_on (is end (kind T a)) refl;
          root = get_or-set_other levels (T.argument a) 0 level 0 (λ q. omega (arith, fork_above T c b a h k)) ∙ w.root;
          forked = forked_now k;
          one = greatest k;
          root_most = omega (arith, w.root_most);
          forked_most = forked_under k;
        }
    nests_next false e =
        record {
          size = w.size;
          thread = goes_on (is end (kind T a)) refl;
          root = w.root;
          forked = λ x l k. w.forked x (earlier x l k) k;
          one = w.one;
          root_most = w.root_most;
          forked_most = λ x l k. w.forked_most x (earlier x l k) k;
        }
      where
        earlier : (x : ℕ) → x < suc a → kind T x ≡ fork → x < a
        earlier x l k =
            let n : x ≡ a → ⊥ = λ q. no_way (cc (same_is fork (kind T a) (rw q at k))) in
            omega (arith, n)

  -- past the last action all threads are known
  pub nests_all : {levels : List ℕ} {deepest t a : ℕ} → NestsTo T levels deepest t a → T.actions ≤ a → deepest ≡ N T
  nests_all {levels} {deepest} {t} {a} w h =
      sym (nest_greatest T deepest w.one.0 w.one.1 w.one.2 all)
    where
      all : (u : ℕ) → u < T.threads → nest T u ≤ deepest
      all zero l = w.root_most
      all (suc u) l =
          let x = fork_exists T c b n f (suc u) (omega arith) l in
          rw x.3 at (w.forked_most x.0 (omega (arith, x.1)) x.2)
