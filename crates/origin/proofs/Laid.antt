-- What is read of a table U that is laid out as T filled out with quota K. Both tables that a beginning runs are: the filled-out one, and T itself where no alloc is above K.
use Prim.Native.Nat.{ℕ, zero, suc, ◌+◌, ◌-◌, ◌≤◌, ◌<◌}
use native.Mathlib.Omega.{arith}
use native.Mathlib.Decide.{dec_lt}
use mathlib.Core.Path.{◌≡◌, refl, sym, ap, ◌∙◌}
use mathlib.Core.Bool.{Bool, true, false}
use borrow.Author.Tests.{lt-ltb, le-ltb}
use Rattle.table.specs.Sum.{sum_to}
use Rattle.table.specs.Format.{is, code_of, Table, kind}
use Rattle.table.specs.declared.kinds.Kind.TheVariants.{Fork as fork, Join as join}
use Rattle.table.specs.Checks.{owner, alloc_of}
use Rattle.table.specs.Rules.{ContentRules}
use Rattle.table.proofs.Sums.{sum_to_zero}
use Rattle.table.proofs.Tests.{no_way}
use Rattle.table.proofs.Bodies.{first_is, first_next, last_ends, body_within, owner_is, owner_at, owner_below_lem, owner_first, owner_end}
use Rattle.order.proofs.Totals.{sum_to_append}
use Rattle.filling.specs.Filled.{big, new_threads, root_of}
use Rattle.filling.proofs.Fills.{Fills, c, count_old, root_in, quiet, start, placed, placed_kind, placed_argument, placed_within, front_fork, front_root, front_join, front_joined, threads_are}
use Rattle.filling.proofs.FilledTable.{none_new}
use Rattle.filling.proofs.Roots.{all_serial}
use Rattle.origin.specs.Origin.{written_to, place_of, bodies_to}
use Rattle.origin.proofs.Places.{written_none, written_append, written_part, written_next, front_big, front_small}

pub record Laid (T : Table) (K : ℕ) (U : Table) : Type 0 where
  pub threads : U.threads ≡ T.threads + sum_to (new_threads T K) T.actions
  pub within : written_to T K T.actions ≤ U.actions
  pub old : bodies_to U T.threads ≡ written_to T K T.actions
  pub own_kind : (a : ℕ) → a < T.actions → kind U (place_of T K a) ≡ kind T a
  pub own_argument : (a : ℕ) → a < T.actions → U.argument (place_of T K a) ≡ T.argument a
  pub own_thread : (a : ℕ) → a < T.actions → owner U (place_of T K a) ≡ owner T a
  pub fork_kind : (a : ℕ) → a < T.actions → big T K a ≡ true → kind U (written_to T K a) ≡ fork
  pub fork_new : (a : ℕ) → a < T.actions → big T K a ≡ true → T.threads ≤ U.argument (written_to T K a)
  pub join_kind : (a : ℕ) → a < T.actions → big T K a ≡ true → kind U (suc (written_to T K a)) ≡ join
  pub join_new : (a : ℕ) → a < T.actions → big T K a ≡ true → T.threads ≤ U.argument (suc (written_to T K a))
  pub rest : (i : ℕ) → written_to T K T.actions ≤ i → i < U.actions → alloc_of U i ≡ 0

-- ---- sums over allocs

alloc_same : (T U : Table) (a i : ℕ) → kind U i ≡ kind T a → U.argument i ≡ T.argument a → alloc_of U i ≡ alloc_of T a
unfolding alloc_of
alloc_same T U a i e f = rw (e, f)

fork_none : (U : Table) (i : ℕ) → kind U i ≡ fork → alloc_of U i ≡ 0
unfolding alloc_of is code_of
fork_none U i e = rw e

join_none : (U : Table) (i : ℕ) → kind U i ≡ join → alloc_of U i ≡ 0
unfolding alloc_of is code_of
join_none U i e = rw e

module _ (T : Table) (K : ℕ) (U : Table) (z : Laid T K U) (h : ℕ → ℕ) (h_none : h 0 ≡ 0) where
  -- a sum over allocs is the same for the first k actions and what is written for them
  pub sums_to : (k : ℕ) → k ≤ T.actions → sum_to (λ i. h (alloc_of U i)) (written_to T K k) ≡ sum_to (λ a. h (alloc_of T a)) k
  unfolding sum_to
  sums_to zero p = rw (written_none T K)
  sums_to (suc k) p = go (big T K k) refl (sums_to k (omega arith))
    where
      own : h (alloc_of U (place_of T K k)) ≡ h (alloc_of T k)
      own = ap h (alloc_same T U k (place_of T K k) (z.own_kind k (omega arith)) (z.own_argument k (omega arith)))

      go : (q : Bool) → big T K k ≡ q → sum_to (λ i. h (alloc_of U i)) (written_to T K k) ≡ sum_to (λ a. h (alloc_of T a)) k
          → sum_to (λ i. h (alloc_of U i)) (written_to T K (suc k)) ≡ sum_to (λ a. h (alloc_of T a)) k + h (alloc_of T k)
      go true e ih =
          let w : ℕ = written_to T K k in
          let y : place_of T K k ≡ suc (suc w) = omega (arith, front_big T K k e) in
          let x : written_to T K (suc k) ≡ suc (suc (suc w)) = omega (arith, written_next T K k, y) in
          let f : h (alloc_of U w) ≡ 0 = ap h (fork_none U w (z.fork_kind k (omega arith) e)) ∙ h_none in
          let j : h (alloc_of U (suc w)) ≡ 0 = ap h (join_none U (suc w) (z.join_kind k (omega arith) e)) ∙ h_none in
          let o : h (alloc_of U (suc (suc w))) ≡ h (alloc_of T k) = rw y at own in
          rw x (omega (arith, f, j, o, ih))
      go false e ih =
          let w : ℕ = written_to T K k in
          let y : place_of T K k ≡ w = omega (arith, front_small T K k e) in
          let x : written_to T K (suc k) ≡ suc w = omega (arith, written_next T K k, y) in
          let o : h (alloc_of U w) ≡ h (alloc_of T k) = rw y at own in
          rw x (omega (arith, o, ih))

  -- and over the whole tables
  pub sums_all : sum_to (λ i. h (alloc_of U i)) U.actions ≡ sum_to (λ a. h (alloc_of T a)) T.actions
  sums_all =
      let w : ℕ = written_to T K T.actions in
      let r : ℕ = U.actions - w in
      let y : U.actions ≡ w + r = omega (arith, z.within) in
      let e : sum_to (λ i. h (alloc_of U i)) U.actions ≡ sum_to (λ i. h (alloc_of U i)) (w + r) = ap (λ (k : ℕ). sum_to (λ i. h (alloc_of U i)) k) y in
      let none : sum_to (λ i. h (alloc_of U (w + i))) r ≡ 0 = sum_to_zero (λ i. h (alloc_of U (w + i))) r (λ i p. ap h (z.rest (w + i) (omega arith) (omega (arith, y))) ∙ h_none) in
      omega (arith, e, sum_to_append (λ i. h (alloc_of U i)) w r, none, sums_to T.actions (omega arith))

-- ---- the filled-out table

module _ (T : Table) (K : ℕ) (U : Table) (x : Fills T K U) where
  abbrev c_t : ContentRules T
  c_t = x.lawful.contents

  abbrev c_u : ContentRules U
  c_u = c T K U x

  known : (t : ℕ) → t < T.threads → t < U.threads
  known t h = omega (arith, threads_are T K U x)

  -- where a thread's body begins
  first_written : (t : ℕ) → t < T.threads → U.first t ≡ written_to T K (T.first t)
  unfolding sum_to
  first_written zero h =
      let e : T.first 0 ≡ 0 = first_is T c_t 0 h in
      rw e (first_is U c_u 0 (known 0 h) ∙ sym (written_none T K))
  first_written (suc t) h =
      rw (first_next T c_t t h)
      (omega (arith, first_next U c_u t (known (suc t) h), count_old T K U x t (omega arith), first_written t (omega arith), written_append T K (T.first t) (T.count t)))

  start_written : (t i : ℕ) → t < T.threads → start T K U x t i ≡ written_to T K (T.first t + i)
  start_written t i h = omega (arith, first_written t h, written_append T K (T.first t) i)

  -- and where those of the table as given end
  end_written : (t : ℕ) → suc t ≡ T.threads → U.first t + U.count t ≡ written_to T K T.actions
  end_written t e =
      let w : written_to T K (T.first t + T.count t) ≡ written_to T K T.actions = ap (λ (k : ℕ). written_to T K k) (last_ends T c_t t e) in
      omega (arith, w, count_old T K U x t (omega arith), first_written t (omega arith), written_append T K (T.first t) (T.count t))

  by_thread : (P : ℕ → Type 0) → ((t i : ℕ) → t < T.threads → i < T.count t → P (T.first t + i)) → (a : ℕ) → a < T.actions → P a
  by_thread P f a h =
      let t : ℕ = owner T a in
      let e : T.first t + (a - T.first t) ≡ a = omega (arith, owner_first T c_t a h) in
      rw e at (f t (a - T.first t) (owner_below_lem T c_t a h) (omega (arith, owner_first T c_t a h, owner_end T c_t a h)))

  module _ (t i : ℕ) (h : t < T.threads) (k : i < T.count t) where
    abbrev a : ℕ
    a = T.first t + i

    place_same : place_of T K a ≡ placed T K U x t i h k
    place_same = omega (arith, start_written t i h)

    in_thread : owner U (place_of T K a) ≡ owner T a
    in_thread =
        ap (owner U) place_same
        ∙ owner_is U c_u t (placed T K U x t i h k) (known t h) (omega arith) (placed_within T K U x t i h k)
        ∙ sym (owner_at T c_t t i h k)

    module _ (e : big T K a ≡ true) where
      root_new : T.threads ≤ root_of T K a
      root_new = (root_in T K U x a (omega (arith, body_within T c_t t h)) e).0

      in_fork : (kind U (written_to T K a) ≡ fork) × (T.threads ≤ U.argument (written_to T K a))
      in_fork = rw (← start_written t i h) (front_fork T K U x t i h k e, omega (arith, front_root T K U x t i h k e, root_new))

      in_join : (kind U (suc (written_to T K a)) ≡ join) × (T.threads ≤ U.argument (suc (written_to T K a)))
      in_join = rw (← start_written t i h) (front_join T K U x t i h k e, omega (arith, front_joined T K U x t i h k e, root_new))

  laid_old : (t : ℕ) → suc t ≡ T.threads → bodies_to U T.threads ≡ written_to T K T.actions
  laid_old t e = go (dec_lt T.threads U.threads)
    where
      go : Dec (T.threads < U.threads) → bodies_to U T.threads ≡ written_to T K T.actions
      go (yes p) =
          rw (lt-ltb T.threads U.threads p) (ap U.first (sym e) ∙ first_next U c_u t (omega (arith, p)) ∙ end_written t e)
      go (no p) =
          let n : suc t ≡ U.threads = omega (arith, p, threads_are T K U x) in
          rw (le-ltb T.threads U.threads (omega (arith, p))) (sym (last_ends U c_u t n) ∙ end_written t e)

  laid_rest : (i : ℕ) → written_to T K T.actions ≤ i → i < U.actions → alloc_of U i ≡ 0
  laid_rest i h k = (quiet T K U x i k (go (dec_lt (owner U i) T.threads))).0
    where
      ends : (t : ℕ) → t < T.threads → U.first t + U.count t ≤ written_to T K T.actions
      ends t p =
          omega (
            arith,
            count_old T K U x t p,
            first_written t p,
            written_append T K (T.first t) (T.count t),
            written_part T K (T.first t + T.count t) T.actions (body_within T c_t t p),
          )

      go : Dec (owner U i < T.threads) → T.threads ≤ owner U i
      go (yes p) = absurd (omega (arith, owner_end U c_u i k, ends (owner U i) p))
      go (no p) = omega (arith, p)

  pub laid_filled : Laid T K U
  laid_filled =
      let t : ℕ = T.threads - 1 in
      let last : suc t ≡ T.threads = omega (arith, x.lawful.some_thread) in
      record {
        threads = omega (arith, threads_are T K U x, all_serial T x.lawful (new_threads T K));
        within = omega (arith, end_written t last, body_within U c_u t (known t (omega (arith, last))));
        old = laid_old t last;
        own_kind = by_thread (λ a. kind U (place_of T K a) ≡ kind T a) (λ t i h k. ap (λ (j : ℕ). kind U j) (place_same t i h k) ∙ placed_kind T K U x t i h k);
        own_argument = by_thread (λ a. U.argument (place_of T K a) ≡ T.argument a) (λ t i h k. ap U.argument (place_same t i h k) ∙ placed_argument T K U x t i h k);
        own_thread = by_thread (λ a. owner U (place_of T K a) ≡ owner T a) in_thread;
        fork_kind = by_thread (λ a. big T K a ≡ true → kind U (written_to T K a) ≡ fork) (λ t i h k e. (in_fork t i h k e).0);
        fork_new = by_thread (λ a. big T K a ≡ true → T.threads ≤ U.argument (written_to T K a)) (λ t i h k e. (in_fork t i h k e).1);
        join_kind = by_thread (λ a. big T K a ≡ true → kind U (suc (written_to T K a)) ≡ join) (λ t i h k e. (in_join t i h k e).0);
        join_new = by_thread (λ a. big T K a ≡ true → T.threads ≤ U.argument (suc (written_to T K a))) (λ t i h k e. (in_join t i h k e).1);
        rest = laid_rest;
      }

-- ---- the table as given, where no alloc is above K

module _ (T : Table) (K : ℕ) (none : (a : ℕ) → a < T.actions → big T K a ≡ false) where
  written_same : (k : ℕ) → k ≤ T.actions → written_to T K k ≡ k
  written_same zero h = written_none T K
  written_same (suc k) h = omega (arith, written_next T K k, front_small T K k (none k (omega arith)), written_same k (omega arith))

  stays : (a : ℕ) → a < T.actions → place_of T K a ≡ a
  stays a h = omega (arith, written_same a (omega arith), front_small T K a (none a h))

  not_big : {A : Type 0} (a : ℕ) → a < T.actions → big T K a ≡ true → A
  not_big a h e = no_way (cc (e, none a h))

  pub laid_given : Laid T K T
  laid_given =
      let all : written_to T K T.actions ≡ T.actions = written_same T.actions (omega arith) in
      record {
        threads = omega (arith, sum_to_zero (new_threads T K) T.actions (λ a h. (none_new T K a (none a h)).0));
        within = omega (arith, all);
        old = rw (le-ltb T.threads T.threads (omega arith)) (sym all);
        own_kind = λ a h. rw (stays a h);
        own_argument = λ a h. rw (stays a h);
        own_thread = λ a h. rw (stays a h);
        fork_kind = λ a h e. not_big a h e;
        fork_new = λ a h e. not_big a h e;
        join_kind = λ a h e. not_big a h e;
        join_new = λ a h e. not_big a h e;
        rest = λ i h k. absurd (omega (arith, all));
      }
