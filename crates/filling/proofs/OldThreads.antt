-- The threads of the table as given, filled out: sums along them, and that their bodies keep the rules.
use Prim.Native.Nat.{ℕ, zero, suc, ◌+◌, ◌-◌, ◌≤◌, ◌<◌}
use native.Mathlib.Omega.{arith}
use mathlib.Core.Path.{◌≡◌, refl, sym, ap, ◌∙◌}
use mathlib.Core.List.{List, [], ◌∷◌, ◌++◌, flatten, append_assoc}
use mathlib.Core.Bool.{Bool, true, false}
use lib.Dec.{eqb, ltb}
use borrow.Author.Tests.{ltb-true, eq-eqb, ne_eqb, lt-ltb, not-false}
use lib.ListN.{length, get_or, length-append}
use Rattle.table.specs.Sum.{pick, sum_to, sum_over}
use Rattle.table.specs.Format.{is, code_of, kind_of, Table, kind}
use Rattle.table.specs.declared.kinds.Kind.{Kind}
use Rattle.table.specs.declared.kinds.Kind.TheVariants.{End as end, Work as work, Alloc as alloc, Free as free, Fork as fork, Join as join, Unknown as unknown}
use Rattle.table.specs.Checks.{owner, end_of, counts_below, kind_unknown, argument_fits, argument_wrong, alloc_of, open_before, join_not_latest, end_with_open}
use Rattle.table.specs.Serial.{serial_order}
use Rattle.table.proofs.Sums.{sum_to_cong, sum_to_part}
use Rattle.table.proofs.Tests.{no_way, is_true, and_both}
use Rattle.table.proofs.Bodies.{first_is, count_pos, counts_all, owner_is, body_within, after_end, end_is_last}
use Rattle.order.proofs.Lawful.{Lawful}
use Rattle.order.proofs.Totals.{sum_to_add}
use Rattle.table.specs.Written.{Action, action_at}
use Rattle.filling.specs.Filled.{act, big, new_threads, new_actions, root_of, in_front, filled_from, filled_body, old_bodies, trees_along, filled_bodies}
use Rattle.filling.proofs.Bodies.{Each, EachBody, bodies_append, Fit, EndLast, end_cons, Nests, Good}
use Rattle.parts.proofs.Built.{flatten_append}
use Rattle.order.proofs.Totals.{sum_to_first}
use Rattle.parts.proofs.CopyRules.{opens_first}
use Rattle.filling.proofs.ForkCounts.{sum_in, sum_in_append, sum_in_length, up, fork_of, fork_in, forks_counted}
use Rattle.filling.proofs.Trees.{fit_fork, fit_join}
use Rattle.filling.proofs.Roots.{so_all, all_serial, rooted_bound, roots, trees_length, trees_actions, trees_forks, trees_good, root_is}

pub big_alloc : (T : Table) (K a : ℕ) → big T K a ≡ true → kind T a ≡ alloc
unfolding big alloc_of
big_alloc T K a e = go (is alloc (kind T a)) refl (ltb-true K (alloc_of T a) e)
  where
    go : (q : Bool) → is alloc (kind T a) ≡ q → K < pick q (T.argument a) 0 → kind T a ≡ alloc
    go true p h = is_true alloc (kind T a) p
    go false p h = absurd (omega arith)

-- ---- sums

ones_sum : (k : ℕ) → sum_to (λ a. 1) k ≡ k
unfolding sum_to
ones_sum zero = refl
ones_sum (suc k) = omega (arith, ones_sum k)

module _ (T : Table) (K : ℕ) where
  -- what an action and what stands in front of it come to
  abbrev pub own_in : (Action → ℕ) → ℕ → ℕ
  own_in w a = sum_in w (in_front T K a) + w (action_at T a)

  pub filled_sum : (w : Action → ℕ) (k a : ℕ) → sum_in w (filled_from T K a k) ≡ sum_to (λ i. own_in w (a + i)) k
  unfolding filled_from sum_in sum_to
  filled_sum w zero a = refl
  filled_sum w (suc k) a =
      let z : a + 0 ≡ a = omega arith in
      let h : own_in w (a + 0) ≡ own_in w a = rw z in
      let s : sum_to (λ i. own_in w (a + suc i)) k ≡ sum_to (λ i. own_in w (suc a + i)) k = sum_to_cong _ _ k (λ i j. let y : a + suc i ≡ suc a + i = omega arith in rw y) in
      omega (
        arith,
        sum_in_append w (in_front T K a) (action_at T a ∷ filled_from T K (suc a) k),
        filled_sum w k (suc a),
        sum_to_first (λ i. own_in w (a + i)) k,
        h,
        s,
      )

  pub filled_append : (k j a : ℕ) → filled_from T K a (k + j) ≡ filled_from T K a k ++ filled_from T K (a + k) j
  unfolding filled_from
  filled_append zero j a =
      let y : 0 + j ≡ j = omega arith in
      let z : a + 0 ≡ a = omega arith in
      rw (y, z)
  filled_append (suc k) j a =
      let y : suc k + j ≡ suc (k + j) = omega arith in
      let z : a + suc k ≡ suc a + k = omega arith in
      rw (y, filled_from, filled_append k j (suc a), z) (sym (append_assoc (in_front T K a) (action_at T a ∷ filled_from T K (suc a) k) (filled_from T K (suc a + k) j)))

  pub old_length : (k t : ℕ) → length (old_bodies T K t k) ≡ k
  unfolding old_bodies
  old_length zero t = refl
  old_length (suc k) t = ap suc (old_length k (suc t))

  pub old_at : (k t j : ℕ) → j < k → get_or (old_bodies T K t k) j [] ≡ filled_body T K (t + j)
  unfolding old_bodies
  old_at zero t j h = absurd (omega arith)
  old_at (suc k) t zero h = let z : t + 0 ≡ t = omega arith in rw z
  old_at (suc k) t (suc j) h = let z : t + suc j ≡ suc t + j = omega arith in rw z (old_at k (suc t) j (omega arith))

fits_more : (k : Kind) (t n m x : ℕ) → n ≤ m → argument_fits k t n x ≡ true → argument_fits k t m x ≡ true
fits_more end t n m x h e = e
fits_more work t n m x h e = e
fits_more alloc t n m x h e = e
fits_more free t n m x h e = e
fits_more fork t n m x h e =
    let p : (ltb t x ≡ true) × (ltb x n ≡ true) = and_both (ltb t x) (ltb x n) e in
    rw (p.0, lt-ltb x m (omega (arith, ltb-true x n p.1)))
fits_more join t n m x h e =
    let p : (ltb t x ≡ true) × (ltb x n ≡ true) = and_both (ltb t x) (ltb x n) e in
    rw (p.0, lt-ltb x m (omega (arith, ltb-true x n p.1)))
fits_more unknown t n m x h e = e

module _ (T : Table) (l : Lawful T) (K : ℕ) where
  old_flat : (k t j : ℕ) → t + k ≤ T.threads → counts_below T t + j ≡ counts_below T (t + k) → flatten (old_bodies T K t k) ≡ filled_from T K (counts_below T t) j
  unfolding old_bodies flatten filled_from sum_to
  old_flat zero t j h e =
      let z : t + 0 ≡ t = omega arith in
      let y : j ≡ 0 = omega (arith, ap (λ (x : ℕ). counts_below T x) z) in
      rw y
  old_flat (suc k) t j h e =
      let z : t + suc k ≡ suc t + k = omega arith in
      let e' : counts_below T t + j ≡ counts_below T (suc t + k) = rw z at e in
      let f : T.first t ≡ counts_below T t = first_is T l.contents t (omega arith) in
      let part : counts_below T (suc t) ≤ counts_below T (suc t + k) = sum_to_part T.count (suc t) (suc t + k) (omega arith) in
      let n : ℕ = j - T.count t in
      let s : j ≡ T.count t + n = omega arith in
      rw (s, filled_append T K (T.count t) n (counts_below T t), f, old_flat k (suc t) n (omega arith) (omega arith))

  -- over all threads
  pub old_all : flatten (old_bodies T K 0 T.threads) ≡ filled_from T K 0 T.actions
  unfolding sum_to
  old_all = old_flat T.threads 0 T.actions (omega arith) (let z : 0 + T.threads ≡ T.threads = omega arith in rw z (omega (arith, counts_all T l.contents)))

  pub old_sum : (w : Action → ℕ) → sum_in w (flatten (old_bodies T K 0 T.threads)) ≡ sum_to (own_in T K w) T.actions
  old_sum w = rw old_all (filled_sum T K w T.actions 0 ∙ sum_to_cong _ _ T.actions (λ i h. let z : 0 + i ≡ i = omega arith in rw z))

  -- ---- counts

  module _ (some : 1 ≤ K) where
    -- threads: n + Σ (2d - 1)
    pub filled_threads : length (filled_bodies T K) ≡ T.threads + sum_to (new_threads T K) T.actions
    unfolding filled_bodies
    filled_threads =
        omega (
          arith,
          length-append (old_bodies T K 0 T.threads) (trees_along T K T.threads (serial_order T)),
          old_length T K T.threads 0,
          trees_length T K some (serial_order T) T.threads,
          all_serial T l (new_threads T K),
        )

    -- actions: m + Σ (7d - 3)
    pub filled_actions : length (flatten (filled_bodies T K)) ≡ T.actions + sum_to (new_actions T K) T.actions
    unfolding filled_bodies
    filled_actions =
        let old : List (List Action) = old_bodies T K 0 T.threads in
        let new : List (List Action) = trees_along T K T.threads (serial_order T) in
        let front : ℕ → ℕ = λ a. length (in_front T K a) in
        let ones : sum_to (λ a. 1) T.actions ≡ T.actions = ones_sum T.actions in
        let parts : sum_to front T.actions + sum_to (λ a. 1) T.actions ≡ sum_to (own_in T K (λ x. 1)) T.actions = sum_to_add front (λ a. 1) (own_in T K (λ x. 1)) T.actions (λ a h. omega (arith, sum_in_length (in_front T K a))) in
        rw (flatten_append old new)
        (omega (
          arith,
          length-append (flatten old) (flatten new),
          sum_in_length (flatten old),
          old_sum (λ x. 1),
          parts,
          ones,
          trees_actions T K some (serial_order T) T.threads,
          all_serial T l front,
          all_serial T l (new_actions T K),
        ))

    -- ---- each thread but the root is forked once

    front_forks : (c a : ℕ) → sum_in (fork_of c) (in_front T K a) ≡ root_is T K some (root_of T K) c a
    unfolding sum_in is code_of kind_of
    front_forks c a = go (big T K a)
      where
        r : ℕ
        r = root_of T K a

        go : (q : Bool) → sum_in (fork_of c) (pick q (act 4 r ∷ act 5 r ∷ []) []) ≡ pick q (pick (eqb r c) 1 0) 0
        go true = omega arith
        go false = refl

    pub filled_forks : (c : ℕ) → sum_in (fork_of c) (flatten (filled_bodies T K)) + up 1 c ≡ up (length (filled_bodies T K)) c
    unfolding filled_bodies
    filled_forks c =
        let old : List (List Action) = old_bodies T K 0 T.threads in
        let new : List (List Action) = trees_along T K T.threads (serial_order T) in
        let r : ℕ → ℕ = root_is T K some (root_of T K) c in
        let n : length (old ++ new) ≡ T.threads + sum_over (new_threads T K) (serial_order T) = omega (arith, length-append old new, old_length T K T.threads 0, trees_length T K some (serial_order T) T.threads) in
        let parts : sum_to r T.actions + sum_to (fork_in T c) T.actions ≡ sum_to (own_in T K (fork_of c)) T.actions = sum_to_add r (fork_in T c) (own_in T K (fork_of c)) T.actions (λ a h. omega (arith, front_forks c a)) in
        rw (flatten_append old new)
        (omega (
          arith,
          sum_in_append (fork_of c) (flatten old) (flatten new),
          old_sum (fork_of c),
          parts,
          forks_counted T l.contents l.bodies l.nesting l.forking l.some_thread c,
          all_serial T l r,
          trees_forks T K some (root_of T K) c (serial_order T) T.threads (length (old ++ new)) (roots T l K) n,
        ))

    -- ---- rules 5 to 7 and 9

    module _ (N : ℕ) (short : (a : ℕ) → a < T.actions → T.argument a < 16777216) (room : T.threads + sum_over (new_threads T K) (serial_order T) ≤ N) (small : N ≤ 16777216) (t : ℕ) (known : t < T.threads) where
      abbrev last : ℕ
      last = T.first t + T.count t

      within : (a : ℕ) → a < last → a < T.actions
      within a h = omega (arith, body_within T l.contents t known)

      fit_own : (a : ℕ) → T.first t ≤ a → a < last → Fit t N (action_at T a)
      unfolding kind_unknown argument_wrong
      fit_own a h i =
          let o : owner T a ≡ t = owner_is T l.contents t a known h i in
          record {
            known = l.bodies.kinds a (within a i);
            fits = fits_more (kind T a) t T.threads N (T.argument a) (omega arith)
                (rw o at (not-false (argument_fits (kind T a) (owner T a) T.threads (T.argument a)) (l.bodies.arguments a (within a i))));
            short = short a (within a i);
          }

      pub root_between : (a : ℕ) → a < T.actions → big T K a ≡ true → (T.threads ≤ root_of T K a) × (root_of T K a < N)
      unfolding new_threads
      root_between a h e =
          let (lo, hi) = rooted_bound (new_threads T K) (root_of T K) (serial_order T) T.threads a (roots T l K) (so_all T l a h) in
          (lo, omega (arith, hi, Rattle.filling.proofs.Trees.new_threads_lem T K some a e, Rattle.filling.proofs.Trees.dummies_two T K some a e))

      fit_from : (k a : ℕ) → T.first t ≤ a → a + k ≤ last → Each (Fit t N) (filled_from T K a k)
      unfolding filled_from
      fit_from zero a h i = tt
      fit_from (suc k) a h i = go (big T K a) refl (fit_own a h (omega arith), fit_from k (suc a) (omega arith) (omega arith))
        where
          go : (q : Bool) → big T K a ≡ q → Each (Fit t N) (action_at T a ∷ filled_from T K (suc a) k) → Each (Fit t N) (in_front T K a ++ (action_at T a ∷ filled_from T K (suc a) k))
          go true e p =
              let (lo, hi) = root_between a (within a (omega arith)) e in
              rw e (fit_fork t N (root_of T K a) (omega arith) hi small, (fit_join t N (root_of T K a) (omega arith) hi small, p))
          go false e p = rw e p

      at_end_lem : (a : ℕ) → T.first t ≤ a → a < last → is end (kind T a) ≡ eqb a (end_of T t)
      at_end_lem a h i = rw (owner_is T l.contents t a known h i) at (end_is_last T l.contents l.bodies a (within a i))

      no_end : (a : ℕ) → T.first t ≤ a → suc a < last → is end (kind T a) ≡ false
      no_end a h i = at_end_lem a h (omega arith) ∙ ne_eqb a (end_of T t) (λ q. omega (arith, after_end T l.contents t known))

      yes_end : (a : ℕ) → T.first t ≤ a → suc a ≡ last → is end (kind T a) ≡ true
      yes_end a h i = at_end_lem a h (omega arith) ∙ eq-eqb a (end_of T t) (omega (arith, after_end T l.contents t known))

      end_from : (k a : ℕ) → T.first t ≤ a → a + suc k ≡ last → EndLast (filled_from T K a (suc k))
      unfolding filled_from is code_of kind_of
      end_from zero a h i = go (big T K a) refl
        where
          e : is end (kind T a) ≡ true
          e = yes_end a h (omega arith)

          go : (q : Bool) → big T K a ≡ q → EndLast (in_front T K a ++ (action_at T a ∷ []))
          go true q = no_way (cc (is_true end (kind T a) e, big_alloc T K a q))
          go false q = rw q e
      end_from (suc k) a h i = go (big T K a) refl (end_cons (action_at T a) (filled_from T K (suc a) (suc k)) (no_end a h (omega arith)) (end_from k (suc a) (omega arith) (omega arith)))
        where
          go : (q : Bool) → big T K a ≡ q → EndLast (action_at T a ∷ filled_from T K (suc a) (suc k)) → EndLast (in_front T K a ++ (action_at T a ∷ filled_from T K (suc a) (suc k)))
          go true q p = rw q (refl, (refl, p))
          go false q p = rw q p

      nests_from : (k a : ℕ) → T.first t ≤ a → a + k ≤ last → Nests (open_before T a) (filled_from T K a k)
      unfolding filled_from open_before join_not_latest end_with_open is code_of kind_of
      nests_from zero a h i = tt
      nests_from (suc k) a h i = go (big T K a) refl (l.nesting.latest a (within a (omega arith)), l.nesting.joined a (within a (omega arith)), nests_from k (suc a) (omega arith) (omega arith))
        where
          r : ℕ
          r = root_of T K a

          go : (q : Bool) → big T K a ≡ q → Nests (open_before T a) (action_at T a ∷ filled_from T K (suc a) k) → Nests (open_before T a) (in_front T K a ++ (action_at T a ∷ filled_from T K (suc a) k))
          go true e p = rw e (refl, refl, (rw (eq-eqb r r refl), refl, p))
          go false e p = rw e p

      pub old_good : Good N t (filled_body T K t)
      old_good =
          record {
            fit = fit_from (T.count t) (T.first t) (omega arith) (omega arith);
            ends = ends (T.count t) refl;
            nests = rw (opens_first T l.contents l.bodies t known) at (nests_from (T.count t) (T.first t) (omega arith) (omega arith));
          }
        where
          ends : (k : ℕ) → T.count t ≡ k → EndLast (filled_from T K (T.first t) (T.count t))
          ends zero e = absurd (omega (arith, count_pos T l.contents t known))
          ends (suc k) e = rw e (end_from k (T.first t) (omega arith) (omega arith))

    module _ (N : ℕ) (short : (a : ℕ) → a < T.actions → T.argument a < 16777216) (room : T.threads + sum_over (new_threads T K) (serial_order T) ≤ N) (small : N ≤ 16777216) where
      olds_good : (k t : ℕ) → t + k ≤ T.threads → EachBody (Good N) t (old_bodies T K t k)
      unfolding old_bodies
      olds_good zero t h = tt
      olds_good (suc k) t h = (old_good N short room small t (omega arith), olds_good k (suc t) (omega arith))

      pub filled_good : EachBody (Good N) 0 (filled_bodies T K)
      unfolding filled_bodies
      filled_good =
          bodies_append (Good N) (old_bodies T K 0 T.threads) (trees_along T K T.threads (serial_order T)) 0 T.threads (omega (arith, old_length T K T.threads 0))
          (olds_good T.threads 0 (omega arith))
          (trees_good T K some N small (serial_order T) T.threads room)
