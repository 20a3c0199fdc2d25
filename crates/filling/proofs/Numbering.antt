-- What the walks of the code rest on: how the root of the next tree goes on from action to action, and that every write into the arrays of sums and starts is of the value that is to stand there.
use Prim.Native.Nat.{ℕ, zero, suc, ◌+◌, ◌-◌, ◌*◌, ◌≤◌, ◌<◌}
use native.Mathlib.Numerals.{add-one}
use native.Mathlib.Nat.{mul-le-mul_left}
use native.Mathlib.Omega.{arith}
use native.Mathlib.Decide.{ℕ_discrete, dec_lt}
use mathlib.Core.Path.{◌≡◌, refl, sym, ap, ◌∙◌}
use mathlib.Core.List.{List}
use mathlib.Core.Bool.{Bool, true, false}
use mathlib.Core.Logic.{◌⊎◌, inl, inr}
use lib.ListN.{length, get_or, set, length-set}
use lib.Seq.{get_or-set_same, get_or-set_other}
use borrow.Author.Tests.{le-leb, lt-leb}
use Rattle.table.specs.Sum.{pick, sum_to}
use Rattle.table.specs.Format.{is, code_of, Table, table_of, kind}
use Rattle.table.specs.declared.kinds.Kind.TheVariants.{End as end, Fork as fork}
use Rattle.table.specs.Checks.{owner}
use Rattle.table.specs.Serial.{serial_order}
use Rattle.table.proofs.Tests.{no_way, Turn, ends, branches, goes, turn, same_is, is_true}
use Rattle.table.proofs.Bodies.{first_is, first_next, last_ends, after_end, owner_below_lem, owner_of_first, next_owner, end_last, fork_above, fork_below_lem, fork_later}
use Rattle.table.proofs.Nesting.{fork_exists}
use Rattle.table.proofs.Amounts.{whole_bound}
use Rattle.order.proofs.Lawful.{Lawful, lawful}
use Rattle.filling.specs.Filled.{big, dummies, half, new_threads, root_of, trees_along, threads_to}
use Rattle.filling.specs.TreeSizes.{sizes_along}
use Rattle.filling.specs.Code.Steps.{Ready, new_of, root_step, size_at, Sums, RootsTo, Sizes, Starts, At, split_at}
use Rattle.filling.proofs.Trees.{dummies_two, new_threads_lem}
use Rattle.filling.proofs.Roots.{rooted_bound, roots, so_all, all_serial, trees_length}
use Rattle.filling.proofs.BeforeSums.{no_new, before_fork, before_step, root_root, root_child}
use Rattle.filling.proofs.TreeSizes.{Sized, along_sized, Reached, IsRoot, along_reached, root_size}

module _ (s : List ℕ) (n K : ℕ) (r : Ready s n K) where
  abbrev T : Table
  T = table_of s

  pub l : Lawful T
  l = lawful s r.rules

  abbrev N : ℕ
  N = threads_to T K T.actions

  -- ---- from action to action

  module _ (a : ℕ) (h : a < T.actions) where
    pub step_fork : kind T a ≡ fork → root_step T K a ≡ new_of T K (T.argument a)
    unfolding is code_of
    step_fork k = rw (k, no_new T l K a k) (omega arith)

    pub step_plain : is fork (kind T a) ≡ false → root_step T K a ≡ new_threads T K a
    step_plain k = rw k (omega arith)

    -- the root after an action that is no end
    pub root_next : is end (kind T a) ≡ false → root_of T K (suc a) ≡ root_of T K a + root_step T K a
    unfolding root_of is code_of
    root_next e = go (turn (kind T a))
      where
        go : Turn (kind T a) → root_of T K (suc a) ≡ root_of T K a + root_step T K a
        go (ends i j) = no_way (cc (same_is end (kind T a) i))
        go (branches i j) = rw i (omega (arith, before_fork T l (new_threads T K) a h i))
        go (goes i j) = rw j (omega (arith, before_step T l (new_threads T K) a h i j))

    pub root_between : (T.threads ≤ root_of T K a) × (root_of T K a + new_threads T K a ≤ N)
    root_between =
        let (lo, hi) = rooted_bound (new_threads T K) (root_of T K) (serial_order T) T.threads a (roots T l K) (so_all T l a h) in
        (lo, omega (arith, hi, all_serial T l (new_threads T K)))

    pub new_few : new_threads T K a ≤ 1024
    new_few = omega (arith, root_between.1, r.few_threads)

    -- a big alloc's root is a new thread
    pub big_root : big T K a ≡ true → (T.threads ≤ root_of T K a) × (root_of T K a < N)
    big_root e = (root_between.0, omega (arith, root_between.1, new_threads_lem T K r.some a e, dummies_two T K r.some a e))

    pub big_size : big T K a ≡ true → size_at T K (root_of T K a) ≡ dummies T K a
    big_size e = root_size T K r.some (root_of T K) (serial_order T) T.threads a (roots T l K) (so_all T l a h) e

    pub child_in : kind T a ≡ fork → (owner T a < T.argument a) × (T.argument a < T.threads) × (T.argument a < 1024)
    child_in k = (fork_above T l.contents l.bodies a h k, fork_below_lem T l.contents l.bodies a h k, omega (arith, fork_below_lem T l.contents l.bodies a h k, l.few_threads))

  pub new_small : (t : ℕ) → t < T.threads → new_of T K t ≤ 8388608
  new_small t h =
      omega (
        arith,
        whole_bound T l.contents l.bodies l.nesting (new_threads T K) 1024 new_few t h,
        mul-le-mul_left 1024 l.few_actions,
      )

  -- ---- where the roots of a thread begin

  pub starts_at_lem : (a : ℕ) (starts : List ℕ) → Starts T K a starts → (t : ℕ) → t < T.threads → T.first t ≤ a → get_or starts t 0 ≡ root_of T K (T.first t)
  starts_at_lem a starts v zero h i = v.root
  starts_at_lem a starts v (suc t) h i =
      let (x, w, k, p) = fork_exists T l.contents l.bodies l.nesting l.forking (suc t) (omega arith) h in
      let b : x < T.first (suc t) = rw p at (fork_later T l.contents l.bodies x w k) in
      rw p at (v.forked x (omega arith) k)

  -- the root's
  pub starts_root : (starts : List ℕ) → length starts ≡ 1024 → Starts T K 0 (set starts 0 n)
  starts_root starts e =
      record {
        size = simp length-set e;
        root = get_or-set_same starts 0 n 0 (omega arith) ∙ r.threads ∙ sym (root_root T l K);
        forked = λ x h. absurd (omega arith);
      }

  module _ (a : ℕ) (h : a < T.actions) (starts : List ℕ) (v : Starts T K a starts) where
    starts_fork : kind T a ≡ fork → Starts T K (a + 1) (set starts (T.argument a) (root_of T K a))
    starts_fork k =
        record {
          size = simp length-set v.size;
          root = get_or-set_other starts (T.argument a) 0 (root_of T K a) 0 (λ e. omega (arith, (child_in a h k).0)) ∙ v.root;
          forked = λ x i j. go x i j (ℕ_discrete (T.argument x) (T.argument a));
        }
      where
        go : (x : ℕ) → x < a + 1 → kind T x ≡ fork → Dec (T.argument x ≡ T.argument a)
            → get_or (set starts (T.argument a) (root_of T K a)) (T.argument x) 0 ≡ root_of T K (T.first (T.argument x))
        go x i j (yes e) =
            rw (e, get_or-set_same starts (T.argument a) (root_of T K a) 0 (omega (arith, (child_in a h k).2, v.size))) (sym (root_child T l K a h k))
        go x i j (no e) =
            let d : x ≡ a → ⊥ = λ q. e (ap (λ (y : ℕ). T.argument y) q) in
            get_or-set_other starts (T.argument a) (T.argument x) (root_of T K a) 0 e ∙ v.forked x (omega (arith, d)) j

    starts_step : is fork (kind T a) ≡ false → Starts T K (a + 1) starts
    starts_step k = record { size = v.size; root = v.root; forked = λ x i j. go x i j (ℕ_discrete x a) }
      where
        go : (x : ℕ) → x < a + 1 → kind T x ≡ fork → Dec (x ≡ a) → get_or starts (T.argument x) 0 ≡ root_of T K (T.first (T.argument x))
        go x i j (yes e) = let z : is fork (kind T x) ≡ true = same_is fork (kind T x) j in no_way (cc)
        go x i j (no e) = v.forked x (omega (arith, e)) j

    pub starts_next : (root : ℕ) (starts' : List ℕ) → root ≡ root_of T K a → starts' ≡ pick (is fork (kind T a)) (set starts (T.argument a) root) starts → Starts T K (a + 1) starts'
    starts_next root starts' e q = go (is fork (kind T a)) refl
      where
        go : (b : Bool) → is fork (kind T a) ≡ b → Starts T K (a + 1) starts'
        go true k = let z : starts' ≡ set starts (T.argument a) (root_of T K a) = rw (k, e) at q in rw z (starts_fork (is_true fork (kind T a) k))
        go false k = let z : starts' ≡ starts = rw k at q in rw z (starts_step k)

  -- ---- the place of the first action, and the place after an action

  pub at_first : At T K 0 0 n
  unfolding sum_to
  at_first =
      let z : T.first 0 ≡ 0 = first_is T l.contents 0 l.some_thread in
      record {
        owner_is = sym (rw z at (owner_of_first T l.contents 0 l.some_thread));
        root_is = r.threads ∙ sym (rw z at (root_root T l K));
      }

  module _ (a thread root : ℕ) (h : a < T.actions) (p : At T K a thread root) where
    pub at_next : (x : ℕ) → is end (kind T a) ≡ false → x ≡ root_step T K a → At T K (a + 1) thread (root + x)
    at_next x e q =
        rw add-one
        (record {
          owner_is = p.owner_is ∙ sym (next_owner T l.contents l.bodies a h e);
          root_is = omega (arith, p.root_is, root_next a h e);
        })

    after_is : kind T a ≡ end → suc a ≡ T.first thread + T.count thread
    after_is k =
        let o : owner T a < T.threads = owner_below_lem T l.contents a h in
        rw p.owner_is (omega (arith, end_last T l.contents l.bodies a h k, after_end T l.contents (owner T a) o))

    -- after the last thread there is no action
    pub at_last : kind T a ≡ end → n ≤ thread + 1 → a + 1 < T.actions → ⊥
    at_last k i j =
        let o : owner T a < T.threads = owner_below_lem T l.contents a h in
        omega (arith, after_is k, last_ends T l.contents thread (omega (arith, r.threads, p.owner_is)))

    pub at_thread : (starts : List ℕ) → Starts T K (a + 1) starts → kind T a ≡ end → thread + 1 < n → At T K (a + 1) (thread + 1) (get_or starts (thread + 1) 0)
    at_thread starts v k i =
        let w : suc thread < T.threads = omega (arith, r.threads) in
        let f : T.first (suc thread) ≡ suc a = first_next T l.contents thread w ∙ sym (after_is k) in
        rw (add-one, add-one)
        (record {
          owner_is = rw f at (sym (owner_of_first T l.contents (suc thread) w));
          root_is = rw f at (starts_at_lem (a + 1) starts v (suc thread) w (omega (arith, f)));
        })

  -- ---- the array of sums: every write at n or above is of a tree's size

  abbrev Right : List ℕ → ℕ → Type 0
  Right sums c = get_or sums c 0 ≡ size_at T K c

  pub sums_from : (sums : List ℕ) (u w : ℕ) → u ≤ w → Sums T K sums u → Sums T K sums w
  sums_from sums u w h v = record { size = v.size; right = λ t i j. v.right t (omega arith) j }

  module _ (sums : List ℕ) (v : Sums T K sums 0) (i x : ℕ) (low : T.threads ≤ i) (high : i < 1024) (e : x ≡ size_at T K i) where
    sums_set : Sums T K (set sums i x) 0
    sums_set =
        record {
          size = simp length-set v.size;
          right = λ t p q. get_or-set_other sums i t x 0 (λ z. omega arith) ∙ v.right t p q;
        }

    right_set : (c : ℕ) → Right sums c → Right (set sums i x) c
    right_set c p = go (ℕ_discrete c i)
      where
        go : Dec (c ≡ i) → Right (set sums i x) c
        go (yes q) = rw (q, get_or-set_same sums i x 0 (omega (arith, v.size))) e
        go (no q) = get_or-set_other sums i c x 0 q ∙ p

    right_here : Right (set sums i x) i
    right_here = get_or-set_same sums i x 0 (omega (arith, v.size)) ∙ e

  module _ (a : ℕ) (h : a < T.actions) (sums : List ℕ) (v : Sums T K sums 0) (w : RootsTo T K a sums) (root : ℕ) (sums' : List ℕ) (e : root ≡ root_of T K a)
      (q : sums' ≡ pick (big T K a) (set sums root (dummies T K a)) sums) where
    pub sized_next : Sums T K sums' 0 × RootsTo T K (a + 1) sums'
    sized_next = go (big T K a) refl
      where
        earlier : (x : ℕ) → x < a + 1 → (x ≡ a → ⊥) → big T K x ≡ true → Right sums (root_of T K x)
        earlier x i d k = w x (omega (arith, d)) k

        at_big : big T K a ≡ true → Sums T K (set sums (root_of T K a) (dummies T K a)) 0 × RootsTo T K (a + 1) (set sums (root_of T K a) (dummies T K a))
        at_big k =
            let (lo, hi) = big_root a h k in
            let z : dummies T K a ≡ size_at T K (root_of T K a) = sym (big_size a h k) in
            let m : root_of T K a < 1024 = omega (arith, r.few_threads) in
            (sums_set sums v (root_of T K a) (dummies T K a) lo m z, (λ x i j. by lo m z x i j (ℕ_discrete x a)))
          where
            by : T.threads ≤ root_of T K a → root_of T K a < 1024 → dummies T K a ≡ size_at T K (root_of T K a) → (x : ℕ) → x < a + 1 → big T K x ≡ true → Dec (x ≡ a)
                → Right (set sums (root_of T K a) (dummies T K a)) (root_of T K x)
            by lo m z x i j (yes d) = rw d (right_here sums v (root_of T K a) (dummies T K a) lo m z)
            by lo m z x i j (no d) = right_set sums v (root_of T K a) (dummies T K a) lo m z (root_of T K x) (earlier x i d j)

        go : (b : Bool) → big T K a ≡ b → Sums T K sums' 0 × RootsTo T K (a + 1) sums'
        go true k = let z : sums' ≡ set sums (root_of T K a) (dummies T K a) = rw (k, e) at q in rw z (at_big k)
        go false k =
            let z : sums' ≡ sums = rw k at q in
            rw z (v, (λ x i j. w x (below x i j (ℕ_discrete x a)) j))
          where
            below : (x : ℕ) → x < a + 1 → big T K x ≡ true → Dec (x ≡ a) → x < a
            below x i j (yes d) = no_way (cc)
            below x i j (no d) = omega (arith, d)

  -- ---- the sizes upward

  -- the children of the new threads below c
  pub record Children (c : ℕ) (sums : List ℕ) : Type 0 where
    pub sums_right : Sums T K sums 0
    pub roots_right : RootsTo T K T.actions sums
    pub left : (p : ℕ) → T.threads ≤ p → p < c → 1 < size_at T K p → Right sums (suc p)
    pub right : (p : ℕ) → T.threads ≤ p → p < c → 1 < size_at T K p → Right sums (p + 2 * half (size_at T K p))

  abbrev S : List ℕ
  S = sizes_along T K (serial_order T)

  sized : Sized T.threads (trees_along T K T.threads (serial_order T)) S
  sized = along_sized T K r.some (serial_order T) T.threads

  sizes_count : length S + T.threads ≡ N
  sizes_count = omega (arith, sized.same_length, trees_length T K r.some (serial_order T) T.threads, all_serial T l (new_threads T K))

  module _ (c : ℕ) (low : T.threads ≤ c) (high : c < N) where
    place : c - T.threads < length S
    place = omega (arith, sizes_count)

    -- a tree's two children stand above its root
    pub children_in : 1 < size_at T K c
        → (c + 2 * half (size_at T K c) < N) × (size_at T K (suc c) ≡ half (size_at T K c)) × (size_at T K (c + 2 * half (size_at T K c)) ≡ size_at T K c - half (size_at T K c))
    children_in d =
        let (p, q, t) = sized.children (c - T.threads) place d in
        let y : suc c - T.threads ≡ suc (c - T.threads) = omega arith in
        let z : c + 2 * half (size_at T K c) - T.threads ≡ c - T.threads + 2 * half (size_at T K c) = omega arith in
        (omega (arith, p, sizes_count), rw y q, rw z t)

    pub size_small : size_at T K c < 1024
    size_small = go (dec_lt 1 (size_at T K c))
      where
        go : Dec (1 < size_at T K c) → size_at T K c < 1024
        go (yes d) = omega (arith, (children_in d).0, r.few_threads)
        go (no d) = omega (arith, d)

    pub size_right : (sums : List ℕ) → Children c sums → Right sums c
    size_right sums v = go (along_reached T K r.some (root_of T K) (serial_order T) T.threads (c - T.threads) (roots T l K) place)
      where
        go : IsRoot T K r.some (root_of T K) T.threads (serial_order T) (c - T.threads) ⊎ Reached S (c - T.threads) → Right sums c
        go (inl x) =
            let z : root_of T K x.action ≡ c = x.at ∙ omega arith in
            rw z at (v.roots_right x.action (Rattle.filling.proofs.Roots.so_below T l x.action x.there) x.is_big)
        go (inr x) = by x.is_child
          where
            p : ℕ
            p = T.threads + x.parent

            z : p - T.threads ≡ x.parent
            z = omega arith

            more : 1 < size_at T K p
            more = rw z x.splits

            by : (c - T.threads ≡ suc x.parent) ⊎ (c - T.threads ≡ x.parent + 2 * half (get_or S x.parent 0)) → Right sums c
            by (inl e) =
                let y : suc p ≡ c = omega arith in
                rw y at (v.left p (omega arith) (omega (arith, x.lower)) more)
            by (inr e) =
                let y : p + 2 * half (size_at T K p) ≡ c = rw z (omega arith) in
                rw y at (v.right p (omega arith) (omega (arith, x.lower)) more)

    pub split_next : (sums sums' : List ℕ) → Children c sums → sums' ≡ split_at c (get_or sums c 0) sums → Children (c + 1) sums'
    split_next sums sums' v e = go (dec_lt 1 (size_at T K c))
      where
        is_size : get_or sums c 0 ≡ size_at T K c
        is_size = size_right sums v

        -- where the tree forks none
        none : (size_at T K c ≤ 1) → Children (c + 1) sums
        none d =
            record {
              sums_right = v.sums_right;
              roots_right = v.roots_right;
              left = λ p i j k. v.left p i (below p j k (ℕ_discrete p c)) k;
              right = λ p i j k. v.right p i (below p j k (ℕ_discrete p c)) k;
            }
          where
            below : (p : ℕ) → p < c + 1 → 1 < size_at T K p → Dec (p ≡ c) → p < c
            below p j k (yes q) = absurd (omega (arith, d, rw q at k))
            below p j k (no q) = omega (arith, q)

        two : 1 < size_at T K c → Children (c + 1) (set (set sums (suc c) (half (size_at T K c))) (c + 2 * half (size_at T K c)) (size_at T K c - half (size_at T K c)))
        two d =
            let (f, g, t) = children_in d in
            let few : N ≤ 1024 = r.few_threads in
            let o : suc c < 1024 = omega arith in
            let q : c + 2 * half (size_at T K c) < 1024 = omega arith in
            with_both (sym g) (sym t) o q
          where
            a : ℕ
            a = suc c

            x : ℕ
            x = half (size_at T K c)

            b : ℕ
            b = c + 2 * half (size_at T K c)

            y : ℕ
            y = size_at T K c - half (size_at T K c)

            with_both : x ≡ size_at T K a → y ≡ size_at T K b → a < 1024 → b < 1024 → Children (c + 1) (set (set sums a x) b y)
            with_both g t o q =
                record {
                  sums_right = sums_set (set sums a x) once b y (omega arith) q t;
                  roots_right = λ z i k. both (root_of T K z) (v.roots_right z i k);
                  left = λ p i j k. at_left p i j k (ℕ_discrete p c);
                  right = λ p i j k. at_right p i j k (ℕ_discrete p c);
                }
              where
                once : Sums T K (set sums a x) 0
                once = sums_set sums v.sums_right a x (omega arith) o g

                both : (z : ℕ) → Right sums z → Right (set (set sums a x) b y) z
                both z m = right_set (set sums a x) once b y (omega arith) q t z (right_set sums v.sums_right a x (omega arith) o g z m)

                at_left : (p : ℕ) → T.threads ≤ p → p < c + 1 → 1 < size_at T K p → Dec (p ≡ c) → Right (set (set sums a x) b y) (suc p)
                at_left p i j k (yes m) = rw m (right_set (set sums a x) once b y (omega arith) q t (suc c) (right_here sums v.sums_right a x (omega arith) o g))
                at_left p i j k (no m) = both (suc p) (v.left p i (omega (arith, m)) k)

                at_right : (p : ℕ) → T.threads ≤ p → p < c + 1 → 1 < size_at T K p → Dec (p ≡ c) → Right (set (set sums a x) b y) (p + 2 * half (size_at T K p))
                at_right p i j k (yes m) = rw m (right_here (set sums a x) once b y (omega arith) q t)
                at_right p i j k (no m) = both (p + 2 * half (size_at T K p)) (v.right p i (omega (arith, m)) k)

        go : Dec (1 < size_at T K c) → Children (c + 1) sums'
        go (yes d) =
            let z : sums' ≡ set (set sums (suc c) (half (size_at T K c))) (c + 2 * half (size_at T K c)) (size_at T K c - half (size_at T K c)) = rw (is_size, lt-leb (size_at T K c) 1 d) at e in
            rw z (two d)
        go (no d) =
            let z : sums' ≡ sums = rw (is_size, le-leb (size_at T K c) 1 (omega (arith, d))) at e in
            rw z (none (omega (arith, d)))

  pub sizes_all : (c : ℕ) (sums : List ℕ) → N ≤ c → Children c sums → Sizes T K sums
  sizes_all c sums h v i low high =
      size_right i low high sums
      (record {
        sums_right = v.sums_right;
        roots_right = v.roots_right;
        left = λ p j k m. v.left p j (omega arith) m;
        right = λ p j k m. v.right p j (omega arith) m;
      })
