-- The threads in the order of their forks: each stands there once.
use Prim.Native.Nat.{ℕ, zero, suc, ◌+◌, ◌<◌}
use native.Mathlib.Omega.{arith}
use mathlib.Core.Path.{◌≡◌, refl, sym, ap, ◌∙◌}
use mathlib.Core.List.{List, [], ◌∷◌, ◌++◌, map, Memᴰ}
use mathlib.Core.Bool.{Bool, true, false}
use mathlib.Core.Logic.{◌⊎◌, inl, inr, ⊎_elim}
use lib.ListN.{length, get_or}
use borrow.Author.Tests.{eq-eqb, ne_eqb}
use Rattle.table.specs.Sum.{pick, sum_to}
use Rattle.table.specs.Format.{is, Table, kind}
use Rattle.table.specs.declared.kinds.Kind.TheVariants.{Fork as fork}
use Rattle.table.specs.Serial.{serial_order}
use Rattle.table.proofs.Tests.{is_true, same_is}
use Rattle.table.proofs.Bodies.{first_within}
use Rattle.table.proofs.Nesting.{fork_exists}
use Rattle.table.proofs.Serial.{serial_length, serial_below}
use Rattle.order.specs.Words.{place_in, member, count_below}
use Rattle.order.specs.Order.{number_of}
use Rattle.order.proofs.Lawful.{Lawful}
use Rattle.order.proofs.Places.{place_of_lem}
use Rattle.order.proofs.Numbers.{number_place, place_number, number_child, number_root, number_below}
use Rattle.order.proofs.Lists.{get_d_member}
use Rattle.order.proofs.Words.{Ascends, place_in_below, member_exactly}
use Rattle.order.proofs.CountBelow.{ascending_count}
use Rattle.canonical.specs.Canonical.{forks_in, thread_order, new_number}
use Rattle.canonical.proofs.Renaming.{order_below}

-- a list along which f counts ascends
counts_ascend : (f : ℕ → ℕ) (l : List ℕ) (k : ℕ) → ((i : ℕ) → i < length l → f (get_or l i 0) ≡ k + i) → Ascends f l
unfolding Ascends
counts_ascend f [] k h = tt
counts_ascend f (x ∷ l) k h = (
  (λ y m. omega (arith, h 0 (omega arith), ap f (place_of_lem y l m), h (suc (place_in y l)) (omega (arith, place_in_below y l m)))),
  counts_ascend f l (suc k) (λ i j. omega (arith, h (suc i) (omega arith))),
)

-- in such a list the place of what stands at i is i
ascends_place : (f : ℕ → ℕ) (l : List ℕ) (i : ℕ) → Ascends f l → i < length l → place_in (get_or l i 0) l ≡ i
unfolding Ascends place_in
ascends_place f [] i p h = absurd (omega arith)
ascends_place f (x ∷ l) zero p h = rw (eq-eqb x x refl)
ascends_place f (x ∷ l) (suc i) p h =
    let y : ℕ = get_or l i 0 in
    let d : y ≡ x → ⊥ = λ q. absurd (omega (arith, p.0 y (get_d_member l i 0 (omega arith)), ap f q)) in
    rw (ne_eqb y x d) (ap suc (ascends_place f l i p.1 (omega arith)))

-- a fork among the actions
pub record ForkIn (T : Table) (l : List ℕ) (t : ℕ) : Type 0 where
  pub action : ℕ
  pub there : Memᴰ action l
  pub forks : kind T action ≡ fork
  pub names : T.argument action ≡ t

module _ (T : Table) where
  fork_in_lem : (l : List ℕ) (t : ℕ) → Memᴰ t (forks_in T l) → ForkIn T l t
  unfolding forks_in
  fork_in_lem [] t m = absurd (mathlib.Core.List.Memᴰ.not-nil m)
  fork_in_lem (a ∷ l) t m = go (is fork (kind T a)) refl m (fork_in_lem l t)
    where
      later : ForkIn T l t → ForkIn T (a ∷ l) t
      later p = record { action = p.action; there = mathlib.Core.List.Memᴰ.tail p.there; forks = p.forks; names = p.names }

      go : (q : Bool) → is fork (kind T a) ≡ q → Memᴰ t (pick q (T.argument a ∷ forks_in T l) (forks_in T l)) → (Memᴰ t (forks_in T l) → ForkIn T l t) → ForkIn T (a ∷ l) t
      go true e m ih =
          ⊎_elim (λ (p : t ≡ T.argument a). record { action = a; there = mathlib.Core.List.Memᴰ.head refl; forks = is_true fork (kind T a) e; names = sym p })
          (λ i. later (ih i)) (mathlib.Core.List.Memᴰ.cases_cons m)
      go false e m ih = later (ih m)

  in_forks : (l : List ℕ) (a : ℕ) → Memᴰ a l → kind T a ≡ fork → Memᴰ (T.argument a) (forks_in T l)
  unfolding forks_in
  in_forks [] a m k = absurd (mathlib.Core.List.Memᴰ.not-nil m)
  in_forks (x ∷ l) a m k = go (is fork (kind T x)) refl (mathlib.Core.List.Memᴰ.cases_cons m) (λ i. in_forks l a i k)
    where
      go : (q : Bool) → is fork (kind T x) ≡ q → (a ≡ x) ⊎ Memᴰ a l → (Memᴰ a l → Memᴰ (T.argument a) (forks_in T l)) → Memᴰ (T.argument a) (pick q (T.argument x ∷ forks_in T l) (forks_in T l))
      go true e (inl p) ih = mathlib.Core.List.Memᴰ.head (ap T.argument p)
      go true e (inr i) ih = mathlib.Core.List.Memᴰ.tail (ih i)
      go false e (inl p) ih = absurd (Rattle.table.proofs.Tests.no_way (cc (same_is fork (kind T a) k)))
      go false e (inr i) ih = ih i

module _ (T : Table) (l : Lawful T) where
  abbrev so : List ℕ
  so = serial_order T

  -- where a thread begins in serial order
  abbrev pub begins : ℕ → ℕ
  begins t = number_of T (T.first t)

  so_length : length so ≡ T.actions
  so_length = serial_length T l.contents l.bodies l.nesting l.forking l.some_thread

  so_ascends : Ascends (number_of T) so
  so_ascends = counts_ascend (number_of T) so 0 (λ i h. omega (arith, (place_number T l i (omega (arith, so_length))).1))

  so_below : (a : ℕ) → Memᴰ a so → a < T.actions
  so_below = serial_below T l.contents l.bodies (T.first 0) (first_within T l.contents 0 l.some_thread)

  forks_ascend : (k : List ℕ) → Ascends (number_of T) k → ((a : ℕ) → Memᴰ a k → a < T.actions) → Ascends begins (forks_in T k)
  unfolding Ascends forks_in
  forks_ascend [] p h = tt
  forks_ascend (a ∷ k) p h = go (is fork (kind T a)) refl (forks_ascend k p.1 (λ x i. h x (mathlib.Core.List.Memᴰ.tail i)))
    where
      go : (q : Bool) → is fork (kind T a) ≡ q → Ascends begins (forks_in T k) → Ascends begins (pick q (T.argument a ∷ forks_in T k) (forks_in T k))
      go true e ih = (
        (λ y m.
            let z = fork_in_lem T k y m in
            let x : ℕ = z.action in
            let c = number_child T l x (h x (mathlib.Core.List.Memᴰ.tail z.there)) z.forks in
            omega (arith, number_child T l a (h a (mathlib.Core.List.Memᴰ.head refl)) (is_true fork (kind T a) e), rw z.names at c, p.0 x z.there)),
        ih,
      )
      go false e ih = ih

  pub order_ascends : Ascends begins (thread_order T)
  unfolding thread_order Ascends
  order_ascends = (
    (λ y m.
        let z = fork_in_lem T so y m in
        let c = number_child T l z.action (so_below z.action z.there) z.forks in
        omega (arith, number_root T l, rw z.names at c)),
    forks_ascend so so_ascends so_below,
  )

  pub order_all : (t : ℕ) → t < T.threads → Memᴰ t (thread_order T)
  unfolding thread_order
  order_all zero h = mathlib.Core.List.Memᴰ.head refl
  order_all (suc t) h =
      let (x, w, k, p) = fork_exists T l.contents l.bodies l.nesting l.forking (suc t) (omega arith) h in
      let g : number_of T x < length so = omega (arith, number_below T l x w, so_length) in
      let m : Memᴰ x so = rw (number_place T l x w) at (get_d_member so (number_of T x) 0 g) in
      mathlib.Core.List.Memᴰ.tail (rw p at (in_forks T so x m k))

  all_count : (f : ℕ → Bool) (k : ℕ) → ((i : ℕ) → i < k → f i ≡ true) → count_below f k ≡ k
  unfolding sum_to
  all_count f zero h = refl
  all_count f (suc k) h = rw (h k (omega arith)) (omega (arith, all_count f k (λ i j. h i (omega arith))))

  pub order_length_lem : length (thread_order T) ≡ T.threads
  order_length_lem =
      let a = ascending_count begins T.threads (thread_order T) order_ascends (order_below T l.contents l.bodies l.some_thread) in
      sym a ∙ all_count (λ t. member t (thread_order T)) T.threads (λ t h. (member_exactly t (thread_order T)).1 (order_all t h))

  pub new_back : (t : ℕ) → t < T.threads → get_or (thread_order T) (new_number T t) 0 ≡ t
  new_back t h = place_of_lem t (thread_order T) (order_all t h)

  pub new_below : (t : ℕ) → t < T.threads → new_number T t < T.threads
  new_below t h = omega (arith, place_in_below t (thread_order T) (order_all t h), order_length_lem)

  pub new_once : (t u : ℕ) → t < T.threads → u < T.threads → new_number T t ≡ new_number T u → t ≡ u
  new_once t u h k e = sym (new_back t h) ∙ ap (λ (i : ℕ). get_or (thread_order T) i 0) e ∙ new_back u k

  pub new_at : (i : ℕ) → i < T.threads → new_number T (get_or (thread_order T) i 0) ≡ i
  new_at i h = ascends_place begins (thread_order T) i order_ascends (omega (arith, order_length_lem))

  pub thread_at : (i : ℕ) → i < T.threads → get_or (thread_order T) i 0 < T.threads
  thread_at i h = order_below T l.contents l.bodies l.some_thread (get_or (thread_order T) i 0) (get_d_member (thread_order T) i 0 (omega (arith, order_length_lem)))
