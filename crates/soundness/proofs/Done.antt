-- How far each thread is done, and what that says of the order: only an unborn thread and a join can be done too early.
use mathlib.Core.Path.{◌≡◌, refl, sym, ◌∙◌}
use Prim.Native.Nat.{ℕ, suc, ◌+◌, ◌-◌, ◌≤◌, ◌<◌}
use mathlib.Core.List.{List, [], ◌∷◌}
use mathlib.Core.Bool.{Bool, true, false, not, ◌&&◌, ◌||◌, and-true}
use native.Mathlib.Decide.{ℕ_discrete}
use native.Mathlib.Omega.{arith}
use lib.Dec.{ltb, leb, eqb}
use lib.ListN.{get_or}
use borrow.Author.Tests.{ltb-true, ltb-false, lt-ltb, le-ltb, leb-true, leb-false, eqb-true, eqb-false, ne_eqb, not-true, not-false}
use Rattle.table.specs.Sum.{pick}
use Rattle.table.specs.Format.{is, Table, kind}
use Rattle.table.specs.declared.kinds.Kind.TheVariants.{End as end, Join as join}
use Rattle.table.specs.Checks.{owner, end_of}
use Rattle.table.specs.Level.{fork_below, depends_on}
use Rattle.table.proofs.Tests.{is_true}
use Rattle.table.proofs.Bodies.{count_pos, body_within, after_end, owner_is, owner_below_lem, owner_first, owner_end, end_is_last}
use Rattle.table.proofs.Nesting.{fork_found, fork_exists}
use Rattle.table.proofs.Levels.{first_no_join, depends_root, depends_child, depends_step, depends_join}
use Rattle.schedule.specs.Machine.{ended}
use Rattle.schedule.specs.Sound.{done_in, in_order}
use Rattle.order.specs.Words.{all_below, all_in}
use Rattle.order.proofs.Words.{all_below_exactly, and_exactly}
use Rattle.order.proofs.Lawful.{Lawful}
use Rattle.soundness.specs.Code.Checks.{done_at, done_to, unborn_in, join_done, body_in_order}
use Rattle.order.proofs.Every.{same_truth, all_fails}

-- ---- what is done

pub before_stop : (next status : List ℕ) (u a : ℕ) → ltb a (done_to next status u) ≡ done_at next status u a
before_stop next status u a = go (eqb (get_or status u 0) ended)
  where
    at : ℕ
    at = get_or next u 0

    past : (p r : Bool) → ltb a at ≡ p → eqb a at ≡ r → ltb a (at + 1) ≡ (p || (r && true))
    past true r e d = lt-ltb a (at + 1) (omega (arith, ltb-true a at e))
    past false true e d = lt-ltb a (at + 1) (omega (arith, eqb-true a at d))
    past false false e d = le-ltb a (at + 1) (omega (arith, ltb-false a at e, eqb-false a at d))

    none : (p r : Bool) → p ≡ (p || (r && false))
    none true r = refl
    none false true = refl
    none false false = refl

    go : (q : Bool) → ltb a (pick q (at + 1) at) ≡ (ltb a at || (eqb a at && q))
    go true = past (ltb a at) (eqb a at) refl refl
    go false = none (ltb a at) (eqb a at)

pub stop_within : (next status : List ℕ) (u : ℕ) → done_to next status u ≤ get_or next u 0 + 1
stop_within next status u = go (eqb (get_or status u 0) ended)
  where
    go : (q : Bool) → pick q (get_or next u 0 + 1) (get_or next u 0) ≤ get_or next u 0 + 1
    go true = omega arith
    go false = omega arith

-- ---- the order

module _ (T : Table) (l : Lawful T) (next status : List ℕ) where
  -- no action is done before those it depends on, if that holds of each thread's actions
  pub by_bodies : all_below (body_in_order T next status) T.threads ≡ all_below (in_order T next status) T.actions
  unfolding body_in_order
  by_bodies = same_truth _ _ there back
    where
      there : all_below (body_in_order T next status) T.threads ≡ true → all_below (in_order T next status) T.actions ≡ true
      there e = (all_below_exactly _ _).1 at
        where
          at : (a : ℕ) → a < T.actions → in_order T next status a ≡ true
          at a h =
              let t : ℕ = owner T a in
              let f : T.first t ≤ a = owner_first T l.contents a h in
              let i : T.first t + (a - T.first t) ≡ a = omega arith in
              rw i at ((all_below_exactly _ _).0 ((all_below_exactly _ _).0 e t (owner_below_lem T l.contents a h)) (a - T.first t) (omega (arith, owner_end T l.contents a h)))

      back : all_below (in_order T next status) T.actions ≡ true → all_below (body_in_order T next status) T.threads ≡ true
      back e =
          (all_below_exactly _ _).1
          (λ t h. (all_below_exactly _ _).1 (λ i k. (all_below_exactly _ _).0 e (T.first t + i) (omega (arith, body_within T l.contents t h))))

  module _ (t : ℕ) (h : t < T.threads) where
    -- the first action of a thread but the root depends on the fork alone
    depends_first : 0 < t → depends_on T (T.first t) ≡ fork_below T T.actions t ∷ []
    depends_first p =
        let (x, b, k, e) = fork_exists T l.contents l.bodies l.nesting l.forking t p h in
        let d : depends_on T (T.first (T.argument x)) ≡ x ∷ [] = depends_child T l.contents l.bodies l.nesting x b k in
        let g : fork_below T T.actions (T.argument x) ≡ x = fork_found T l.contents l.bodies l.nesting x b k in
        rw (← e, g, d)

    pub in_body : (x : ℕ) → T.first t ≤ x → x < T.first t + T.count t → done_in T next status x ≡ ltb x (done_to next status t)
    unfolding done_in
    in_body x f e = rw (owner_is T l.contents t x h f e) (sym (before_stop next status t x))

    -- what is not done is in order
    pub undone_in_order : (x : ℕ) → T.first t ≤ x → x < T.first t + T.count t → done_to next status t ≤ x → in_order T next status x ≡ true
    unfolding in_order
    undone_in_order x f e s = rw (in_body x f e ∙ le-ltb x (done_to next status t) s)

    pub body_passes : ((x : ℕ) → T.first t ≤ x → x < T.first t + T.count t → in_order T next status x ≡ true) → body_in_order T next status t ≡ true
    unfolding body_in_order
    body_passes p = (all_below_exactly (λ i. in_order T next status (T.first t + i)) (T.count t)).1 (λ i k. p (T.first t + i) (omega arith) (omega arith))

    pub body_fails : (x : ℕ) → T.first t ≤ x → x < T.first t + T.count t → in_order T next status x ≡ false → body_in_order T next status t ≡ false
    unfolding body_in_order
    body_fails x f e p =
        let z : T.first t + (x - T.first t) ≡ x = omega arith in
        sym (all_fails (λ i. in_order T next status (T.first t + i)) (x - T.first t) (T.count t) (omega arith) (rw z p))

    -- an unborn thread is in order if nothing of it is done
    pub unborn_in_order : unborn_in T next status t ≡ true → leb (done_to next status t) (T.first t) ≡ body_in_order T next status t
    unfolding in_order all_in
    unborn_in_order u = go (leb (done_to next status t) (T.first t)) refl
      where
        p : (ltb 0 t ≡ true) × (not (done_in T next status (fork_below T T.actions t)) ≡ true)
        p = (and_exactly _ _).0 u

        early : T.first t < done_to next status t → in_order T next status (T.first t) ≡ false
        early s =
            rw (
              in_body (T.first t) (omega arith) (omega (arith, count_pos T l.contents t h)) ∙ lt-ltb (T.first t) (done_to next status t) s,
              depends_first (ltb-true 0 t p.0),
              not-true (done_in T next status (fork_below T T.actions t)) p.1,
            )

        go : (q : Bool) → leb (done_to next status t) (T.first t) ≡ q → q ≡ body_in_order T next status t
        go true e = sym (body_passes (λ x f k. undone_in_order x f k (omega (arith, leb-true (done_to next status t) (T.first t) e))))
        go false e =
            sym
            (body_fails (T.first t) (omega arith) (omega (arith, count_pos T l.contents t h))
            (early (leb-false (done_to next status t) (T.first t) e)))

    -- of a born thread's actions done, only a join can be out of order
    pub born_in_order :
        unborn_in T next status t ≡ false → (x : ℕ) → T.first t ≤ x → x < T.first t + T.count t
        → x < done_to next status t → in_order T next status x ≡ join_done T next status x
    unfolding in_order all_in
    born_in_order u x f e s = rw (in_body x f e ∙ lt-ltb x (done_to next status t) s) (go (ℕ_discrete x (T.first t)))
      where
        first : (q : Bool) → ltb 0 t ≡ q → (q && not (done_in T next status (fork_below T T.actions t))) ≡ false → all_in (done_in T next status) (depends_on T (T.first t)) ≡ true
        first true q p = rw (depends_first (ltb-true 0 t q), not-false (done_in T next status (fork_below T T.actions t)) p)
        first false q p =
            let z : t ≡ 0 = omega (arith, ltb-false 0 t q) in
            rw (z, depends_root T l.contents l.bodies l.nesting l.some_thread)

        later : (y : ℕ) → x ≡ suc y → T.first t ≤ y → all_in (done_in T next status) (depends_on T x) ≡ join_done T next status x
        later y p g = by_kind (is join (kind T x)) refl
          where
            w : y < T.actions
            w = omega (arith, body_within T l.contents t h)

            n : is end (kind T y) ≡ false
            n =
                end_is_last T l.contents l.bodies y w
                ∙ rw (owner_is T l.contents t y h g (omega arith)) (ne_eqb y (end_of T t) (λ d. absurd (omega (arith, after_end T l.contents t h))))

            d : done_in T next status y ≡ true
            d = in_body y g (omega arith) ∙ lt-ltb y (done_to next status t) (omega arith)

            by_kind : (q : Bool) → is join (kind T x) ≡ q → all_in (done_in T next status) (depends_on T x) ≡ (not q || done_in T next status (end_of T (T.argument x)))
            by_kind true j = rw (p, depends_join T l.contents l.bodies y w n (is_true join (kind T (suc y)) (rw p at j)), d) (and-true _)
            by_kind false j = rw (p, depends_step T l.contents l.bodies y w n (rw p at j), d)

        go : Dec (x ≡ T.first t) → all_in (done_in T next status) (depends_on T x) ≡ join_done T next status x
        go (yes p) = rw (p, first_no_join T l.contents l.bodies l.nesting t h) (first (ltb 0 t) refl u)
        go (no p) = let q : x ≡ T.first t → ⊥ = p in later (x - 1) (omega (arith, q)) (omega (arith, q))
