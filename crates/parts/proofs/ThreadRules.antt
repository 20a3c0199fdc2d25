-- The rules that look at one thread's body pass from a table to its copy.
use Prim.Native.Nat.{ℕ, suc, ◌+◌, ◌-◌, ◌<◌}
use native.Mathlib.Omega.{arith}
use mathlib.Core.Path.{◌≡◌, refl, ap}
use mathlib.Core.List.{List, [], ◌∷◌, map}
use mathlib.Core.Bool.{Bool, true, false, not, ◌&&◌}
use lib.Dec.{eqb}
use borrow.Author.Tests.{eqb-true, eqb-false, eq-eqb, ne_eqb, lt-ltb, not-false}
use Rattle.table.specs.Sum.{pick}
use Rattle.table.specs.Format.{is, Table, kind}
use Rattle.table.specs.declared.kinds.Kind.{Kind}
use Rattle.table.specs.declared.kinds.Kind.TheVariants.{End as end, Work as work, Alloc as alloc, Free as free, Fork as fork, Join as join, Unknown as unknown}
use Rattle.table.specs.Checks.{owner, end_of, kind_unknown, argument_fits, argument_wrong, end_misplaced, is_latest, is_empty, open_before, join_not_latest, end_with_open, alloc_of, free_of, balance, balance_below0}
use Rattle.table.specs.Rules.{ContentRules, BodyRules, NestRules, BalanceRules}
use Rattle.table.proofs.Tests.{is_true}
use Rattle.table.proofs.Bodies.{owner_at, after_end, fork_below_lem, join_below}
use Rattle.table.proofs.Amounts.{action_within}
use Rattle.parts.specs.Copies.{renamed, Copies}
use Rattle.parts.proofs.CopyRules.{copy_open, copy_part}

latest_map : (f : ℕ → ℕ) (x : ℕ) (l : List ℕ) → is_latest x l ≡ true → is_latest (f x) (map f l) ≡ true
latest_map f x [] h = h
latest_map f x (y ∷ l) h = eq-eqb (f x) (f y) (ap f (eqb-true x y h))

empty_map : (f : ℕ → ℕ) (l : List ℕ) → is_empty (map f l) ≡ is_empty l
empty_map f [] = refl
empty_map f (x ∷ l) = refl

fits_renamed : (f : ℕ → ℕ) (k : Kind) (t n u m x : ℕ) → argument_fits k t n x ≡ true → (k ≡ fork → (u < f x) × (f x < m)) → (k ≡ join → (u < f x) × (f x < m))
    → argument_fits k u m (renamed f k x) ≡ true
fits_renamed f end t n u m x h p q = h
fits_renamed f work t n u m x h p q = h
fits_renamed f alloc t n u m x h p q = h
fits_renamed f free t n u m x h p q = h
fits_renamed f fork t n u m x h p q = rw (lt-ltb u (f x) (p refl).0, lt-ltb (f x) m (p refl).1)
fits_renamed f join t n u m x h p q = rw (lt-ltb u (f x) (q refl).0, lt-ltb (f x) m (q refl).1)
fits_renamed f unknown t n u m x h p q = h

module _ (T U : Table) (f : ℕ → ℕ) (y : Copies T U f) (c : ContentRules T) (b : BodyRules T) (d : ContentRules U) where
  abbrev at : ℕ → ℕ → ℕ
  at t i = U.first (f t) + i

  own : (t i : ℕ) → t < T.threads → i < T.count t → owner U (at t i) ≡ f t
  own t i h k = owner_at U d (f t) i (y.within t h) (omega (arith, y.counts t h))

  kinds_same : (t i : ℕ) → t < T.threads → i < T.count t → kind U (at t i) ≡ kind T (T.first t + i)
  kinds_same t i h k = rw (y.codes t i h k)

  pub kind_rule : (t i : ℕ) → t < T.threads → i < T.count t → kind_unknown U (at t i) ≡ false
  unfolding kind_unknown
  kind_rule t i h k = rw (kinds_same t i h k) (b.kinds (T.first t + i) (action_within T c b t i h k))

  -- children keep a higher number than their thread
  abbrev pub Rising : Kind → Type 0
  Rising k = (a : ℕ) → a < T.actions → kind T a ≡ k → f (owner T a) < f (T.argument a)

  pub argument_rule : Rising fork → Rising join → (t i : ℕ) → t < T.threads → i < T.count t → argument_wrong U (at t i) ≡ false
  unfolding argument_wrong
  argument_rule forked joined t i h k =
      let a : ℕ = T.first t + i in
      let w : a < T.actions = action_within T c b t i h k in
      let o : owner T a ≡ t = owner_at T c t i h k in
      let fits : argument_fits (kind T a) t T.threads (T.argument a) ≡ true = rw o at (not-false (argument_fits (kind T a) (owner T a) T.threads (T.argument a)) (b.arguments a w)) in
      rw (
        own t i h k,
        kinds_same t i h k,
        y.arguments t i h k,
        fits_renamed f (kind T a) t T.threads (f t) U.threads (T.argument a) fits
            (λ q. (rw o at (forked a w q), y.within (T.argument a) (fork_below_lem T c b a w q)))
            (λ q. (rw o at (joined a w q), y.within (T.argument a) (join_below T c b a w q))),
      )

  end_same : (t i : ℕ) → t < T.threads → i < T.count t → eqb (at t i) (end_of U (f t)) ≡ eqb (T.first t + i) (end_of T t)
  end_same t i h k = go (eqb (T.first t + i) (end_of T t)) refl
    where
      go : (q : Bool) → eqb (T.first t + i) (end_of T t) ≡ q → eqb (at t i) (end_of U (f t)) ≡ q
      go true e = eq-eqb (at t i) (end_of U (f t)) (omega (arith, eqb-true (T.first t + i) (end_of T t) e, after_end T c t h, after_end U d (f t) (y.within t h), y.counts t h))
      go false e = ne_eqb (at t i) (end_of U (f t)) (λ z. eqb-false (T.first t + i) (end_of T t) e (omega (arith, after_end T c t h, after_end U d (f t) (y.within t h), y.counts t h)))

  pub end_rule : (t i : ℕ) → t < T.threads → i < T.count t → end_misplaced U (at t i) ≡ false
  unfolding end_misplaced
  end_rule t i h k =
      let a : ℕ = T.first t + i in
      rw (own t i h k, kinds_same t i h k, end_same t i h k) (rw (owner_at T c t i h k) at (b.ends a (action_within T c b t i h k)))

  module _ (e : BodyRules U) (n : NestRules T) where
    pub join_rule : (t i : ℕ) → t < T.threads → i < T.count t → join_not_latest U (at t i) ≡ false
    unfolding join_not_latest
    join_rule t i h k = rw (kinds_same t i h k, copy_open T U f y c b d e t i h k) (go (is join (kind T a)) refl)
      where
        a : ℕ
        a = T.first t + i

        go : (q : Bool) → is join (kind T a) ≡ q → (q && not (is_latest (U.argument (at t i)) (map f (open_before T a)))) ≡ false
        go true q =
            let z : kind T a ≡ join = is_true join (kind T a) q in
            let p : U.argument (at t i) ≡ f (T.argument a) = rw z at (y.arguments t i h k) in
            let s : not (is_latest (T.argument a) (open_before T a)) ≡ false = rw q at (n.latest a (action_within T c b t i h k)) in
            rw (p, latest_map f (T.argument a) (open_before T a) (not-false (is_latest (T.argument a) (open_before T a)) s))
        go false q = refl

    pub close_rule : (t i : ℕ) → t < T.threads → i < T.count t → end_with_open U (at t i) ≡ false
    unfolding end_with_open
    close_rule t i h k =
        rw (kinds_same t i h k, copy_open T U f y c b d e t i h k, empty_map f (open_before T (T.first t + i))) (n.joined (T.first t + i) (action_within T c b t i h k))

    pub balance_rule : BalanceRules T → (t i : ℕ) → t < T.threads → i < T.count t → balance_below0 U (at t i) ≡ false
    unfolding balance_below0 balance alloc_of free_of
    balance_rule z t i h k =
        let a : ℕ = T.first t + i in
        let p : suc (at t i) - U.first (f t) ≡ suc i = omega arith in
        let q : suc a - T.first t ≡ suc i = omega arith in
        rw (own t i h k, p, copy_part T U f y c b d e (alloc_of T) (alloc_of U) alloc_same t (suc i) h (omega arith), copy_part T U f y c b d e (free_of T) (free_of U) free_same t (suc i) h (omega arith))
        (rw (owner_at T c t i h k, q) at (z.balanced a (action_within T c b t i h k)))
      where
        amount_same : (j : Kind) → (renamed f j ≡ (λ x. x)) → (t i : ℕ) → t < T.threads → i < T.count t
            → pick (is j (kind U (at t i))) (U.argument (at t i)) 0 ≡ pick (is j (kind T (T.first t + i))) (T.argument (T.first t + i)) 0
        amount_same j r t i h k = rw (kinds_same t i h k) (go (is j (kind T (T.first t + i))) refl)
          where
            go : (q : Bool) → is j (kind T (T.first t + i)) ≡ q → pick q (U.argument (at t i)) 0 ≡ pick q (T.argument (T.first t + i)) 0
            go true q = let w : kind T (T.first t + i) ≡ j = is_true j (kind T (T.first t + i)) q in rw (y.arguments t i h k, w, r)
            go false q = refl

        alloc_same : (t i : ℕ) → t < T.threads → i < T.count t → alloc_of U (at t i) ≡ alloc_of T (T.first t + i)
        alloc_same = amount_same alloc refl

        free_same : (t i : ℕ) → t < T.threads → i < T.count t → free_of U (at t i) ≡ free_of T (T.first t + i)
        free_same = amount_same free refl
