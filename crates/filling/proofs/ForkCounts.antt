-- Sums along bodies, and how often a thread is forked: rules 8 and 11 by counting.
use Prim.Native.Nat.{ℕ, suc, ◌+◌, ◌≤◌, ◌<◌}
use native.Mathlib.Omega.{arith}
use native.Mathlib.Decide.{dec_lt, ℕ_discrete}
use mathlib.Core.Path.{◌≡◌, refl, sym, ◌∙◌}
use mathlib.Core.List.{List, [], ◌∷◌, ◌++◌, flatten}
use mathlib.Core.Bool.{Bool, true, false, not, ◌&&◌}
use lib.Dec.{eqb, ltb}
use borrow.Author.Tests.{eq-eqb, ne_eqb, lt-ltb, le-ltb}
use lib.ListN.{length, get_or}
use Rattle.table.specs.Sum.{pick, sum_to, any_below}
use Rattle.table.specs.Format.{is, Table, kind}
use Rattle.table.specs.declared.kinds.Kind.TheVariants.{Fork as fork}
use Rattle.table.specs.Checks.{forks, forked_below, forked_before, never_forked}
use Rattle.table.specs.Rules.{ContentRules, BodyRules, NestRules, ForkRules}
use Rattle.table.proofs.Sums.{sum_to_part, sum_to_zero}
use Rattle.table.proofs.Tests.{no_way, is_true}
use Rattle.table.proofs.Nesting.{any_below_true, some_any_below, forks_true, fork_forks, fork_once, fork_exists}
use Rattle.table.proofs.Bodies.{fork_above, fork_below_lem}
use Rattle.table.specs.Written.{Action}
use Rattle.table.proofs.ReadBack.{Reads, none}
use Rattle.filling.proofs.Bodies.{kind_in}
use Rattle.order.proofs.Totals.{sum_to_first, sum_to_term}

-- ---- sums

unfoldable pub sum_in : (Action → ℕ) → List Action → ℕ
sum_in w [] = 0
sum_in w (x ∷ l) = w x + sum_in w l

pub sum_in_append : (w : Action → ℕ) (l r : List Action) → sum_in w (l ++ r) ≡ sum_in w l + sum_in w r
unfolding sum_in
sum_in_append w [] r = omega arith
sum_in_append w (x ∷ l) r = omega (arith, sum_in_append w l r)

pub sum_in_length : (l : List Action) → sum_in (λ x. 1) l ≡ length l
unfolding sum_in
sum_in_length [] = refl
sum_in_length (x ∷ l) = omega (arith, sum_in_length l)

pub sum_in_to : (w : Action → ℕ) (l : List Action) (f : ℕ → ℕ) → ((i : ℕ) → i < length l → f i ≡ w (get_or l i none)) → sum_to f (length l) ≡ sum_in w l
unfolding sum_in sum_to
sum_in_to w [] f h = refl
sum_in_to w (x ∷ l) f h = omega (arith, sum_to_first f (length l), h 0 (omega arith), sum_in_to w l (λ i. f (suc i)) (λ i k. h (suc i) (omega arith)))

two_terms : (f : ℕ → ℕ) (x y k : ℕ) → x < y → y < k → f x + f y ≤ sum_to f k
unfolding sum_to
two_terms f x y k h i = omega (arith, sum_to_part f (suc y) k i, sum_to_term f x y h)

-- ---- 1 below a bound, 0 from it on

unfoldable pub up : ℕ → ℕ → ℕ
up x c = pick (ltb c x) 1 0

pub up_below : (x c : ℕ) → c < x → up x c ≡ 1
unfolding up
up_below x c h = rw (lt-ltb c x h)

pub up_beyond : (x c : ℕ) → x ≤ c → up x c ≡ 0
unfolding up
up_beyond x c h = rw (le-ltb c x h)

pub up_one : (r s c : ℕ) → s ≡ suc r → pick (eqb r c) 1 0 + up r c ≡ up s c
up_one r s c e = go (ℕ_discrete r c) (dec_lt c r)
  where
    go : Dec (r ≡ c) → Dec (c < r) → pick (eqb r c) 1 0 + up r c ≡ up s c
    go (yes q) d = rw (eq-eqb r c q) (omega (arith, up_beyond r c (omega arith), up_below s c (omega arith)))
    go (no q) (yes d) = rw (ne_eqb r c q) (omega (arith, up_below r c d, up_below s c (omega arith)))
    go (no q) (no d) = rw (ne_eqb r c q) (omega (arith, up_beyond r c (omega (arith, d)), up_beyond s c (omega (arith, q, d))))

-- ---- forks of thread c

abbrev pub fork_of : ℕ → Action → ℕ
fork_of c x = pick (is fork (kind_in x) && eqb x.argument c) 1 0

abbrev pub fork_in : Table → ℕ → ℕ → ℕ
fork_in T c a = pick (forks T c a) 1 0

fork_in_true : (T : Table) (c a : ℕ) → forks T c a ≡ true → fork_in T c a ≡ 1
fork_in_true T c a e = rw e

fork_in_false : (T : Table) (c a : ℕ) → forks T c a ≡ false → fork_in T c a ≡ 0
fork_in_false T c a e = rw e

no_fork : (T : Table) (c a : ℕ) → (kind T a ≡ fork → T.argument a ≡ c → ⊥) → fork_in T c a ≡ 0
no_fork T c a h = go (forks T c a) refl
  where
    go : (q : Bool) → forks T c a ≡ q → ◌≡◌ {A = ℕ} (pick q 1 0) 0
    go true e = let (k, p) = forks_true T c a e in absurd (h k p)
    go false e = refl

-- a table forks each thread but the root once, and no other
pub forks_counted : (T : Table) → ContentRules T → BodyRules T → NestRules T → ForkRules T → 0 < T.threads → (c : ℕ) → sum_to (fork_in T c) T.actions + up 1 c ≡ up T.threads c
forks_counted T c b n f some d = go (ℕ_discrete d 0) (dec_lt d T.threads)
  where
    go : Dec (d ≡ 0) → Dec (d < T.threads) → sum_to (fork_in T d) T.actions + up 1 d ≡ up T.threads d
    go (yes p) q =
        omega (
          arith,
          up_below 1 d (omega arith),
          up_below T.threads d (omega arith),
          sum_to_zero (fork_in T d) T.actions (λ a h. no_fork T d a (λ k e. omega (arith, fork_above T c b a h k))),
        )
    go (no p) (no q) =
        omega (
          arith,
          up_beyond 1 d (omega (arith, p)),
          up_beyond T.threads d (omega (arith, q)),
          sum_to_zero (fork_in T d) T.actions (λ a h. no_fork T d a (λ k e. omega (arith, q, fork_below_lem T c b a h k))),
        )
    go (no p) (yes q) =
        let (x, w, k, e) = fork_exists T c b n f d (omega (arith, p)) q in
        let there : fork_in T d x ≡ 1 = fork_in_true T d x (fork_forks T d x k e) in
        let other : (y : ℕ) → y < T.actions → (y ≡ x → ⊥) → fork_in T d y ≡ 0 = λ y h i. no_fork T d y (λ k' e'. i (fork_once T c b n y x h w k' k (e' ∙ sym e))) in
        let zero_else : (y : ℕ) → y < T.actions → (y ≡ x → ⊥) → fork_in T d y ≡ 0 = other in
        omega (arith, up_beyond 1 d (omega (arith, p)), up_below T.threads d q, there, Rattle.table.proofs.Sums.sum_to_one (fork_in T d) (λ i. 0) x T.actions w zero_else, sum_to_zero (λ i. 0) T.actions (λ i h. refl))

module _ (U : Table) (bs : List (List Action)) (r : Reads U bs) where
  pub forks_are : (c : ℕ) → sum_to (fork_in U c) U.actions ≡ sum_in (fork_of c) (flatten bs)
  forks_are c = rw r.actions (sum_in_to (fork_of c) (flatten bs) (fork_in U c) (λ i h. rw (r.codes i h, r.arguments i h)))

  module _ (counted : (c : ℕ) → sum_in (fork_of c) (flatten bs) + up 1 c ≡ up (length bs) c) where
    most : (c : ℕ) → up (length bs) c ≤ 1
    unfolding up
    most c = go (ltb c (length bs))
      where
        go : (q : Bool) → pick q 1 0 ≤ 1
        go true = omega arith
        go false = omega arith

    pub built_once : (a : ℕ) → a < U.actions → forked_before U a ≡ false
    unfolding forked_before forked_below
    built_once a h = go (is fork (kind U a)) refl (any_below (forks U (U.argument a)) a) refl
      where
        c : ℕ
        c = U.argument a

        go : (q : Bool) → is fork (kind U a) ≡ q → (p : Bool) → any_below (forks U c) a ≡ p → (is fork (kind U a) && any_below (forks U c) a) ≡ false
        go true q true p =
            let (x, l, s) = any_below_true (forks U c) a p in
            let here : fork_in U c a ≡ 1 = fork_in_true U c a (fork_forks U c a (is_true fork (kind U a) q) refl) in
            absurd (omega (arith, two_terms (fork_in U c) x a U.actions l h, fork_in_true U c x s, here, forks_are c, counted c, most c))
        go true q false p = rw (q, p)
        go false q p s = rw q

    pub built_forks : ForkRules U
    unfolding never_forked forked_below
    built_forks = record { forked = λ t p h. go t p h (any_below (forks U t) U.actions) refl }
      where
        none_there : (t : ℕ) → any_below (forks U t) U.actions ≡ false → (a : ℕ) → a < U.actions → (q : Bool) → forks U t a ≡ q → fork_in U t a ≡ 0
        none_there t e a h true q = no_way (cc (some_any_below (forks U t) U.actions a h q))
        none_there t e a h false q = fork_in_false U t a q

        go : (t : ℕ) → 0 < t → t < U.threads → (q : Bool) → any_below (forks U t) U.actions ≡ q → not (any_below (forks U t) U.actions) ≡ false
        go t p h true e = rw e
        go t p h false e =
            absurd (omega (arith, sum_to_zero (fork_in U t) U.actions (λ a i. none_there t e a i (forks U t a) refl), forks_are t, counted t, up_beyond 1 t p, up_below (length bs) t (omega (arith, r.threads))))
