-- Trees of dummies: how many threads and actions, which threads they fork, and that their bodies keep the rules.
use Prim.Native.Nat.{ℕ, zero, suc, ◌+◌, ◌-◌, ◌*◌, ◌/◌, ◌≤◌, ◌<◌}
use native.Mathlib.Omega.{arith}
use native.Mathlib.Nat.{lt-mul-div-succ, le-div_iff_mul-le}
use mathlib.Core.Path.{◌≡◌, refl, ◌∙◌}
use mathlib.Core.List.{List, [], ◌∷◌, ◌++◌, flatten}
use mathlib.Core.Bool.{true, false}
use lib.Dec.{eqb}
use borrow.Author.Tests.{ltb-true, eq-eqb, lt-ltb}
use lib.ListN.{length, length-append}
use Rattle.table.specs.Sum.{pick}
use Rattle.table.specs.Format.{is, code_of, kind_of, Table}
use Rattle.table.specs.declared.kinds.Kind.TheVariants.{Alloc as alloc, Free as free}
use Rattle.table.specs.Checks.{alloc_of}
use Rattle.table.specs.Written.{Action}
use Rattle.filling.specs.Filled.{act, big, dummies, new_threads, new_actions, half, leaf, fork2, tree_of}
use Rattle.filling.proofs.Bodies.{kind_in, Each, EachBody, bodies_append, Fit, Good}
use Rattle.parts.proofs.Built.{flatten_append}
use Rattle.filling.proofs.ForkCounts.{sum_in, sum_in_append, up, up_one, fork_of}

-- ---- by cases: a tree of one, and a larger one

pub tree_one : (f c d : ℕ) → d ≤ 1 → tree_of (suc f) c d ≡ leaf ∷ []
unfolding tree_of
tree_one f c d h = rw (borrow.Author.Tests.le-leb d 1 h)

pub tree_more : (f c d : ℕ) → 1 < d → tree_of (suc f) c d ≡ fork2 (suc c) (c + 2 * half d) ∷ (tree_of f (suc c) (half d) ++ tree_of f (c + 2 * half d) (d - half d))
unfolding tree_of
tree_more f c d h = rw (borrow.Author.Tests.lt-leb d 1 h)

-- what holds of a leaf, and of a larger tree where it holds of its two halves
pub tree_induction : (P : ℕ → ℕ → ℕ → Type 0)
    → ((f c d : ℕ) → d ≡ 1 → P (suc f) c d)
    → ((f c d : ℕ) → 1 < d → P f (suc c) (half d) → P f (c + 2 * half d) (d - half d) → P (suc f) c d)
    → (f c d : ℕ) → 1 ≤ d → d ≤ f → P f c d
tree_induction P one more zero c d h i = absurd (omega arith)
tree_induction P one more (suc f) c d h i =
    go (native.Mathlib.Decide.dec_lt 1 d) (λ c d h i. tree_induction P one more f c d h i)
  where
    go : Dec (1 < d) → ((c d : ℕ) → 1 ≤ d → d ≤ f → P f c d) → P (suc f) c d
    go (yes q) ih = more f c d q (ih (suc c) (half d) (omega arith) (omega arith)) (ih (c + 2 * half d) (d - half d) (omega arith) (omega arith))
    go (no q) ih = one f c d (omega (arith, q))

-- ---- threads and actions

pub tree_length : (f c d : ℕ) → 1 ≤ d → d ≤ f → length (tree_of f c d) + 1 ≡ 2 * d
tree_length = tree_induction (λ f c d. length (tree_of f c d) + 1 ≡ 2 * d)
    (λ f c d e. rw (tree_one f c d (omega arith)) (omega arith))
    (λ f c d e p q. rw (tree_more f c d e) (omega (arith, length-append (tree_of f (suc c) (half d)) (tree_of f (c + 2 * half d) (d - half d)))))

pub tree_actions : (f c d : ℕ) → 1 ≤ d → d ≤ f → length (flatten (tree_of f c d)) + 5 ≡ 7 * d
unfolding flatten
tree_actions = tree_induction (λ f c d. length (flatten (tree_of f c d)) + 5 ≡ 7 * d)
    (λ f c d e. rw (tree_one f c d (omega arith)) (omega arith))
    (λ f c d e p q.
    rw (tree_more f c d e, flatten_append (tree_of f (suc c) (half d)) (tree_of f (c + 2 * half d) (d - half d)))
    (omega (arith, length-append (flatten (tree_of f (suc c) (half d))) (flatten (tree_of f (c + 2 * half d) (d - half d))))))

-- ---- forks: the threads after the root, each once

root_forks : (x y c : ℕ) → sum_in (fork_of c) (fork2 x y) ≡ pick (eqb x c) 1 0 + pick (eqb y c) 1 0
unfolding sum_in is code_of kind_of
root_forks x y c = omega arith

pub tree_forks : (x f c d : ℕ) → 1 ≤ d → d ≤ f → (p q : ℕ) → p ≡ suc c → q + 1 ≡ c + 2 * d → sum_in (fork_of x) (flatten (tree_of f c d)) + up p x ≡ up q x
unfolding flatten sum_in is code_of kind_of
tree_forks x = tree_induction (λ f c d. (p q : ℕ) → p ≡ suc c → q + 1 ≡ c + 2 * d → sum_in (fork_of x) (flatten (tree_of f c d)) + up p x ≡ up q x)
    (λ f c d e p q i j. let z : p ≡ q = omega arith in rw (tree_one f c d (omega arith), z) (omega arith))
    (λ f c d e left right p q i j.
    let y : ℕ = c + 2 * half d in
    let l : ℕ = sum_in (fork_of x) (flatten (tree_of f (suc c) (half d))) in
    let r : ℕ = sum_in (fork_of x) (flatten (tree_of f y (d - half d))) in
    let s : sum_in (fork_of x) (flatten (fork2 (suc c) y ∷ (tree_of f (suc c) (half d) ++ tree_of f y (d - half d)))) ≡ pick (eqb (suc c) x) 1 0 + pick (eqb y x) 1 0 + (l + r) =
    sum_in_append (fork_of x) (fork2 (suc c) y) (flatten (tree_of f (suc c) (half d) ++ tree_of f y (d - half d)))
    ∙ rw (root_forks (suc c) y x, flatten_append (tree_of f (suc c) (half d)) (tree_of f y (d - half d)), sum_in_append (fork_of x) (flatten (tree_of f (suc c) (half d))) (flatten (tree_of f y (d - half d)))) in
    rw (tree_more f c d e, s, i)
    (omega (arith, up_one (suc c) (c + 2) x (omega arith), up_one y (y + 1) x (omega arith), left (c + 2) y (omega arith) (omega arith), right (y + 1) q (omega arith) (omega arith))))

-- ---- rules

fit_plain : (t n k : ℕ) → k ≤ 1 → Fit t n (act k 0)
unfolding is code_of kind_of
fit_plain t n zero h = record { known = refl; fits = refl; short = omega arith }
fit_plain t n (suc zero) h = record { known = refl; fits = refl; short = omega arith }
fit_plain t n (suc (suc k)) h = absurd (omega arith)

pub fit_fork : (t n x : ℕ) → t < x → x < n → n ≤ 16777216 → Fit t n (act 4 x)
unfolding is code_of kind_of
fit_fork t n x h i j = record { known = refl; fits = rw (lt-ltb t x h, lt-ltb x n i); short = omega arith }

pub fit_join : (t n x : ℕ) → t < x → x < n → n ≤ 16777216 → Fit t n (act 5 x)
unfolding is code_of kind_of
fit_join t n x h i j = record { known = refl; fits = rw (lt-ltb t x h, lt-ltb x n i); short = omega arith }

good_leaf : (n t : ℕ) → Good n t leaf
unfolding is code_of kind_of
good_leaf n t = record { fit = (fit_plain t n 1 (omega arith), (fit_plain t n 0 (omega arith), tt)); ends = (refl, refl); nests = (refl, refl, (refl, refl, tt)) }

good_root : (n t x y : ℕ) → t < x → x < n → t < y → y < n → n ≤ 16777216 → Good n t (fork2 x y)
unfolding is code_of kind_of
good_root n t x y h i j k l =
    record {
      fit = (fit_fork t n x h i l, (fit_fork t n y j k l, (fit_join t n y j k l, (fit_join t n x h i l, (fit_plain t n 0 (omega arith), tt)))));
      ends = (refl, (refl, (refl, (refl, refl))));
      nests = (refl, refl, (refl, refl, (rw (eq-eqb y y refl), refl, (rw (eq-eqb x x refl), refl, (refl, refl, tt)))));
    }

pub tree_good : (n : ℕ) → n ≤ 16777216 → (f c d : ℕ) → 1 ≤ d → d ≤ f → c + 2 * d ≤ n + 1 → EachBody (Good n) c (tree_of f c d)
tree_good n small f c d one fuel = tree_induction (λ f c d. 1 ≤ d → d ≤ f → c + 2 * d ≤ n + 1 → EachBody (Good n) c (tree_of f c d))
    (λ f c d e i j k. rw (tree_one f c d (omega arith)) (good_leaf n c, tt))
    (λ f c d e p q i j k.
    rw (tree_more f c d e) (
      good_root n c (suc c) (c + 2 * half d) (omega arith) (omega arith) (omega arith) (omega arith) small,
      bodies_append (Good n) (tree_of f (suc c) (half d)) (tree_of f (c + 2 * half d) (d - half d)) (suc c) (c + 2 * half d)
          (omega (arith, tree_length f (suc c) (half d) (omega arith) (omega arith)))
          (p (omega arith) (omega arith) (omega arith))
          (q (omega arith) (omega arith) (omega arith)),
    ))
    f c d one fuel one fuel

-- neither alloc nor free
abbrev pub Quiet : ℕ → List Action → Type 0
Quiet t l = Each (λ (y : Action). (is alloc (kind_in y) ≡ false) × (is free (kind_in y) ≡ false)) l

pub tree_quiet : (f c d : ℕ) → 1 ≤ d → d ≤ f → EachBody Quiet c (tree_of f c d)
unfolding is code_of kind_of
tree_quiet f c d one fuel = tree_induction (λ f c d. 1 ≤ d → d ≤ f → EachBody Quiet c (tree_of f c d))
    (λ f c d e i j. rw (tree_one f c d (omega arith)) (((refl, refl), ((refl, refl), tt)), tt))
    (λ f c d e p q i j.
    rw (tree_more f c d e) (
      ((refl, refl), ((refl, refl), ((refl, refl), ((refl, refl), ((refl, refl), tt))))),
      bodies_append Quiet (tree_of f (suc c) (half d)) (tree_of f (c + 2 * half d) (d - half d)) (suc c) (c + 2 * half d)
          (omega (arith, tree_length f (suc c) (half d) (omega arith) (omega arith)))
          (p (omega arith) (omega arith)) (q (omega arith) (omega arith)),
    ))
    f c d one fuel one fuel

-- ---- the tree in front of a big alloc

module _ (T : Table) (K : ℕ) (some : 1 ≤ K) (a : ℕ) (b : big T K a ≡ true) where
  above : K < alloc_of T a
  unfolding big
  above = ltb-true K (alloc_of T a) b

  pub dummies_two : 2 ≤ dummies T K a
  unfolding dummies
  dummies_two = (le-div_iff_mul-le {k = K} some).1 (omega (arith, above))

  pub dummies_cover : alloc_of T a ≤ K * dummies T K a
  unfolding dummies
  dummies_cover =
      let q : ℕ = (alloc_of T a + K - 1) / K in
      let o : q + 1 ≡ suc q = omega arith in
      let z : K * (q + 1) ≡ K * q + K = rw o (native.Mathlib.Nat.mul-suc K q) in
      omega (arith, lt-mul-div-succ (alloc_of T a + K - 1) some, z, above)

  pub new_threads_lem : new_threads T K a + 1 ≡ 2 * dummies T K a
  unfolding new_threads
  new_threads_lem = rw b (omega (arith, dummies_two))

  pub new_actions_lem : new_actions T K a + 3 ≡ 7 * dummies T K a
  unfolding new_actions
  new_actions_lem = rw b (omega (arith, dummies_two))
