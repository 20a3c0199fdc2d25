-- The trees along serial order: where each begins, and what they come to together.
use Prim.Native.Nat.{ℕ, suc, ◌+◌, ◌≤◌, ◌<◌}
use native.Mathlib.Omega.{arith}
use mathlib.Core.Path.{◌≡◌, refl, sym, ap, ◌∙◌}
use mathlib.Core.List.Memᴰ
use mathlib.Core.List.{List, [], ◌∷◌, ◌++◌, flatten, Memᴰ}
use mathlib.Core.Bool.{Bool, true, false}
use mathlib.Core.Logic.{◌⊎◌, inl, inr}
use lib.Dec.{eqb}
use borrow.Author.Tests.{eq-eqb, ne_eqb, lt-ltb}
use lib.ListN.{length, get_or, length-append, get_or-append}
use lib.Seq.{take_all, get_or-append-add}
use Rattle.table.specs.Sum.{pick, sum_to, sum_over}
use Rattle.table.specs.Format.{Table}
use Rattle.table.specs.Serial.{serial_order}
use Rattle.table.proofs.Sums.{sum_to_cong}
use Rattle.table.proofs.Bodies.{first_within}
use Rattle.table.proofs.Serial.{serial_length, serial_below}
use Rattle.order.specs.Order.{number_of}
use Rattle.order.specs.Words.{place_in}
use Rattle.order.proofs.Lawful.{Lawful}
use Rattle.order.proofs.Places.{place_of_lem}
use Rattle.order.proofs.Numbers.{number_place, place_number, number_below}
use Rattle.order.proofs.SerialSums.{lower, front_sum}
use Rattle.order.proofs.Lists.{get_d_member}
use Rattle.order.proofs.Words.{Ascends, place_in_below}
use Rattle.table.specs.Written.{Action}
use Rattle.filling.specs.Filled.{big, dummies, new_threads, new_actions, sum_before, root_of, in_front, tree_at, trees_along}
use Rattle.filling.proofs.Bodies.{EachBody, bodies_append, Good}
use Rattle.parts.proofs.Built.{flatten_append}
use Rattle.filling.proofs.ForkCounts.{sum_in, sum_in_append, up, up_one, fork_of}
use Rattle.filling.proofs.Trees.{tree_length, tree_actions, tree_forks, tree_good, Quiet, tree_quiet, dummies_two, new_threads_lem}

-- ---- serial order as a list

-- a list along which f counts ascends
counts_ascend : (f : ℕ → ℕ) (l : List ℕ) (k : ℕ) → ((i : ℕ) → i < length l → f (get_or l i 0) ≡ k + i) → Ascends f l
unfolding Ascends
counts_ascend f [] k h = tt
counts_ascend f (x ∷ l) k h = (
  (λ y m. omega (arith, h 0 (omega arith), ap f (place_of_lem y l m), h (suc (place_in y l)) (omega (arith, place_in_below y l m)))),
  counts_ascend f l (suc k) (λ i j. omega (arith, h (suc i) (omega arith))),
)

module _ (T : Table) (l : Lawful T) where
  abbrev so : List ℕ
  so = serial_order T

  so_length : length so ≡ T.actions
  so_length = serial_length T l.contents l.bodies l.nesting l.forking l.some_thread

  pub so_ascends : Ascends (number_of T) so
  so_ascends = counts_ascend (number_of T) so 0 (λ i h. omega (arith, (place_number T l i (omega (arith, so_length))).1))

  pub so_below : (a : ℕ) → Memᴰ a so → a < T.actions
  so_below = serial_below T l.contents l.bodies (T.first 0) (first_within T l.contents 0 l.some_thread)

  pub so_all : (a : ℕ) → a < T.actions → Memᴰ a so
  so_all a h =
      let g : number_of T a < length so = omega (arith, number_below T l a h, so_length) in
      rw (number_place T l a h) at (get_d_member so (number_of T a) 0 g)

  -- a sum over all actions, in serial order
  pub all_serial : (own : ℕ → ℕ) → sum_to own T.actions ≡ sum_over own so
  all_serial own =
      sum_to_cong own (lower T own T.actions) T.actions (λ a h. rw (lt-ltb (number_of T a) T.actions (number_below T l a h)))
      ∙ sym (front_sum T l own T.actions (omega arith))
      ∙ ap (sum_over own) (take_all T.actions so (omega (arith, so_length)))

-- ---- along a list, from c on each element takes as many numbers as f says, and r says where

unfoldable pub Rooted : (ℕ → ℕ) → (ℕ → ℕ) → ℕ → List ℕ → Type 0
Rooted f r c [] = Unit {0}
Rooted f r c (a ∷ l) = (r a ≡ c) × Rooted f r (c + f a) l

rooted_same : (f r s : ℕ → ℕ) (l : List ℕ) (c : ℕ) → ((a : ℕ) → Memᴰ a l → r a ≡ s a) → Rooted f s c l → Rooted f r c l
unfolding Rooted
rooted_same f r s [] c h p = tt
rooted_same f r s (a ∷ l) c h p = (h a (Memᴰ.head refl) ∙ p.0, rooted_same f r s l (c + f a) (λ x m. h x (Memᴰ.tail m)) p.1)

rooted_before : (f h : ℕ → ℕ) (l : List ℕ) (c : ℕ) → Ascends h l → Rooted f (λ a. c + sum_before f a l) c l
unfolding Rooted Ascends sum_before
rooted_before f h [] c p = tt
rooted_before f h (x ∷ l) c p = (
  rw (eq-eqb x x refl) (omega arith),
  rooted_same f (λ a. c + pick (eqb a x) 0 (f x + sum_before f a l)) (λ a. c + f x + sum_before f a l) l (c + f x)
      (λ a m.
      let d : a ≡ x → ⊥ = λ q. absurd (omega (arith, p.0 a m, ap h q)) in
      rw (ne_eqb a x d) (omega arith))
      (rooted_before f h l (c + f x) p.1),
)

pub rooted_bound : (f r : ℕ → ℕ) (l : List ℕ) (c a : ℕ) → Rooted f r c l → Memᴰ a l → (c ≤ r a) × (r a + f a ≤ c + sum_over f l)
unfolding Rooted sum_over
rooted_bound f r [] c a p m = absurd (Memᴰ.not-nil m)
rooted_bound f r (x ∷ l) c a p m = go (Memᴰ.cases_cons m) (λ i. rooted_bound f r l (c + f x) a p.1 i)
  where
    go : (a ≡ x) ⊎ Memᴰ a l → (Memᴰ a l → (c + f x ≤ r a) × (r a + f a ≤ c + f x + sum_over f l)) → (c ≤ r a) × (r a + f a ≤ c + (f x + sum_over f l))
    go (inl e) ih = rw e (omega (arith, p.0), omega (arith, p.0))
    go (inr i) ih = let (lo, hi) = ih i in (omega arith, omega arith)

pub roots : (T : Table) (l : Lawful T) (K : ℕ) → Rooted (new_threads T K) (root_of T K) T.threads (serial_order T)
unfolding root_of
roots T l K = rooted_before (new_threads T K) (number_of T) (serial_order T) T.threads (so_ascends T l)

-- ---- bodies that stand among others from thread c on

abbrev pub Stand : List (List Action) → ℕ → List (List Action) → Type 0
Stand bs c t = (j : ℕ) → j < length t → get_or bs (c + j) [] ≡ get_or t j []

pub stand_front : (bs : List (List Action)) (c : ℕ) (s t : List (List Action)) → Stand bs c (s ++ t) → Stand bs c s
stand_front bs c s t p j h = p j (omega (arith, length-append s t)) ∙ get_or-append s t [] j h

pub stand_back : (bs : List (List Action)) (c d : ℕ) (s t : List (List Action)) → d ≡ c + length s → Stand bs c (s ++ t) → Stand bs d t
stand_back bs c d s t e p j h =
    let z : d + j ≡ c + (length s + j) = omega arith in
    rw z (p (length s + j) (omega (arith, length-append s t)) ∙ get_or-append-add s t j [])

module _ (T : Table) (K : ℕ) (some : 1 ≤ K) where
  tree_at_length : (c a : ℕ) → length (tree_at T K c a) ≡ new_threads T K a
  unfolding new_threads
  tree_at_length c a = go (big T K a) refl
    where
      go : (q : Bool) → big T K a ≡ q → length (tree_at T K c a) ≡ new_threads T K a
      go true e =
          rw e (omega (arith, dummies_two T K some a e, tree_length (dummies T K a) c (dummies T K a) (omega (arith, dummies_two T K some a e)) (omega arith)))
      go false e = rw e

  pub trees_length : (l : List ℕ) (c : ℕ) → length (trees_along T K c l) ≡ sum_over (new_threads T K) l
  unfolding trees_along sum_over
  trees_length [] c = refl
  trees_length (a ∷ l) c =
      omega (arith, length-append (tree_at T K c a) (trees_along T K (c + new_threads T K a) l), tree_at_length c a, trees_length l (c + new_threads T K a))

  tree_at_actions : (c a : ℕ) → length (flatten (tree_at T K c a)) + length (in_front T K a) ≡ new_actions T K a
  unfolding new_actions flatten
  tree_at_actions c a = go (big T K a) refl
    where
      go : (q : Bool) → big T K a ≡ q → length (flatten (tree_at T K c a)) + length (in_front T K a) ≡ new_actions T K a
      go true e =
          rw e (omega (arith, dummies_two T K some a e, tree_actions (dummies T K a) c (dummies T K a) (omega (arith, dummies_two T K some a e)) (omega arith)))
      go false e = rw e

  pub trees_actions : (l : List ℕ) (c : ℕ) → length (flatten (trees_along T K c l)) + sum_over (λ a. length (in_front T K a)) l ≡ sum_over (new_actions T K) l
  unfolding trees_along sum_over flatten
  trees_actions [] c = refl
  trees_actions (a ∷ l) c =
      let r : List (List Action) = trees_along T K (c + new_threads T K a) l in
      rw (flatten_append (tree_at T K c a) r)
      (omega (arith, length-append (flatten (tree_at T K c a)) (flatten r), tree_at_actions c a, trees_actions l (c + new_threads T K a)))

  -- 1 where a big alloc's root is x
  abbrev pub root_is : (ℕ → ℕ) → ℕ → ℕ → ℕ
  root_is r x a = pick (big T K a) (pick (eqb (r a) x) 1 0) 0

  tree_at_forks : (r : ℕ → ℕ) (x c a d : ℕ) → r a ≡ c → d ≡ c + new_threads T K a → root_is r x a + sum_in (fork_of x) (flatten (tree_at T K c a)) + up c x ≡ up d x
  unfolding new_threads flatten sum_in
  tree_at_forks r x c a d p i = go (big T K a) refl
    where
      go : (q : Bool) → big T K a ≡ q → root_is r x a + sum_in (fork_of x) (flatten (tree_at T K c a)) + up c x ≡ up d x
      go true e =
          let t = tree_forks x (dummies T K a) c (dummies T K a) (omega (arith, dummies_two T K some a e)) (omega arith) (suc c) d refl (omega (arith, i, new_threads_lem T K some a e)) in
          rw (e, p) (omega (arith, up_one c (suc c) x refl, t))
      go false e = let z : d ≡ c = rw e at i ∙ omega arith in rw (e, z) (omega arith)

  pub trees_forks : (r : ℕ → ℕ) (x : ℕ) (l : List ℕ) (c d : ℕ) → Rooted (new_threads T K) r c l → d ≡ c + sum_over (new_threads T K) l
      → sum_over (root_is r x) l + sum_in (fork_of x) (flatten (trees_along T K c l)) + up c x ≡ up d x
  unfolding trees_along sum_over flatten Rooted sum_in
  trees_forks r x [] c d p i = let z : d ≡ c = omega arith in rw z (omega arith)
  trees_forks r x (a ∷ l) c d p i =
      let c' : ℕ = c + new_threads T K a in
      let t : List (List Action) = trees_along T K c' l in
      rw (flatten_append (tree_at T K c a) t)
      (omega (arith, sum_in_append (fork_of x) (flatten (tree_at T K c a)) (flatten t), tree_at_forks r x c a c' p.0 refl, trees_forks r x l c' d p.1 (omega arith)))

  tree_at_good : (n : ℕ) → n ≤ 16777216 → (c a : ℕ) → c + new_threads T K a ≤ n → EachBody (Good n) c (tree_at T K c a)
  tree_at_good n small c a h = go (big T K a) refl
    where
      go : (q : Bool) → big T K a ≡ q → EachBody (Good n) c (tree_at T K c a)
      go true e =
          rw e (tree_good n small (dummies T K a) c (dummies T K a) (omega (arith, dummies_two T K some a e)) (omega arith) (omega (arith, h, new_threads_lem T K some a e)))
      go false e = rw e tt

  pub trees_good : (n : ℕ) → n ≤ 16777216 → (l : List ℕ) (c : ℕ) → c + sum_over (new_threads T K) l ≤ n → EachBody (Good n) c (trees_along T K c l)
  unfolding trees_along sum_over
  trees_good n small [] c h = tt
  trees_good n small (a ∷ l) c h =
      bodies_append (Good n) (tree_at T K c a) (trees_along T K (c + new_threads T K a) l) c (c + new_threads T K a) (omega (arith, tree_at_length c a))
      (tree_at_good n small c a (omega arith)) (trees_good n small l (c + new_threads T K a) (omega arith))

  tree_at_quiet : (c a : ℕ) → EachBody Quiet c (tree_at T K c a)
  tree_at_quiet c a = go (big T K a) refl
    where
      go : (q : Bool) → big T K a ≡ q → EachBody Quiet c (tree_at T K c a)
      go true e = rw e (tree_quiet (dummies T K a) c (dummies T K a) (omega (arith, dummies_two T K some a e)) (omega arith))
      go false e = rw e tt

  pub trees_quiet : (l : List ℕ) (c : ℕ) → EachBody Quiet c (trees_along T K c l)
  unfolding trees_along
  trees_quiet [] c = tt
  trees_quiet (a ∷ l) c =
      bodies_append Quiet (tree_at T K c a) (trees_along T K (c + new_threads T K a) l) c (c + new_threads T K a) (omega (arith, tree_at_length c a))
      (tree_at_quiet c a) (trees_quiet l (c + new_threads T K a))

  -- each tree stands from its root on
  pub trees_stand : (bs : List (List Action)) (r : ℕ → ℕ) (l : List ℕ) (c a : ℕ) → Rooted (new_threads T K) r c l → Stand bs c (trees_along T K c l)
      → Memᴰ a l → Stand bs (r a) (tree_at T K (r a) a)
  unfolding trees_along Rooted
  trees_stand bs r [] c a p s m = absurd (Memᴰ.not-nil m)
  trees_stand bs r (x ∷ l) c a p s m =
      go (Memᴰ.cases_cons m)
      (λ i. trees_stand bs r l (c + new_threads T K x) a p.1 (stand_back bs c (c + new_threads T K x) (tree_at T K c x) (trees_along T K (c + new_threads T K x) l) (omega (arith, tree_at_length c x)) s) i)
    where
      go : (a ≡ x) ⊎ Memᴰ a l → (Memᴰ a l → Stand bs (r a) (tree_at T K (r a) a)) → Stand bs (r a) (tree_at T K (r a) a)
      go (inl e) ih = rw (e, p.0) (stand_front bs c (tree_at T K c x) (trees_along T K (c + new_threads T K x) l) s)
      go (inr i) ih = ih i
