-- m + A + J of the filled-out table is that of the table as given and 9d - 4 for each big alloc (fill-turns): no table need be built to say how many turns a run takes at most.
use Prim.Native.Nat.{ℕ, suc, ◌+◌, ◌-◌, ◌*◌, ◌≤◌}
use native.Mathlib.Omega.{arith}
use mathlib.Core.Path.{◌≡◌, refl, ◌∙◌}
use mathlib.Core.List.{List, [], ◌∷◌, flatten}
use mathlib.Core.Bool.{Bool, true, false}
use Rattle.table.specs.Sum.{pick, sum_to, sum_over, any_below}
use Rattle.table.specs.Format.{is, code_of, kind_of, Table, table_of, kind}
use Rattle.table.specs.declared.kinds.Kind.{Kind}
use Rattle.table.specs.declared.kinds.Kind.TheVariants.{Alloc as alloc, Join as join}
use Rattle.table.specs.Rules.{Rules}
use Rattle.table.specs.Serial.{serial_order}
use Rattle.table.proofs.Sums.{sum_to_zero}
use Rattle.order.proofs.Lawful.{Lawful, lawful}
use Rattle.order.proofs.Totals.{sum_to_add}
use Rattle.table.specs.Written.{Action, written}
use Rattle.filling.specs.Filled.{big, dummies, new_threads, new_actions, new_turns, half, tree_of, in_front, tree_at, trees_along, old_bodies, filled_bodies, filled_out}
use Rattle.order.specs.Turns.{of_kind, turns_of}
use Rattle.filling.proofs.Bodies.{kind_in}
use Rattle.parts.proofs.Built.{flatten_append}
use Rattle.filling.proofs.ForkCounts.{sum_in, sum_in_append, sum_in_to}
use Rattle.filling.proofs.Trees.{tree_induction, tree_one, tree_more, dummies_two}
use Rattle.filling.proofs.Roots.{all_serial}
use Rattle.filling.proofs.OldThreads.{own_in, old_sum, filled_actions}
use Rattle.filling.proofs.Fills.{Fills}
use Rattle.filling.proofs.FilledTable.{Fits, any_false, fills}

-- 1 at actions of a kind
abbrev pub one_of : Kind → Action → ℕ
one_of k y = pick (is k (kind_in y)) 1 0

-- a tree of d has no alloc, and 2d - 2 joins
pub tree_allocs : (f c d : ℕ) → 1 ≤ d → d ≤ f → sum_in (one_of alloc) (flatten (tree_of f c d)) ≡ 0
unfolding flatten sum_in is code_of kind_of
tree_allocs = tree_induction (λ f c d. sum_in (one_of alloc) (flatten (tree_of f c d)) ≡ 0)
    (λ f c d e. rw (tree_one f c d (omega arith)))
    (λ f c d e p q.
    let l : List (List Action) = tree_of f (suc c) (half d) in
    let r : List (List Action) = tree_of f (c + 2 * half d) (d - half d) in
    rw (tree_more f c d e, flatten_append l r) (omega (arith, sum_in_append (one_of alloc) (flatten l) (flatten r))))

pub tree_joins : (f c d : ℕ) → 1 ≤ d → d ≤ f → sum_in (one_of join) (flatten (tree_of f c d)) + 2 ≡ 2 * d
unfolding flatten sum_in is code_of kind_of
tree_joins = tree_induction (λ f c d. sum_in (one_of join) (flatten (tree_of f c d)) + 2 ≡ 2 * d)
    (λ f c d e. rw (tree_one f c d (omega arith)) (omega arith))
    (λ f c d e p q.
    let l : List (List Action) = tree_of f (suc c) (half d) in
    let r : List (List Action) = tree_of f (c + 2 * half d) (d - half d) in
    rw (tree_more f c d e, flatten_append l r) (omega (arith, sum_in_append (one_of join) (flatten l) (flatten r))))

module _ (T : Table) (K : ℕ) (some : 1 ≤ K) where
  -- what a big alloc adds of a kind: its pair and its tree
  abbrev adds : Kind → ℕ → ℕ → ℕ
  adds k c a = sum_in (one_of k) (in_front T K a) + sum_in (one_of k) (flatten (tree_at T K c a))

  trees_of : (k : Kind) (g : ℕ → ℕ) → ((c a : ℕ) → adds k c a ≡ g a) → (l : List ℕ) (c : ℕ)
      → sum_over (λ a. sum_in (one_of k) (in_front T K a)) l + sum_in (one_of k) (flatten (trees_along T K c l)) ≡ sum_over g l
  unfolding trees_along sum_over flatten sum_in
  trees_of k g h [] c = refl
  trees_of k g h (a ∷ l) c =
      let t : List (List Action) = trees_along T K (c + new_threads T K a) l in
      rw (flatten_append (tree_at T K c a) t)
      (omega (arith, sum_in_append (one_of k) (flatten (tree_at T K c a)) (flatten t), trees_of k g h l (c + new_threads T K a), h c a))

  adds_alloc : (c a : ℕ) → adds alloc c a ≡ 0
  unfolding flatten sum_in is code_of kind_of
  adds_alloc c a = go (big T K a) refl
    where
      go : (q : Bool) → big T K a ≡ q → adds alloc c a ≡ 0
      go true e = rw e (omega (arith, tree_allocs (dummies T K a) c (dummies T K a) (omega (arith, dummies_two T K some a e)) (omega arith)))
      go false e = rw e

  -- as many joins as threads
  adds_join : (c a : ℕ) → adds join c a ≡ new_threads T K a
  unfolding flatten sum_in is code_of kind_of new_threads
  adds_join c a = go (big T K a) refl
    where
      go : (q : Bool) → big T K a ≡ q → adds join c a ≡ new_threads T K a
      go true e =
          let two : 2 ≤ dummies T K a = dummies_two T K some a e in
          rw e (omega (arith, tree_joins (dummies T K a) c (dummies T K a) (omega (arith, two)) (omega arith), two))
      go false e = rw e

  turns_parts : (a : ℕ) → new_actions T K a + new_threads T K a ≡ new_turns T K a
  unfolding new_actions new_threads new_turns
  turns_parts a = go (big T K a) refl
    where
      go : (q : Bool) → big T K a ≡ q → new_actions T K a + new_threads T K a ≡ new_turns T K a
      go true e = rw e (omega (arith, dummies_two T K some a e))
      go false e = rw e

  -- and so from the threads and actions of the filled-out table
  pub turns_counted : (k : ℕ) → sum_to (new_actions T K) k + sum_to (new_threads T K) k ≡ sum_to (new_turns T K) k
  turns_counted k = sum_to_add (new_actions T K) (new_threads T K) (new_turns T K) k (λ a h. turns_parts a)

  module _ (l : Lawful T) (U : Table) (x : Fills T K U) where
    count_of : (k : Kind) (g : ℕ → ℕ) → ((c a : ℕ) → adds k c a ≡ g a) → of_kind U k ≡ of_kind T k + sum_to g T.actions
    unfolding filled_bodies
    count_of k g h =
        let bs : List (List Action) = filled_bodies T K in
        let old : List (List Action) = old_bodies T K 0 T.threads in
        let new : List (List Action) = trees_along T K T.threads (serial_order T) in
        let front : ℕ → ℕ = λ a. sum_in (one_of k) (in_front T K a) in
        let own : ℕ → ℕ = λ a. pick (is k (kind T a)) 1 0 in
        let all : of_kind U k ≡ sum_in (one_of k) (flatten bs) = rw x.reads.actions (sum_in_to (one_of k) (flatten bs) (λ a. pick (is k (kind U a)) 1 0) (λ i p. rw (x.reads.codes i p))) in
        let parts : sum_to front T.actions + sum_to own T.actions ≡ sum_to (own_in T K (one_of k)) T.actions = sum_to_add front own (own_in T K (one_of k)) T.actions (λ a p. refl) in
        all ∙ rw (flatten_append old new)
        (omega (
          arith,
          sum_in_append (one_of k) (flatten old) (flatten new),
          old_sum T l K (one_of k),
          parts,
          trees_of k g h (serial_order T) T.threads,
          all_serial T l front,
          all_serial T l g,
        ))

    pub filled_turns : turns_of U ≡ turns_of T + sum_to (new_turns T K) T.actions
    unfolding turns_of
    filled_turns =
        omega (
          arith,
          x.reads.actions,
          filled_actions T l K some,
          count_of alloc (λ a. 0) adds_alloc,
          sum_to_zero (λ a. 0) T.actions (λ a h. refl),
          count_of join (new_threads T K) adds_join,
          turns_counted T.actions,
        )

pub fill_turns : (s : List ℕ) (K : ℕ) (rules : Rules s) (some : 1 ≤ K) → Fits (table_of s) K
    → turns_of (table_of (filled_out s K)) ≡ turns_of (table_of s) + sum_to (new_turns (table_of s) K) (table_of s).actions
unfolding filled_out new_turns
fill_turns s K rules some fits = go (any_below (big T K) T.actions) refl
  where
    T : Table
    T = table_of s

    none_new : (a : ℕ) → big T K a ≡ false → new_turns T K a ≡ 0
    none_new a e = rw e

    go : (q : Bool) → any_below (big T K) T.actions ≡ q → turns_of (table_of (pick q (written (filled_bodies T K)) s)) ≡ turns_of T + sum_to (new_turns T K) T.actions
    go true e = filled_turns T K some (lawful s rules) (table_of (written (filled_bodies T K))) (fills s K rules some fits)
    go false e = omega (arith, sum_to_zero (new_turns T K) T.actions (λ a h. none_new a (any_false (big T K) T.actions e a h)))
