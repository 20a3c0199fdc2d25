-- In the filled-out table each big alloc is delayed by dummies that cost as much (fill-delayed): what the memory limit rests on.
use Prim.Native.Nat.{ℕ, suc, ◌+◌, ◌-◌, ◌*◌, ◌≤◌, ◌<◌}
use native.Mathlib.Nat.{mul-add, mul-one}
use native.Mathlib.Omega.{arith}
use mathlib.Core.Path.{◌≡◌, refl, sym, ap, ◌∙◌}
use mathlib.Core.List.Memᴰ
use mathlib.Core.List.{List, [], ◌∷◌, ◌++◌, append_assoc, Memᴰ}
use mathlib.Core.Bool.{Bool, true, false, ◌&&◌}
use mathlib.Core.Logic.{◌⊎◌, inl, inr, ⊎_elim}
use lib.Dec.{eqb}
use lib.ListN.{length, get_or}
use borrow.Author.Tests.{ltb-false, le-ltb, eq-eqb}
use Rattle.table.specs.Sum.{pick, sum_over, any_below}
use Rattle.table.specs.Format.{is, code_of, kind_of, Table, table_of, kind}
use Rattle.table.specs.declared.kinds.Kind.TheVariants.{Work as work, Fork as fork}
use Rattle.table.specs.Checks.{owner, alloc_of}
use Rattle.table.specs.Rules.{Rules}
use Rattle.table.specs.Serial.{serial, serial_order}
use Rattle.table.proofs.Bodies.{owner_of_first, first_within, body_within}
use Rattle.table.proofs.Sums.{sum_over_append}
use Rattle.table.proofs.Serial.{serial_fork, serial_step}
use Rattle.order.specs.Order.{number_of}
use Rattle.order.proofs.Lawful.{Lawful, lawful}
use Rattle.order.proofs.Words.{Ascends}
use Rattle.table.specs.Written.{Action, written}
use Rattle.filling.specs.Filled.{big, dummies, new_threads, half, leaf, fork2, tree_of, root_of, filled_bodies, filled_out}
use Rattle.table.proofs.ReadBack.{none}
use Rattle.filling.proofs.Bodies.{kind_in}
use Rattle.filling.proofs.Built.{kind_at, argument_at_lem}
use Rattle.filling.proofs.Trees.{tree_induction, tree_one, tree_more, tree_length, dummies_two, dummies_cover, new_threads_lem}
use Rattle.filling.proofs.Roots.{Stand, stand_front, stand_back, so_below, so_all, so_ascends, rooted_bound, roots}
use Rattle.filling.proofs.Fills.{Fills, c, b, tree_there, threads_are}
use Rattle.filling.proofs.FilledOrder.{start_of, place_of, runs, expand, filled_order}
use Rattle.filling.proofs.FilledTable.{Fits, any_false, fills, fill_rules}
use Rattle.filling.proofs.Delay.{is_leaf, drawn_cost, Delay, Group, plain, delayed, Groups, no_group, group, Delayed}
use Rattle.filling.proofs.Peak.{tree_quiet, Front, front_of, place_below, place_alloc, runs_quiet}
use Rattle.order.proofs.Words.{ascends_back}
use Rattle.table.proofs.Sums.{sum_over_zero}

-- ---- lists

ascends_over : (f : ℕ → ℕ) (s l : List ℕ) (z : ℕ) → Ascends f (s ++ (z ∷ l)) → (y : ℕ) → Memᴰ y s → f y < f z
unfolding Ascends
ascends_over f [] l z p y m = absurd (Memᴰ.not-nil m)
ascends_over f (x ∷ s) l z p y m =
    ⊎_elim (λ (e : y ≡ x). rw e (p.0 z (Memᴰ.append_right s (Memᴰ.head refl)))) (λ i. ascends_over f s l z p.1 y i) (Memᴰ.cases_cons m)

-- an alloc within K costs at least itself
small_cost : (T : Table) (K a : ℕ) → alloc_of T a ≤ K → alloc_of T a ≤ drawn_cost T K a
unfolding drawn_cost
small_cost T K a h = rw (le-ltb K (alloc_of T a) h) (go (is_leaf T (owner T a) && eqb a (T.first (owner T a))))
  where
    go : (q : Bool) → alloc_of T a ≤ pick q K (alloc_of T a)
    go true = h
    go false = omega arith

-- a table without big allocs
pub small_delayed : (T : Table) (K : ℕ) (l : List ℕ) → ((a : ℕ) → Memᴰ a l → alloc_of T a ≤ K) → Groups T (drawn_cost T K) l
small_delayed T K [] h = no_group
small_delayed T K (a ∷ l) h = group (a ∷ []) l (plain a refl (small_cost T K a (h a (Memᴰ.head refl)))) (small_delayed T K l (λ z m. h z (Memᴰ.tail m)))

module _ (T : Table) (K : ℕ) (U : Table) (x : Fills T K U) where
  abbrev bs : List (List Action)
  bs = filled_bodies T K

  cost : ℕ → ℕ
  cost = drawn_cost U K

  first_kind : (t i : ℕ) (l : List Action) → t < U.threads → get_or bs t [] ≡ l → i < length l → kind U (U.first t + i) ≡ kind_in (get_or l i none)
  first_kind t i l h e k = rw e at (kind_at U bs x.reads t i (omega (arith, x.reads.threads)) (rw e k))

  first_argument : (t i : ℕ) (l : List Action) → t < U.threads → get_or bs t [] ≡ l → i < length l → U.argument (U.first t + i) ≡ (get_or l i none).argument
  first_argument t i l h e k = rw e at (argument_at_lem U bs x.reads t i (omega (arith, x.reads.threads)) (rw e k))

  count_is : (t : ℕ) (l : List Action) → t < U.threads → get_or bs t [] ≡ l → U.count t ≡ length l
  count_is t l h e = x.reads.counts t (omega (arith, x.reads.threads)) ∙ ap length e

  -- ---- the tree of d dummies costs d quotas

  leaf_cost : (t : ℕ) → t < U.threads → get_or bs t [] ≡ leaf → K ≤ sum_over cost (serial U (U.first t))
  unfolding sum_over cost drawn_cost is_leaf is code_of kind_of
  leaf_cost t h e =
      let z : U.first t + 0 ≡ U.first t = omega arith in
      let k : kind U (U.first t) ≡ work = rw z at (first_kind t 0 leaf h e (omega arith)) in
      let n : U.count t ≡ 2 = count_is t leaf h e in
      let o : owner U (U.first t) ≡ t = owner_of_first U (c T K U x) t h in
      let w : U.first t < U.actions = first_within U (c T K U x) t h in
      let v : cost (U.first t) ≡ K = rw (o, n, k, eq-eqb (U.first t) (U.first t) refl) in
      rw (serial_step U (c T K U x) (b T K U x) (U.first t) w (rw k) (rw k)) (omega (arith, v))

  fork_cost_lem : (t p q : ℕ) → t < U.threads → get_or bs t [] ≡ fork2 p q → sum_over cost (serial U (U.first p)) + sum_over cost (serial U (U.first q)) ≤ sum_over cost (serial U (U.first t))
  unfolding sum_over kind_of
  fork_cost_lem t p q h e =
      let y : ℕ = U.first t in
      let z : y + 0 ≡ y = omega arith in
      let z' : y + 1 ≡ suc y = omega arith in
      let k : kind U y ≡ fork = rw z at (first_kind t 0 (fork2 p q) h e (omega arith)) in
      let k' : kind U (suc y) ≡ fork = rw z' at (first_kind t 1 (fork2 p q) h e (omega arith)) in
      let r : U.argument y ≡ p = rw z at (first_argument t 0 (fork2 p q) h e (omega arith)) in
      let r' : U.argument (suc y) ≡ q = rw z' at (first_argument t 1 (fork2 p q) h e (omega arith)) in
      let n : U.count t ≡ 5 = count_is t (fork2 p q) h e in
      let w : suc y < U.actions = omega (arith, body_within U (c T K U x) t h) in
      let s : serial U y ≡ y ∷ (serial U (U.first p) ++ serial U (suc y)) = rw r at (serial_fork U (c T K U x) (b T K U x) y (omega arith) k) in
      let s' : serial U (suc y) ≡ suc y ∷ (serial U (U.first q) ++ serial U (suc (suc y))) = rw r' at (serial_fork U (c T K U x) (b T K U x) (suc y) w k') in
      rw (s, s')
      (omega (
        arith,
        sum_over_append cost (serial U (U.first p)) (suc y ∷ (serial U (U.first q) ++ serial U (suc (suc y)))),
        sum_over_append cost (serial U (U.first q)) (serial U (suc (suc y))),
      ))

  tree_cost : (f r d : ℕ) → 1 ≤ d → d ≤ f → Stand bs r (tree_of f r d) → r + 2 * d ≤ suc U.threads → K * d ≤ sum_over cost (serial U (U.first r))
  tree_cost f r d one fuel = tree_induction (λ f r d. 1 ≤ d → d ≤ f → Stand bs r (tree_of f r d) → r + 2 * d ≤ suc U.threads → K * d ≤ sum_over cost (serial U (U.first r)))
      (λ f r d e i j s k.
      let z : r + 0 ≡ r = omega arith in
      let s' : Stand bs r (leaf ∷ []) = rw (tree_one f r d (omega arith)) at s in
      let g : get_or bs r [] ≡ leaf = rw z at (s' 0 (omega arith)) in
      rw (e, mul-one K) (leaf_cost r (omega arith) g))
      (λ f r d e p q i j s k.
      let h : ℕ = half d in
      let z : r + 0 ≡ r = omega arith in
      let left : List (List Action) = tree_of f (suc r) h in
      let right : List (List Action) = tree_of f (r + 2 * h) (d - h) in
      let s' : Stand bs r (fork2 (suc r) (r + 2 * h) ∷ (left ++ right)) = rw (tree_more f r d e) at s in
      let g : get_or bs r [] ≡ fork2 (suc r) (r + 2 * h) = rw z at (s' 0 (omega arith)) in
      let sub : Stand bs (suc r) (left ++ right) = stand_back bs r (suc r) (fork2 (suc r) (r + 2 * h) ∷ []) (left ++ right) (omega arith) s' in
      let sl : Stand bs (suc r) left = stand_front bs (suc r) left right sub in
      let sr : Stand bs (r + 2 * h) right = stand_back bs (suc r) (r + 2 * h) left right (omega (arith, tree_length f (suc r) h (omega arith) (omega arith))) sub in
      let dd : d ≡ h + (d - h) = omega arith in
      let m : K * d ≡ K * h + K * (d - h) = ap (λ (v : ℕ). K * v) dd ∙ mul-add K h (d - h) in
      omega (
        arith,
        m,
        p (omega arith) (omega arith) sl (omega arith),
        q (omega arith) (omega arith) sr (omega arith),
        fork_cost_lem r (suc r) (r + 2 * h) (omega arith) g,
      ))
      f r d one fuel one fuel

  -- ---- the groups

  module _ (a : ℕ) (h : a < T.actions) where
    abbrev y : ℕ
    y = start_of T K U x a

    abbrev S : List ℕ
    S = serial U (U.first (root_of T K a))

    abbrev p : ℕ
    p = place_of T K U x a

    pays : big T K a ≡ true → alloc_of T a ≤ sum_over cost S
    pays e =
        let d : ℕ = dummies T K a in
        let two : 2 ≤ d = dummies_two T K x.some a e in
        let (lo, hi) = rooted_bound (new_threads T K) (root_of T K) (serial_order T) T.threads a (roots T x.lawful K) (so_all T x.lawful a h) in
        omega (
          arith,
          dummies_cover T K x.some a e,
          tree_cost d (root_of T K a) d (omega arith) (omega arith) (tree_there T K U x a h e) (omega (arith, hi, threads_are T K U x, new_threads_lem T K x.some a e)),
        )

    module _ (e : big T K a ≡ true) (rest : List ℕ) (up : Ascends (number_of U) (y ∷ ((S ++ (suc y ∷ [])) ++ (p ∷ rest)))) where
      f : Front T K U x a
      f = front_of T K U x a h e

      abbrev g : List ℕ
      g = y ∷ ((S ++ (suc y ∷ [])) ++ (p ∷ []))

      end_in : suc (suc y) < U.actions
      end_in = rw f.place at (place_below T K U x a h)

      after : Ascends (number_of U) (S ++ (suc y ∷ (p ∷ rest)))
      unfolding Ascends
      after = rw (append_assoc S (suc y ∷ []) (p ∷ rest)) at up.1

      first_low : (z : ℕ) → Memᴰ z S → number_of U y < number_of U z
      unfolding Ascends
      first_low z m = up.0 z (Memᴰ.append_left (p ∷ rest) (Memᴰ.append_left (suc y ∷ []) m))

      members_of : (z : ℕ) → Memᴰ z g
          → (z < U.actions) × ((z ≡ y) ⊎ (((number_of U y < number_of U z) × (number_of U z < number_of U (suc y))) ⊎ ((z ≡ suc y) ⊎ (z ≡ suc (suc y)))))
      members_of z m = go (Memᴰ.cases_cons m)
        where
          Out : Type 0
          Out = (z < U.actions) × ((z ≡ y) ⊎ (((number_of U y < number_of U z) × (number_of U z < number_of U (suc y))) ⊎ ((z ≡ suc y) ⊎ (z ≡ suc (suc y)))))

          tree : Memᴰ z S → Out
          tree i = ((tree_quiet T K U x a h e z i).0, inr (inl (first_low z i, ascends_over (number_of U) S (p ∷ rest) (suc y) after z i)))

          inner : (Memᴰ z S ⊎ Memᴰ z (suc y ∷ [])) → Out
          inner (inl i) = tree i
          inner (inr i) = let q : z ≡ suc y = Memᴰ.eq_of_singleton i in (omega (arith, end_in), inr (inr (inl q)))

          outer : (Memᴰ z (S ++ (suc y ∷ [])) ⊎ Memᴰ z (p ∷ [])) → Out
          outer (inl i) = inner (Memᴰ.append_cases S i)
          outer (inr i) =
              let q : z ≡ suc (suc y) = Memᴰ.eq_of_singleton i ∙ f.place in
              (omega (arith, end_in), inr (inr (inr q)))

          go : (z ≡ y) ⊎ Memᴰ z ((S ++ (suc y ∷ [])) ++ (p ∷ [])) → Out
          go (inl q) = (omega (arith, end_in), inl q)
          go (inr i) = outer (Memᴰ.append_cases (S ++ (suc y ∷ [])) i)

      runs_are : runs T K U x a ≡ y ∷ (S ++ (suc y ∷ []))
      runs_are = rw e

      quiet_front : (z : ℕ) → Memᴰ z (y ∷ (S ++ (suc y ∷ []))) → alloc_of U z ≡ 0
      quiet_front z m = (runs_quiet T K U x a h z (rw runs_are m)).0

      alone_in : (z : ℕ) → Memᴰ z g → (z ≡ suc (suc y) → ⊥) → alloc_of U z ≡ 0
      alone_in z m n =
          ⊎_elim (λ (i : Memᴰ z (y ∷ (S ++ (suc y ∷ [])))). quiet_front z i)
          (λ i. absurd (n (Memᴰ.eq_of_singleton i ∙ f.place)))
          (Memᴰ.append_cases (y ∷ (S ++ (suc y ∷ []))) m)

      pays_all : sum_over (alloc_of U) g ≤ sum_over cost g
      unfolding sum_over
      pays_all =
          omega (
            arith,
            sum_over_append (alloc_of U) (y ∷ (S ++ (suc y ∷ []))) (p ∷ []),
            sum_over_zero (alloc_of U) (y ∷ (S ++ (suc y ∷ []))) quiet_front,
            place_alloc T K U x a h,
            sum_over_append cost (S ++ (suc y ∷ [])) (p ∷ []),
            sum_over_append cost S (suc y ∷ []),
            pays e,
          )

      delay : Delay U (drawn_cost U K) y g
      unfolding cost
      delay =
          record {
            inside = end_in;
            forks = f.forks;
            joins = f.joins;
            child = f.joined ∙ sym f.root;
            members = members_of;
            alone = alone_in;
            covered = pays_all;
          }

    plain_pays : big T K a ≡ false → alloc_of U p ≤ drawn_cost U K p
    unfolding big
    plain_pays e = small_cost U K p (omega (arith, place_alloc T K U x a h, ltb-false K (alloc_of T a) e))

    group_of : (rest : List ℕ) → Ascends (number_of U) (runs T K U x a ++ (p ∷ rest)) → Group U (drawn_cost U K) (runs T K U x a ++ (p ∷ []))
    group_of rest up = go (big T K a) refl up
      where
        go : (q : Bool) → big T K a ≡ q → Ascends (number_of U) (pick q (y ∷ (S ++ (suc y ∷ []))) [] ++ (p ∷ rest)) → Group U (drawn_cost U K) (pick q (y ∷ (S ++ (suc y ∷ []))) [] ++ (p ∷ []))
        go true e up = delayed y (delay e rest up)
        go false e up = plain p refl (plain_pays e)

  groups_along : (l : List ℕ) → ((a : ℕ) → Memᴰ a l → a < T.actions) → Ascends (number_of U) (expand T K U x l) → Groups U (drawn_cost U K) (expand T K U x l)
  unfolding expand
  groups_along [] h up = no_group
  groups_along (a ∷ l) h up =
      let r : List ℕ = expand T K U x l in
      let q : List ℕ = runs T K U x a in
      let p : ℕ = place_of T K U x a in
      let w : a < T.actions = h a (Memᴰ.head refl) in
      let up' : Ascends (number_of U) (q ++ (p ∷ []) ++ r) = rw (append_assoc q (p ∷ []) r) up in
      rw (← append_assoc q (p ∷ []) r)
      (group (q ++ (p ∷ [])) r (group_of a w r up) (groups_along l (λ z m. h z (Memᴰ.tail m)) (ascends_back (number_of U) (q ++ (p ∷ [])) r up')))

  pub filled_delayed : Lawful U → Delayed U (drawn_cost U K)
  filled_delayed m =
      rw (filled_order T K U x)
      (groups_along (serial_order T) (so_below T x.lawful) (rw (filled_order T K U x) at (so_ascends U m)))

-- of the table that runs
pub fill_delayed : (s : List ℕ) (K : ℕ) (rules : Rules s) (some : 1 ≤ K) → Fits (table_of s) K
    → Delayed (table_of (filled_out s K)) (drawn_cost (table_of (filled_out s K)) K)
unfolding filled_out big
fill_delayed s K rules some fits = go (any_below (big T K) T.actions) refl
  where
    T : Table
    T = table_of s

    go : (q : Bool) → any_below (big T K) T.actions ≡ q → Delayed (table_of (pick q (written (filled_bodies T K)) s)) (drawn_cost (table_of (pick q (written (filled_bodies T K)) s)) K)
    go true e =
        let r : Rules (written (filled_bodies T K)) = rw e at (fill_rules s K rules some fits) in
        filled_delayed T K (table_of (written (filled_bodies T K))) (fills s K rules some fits) (lawful (written (filled_bodies T K)) r)
    go false e =
        small_delayed T K (serial_order T) (λ a m. ltb-false K (alloc_of T a) (any_false (big T K) T.actions e a (so_below T (lawful s rules) a m)))
