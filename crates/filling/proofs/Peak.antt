-- The serial peak of the filled-out table is that of the table as given: what runs in front of a big alloc neither draws nor gives back.
use Prim.Native.Nat.{ℕ, suc, ◌+◌, ◌-◌, ◌≤◌, ◌<◌}
use native.Mathlib.Omega.{arith}
use mathlib.Core.Path.{◌≡◌, refl, sym, ap, subst, ◌∙◌}
use mathlib.Core.List.Memᴰ
use mathlib.Core.List.{List, [], ◌∷◌, ◌++◌, Memᴰ}
use mathlib.Core.Bool.{Bool, true, false}
use mathlib.Core.Logic.{⊎_elim}
use Rattle.table.specs.Sum.{pick, any_below}
use Rattle.table.specs.Format.{is, code_of, Table, table_of, kind}
use Rattle.table.specs.declared.kinds.Kind.TheVariants.{Fork as fork, Join as join}
use Rattle.table.specs.Checks.{owner, alloc_of, free_of}
use Rattle.table.specs.Rules.{Rules}
use Rattle.table.specs.Serial.{serial, serial_order, S1}
use Rattle.table.proofs.Tests.{fork_no_end}
use Rattle.table.proofs.Bodies.{owner_below_lem, owner_first, owner_end, owner_of_first, next_owner, fork_above, fork_below_lem, first_within}
use Rattle.table.proofs.Serial.{serial_end, serial_fork, serial_step, serial_induction, serial_below}
use Rattle.table.proofs.Peaks.{top_from, peak_of_top, no_amount}
use Rattle.table.specs.Written.{written}
use Rattle.filling.specs.Filled.{big, root_of, filled_bodies, filled_out}
use Rattle.filling.proofs.Roots.{so_below}
use Rattle.filling.proofs.Fills.{Fills, c, b, root_in, quiet, placed_kind, placed_argument, front_fork, front_root, front_join, front_joined, front_two}
use Rattle.filling.proofs.FilledOrder.{start_of, place_of, runs, expand, start_is, place_is, place_in, filled_order}
use Rattle.filling.proofs.FilledTable.{Fits, fills}

-- ---- lists

module _ (up down : ℕ → ℕ) where
  -- what neither draws nor gives back leaves the highest amount as it is
  top_quiet : (s : List ℕ) (p : ℕ) (l : List ℕ) (u d : ℕ) → ((y : ℕ) → Memᴰ y s → (up y ≡ 0) × (down y ≡ 0))
      → top_from up down u d (s ++ (p ∷ l)) ≡ top_from up down u d (p ∷ l)
  unfolding top_from
  top_quiet [] p l u d h = refl
  top_quiet (y ∷ s) p l u d h =
      let (i, j) = h y (Memᴰ.head refl) in
      let e : u + up y ≡ u = omega arith in
      let f : d + down y ≡ d = omega arith in
      rw (e, f, top_quiet s p l u d (λ z m. h z (Memᴰ.tail m))) (omega arith)

module _ (T : Table) (K : ℕ) (U : Table) (x : Fills T K U) where
  -- from a new thread on, all that runs to its end is new
  pub serial_new : (a : ℕ) → a < U.actions → T.threads ≤ owner U a → (y : ℕ) → Memᴰ y (serial U a) → T.threads ≤ owner U y
  serial_new = serial_induction U (c T K U x) (b T K U x) (λ a. T.threads ≤ owner U a → (y : ℕ) → Memᴰ y (serial U a) → T.threads ≤ owner U y)
      (λ a h k o y m. same a y o (Memᴰ.eq_of_singleton (rw (serial_end U (c T K U x) (b T K U x) a h k) at m)))
      (λ a h k p q o y m.
      let d : ℕ = U.argument a in
      let od : owner U (U.first d) ≡ d = owner_of_first U (c T K U x) d (fork_below_lem U (c T K U x) (b T K U x) a h k) in
      let od' : T.threads ≤ owner U (U.first d) = rw od (omega (arith, fork_above U (c T K U x) (b T K U x) a h k)) in
      let on : owner U (suc a) ≡ owner U a = next_owner U (c T K U x) (b T K U x) a h (fork_no_end k) in
      ⊎_elim (same a y o)
      (λ m'. ⊎_elim (p od' y) (q (rw on o) y) (Memᴰ.append_cases (serial U (U.first d)) m'))
      (Memᴰ.cases_cons (rw (serial_fork U (c T K U x) (b T K U x) a h k) at m)))
      (λ a h k j p o y m.
      let on : owner U (suc a) ≡ owner U a = next_owner U (c T K U x) (b T K U x) a h k in
      ⊎_elim (same a y o) (p (rw on o) y) (Memᴰ.cases_cons (rw (serial_step U (c T K U x) (b T K U x) a h k j) at m)))
    where
      same : (a y : ℕ) → T.threads ≤ owner U a → y ≡ a → T.threads ≤ owner U y
      same a y o e = rw e o

  -- the tree in front of a big alloc
  pub tree_quiet : (a : ℕ) → a < T.actions → big T K a ≡ true → (y : ℕ) → Memᴰ y (serial U (U.first (root_of T K a))) → (y < U.actions) × ((alloc_of U y ≡ 0) × (free_of U y ≡ 0))
  tree_quiet a h e y m =
      let (lo, hi) = root_in T K U x a h e in
      let r : ℕ = root_of T K a in
      let w : U.first r < U.actions = first_within U (c T K U x) r hi in
      let i : y < U.actions = serial_below U (c T K U x) (b T K U x) (U.first r) w y m in
      let o : T.threads ≤ owner U (U.first r) = rw (owner_of_first U (c T K U x) r hi) lo in
      (i, quiet T K U x y i (serial_new (U.first r) w o y m))

  -- what holds of every action of every thread holds of every action
  by_spot : (P : ℕ → Type 0) → ((t i : ℕ) → t < T.threads → i < T.count t → P (T.first t + i)) → (a : ℕ) → a < T.actions → P a
  by_spot P p a h =
      let t : ℕ = owner T a in
      let lo : T.first t ≤ a = owner_first T x.lawful.contents a h in
      let hi : a < T.first t + T.count t = owner_end T x.lawful.contents a h in
      let e : T.first t + (a - T.first t) ≡ a = omega (arith, lo) in
      subst P e (p t (a - T.first t) (owner_below_lem T x.lawful.contents a h) (omega (arith, lo, hi)))

  pub place_kind : (a : ℕ) → a < T.actions → kind U (place_of T K U x a) ≡ kind T a
  place_kind = by_spot (λ a. kind U (place_of T K U x a) ≡ kind T a) (λ t i h k. rw (place_is T K U x t i h k) (placed_kind T K U x t i h k))

  pub place_argument : (a : ℕ) → a < T.actions → U.argument (place_of T K U x a) ≡ T.argument a
  place_argument = by_spot (λ a. U.argument (place_of T K U x a) ≡ T.argument a) (λ t i h k. rw (place_is T K U x t i h k) (placed_argument T K U x t i h k))

  pub place_below : (a : ℕ) → a < T.actions → place_of T K U x a < U.actions
  place_below = by_spot (λ a. place_of T K U x a < U.actions) (λ t i h k. rw (place_is T K U x t i h k) (place_in T K U x t i h k))

  -- the fork and the join in front of a big alloc
  pub record Front (a : ℕ) : Type 0 where
    pub forks : kind U (start_of T K U x a) ≡ fork
    pub root : U.argument (start_of T K U x a) ≡ root_of T K a
    pub joins : kind U (suc (start_of T K U x a)) ≡ join
    pub joined : U.argument (suc (start_of T K U x a)) ≡ root_of T K a
    pub place : place_of T K U x a ≡ suc (suc (start_of T K U x a))

  pub front_of : (a : ℕ) → a < T.actions → big T K a ≡ true → Front a
  front_of = by_spot (λ a. big T K a ≡ true → Front a) (λ t i h k e.
      record {
        forks = rw (start_is T K U x t i h k) (front_fork T K U x t i h k e);
        root = rw (start_is T K U x t i h k) (front_root T K U x t i h k e);
        joins = rw (start_is T K U x t i h k) (front_join T K U x t i h k e);
        joined = rw (start_is T K U x t i h k) (front_joined T K U x t i h k e);
        place = rw (start_is T K U x t i h k) (front_two T K U x t i h k e);
      })

  pub runs_quiet : (a : ℕ) → a < T.actions → (y : ℕ) → Memᴰ y (runs T K U x a) → (alloc_of U y ≡ 0) × (free_of U y ≡ 0)
  unfolding is code_of
  runs_quiet a h y m = go (big T K a) refl m
    where
      go : (q : Bool) → big T K a ≡ q → Memᴰ y (pick q (start_of T K U x a ∷ (serial U (U.first (root_of T K a)) ++ (suc (start_of T K U x a) ∷ []))) []) → (alloc_of U y ≡ 0) × (free_of U y ≡ 0)
      go true e m =
          let f = front_of a h e in
          ⊎_elim (λ (p : y ≡ start_of T K U x a). rw p (no_amount U (start_of T K U x a) fork f.forks refl refl))
          (λ i.
          ⊎_elim (λ j. (tree_quiet a h e y j).1) (λ j. let p : y ≡ suc (start_of T K U x a) = Memᴰ.eq_of_singleton j in rw p (no_amount U (suc (start_of T K U x a)) join f.joins refl refl))
          (Memᴰ.append_cases (serial U (U.first (root_of T K a))) i))
          (Memᴰ.cases_cons m)
      go false e m = absurd (Memᴰ.not-nil m)

  place_amounts : (a : ℕ) → a < T.actions → (alloc_of U (place_of T K U x a) ≡ alloc_of T a) × (free_of U (place_of T K U x a) ≡ free_of T a)
  unfolding alloc_of free_of
  place_amounts a h = (rw (place_kind a h, place_argument a h), rw (place_kind a h, place_argument a h))

  pub place_alloc : (a : ℕ) → a < T.actions → alloc_of U (place_of T K U x a) ≡ alloc_of T a
  place_alloc a h = (place_amounts a h).0

  top_expand : (l : List ℕ) (u d : ℕ) → ((a : ℕ) → Memᴰ a l → a < T.actions) → top_from (alloc_of U) (free_of U) u d (expand T K U x l) ≡ top_from (alloc_of T) (free_of T) u d l
  unfolding expand top_from
  top_expand [] u d h = refl
  top_expand (a ∷ l) u d h =
      let w : a < T.actions = h a (Memᴰ.head refl) in
      let (p, q) = place_amounts a w in
      top_quiet (alloc_of U) (free_of U) (runs T K U x a) (place_of T K U x a) (expand T K U x l) u d (runs_quiet a w)
      ∙ rw (p, q, top_expand l (u + alloc_of T a) (d + free_of T a) (λ y m. h y (Memᴰ.tail m)))

  pub filled_peak : S1 U ≡ S1 T
  unfolding S1
  filled_peak =
      peak_of_top U (serial_order U)
      ∙ ap (top_from (alloc_of U) (free_of U) 0 0) (filled_order T K U x)
      ∙ top_expand (serial_order T) 0 0 (so_below T x.lawful)
      ∙ sym (peak_of_top T (serial_order T))

-- "S1 is the same as before filling"
pub fill_peak : (s : List ℕ) (K : ℕ) (rules : Rules s) (some : 1 ≤ K) → Fits (table_of s) K
    → S1 (table_of (filled_out s K)) ≡ S1 (table_of s)
unfolding filled_out
fill_peak s K rules some fits = go (any_below (big (table_of s) K) (table_of s).actions)
  where
    go : (q : Bool) → S1 (table_of (pick q (written (filled_bodies (table_of s) K)) s)) ≡ S1 (table_of s)
    go true = filled_peak (table_of s) K (table_of (written (filled_bodies (table_of s) K))) (fills s K rules some fits)
    go false = refl
