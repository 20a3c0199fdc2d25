-- A table U that has the bodies of T filled out with quota K: it keeps rules 4 to 9 and 11; and where T's actions stand in it.
use Prim.Native.Nat.{ℕ, suc, ◌+◌, ◌-◌, ◌≤◌, ◌<◌}
use native.Mathlib.Omega.{arith}
use mathlib.Core.Path.{◌≡◌, ap, ◌∙◌}
use mathlib.Core.List.{List, [], ◌∷◌, ◌++◌}
use mathlib.Core.Bool.{true, false}
use lib.ListN.{length, get_or, length-append, get_or-append}
use lib.Seq.{get_or-append-add}
use Rattle.table.specs.Sum.{sum_over}
use Rattle.table.specs.Format.{is, kind_of, Table, kind}
use Rattle.table.specs.declared.kinds.Kind.TheVariants.{Alloc as alloc, Free as free, Fork as fork, Join as join}
use Rattle.table.specs.Checks.{owner, alloc_of, free_of}
use Rattle.table.specs.Rules.{ContentRules, BodyRules, NestRules, ForkRules}
use Rattle.table.specs.Serial.{serial_order}
use Rattle.order.proofs.Lawful.{Lawful}
use Rattle.table.specs.Written.{Action, action_at}
use Rattle.filling.specs.Filled.{big, dummies, new_threads, root_of, in_front, filled_from, filled_body, old_bodies, tree_of, trees_along, filled_bodies}
use Rattle.table.proofs.ReadBack.{Reads, none}
use Rattle.filling.proofs.Bodies.{kind_in, each_at, EachBody, body_of, Good}
use Rattle.filling.proofs.Built.{at_of, contents, bodies, built_latest, built_joined, kind_at, argument_at_lem}
use Rattle.filling.proofs.ForkCounts.{built_once, built_forks}
use Rattle.filling.proofs.Roots.{Stand, so_all, all_serial, roots, stand_back, trees_length, trees_stand, trees_quiet}
use Rattle.filling.proofs.Trees.{Quiet}
use Rattle.filling.proofs.OldThreads.{old_length, old_at, filled_append, filled_threads, filled_forks, filled_good, root_between}

pub record Fills (T : Table) (K : ℕ) (U : Table) : Type 0 where
  pub lawful : Lawful T
  pub some : 1 ≤ K
  pub short : (a : ℕ) → a < T.actions → T.argument a < 16777216
  pub reads : Reads U (filled_bodies T K)
  pub small : length (filled_bodies T K) ≤ 16777216

module _ (T : Table) (K : ℕ) (U : Table) (x : Fills T K U) where
  abbrev bs : List (List Action)
  bs = filled_bodies T K

  pub threads_are : U.threads ≡ T.threads + sum_over (new_threads T K) (serial_order T)
  threads_are = omega (arith, x.reads.threads, filled_threads T x.lawful K x.some, all_serial T x.lawful (new_threads T K))

  room : T.threads + sum_over (new_threads T K) (serial_order T) ≤ length bs
  room = omega (arith, x.reads.threads, threads_are)

  goods : EachBody (Good (length bs)) 0 bs
  goods = filled_good T x.lawful K x.some (length bs) x.short room x.small

  pub c : ContentRules U
  c = contents U bs x.reads goods

  pub b : BodyRules U
  b = bodies U bs x.reads goods

  pub n : NestRules U
  n =
      record {
        once = built_once U bs x.reads (filled_forks T x.lawful K x.some);
        latest = built_latest U bs x.reads goods;
        joined = built_joined U bs x.reads goods;
      }

  pub f : ForkRules U
  f = built_forks U bs x.reads (filled_forks T x.lawful K x.some)

  -- ---- the bodies

  pub old_below : (t : ℕ) → t < T.threads → t < length bs
  old_below t h = omega (arith, x.reads.threads, threads_are)

  pub body_old : (t : ℕ) → t < T.threads → get_or bs t [] ≡ filled_body T K t
  unfolding filled_bodies
  body_old t h =
      let z : 0 + t ≡ t = omega arith in
      get_or-append (old_bodies T K 0 T.threads) (trees_along T K T.threads (serial_order T)) [] t (omega (arith, old_length T K T.threads 0))
      ∙ rw z at (old_at T K T.threads 0 t h)

  pub count_old : (t : ℕ) → t < T.threads → U.count t ≡ length (filled_body T K t)
  count_old t h = rw (x.reads.counts t (old_below t h), body_old t h)

  pub trees_there : Stand bs T.threads (trees_along T K T.threads (serial_order T))
  unfolding filled_bodies
  trees_there =
      stand_back bs 0 T.threads (old_bodies T K 0 T.threads) (trees_along T K T.threads (serial_order T)) (omega (arith, old_length T K T.threads 0))
      (λ j h. let z : 0 + j ≡ j = omega arith in rw z)

  pub tree_there : (a : ℕ) → a < T.actions → big T K a ≡ true → Stand bs (root_of T K a) (tree_of (dummies T K a) (root_of T K a) (dummies T K a))
  tree_there a h e = rw e at (trees_stand T K x.some bs (root_of T K) (serial_order T) T.threads a (roots T x.lawful K) trees_there (so_all T x.lawful a h))

  pub root_in : (a : ℕ) → a < T.actions → big T K a ≡ true → (T.threads ≤ root_of T K a) × (root_of T K a < U.threads)
  root_in a h e = rw x.reads.threads (root_between T x.lawful K x.some (length bs) x.short room x.small 0 x.lawful.some_thread a h e)

  -- the new threads neither draw nor give back
  pub quiet : (a : ℕ) → a < U.actions → T.threads ≤ owner U a → (alloc_of U a ≡ 0) × (free_of U a ≡ 0)
  unfolding alloc_of free_of
  quiet a h o =
      let t : ℕ = owner U a in
      let z = at_of U bs x.reads goods a h in
      let ot : t ≡ z.thread = z.owned in
      let j : ℕ = z.thread - T.threads in
      let e : T.threads + j ≡ z.thread = omega arith in
      let new : List (List Action) = trees_along T K T.threads (serial_order T) in
      let w : j < length new = omega (arith, z.known, x.reads.threads, threads_are, trees_length T K x.some (serial_order T) T.threads) in
      let g : get_or bs z.thread [] ≡ get_or new j [] = rw e at (trees_there j w) in
      let q = each_at (λ (y : Action). (is alloc (kind_in y) ≡ false) × (is free (kind_in y) ≡ false)) (get_or new j []) z.place
      (body_of Quiet new T.threads j (trees_quiet T K x.some (serial_order T) T.threads) w) (rw g at z.within) in
      let k : kind U a ≡ kind_in (get_or (get_or new j []) z.place none) = rw (z.is_at, g) at (kind_at U bs x.reads z.thread z.place z.known z.within) in
      (rw (k, q.0), rw (k, q.1))

  -- ---- where action i of thread t stands: from its group's start on

  abbrev pub lead : ℕ → ℕ → ℕ
  lead t i = length (filled_from T K (T.first t) i)

  abbrev pub start : ℕ → ℕ → ℕ
  start t i = U.first t + lead t i

  split : (t i : ℕ) → i < T.count t → filled_body T K t ≡ filled_from T K (T.first t) i ++ (in_front T K (T.first t + i) ++ (action_at T (T.first t + i) ∷ filled_from T K (suc (T.first t + i)) (T.count t - suc i)))
  unfolding filled_from
  split t i h =
      let z : T.count t ≡ i + suc (T.count t - suc i) = omega arith in
      ap (filled_from T K (T.first t)) z ∙ filled_append T K i (suc (T.count t - suc i)) (T.first t)

  pub lead_next : (t i : ℕ) → lead t (suc i) ≡ suc (lead t i + length (in_front T K (T.first t + i)))
  unfolding filled_from
  lead_next t i =
      let z : suc i ≡ i + 1 = omega arith in
      let a : ℕ = T.first t + i in
      let e : filled_from T K (T.first t) (suc i) ≡ filled_from T K (T.first t) i ++ (in_front T K a ++ (action_at T a ∷ [])) = ap (filled_from T K (T.first t)) z ∙ filled_append T K i 1 (T.first t) in
      rw e (omega (arith, length-append (filled_from T K (T.first t) i) (in_front T K a ++ (action_at T a ∷ [])), length-append (in_front T K a) (action_at T a ∷ [])))

  -- with no tree in front of it, and with one
  pub lead_plain : (t i : ℕ) → big T K (T.first t + i) ≡ false → lead t (suc i) ≡ suc (lead t i)
  lead_plain t i e = let n : length (in_front T K (T.first t + i)) ≡ 0 = rw e in omega (arith, lead_next t i)

  pub lead_big : (t i : ℕ) → big T K (T.first t + i) ≡ true → lead t (suc i) ≡ suc (suc (suc (lead t i)))
  lead_big t i e = let n : length (in_front T K (T.first t + i)) ≡ 2 = rw e in omega (arith, lead_next t i)

  module _ (t i : ℕ) (known : t < T.threads) (within : i < T.count t) where
    abbrev a : ℕ
    a = T.first t + i

    abbrev group : List Action
    group = in_front T K a ++ (action_at T a ∷ filled_from T K (suc a) (T.count t - suc i))

    size : length (get_or bs t []) ≡ lead t i + length group
    size = rw (body_old t known, split t i within) (length-append (filled_from T K (T.first t) i) group)

    here : (j : ℕ) → get_or (get_or bs t []) (lead t i + j) none ≡ get_or group j none
    here j = rw (body_old t known, split t i within) (get_or-append-add (filled_from T K (T.first t) i) group j none)

    group_kind : (j : ℕ) → j < length group → kind U (start t i + j) ≡ kind_in (get_or group j none)
    group_kind j h =
        let z : start t i + j ≡ U.first t + (lead t i + j) = omega arith in
        rw (z, kind_at U bs x.reads t (lead t i + j) (old_below t known) (omega (arith, size)), here j)

    group_argument : (j : ℕ) → j < length group → U.argument (start t i + j) ≡ (get_or group j none).argument
    group_argument j h =
        let z : start t i + j ≡ U.first t + (lead t i + j) = omega arith in
        rw (z, argument_at_lem U bs x.reads t (lead t i + j) (old_below t known) (omega (arith, size)), here j)

    -- the action itself
    abbrev pub placed : ℕ
    placed = start t i + length (in_front T K a)

    own_in : length (in_front T K a) < length group
    own_in = omega (arith, length-append (in_front T K a) (action_at T a ∷ filled_from T K (suc a) (T.count t - suc i)))

    own_is : get_or group (length (in_front T K a)) none ≡ action_at T a
    own_is =
        let z : length (in_front T K a) ≡ length (in_front T K a) + 0 = omega arith in
        ap (λ (j : ℕ). get_or group j none) z ∙ get_or-append-add (in_front T K a) (action_at T a ∷ filled_from T K (suc a) (T.count t - suc i)) 0 none

    pub placed_kind : kind U placed ≡ kind T a
    placed_kind = group_kind (length (in_front T K a)) own_in ∙ ap kind_in own_is

    pub placed_argument : U.argument placed ≡ T.argument a
    placed_argument = group_argument (length (in_front T K a)) own_in ∙ ap (λ (y : Action). y.argument) own_is

    pub placed_within : placed < U.first t + U.count t
    placed_within = omega (arith, own_in, size, x.reads.counts t (old_below t known))

    pub placed_next_lem : start t (suc i) ≡ suc placed
    placed_next_lem = omega (arith, lead_next t i)

    module _ (e : big T K a ≡ true) where
      two : length (in_front T K a) ≡ 2
      two = rw e

      pub front_fork : kind U (start t i) ≡ fork
      unfolding kind_of
      front_fork =
          let z : start t i ≡ start t i + 0 = omega arith in
          rw z (group_kind 0 (omega (arith, own_in)) ∙ rw e)

      pub front_root : U.argument (start t i) ≡ root_of T K a
      front_root =
          let z : start t i ≡ start t i + 0 = omega arith in
          rw z (group_argument 0 (omega (arith, own_in)) ∙ rw e)

      pub front_join : kind U (suc (start t i)) ≡ join
      unfolding kind_of
      front_join =
          let z : suc (start t i) ≡ start t i + 1 = omega arith in
          rw z (group_kind 1 (omega (arith, own_in, two)) ∙ rw e)

      pub front_joined : U.argument (suc (start t i)) ≡ root_of T K a
      front_joined =
          let z : suc (start t i) ≡ start t i + 1 = omega arith in
          rw z (group_argument 1 (omega (arith, own_in, two)) ∙ rw e)

      pub front_two : placed ≡ suc (suc (start t i))
      front_two = omega (arith, two)
