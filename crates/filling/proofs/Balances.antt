-- Rule 10 for the filled-out table: the new threads neither draw nor give back, so a thread's balance is after each action what it was in the table as given.
use Prim.Native.Nat.{ℕ, zero, suc, ◌+◌, ◌-◌, ◌≤◌, ◌<◌}
use native.Mathlib.Omega.{arith}
use native.Mathlib.Decide.{dec_lt}
use mathlib.Core.Path.{◌≡◌, refl, sym, ap, ◌∙◌}
use mathlib.Core.List.{List, [], ◌∷◌, ◌++◌}
use mathlib.Core.Bool.{Bool, true, false}
use borrow.Author.Tests.{le-ltb}
use lib.ListN.{length, get_or, take, length-append}
use lib.Seq.{get_or-take, take_at, take-length, length-take-le}
use Rattle.table.specs.Sum.{pick, sum_to}
use Rattle.table.specs.Format.{is, code_of, kind_of, Table, kind}
use Rattle.table.specs.declared.kinds.Kind.{Kind}
use Rattle.table.specs.declared.kinds.Kind.TheVariants.{Alloc as alloc, Free as free, Fork as fork, Join as join}
use Rattle.table.specs.Checks.{owner, alloc_of, free_of, with_child, whole, part_of, up_to, balance, balance_below0}
use Rattle.table.specs.Rules.{ContentRules, BodyRules, BalanceRules}
use Rattle.table.proofs.Sums.{sum_to_cong, sum_to_zero, sum_to_part}
use Rattle.table.proofs.Tests.{is_true, negative_is}
use Rattle.table.proofs.Bodies.{owner_at, owner_below_lem, owner_first, owner_end, join_above, join_below}
use Rattle.table.proofs.Serial.{downward}
use Rattle.table.proofs.Amounts.{action_within, whole_is}
use Rattle.table.proofs.Peaks.{part_held}
use Rattle.table.specs.Written.{Action, action_at}
use Rattle.filling.specs.Filled.{act, big, root_of, in_front, filled_from, filled_body, filled_bodies}
use Rattle.table.proofs.ReadBack.{none}
use Rattle.filling.proofs.Bodies.{kind_in}
use Rattle.filling.proofs.Built.{kind_at, argument_at_lem}
use Rattle.filling.proofs.ForkCounts.{sum_in, sum_in_to}
use Rattle.filling.proofs.OldThreads.{filled_append, filled_sum}
use Rattle.filling.proofs.Fills.{Fills, c, b, old_below, body_old, root_in, quiet, lead, start, front_fork, front_join, front_joined}

-- ---- an amount that only one kind has

abbrev pub amount : Kind → Table → ℕ → ℕ
amount j S a = pick (is j (kind S a)) (S.argument a) 0

-- an action's, with that of the child that it joins
abbrev pub weigh : Kind → (ℕ → ℕ) → Action → ℕ
weigh j w y = pick (is j (kind_in y)) y.argument 0 + pick (is join (kind_in y)) (w y.argument) 0

module _ (T : Table) (K : ℕ) (U : Table) (x : Fills T K U) (j : Kind) (no_fork : is j fork ≡ false) (no_join : is j join ≡ false)
    (still : (a : ℕ) → a < U.actions → T.threads ≤ owner U a → amount j U a ≡ 0) where
  abbrev W : ℕ → ℕ
  W = whole U (amount j U)

  abbrev bs : List (List Action)
  bs = filled_bodies T K

  part_is : (t k : ℕ) → t < length bs → k ≤ length (get_or bs t []) → part_of U (amount j U) t k ≡ sum_in (weigh j W) (take k (get_or bs t []))
  part_is t k h i =
      let l : length (take k (get_or bs t [])) ≡ k = length-take-le k (get_or bs t []) i in
      rw l at (sum_in_to (weigh j W) (take k (get_or bs t [])) (λ e. with_child U join (amount j U) W (U.first t + e))
      (λ e p.
      let q : e < k = omega (arith, l) in
      rw (kind_at U bs x.reads t e h (omega arith), argument_at_lem U bs x.reads t e h (omega arith), get_or-take k (get_or bs t []) e none q)))

  -- ---- the new threads

  pub new_whole : (t : ℕ) → t < U.threads → T.threads ≤ t → W t ≡ 0
  new_whole = downward (λ t. T.threads ≤ t → W t ≡ 0) U.threads (λ t h below o.
      rw (whole_is U (c T K U x) (b T K U x) (amount j U) t h) (sum_to_zero _ (U.count t) (λ i k. go t h o below i k (is join (kind U (U.first t + i))) refl)))
    where
      go : (t : ℕ) → t < U.threads → T.threads ≤ t → ((y : ℕ) → t < y → y < U.threads → T.threads ≤ y → W y ≡ 0) → (i : ℕ) → i < U.count t
          → (q : Bool) → is join (kind U (U.first t + i)) ≡ q → with_child U join (amount j U) W (U.first t + i) ≡ 0
      go t h o below i k q e =
          let a : ℕ = U.first t + i in
          let w : a < U.actions = action_within U (c T K U x) (b T K U x) t i h k in
          let ot : owner U a ≡ t = owner_at U (c T K U x) t i h k in
          rw (e, still a w (rw ot o)) (last q e w ot)
        where
          last : (q : Bool) → is join (kind U (U.first t + i)) ≡ q → U.first t + i < U.actions → owner U (U.first t + i) ≡ t → 0 + pick q (W (U.argument (U.first t + i))) 0 ≡ 0
          last true e w ot =
              let a : ℕ = U.first t + i in
              let z : kind U a ≡ join = is_true join (kind U a) e in
              let up : t < U.argument a = rw ot at (join_above U (c T K U x) (b T K U x) a w z) in
              rw (below (U.argument a) up (join_below U (c T K U x) (b T K U x) a w z) (omega arith))
          last false e w ot = refl

  front_still : (a : ℕ) → a < T.actions → sum_in (weigh j W) (in_front T K a) ≡ 0
  unfolding sum_in kind_of is code_of
  front_still a h = go (big T K a) refl
    where
      go : (q : Bool) → big T K a ≡ q → sum_in (weigh j W) (in_front T K a) ≡ 0
      go true e =
          let (lo, hi) = root_in T K U x a h e in
          rw (e, no_fork, no_join, new_whole (root_of T K a) hi lo)
      go false e = rw e

  -- ---- the threads of T

  abbrev O : ℕ → ℕ
  O = whole T (amount j T)

  abbrev c_t : ContentRules T
  c_t = x.lawful.contents

  abbrev b_t : BodyRules T
  b_t = x.lawful.bodies

  -- an action of T weighs the same in U
  own_same : (t : ℕ) → t < T.threads → ((y : ℕ) → t < y → y < T.threads → W y ≡ O y) → (i : ℕ) → i < T.count t
      → weigh j W (action_at T (T.first t + i)) ≡ with_child T join (amount j T) O (T.first t + i)
  own_same t h below i k = go (is join (kind T a)) refl
    where
      a : ℕ
      a = T.first t + i

      go : (q : Bool) → is join (kind T a) ≡ q → weigh j W (action_at T a) ≡ with_child T join (amount j T) O a
      go true e =
          let w : a < T.actions = action_within T c_t b_t t i h k in
          let z : kind T a ≡ join = is_true join (kind T a) e in
          let up : t < T.argument a = rw (owner_at T c_t t i h k) at (join_above T c_t b_t a w z) in
          rw (e, below (T.argument a) up (join_below T c_t b_t a w z))
      go false e = rw e

  pub old_whole : (t : ℕ) → t < T.threads → W t ≡ O t
  old_whole = downward (λ t. W t ≡ O t) T.threads (λ t h below.
      let l : length (get_or bs t []) ≡ U.count t = sym (x.reads.counts t (old_below T K U x t h)) in
      let p : W t ≡ sum_in (weigh j W) (filled_body T K t) =
      whole_is U (c T K U x) (b T K U x) (amount j U) t (omega (arith, x.reads.threads, old_below T K U x t h))
      ∙ part_is t (U.count t) (old_below T K U x t h) (omega arith)
      ∙ rw (← l, take-length (get_or bs t []), body_old T K U x t h) in
      p ∙ filled_sum T K (weigh j W) (T.count t) (T.first t)
      ∙ sum_to_cong _ _ (T.count t) (λ i k. rw (front_still (T.first t + i) (action_within T c_t b_t t i h k), own_same t h below i k) (omega arith))
      ∙ sym (whole_is T c_t b_t (amount j T) t h))

  pub own_is : (t i : ℕ) → t < T.threads → i < T.count t → weigh j W (action_at T (T.first t + i)) ≡ with_child T join (amount j T) O (T.first t + i)
  own_is t i h k = own_same t h (λ y p q. old_whole y q) i k

  pub front_zero : (a : ℕ) → a < T.actions → big T K a ≡ true → (weigh j W (act 4 (root_of T K a)) ≡ 0) × (weigh j W (act 5 (root_of T K a)) ≡ 0)
  unfolding kind_of is code_of
  front_zero a h e = let (lo, hi) = root_in T K U x a h e in (rw no_fork, rw (no_join, new_whole (root_of T K a) hi lo))

  -- ---- the sum over the first actions of a thread of T, in front of its action i

  pub part_same : (t i : ℕ) → t < T.threads → i ≤ T.count t → part_of U (amount j U) t (lead T K U x t i) ≡ part_of T (amount j T) t i
  part_same t i h l =
      let front : List Action = filled_from T K (T.first t) i in
      let rest : List Action = filled_from T K (T.first t + i) (T.count t - i) in
      let n : T.count t ≡ i + (T.count t - i) = omega arith in
      let y : get_or bs t [] ≡ front ++ rest = body_old T K U x t h ∙ ap (filled_from T K (T.first t)) n ∙ filled_append T K i (T.count t - i) (T.first t) in
      let z : lead T K U x t i ≤ length (get_or bs t []) = omega (arith, ap length y, length-append front rest) in
      part_is t (lead T K U x t i) (old_below T K U x t h) z
      ∙ ap (sum_in (weigh j W)) (ap (take (length front)) y ∙ take_at front rest (length front) refl)
      ∙ filled_sum T K (weigh j W) i (T.first t)
      ∙ sum_to_cong _ _ i (λ e k. rw (front_still (T.first t + e) (action_within T c_t b_t t e h (omega arith)), own_is t e h (omega arith)) (omega arith))

  part_next : (t k a : ℕ) → U.first t + k ≡ a → part_of U (amount j U) t (suc k) ≡ part_of U (amount j U) t k + with_child U join (amount j U) W a
  unfolding sum_to
  part_next t k a e = ap (λ (y : ℕ). part_of U (amount j U) t k + with_child U join (amount j U) W y) e

  -- and right after the fork and right after the join of a tree in front of it
  module _ (t i : ℕ) (h : t < T.threads) (k : i < T.count t) (e : big T K (T.first t + i) ≡ true) where
    fork_adds : with_child U join (amount j U) W (start T K U x t i) ≡ 0
    unfolding is code_of
    fork_adds = rw (front_fork T K U x t i h k e, no_fork)

    join_adds : with_child U join (amount j U) W (suc (start T K U x t i)) ≡ 0
    unfolding is code_of
    join_adds =
        let (lo, hi) = root_in T K U x (T.first t + i) (action_within T c_t b_t t i h k) e in
        rw (front_join T K U x t i h k e, no_join, front_joined T K U x t i h k e) (omega (arith, new_whole (root_of T K (T.first t + i)) hi lo))

    pub part_forked : part_of U (amount j U) t (suc (lead T K U x t i)) ≡ part_of T (amount j T) t i
    part_forked = omega (arith, part_next t (lead T K U x t i) (start T K U x t i) refl, fork_adds, part_same t i h (omega arith))

    pub part_joined : part_of U (amount j U) t (suc (suc (lead T K U x t i))) ≡ part_of T (amount j T) t i
    part_joined =
        let z : U.first t + suc (lead T K U x t i) ≡ suc (start T K U x t i) = omega arith in
        omega (arith, part_next t (suc (lead T K U x t i)) (suc (start T K U x t i)) z, join_adds, part_forked)

-- ---- along a body: never more given back than drawn

Above : (Action → ℕ) → (Action → ℕ) → ℕ → ℕ → List Action → Type 0
Above w v u d [] = d ≤ u
Above w v u d (y ∷ l) = (d ≤ u) × Above w v (u + w y) (d + v y) l

module _ (w v : Action → ℕ) where
  above_head : (l : List Action) (u d : ℕ) → Above w v u d l → d ≤ u
  unfolding Above
  above_head [] u d p = p
  above_head (y ∷ l) u d p = p.0

  above_same : (l : List Action) (u d s e : ℕ) → u ≡ s → d ≡ e → Above w v u d l → Above w v s e l
  above_same l u d s e p q h = rw (p, q) at h

  above_none : (y : Action) (l : List Action) (u d : ℕ) → w y ≡ 0 → v y ≡ 0 → Above w v u d l → Above w v u d (y ∷ l)
  unfolding Above
  above_none y l u d p q h = (above_head l u d h, above_same l u d (u + w y) (d + v y) (omega arith) (omega arith) h)

  above_at : (l : List Action) (u d k : ℕ) → Above w v u d l → k ≤ length l → d + sum_in v (take k l) ≤ u + sum_in w (take k l)
  unfolding Above sum_in
  above_at [] u d zero p h = omega (arith, p)
  above_at [] u d (suc k) p h = absurd (omega arith)
  above_at (y ∷ l) u d zero p h = omega (arith, p.0)
  above_at (y ∷ l) u d (suc k) p h = omega (arith, above_at l (u + w y) (d + v y) k p.1 (omega arith))

module _ (T : Table) (K : ℕ) (U : Table) (x : Fills T K U) where
  abbrev w_a : Action → ℕ
  w_a = weigh alloc (whole U (amount alloc U))

  abbrev w_f : Action → ℕ
  w_f = weigh free (whole U (amount free U))

  still_alloc : (a : ℕ) → a < U.actions → T.threads ≤ owner U a → amount alloc U a ≡ 0
  unfolding alloc_of
  still_alloc a h o = (quiet T K U x a h o).0

  still_free : (a : ℕ) → a < U.actions → T.threads ≤ owner U a → amount free U a ≡ 0
  unfolding free_of
  still_free a h o = (quiet T K U x a h o).1

  no_af : (is alloc fork ≡ false) × (is alloc join ≡ false) × (is free fork ≡ false) × (is free join ≡ false)
  unfolding is code_of
  no_af = (refl, refl, refl, refl)

  -- a new thread draws nothing
  pub new_still : (t : ℕ) → T.threads ≤ t → t < U.threads → whole U (alloc_of U) t ≡ 0
  unfolding alloc_of
  new_still t lo hi = new_whole T K U x alloc no_af.0 no_af.1 still_alloc t hi lo

  -- what a thread of T has drawn and given back in front of its action i, and right after the fork and right after the join of a tree there, is what it was in the table as given
  module _ (t : ℕ) (known : t < T.threads) (i : ℕ) where
    pub parts_same : i ≤ T.count t → (part_of U (alloc_of U) t (lead T K U x t i) ≡ part_of T (alloc_of T) t i) × (part_of U (free_of U) t (lead T K U x t i) ≡ part_of T (free_of T) t i)
    unfolding alloc_of free_of
    parts_same h = (part_same T K U x alloc no_af.0 no_af.1 still_alloc t i known h, part_same T K U x free no_af.2 no_af.3 still_free t i known h)

    module _ (w : i < T.count t) (e : big T K (T.first t + i) ≡ true) where
      pub parts_forked : (part_of U (alloc_of U) t (suc (lead T K U x t i)) ≡ part_of T (alloc_of T) t i) × (part_of U (free_of U) t (suc (lead T K U x t i)) ≡ part_of T (free_of T) t i)
      unfolding alloc_of free_of
      parts_forked = (part_forked T K U x alloc no_af.0 no_af.1 still_alloc t i known w e, part_forked T K U x free no_af.2 no_af.3 still_free t i known w e)

      pub parts_joined : (part_of U (alloc_of U) t (suc (suc (lead T K U x t i))) ≡ part_of T (alloc_of T) t i) × (part_of U (free_of U) t (suc (suc (lead T K U x t i))) ≡ part_of T (free_of T) t i)
      unfolding alloc_of free_of
      parts_joined = (part_joined T K U x alloc no_af.0 no_af.1 still_alloc t i known w e, part_joined T K U x free no_af.2 no_af.3 still_free t i known w e)

  module _ (t : ℕ) (known : t < T.threads) where
    held : (i : ℕ) → i ≤ T.count t → part_of T (amount free T) t i ≤ part_of T (amount alloc T) t i
    unfolding alloc_of free_of
    held i h = part_held T x.lawful.contents x.lawful.bodies x.lawful.nesting x.lawful.balances t i known h

    above_from : (k i : ℕ) → i + k ≡ T.count t → Above w_a w_f (part_of T (amount alloc T) t i) (part_of T (amount free T) t i) (filled_from T K (T.first t + i) k)
    unfolding Above filled_from sum_to
    above_from zero i e = held i (omega arith)
    above_from (suc k) i e = go (big T K a) refl (own (above_from k (suc i) (omega arith)))
      where
        a : ℕ
        a = T.first t + i

        w : i < T.count t
        w = omega arith

        rest : List Action
        rest = filled_from T K (suc a) k

        u : ℕ
        u = part_of T (amount alloc T) t i

        d : ℕ
        d = part_of T (amount free T) t i

        own : Above w_a w_f (part_of T (amount alloc T) t (suc i)) (part_of T (amount free T) t (suc i)) (filled_from T K (T.first t + suc i) k) → Above w_a w_f u d (action_at T a ∷ rest)
        own ih =
            let z : T.first t + suc i ≡ suc a = omega arith in
            let p : w_a (action_at T a) ≡ with_child T join (amount alloc T) (whole T (amount alloc T)) a = own_is T K U x alloc no_af.0 no_af.1 still_alloc t i known w in
            let q : w_f (action_at T a) ≡ with_child T join (amount free T) (whole T (amount free T)) a = own_is T K U x free no_af.2 no_af.3 still_free t i known w in
            (held i (omega arith), above_same w_a w_f rest (part_of T (amount alloc T) t (suc i)) (part_of T (amount free T) t (suc i)) (u + w_a (action_at T a)) (d + w_f (action_at T a)) (omega (arith, p)) (omega (arith, q)) (rw z at ih))

        go : (q : Bool) → big T K a ≡ q → Above w_a w_f u d (action_at T a ∷ rest) → Above w_a w_f u d (in_front T K a ++ (action_at T a ∷ rest))
        go true q p =
            let m : a < T.actions = action_within T x.lawful.contents x.lawful.bodies t i known w in
            let r : ℕ = root_of T K a in
            let (fa, ja) = front_zero T K U x alloc no_af.0 no_af.1 still_alloc a m q in
            let (ff, jf) = front_zero T K U x free no_af.2 no_af.3 still_free a m q in
            let p1 : Above w_a w_f u d (act 5 r ∷ action_at T a ∷ rest) = above_none w_a w_f (act 5 r) (action_at T a ∷ rest) u d ja jf p in
            let p2 : Above w_a w_f u d (act 4 r ∷ act 5 r ∷ action_at T a ∷ rest) = above_none w_a w_f (act 4 r) (act 5 r ∷ action_at T a ∷ rest) u d fa ff p1 in
            rw q p2
        go false q p = rw q p

    old_held : (k : ℕ) → k ≤ U.count t → part_of U (free_of U) t k ≤ part_of U (alloc_of U) t k
    unfolding alloc_of free_of sum_to
    old_held k h =
        let z : T.first t + 0 ≡ T.first t = omega arith in
        let y : length (get_or (filled_bodies T K) t []) ≡ U.count t = sym (x.reads.counts t (old_below T K U x t known)) in
        let p : Above w_a w_f 0 0 (filled_body T K t) = rw z at (above_from (T.count t) 0 (omega arith)) in
        let p' : Above w_a w_f 0 0 (get_or (filled_bodies T K) t []) = rw (body_old T K U x t known) p in
        omega (
          arith,
          above_at w_a w_f (get_or (filled_bodies T K) t []) 0 0 k p' (omega arith),
          part_is T K U x alloc no_af.0 no_af.1 still_alloc t k (old_below T K U x t known) (omega arith),
          part_is T K U x free no_af.2 no_af.3 still_free t k (old_below T K U x t known) (omega arith),
        )

  new_held : (t k : ℕ) → T.threads ≤ t → t < U.threads → k ≤ U.count t → part_of U (free_of U) t k ≤ part_of U (alloc_of U) t k
  unfolding free_of
  new_held t k o h i =
      omega (
        arith,
        sum_to_part (λ e. with_child U join (amount free U) (whole U (amount free U)) (U.first t + e)) k (U.count t) i,
        whole_is U (c T K U x) (b T K U x) (amount free U) t h,
        new_whole T K U x free no_af.2 no_af.3 still_free t h o,
      )

  part_above : (t k : ℕ) → t < U.threads → k ≤ U.count t → Dec (t < T.threads) → part_of U (free_of U) t k ≤ part_of U (alloc_of U) t k
  part_above t k h i (yes o) = old_held t o k i
  part_above t k h i (no o) = new_held t k (omega (arith, o)) h i

  -- 10
  pub filled_balances : BalanceRules U
  unfolding balance_below0 balance
  filled_balances =
      record {
        balanced = λ a h.
            let t : ℕ = owner U a in
            let lo : U.first t ≤ a = owner_first U (c T K U x) a h in
            let hi : a < U.first t + U.count t = owner_end U (c T K U x) a h in
            let k : up_to U a ≤ U.count t = omega (arith, lo, hi) in
            rw negative_is (le-ltb (part_of U (alloc_of U) t (up_to U a)) (part_of U (free_of U) t (up_to U a)) (part_above t (up_to U a) (owner_below_lem U (c T K U x) a h) k (dec_lt t T.threads)));
      }
