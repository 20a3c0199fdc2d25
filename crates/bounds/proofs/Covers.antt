-- A table whose allocs above K are delayed: what the allocs done beyond an action not done come to is covered by what the actions done there cost.
use mathlib.Core.Path.{◌≡◌, refl, sym, ap, ◌∙◌}
use Prim.Native.Nat.{ℕ, suc, ◌+◌, ◌≤◌, ◌<◌}
use native.Mathlib.Omega.{arith}
use native.Mathlib.Decide.{ℕ_discrete, dec_lt}
use mathlib.Core.List.{List, Memᴰ}
use mathlib.Core.Bool.{Bool, true, false, ◌&&◌}
use mathlib.Core.Logic.{◌⊎◌, inl, inr}
use lib.Seq.{take_all}
use lib.Dec.{ltb}
use borrow.Author.Tests.{lt-ltb, ltb-true}
use Rattle.table.specs.Sum.{pick, sum_to, sum_over}
use Rattle.table.specs.Format.{code_of, is, Table}
use Rattle.table.specs.Checks.{owner, alloc_of}
use Rattle.table.specs.Serial.{serial_order}
use Rattle.table.proofs.Tests.{no_way}
use Rattle.table.proofs.Sums.{sum_to_cong, sum_over_append}
use Rattle.table.proofs.Serial.{serial_length}
use Rattle.table.proofs.Bodies.{next_owner}
use Rattle.schedule.specs.Machine.{State, ended, next_of, status_of}
use Rattle.schedule.specs.Sound.{is_done}
use Rattle.order.specs.Order.{number_of}
use Rattle.order.proofs.Lawful.{Lawful}
use Rattle.order.proofs.Numbers.{number_below, number_once, number_step, number_rises}
use Rattle.order.proofs.SerialSums.{lower, front_sum}
use Rattle.schedule.proofs.Sound.Facts.{Done, Facts}
use Rattle.schedule.proofs.Sound.Done.{done_low, undone, ended_all}
use Rattle.schedule.proofs.Linked.Waiting.{around_ended, joined_ended}
use Rattle.bounds.proofs.Draws.{spent_beyond}
use Rattle.filling.proofs.Delay.{Delay, Group, plain, delayed, Groups, no_group, group, Delayed}
use Rattle.table.proofs.Sums.{sum_over_cong, sum_over_zero}

module _ (T : Table) (l : Lawful T) (p K : ℕ) (cost : ℕ → ℕ) (st : State) (f : Facts T p K st) (v : ℕ) (within : v < T.actions) (open-v : is_done T st v ≡ false) where
  abbrev beyond : ℕ → Bool
  beyond a = is_done T st a && ltb (number_of T v) (number_of T a)

  abbrev at : (ℕ → ℕ) → ℕ → ℕ
  at own a = pick (beyond a) (own a) 0

  -- over all actions, in serial order
  all_serial : (own : ℕ → ℕ) → sum_to own T.actions ≡ sum_over own (serial_order T)
  all_serial own =
      let n = serial_length T l.contents l.bodies l.nesting l.forking l.some_thread in
      sum_to_cong own (lower T own T.actions) T.actions (λ a h. rw (lt-ltb (number_of T a) T.actions (number_below T l a h)))
      ∙ sym (front_sum T l own T.actions (omega arith))
      ∙ ap (sum_over own) (take_all T.actions (serial_order T) (omega (arith, n)))

  -- what stands before a done action in its thread is done
  done_before : (a d : ℕ) → a ≤ d → d < T.actions → owner T a ≡ owner T d → Done T st d → Done T st a
  done_before a d h i o e = go (ℕ_discrete (status_of st (owner T a)) ended) (dec_lt d (next_of st (owner T d)))
    where
      go : Dec (status_of st (owner T a) ≡ ended) → Dec (d < next_of st (owner T d)) → Done T st a
      go (yes q) r = ended_all T l p K st f a (omega arith) q
      go (no q) (yes r) = done_low T st a (rw o (omega arith))
      go (no q) (no r) = no_way (cc (undone T st d (omega arith) (rw o at q)))

  module _ (y : ℕ) (g : List ℕ) (x : Delay T cost y g) where
    abbrev z : ℕ
    z = suc (suc y)

    same_join : owner T (suc y) ≡ owner T y
    unfolding is code_of
    same_join = next_owner T l.contents l.bodies y (omega (arith, x.inside)) (rw x.forks)

    same_alloc : owner T z ≡ owner T (suc y)
    unfolding is code_of
    same_alloc = next_owner T l.contents l.bodies (suc y) (omega (arith, x.inside)) (rw x.joins)

    after_join : number_of T z ≡ suc (number_of T (suc y))
    unfolding is code_of
    after_join = number_step T l (suc y) (omega (arith, x.inside)) (rw x.joins) (rw x.joins)

    module _ (d : Done T st z) (b : number_of T v < number_of T z) where
      join_done_lem : Done T st (suc y)
      join_done_lem = done_before (suc y) z (omega arith) x.inside (sym same_alloc) d

      fork_done : Done T st y
      fork_done = done_before y (suc y) (omega arith) (omega (arith, x.inside)) (sym same_join) join_done_lem

      child_over : status_of st (T.argument y) ≡ ended
      child_over = rw x.child at (joined_ended T l p K st f (suc y) (omega (arith, x.inside)) x.joins join_done_lem)

      tree_done : (a : ℕ) → a < T.actions → number_of T y < number_of T a → number_of T a < number_of T (suc y) → Done T st a
      tree_done a h low high =
          ended_all T l p K st f a h (around_ended T l p K st f y (omega (arith, x.inside)) x.forks child_over (number_of T a) a (omega arith) h low high)

      -- v is not among them
      before_fork : number_of T v < number_of T y
      before_fork = go (dec_lt (number_of T v) (number_of T y)) (ℕ_discrete (number_of T v) (number_of T y)) (dec_lt (number_of T v) (number_of T (suc y))) (ℕ_discrete (number_of T v) (number_of T (suc y)))
        where
          is_not : (a : ℕ) → a < T.actions → Done T st a → number_of T v ≡ number_of T a → ⊥
          is_not a h e q = let i : v ≡ a = number_once T l v a within h q in no_way (cc)

          go : Dec (number_of T v < number_of T y) → Dec (number_of T v ≡ number_of T y) → Dec (number_of T v < number_of T (suc y)) → Dec (number_of T v ≡ number_of T (suc y)) → number_of T v < number_of T y
          go (yes i) j k m = i
          go (no i) (yes j) k m = absurd (is_not y (omega (arith, x.inside)) fork_done j)
          go (no i) (no j) (yes k) m = no_way (cc (tree_done v within (omega (arith, i, j)) k))
          go (no i) (no j) (no k) (yes m) = absurd (is_not (suc y) (omega (arith, x.inside)) join_done_lem m)
          go (no i) (no j) (no k) (no m) = absurd (omega (arith, after_join, k, m, b))

      rises : number_of T y < number_of T (suc y)
      rises = number_rises T l y (suc y) (omega arith) (omega (arith, x.inside)) (sym same_join)

      all_beyond : (a : ℕ) → Memᴰ a g → beyond a ≡ true
      all_beyond a m = let (h, q) = x.members a m in go h q
        where
          go : a < T.actions → (a ≡ y) ⊎ (((number_of T y < number_of T a) × (number_of T a < number_of T (suc y))) ⊎ ((a ≡ suc y) ⊎ (a ≡ z))) → beyond a ≡ true
          go h (inl e) = rw (e, fork_done) (lt-ltb (number_of T v) (number_of T y) before_fork)
          go h (inr (inl (i, j))) = rw (tree_done a h i j) (lt-ltb (number_of T v) (number_of T a) (omega (arith, before_fork)))
          go h (inr (inr (inl e))) = rw (e, join_done_lem) (lt-ltb (number_of T v) (number_of T (suc y)) (omega (arith, before_fork, rises)))
          go h (inr (inr (inr e))) = rw (e, d) (lt-ltb (number_of T v) (number_of T z) b)

    delay_covers : sum_over (at (alloc_of T)) g ≤ sum_over (at cost) g
    delay_covers = go (is_done T st z) (ltb (number_of T v) (number_of T z)) refl refl
      where
        nothing : beyond z ≡ false → sum_over (at (alloc_of T)) g ≡ 0
        nothing e = sum_over_zero (at (alloc_of T)) g (λ a m. by a m (ℕ_discrete a z))
          where
            zero_pick : (q : Bool) → ◌≡◌ {A = ℕ} (pick q 0 0) 0
            zero_pick true = refl
            zero_pick false = refl

            by : (a : ℕ) → Memᴰ a g → Dec (a ≡ z) → at (alloc_of T) a ≡ 0
            by a m (yes q) = rw (q, e)
            by a m (no q) = rw (x.alone a m q) (zero_pick (beyond a))

        go : (s t : Bool) → is_done T st z ≡ s → ltb (number_of T v) (number_of T z) ≡ t → sum_over (at (alloc_of T)) g ≤ sum_over (at cost) g
        go true true i j =
            let k = all_beyond i (ltb-true (number_of T v) (number_of T z) j) in
            omega (
              arith,
              sum_over_cong (at (alloc_of T)) (alloc_of T) g (λ a m. rw (k a m)),
              sum_over_cong (at cost) cost g (λ a m. rw (k a m)),
              x.covered,
            )
        go true false i j = omega (arith, nothing (rw (i, j)))
        go false t i j = omega (arith, nothing (rw i))

  group_covers : (g : List ℕ) → Group T cost g → sum_over (at (alloc_of T)) g ≤ sum_over (at cost) g
  unfolding sum_over
  group_covers g (plain a e h) = rw e (go (beyond a))
    where
      go : (q : Bool) → pick q (alloc_of T a) 0 + 0 ≤ pick q (cost a) 0 + 0
      go true = omega (arith, h)
      go false = omega arith
  group_covers g (delayed y x) = delay_covers y g x

  groups_cover : (k : List ℕ) → Groups T cost k → sum_over (at (alloc_of T)) k ≤ sum_over (at cost) k
  unfolding sum_over
  groups_cover _ no_group = omega arith
  groups_cover _ (group g k x r) =
      omega (arith, sum_over_append (at (alloc_of T)) g k, sum_over_append (at cost) g k, group_covers g x, groups_cover k r)

  pub covers : Delayed T cost → spent_beyond T (alloc_of T) st v ≤ spent_beyond T cost st v
  unfolding spent_beyond
  covers d = omega (arith, all_serial (at (alloc_of T)), all_serial (at cost), groups_cover (serial_order T) d)
