-- Held memory by thread: each thread's share is its balance so far, 0 once it is joined, and memory held is the sum of the shares. So a free never takes more than is held.
use mathlib.Core.Path.{◌≡◌, refl, sym, ◌∙◌, ap}
use Prim.Native.Nat.{ℕ, zero, suc, ◌+◌, ◌-◌, ◌≤◌, ◌<◌}
use mathlib.Core.List.{Memᴰ}
use mathlib.Core.Bool.{Bool, true, false, ◌&&◌}
use lib.Dec.{ltb, eqb}
use native.Mathlib.Omega.{arith}
use native.Mathlib.Decide.{ℕ_discrete, dec_lt}
use borrow.Author.Tests.{lt-ltb, le-ltb, eqb-true, eq-eqb, ne_eqb}
use Rattle.table.specs.Sum.{pick, sum_to}
use Rattle.table.specs.Format.{is, Table, kind}
use Rattle.table.specs.declared.kinds.Kind.TheVariants.{Free as free, Join as join}
use Rattle.table.specs.Checks.{owner, end_of, counts_below, alloc_of, free_of, with_child, whole, part_of}
use Rattle.table.specs.Level.{depends_on}
use Rattle.table.proofs.Tests.{and_both, is_true}
use Rattle.table.proofs.Sums.{sum_to_cong}
use Rattle.table.proofs.Bodies.{end_within, first_is, counts_all, after_end, owner_at, join_below}
use Rattle.table.proofs.Nesting.{any_below_true}
use Rattle.table.proofs.Amounts.{whole_is}
use Rattle.table.proofs.Peaks.{part_held}
use Rattle.schedule.specs.Machine.{State, ended, next_of, status_of}
use Rattle.schedule.specs.Sound.{progress_in, joined_in, share_in, balance_to, is_done, of_done, sum_done, progress, is_joined, share}
use Rattle.order.proofs.Lawful.{Lawful}
use Rattle.schedule.proofs.Sound.Facts.{Facts}
use Rattle.schedule.proofs.Sound.Done.{done_low, undone, done_ended, ended_all}
use Rattle.order.proofs.Totals.{sum_to_term, sum_to_add, sum_to_append, sum_to_front, sum_targets}
use Rattle.order.proofs.Joins.{joins_one, join_depends}
use Rattle.schedule.proofs.Sound.Balances.{balance_free}

pick_add : (s : Bool) (x y : ℕ) → pick s x 0 + pick s y 0 ≡ pick s (x + y) 0
pick_add true x y = refl
pick_add false x y = refl

pick_less : (s : Bool) (x y : ℕ) → y ≤ x → pick s 0 (x - y) + pick s 0 y ≡ pick s 0 x
pick_less true x y h = refl
pick_less false x y h = omega arith

module _ (T : Table) (l : Lawful T) (p K : ℕ) (st : State) (f : Facts T p K st) where
  -- ---- progress

  pub progress_ended : (t : ℕ) → status_of st t ≡ ended → progress T st t ≡ T.count t
  unfolding progress_in
  progress_ended t e = rw (eq-eqb (status_of st t) ended e)

  pub progress_next : (t : ℕ) → t < T.threads → (status_of st t ≡ ended → ⊥) → T.first t + progress T st t ≡ next_of st t
  unfolding progress_in
  progress_next t h e = rw (ne_eqb (status_of st t) ended e) (omega (arith, f.next_low t h))

  pub progress_within : (t : ℕ) → t < T.threads → progress T st t ≤ T.count t
  progress_within t h = go (ℕ_discrete (status_of st t) ended)
    where
      go : Dec (status_of st t ≡ ended) → progress T st t ≤ T.count t
      go (yes e) = omega (arith, progress_ended t e)
      go (no e) = omega (arith, progress_next t h e, f.next_high t h, after_end T l.contents t h)

  -- the actions done of a thread are those below its progress
  pub done_at : (t i : ℕ) → t < T.threads → i < T.count t → is_done T st (T.first t + i) ≡ ltb i (progress T st t)
  done_at t i h k = go (ℕ_discrete (status_of st t) ended) (dec_lt i (progress T st t))
    where
      a : ℕ
      a = T.first t + i

      own : owner T a ≡ t
      own = owner_at T l.contents t i h k

      go : Dec (status_of st t ≡ ended) → Dec (i < progress T st t) → is_done T st a ≡ ltb i (progress T st t)
      go (yes e) q =
          ended_all T l p K st f a (omega (arith, end_within T l.contents t h, after_end T l.contents t h)) (rw own e)
          ∙ sym (rw (progress_ended t e) (lt-ltb i (T.count t) k))
      go (no e) (yes q) = done_low T st a (rw own (omega (arith, progress_next t h e))) ∙ sym (lt-ltb i (progress T st t) q)
      go (no e) (no q) = undone T st a (rw own (omega (arith, progress_next t h e, q))) (rw own e) ∙ sym (le-ltb i (progress T st t) (omega (arith, q)))

  -- a joined thread has ended: its join depends on its end
  pub joined_ended : (t : ℕ) → t < T.threads → is_joined T st t ≡ true → status_of st t ≡ ended
  unfolding joined_in
  joined_ended t h j =
      let (a, w, x) = any_below_true (λ a. is join (kind T a) && (eqb (T.argument a) t && is_done T st a)) T.actions j in
      let (k, y) = and_both (is join (kind T a)) (eqb (T.argument a) t && is_done T st a) x in
      let (e, d) = and_both (eqb (T.argument a) t) (is_done T st a) y in
      let m : Memᴰ (end_of T t) (depends_on T a) = rw (eqb-true (T.argument a) t e) at (join_depends T a (is_true join (kind T a) k)) in
      done_ended T l p K st f t h (f.ordered a (end_of T t) w d m)

  -- ---- amounts by thread

  -- a sum over all actions is one over the bodies
  bodies_sum : (g : ℕ → ℕ) (k : ℕ) → k ≤ T.threads → sum_to (λ t. sum_to (λ i. g (T.first t + i)) (T.count t)) k ≡ sum_to g (counts_below T k)
  unfolding sum_to
  bodies_sum g zero h = refl
  bodies_sum g (suc k) h = rw (sum_to_append g (counts_below T k) (T.count k), first_is T l.contents k h) (omega (arith, bodies_sum g k (omega arith)))

  -- the amounts of the actions done, thread by thread
  pub done_sum : (g : ℕ → ℕ) → sum_to (λ t. sum_to (λ i. g (T.first t + i)) (progress T st t)) T.threads ≡ sum_done T st g
  done_sum g =
      sum_to_cong _ _ T.threads body ∙ bodies_sum (of_done T st g) T.threads (omega arith) ∙ ap (λ k. sum_to (of_done T st g) k) (counts_all T l.contents)
    where
      body : (t : ℕ) → t < T.threads → sum_to (λ i. g (T.first t + i)) (progress T st t) ≡ sum_to (λ i. of_done T st g (T.first t + i)) (T.count t)
      body t h =
          sym (sum_to_front (λ i. g (T.first t + i)) (progress T st t) (T.count t) (progress_within t h))
          ∙ sum_to_cong _ _ (T.count t) (λ i k. rw (done_at t i h k))

  -- Each thread's amount so far, its joined children's whole amounts with it, counts until the thread is joined and so counts in its parent's: together they are what was done.
  pub parts_sum : (own : ℕ → ℕ) → sum_to (λ t. pick (is_joined T st t) 0 (part_of T own t (progress T st t))) T.threads ≡ sum_done T st own
  unfolding joined_in
  parts_sum own =
      omega (
        arith,
        sum_to_add unjoined joined part T.threads (λ t h. split t h (is_joined T st t) refl),
        done_sum (with_child T join own (whole T own)),
        sum_to_add (of_done T st own) (of_done T st child) (of_done T st (with_child T join own (whole T own))) T.actions (λ a h. pick_add (is_done T st a) (own a) (child a)),
        sum_targets (λ a. is join (kind T a)) (is_done T st) T.argument (whole T own) T.threads T.actions
            (λ a h k. join_below T l.contents l.bodies a h (is_true join (kind T a) k))
            (joins_one T l.contents l.bodies l.nesting),
      )
    where
      part : ℕ → ℕ
      part t = part_of T own t (progress T st t)

      unjoined : ℕ → ℕ
      unjoined t = pick (is_joined T st t) 0 (part t)

      joined : ℕ → ℕ
      joined t = pick (is_joined T st t) (whole T own t) 0

      child : ℕ → ℕ
      child a = pick (is join (kind T a)) (whole T own (T.argument a)) 0

      split : (t : ℕ) → t < T.threads → (j : Bool) → is_joined T st t ≡ j → pick j 0 (part t) + pick j (whole T own t) 0 ≡ part t
      split t h true e = rw (progress_ended t (joined_ended t h e), whole_is T l.contents l.bodies own t h) (omega arith)
      split t h false e = omega arith

  -- what the thread frees is at most what it allocates
  frees_within : (t : ℕ) → t < T.threads → part_of T (free_of T) t (progress T st t) ≤ part_of T (alloc_of T) t (progress T st t)
  frees_within t h = part_held T l.contents l.bodies l.nesting l.balances t (progress T st t) h (progress_within t h)

  pub held_shares : st.held ≡ sum_to (share T st) T.threads
  unfolding share_in
  held_shares =
      omega (
        arith,
        f.amount,
        parts_sum (alloc_of T),
        parts_sum (free_of T),
        sum_to_add (share T st) (unjoined (free_of T)) (unjoined (alloc_of T)) T.threads (λ t h. pick_less (is_joined T st t) _ _ (frees_within t h)),
      )
    where
      unjoined : (ℕ → ℕ) → ℕ → ℕ
      unjoined own t = pick (is_joined T st t) 0 (part_of T own t (progress T st t))

  -- a free takes at most what its thread holds
  pub free_share : (t : ℕ) → t < T.threads → (status_of st t ≡ ended → ⊥) → kind T (next_of st t) ≡ free → T.argument (next_of st t) ≤ share T st t
  unfolding share_in
  free_share t h e k = go (is_joined T st t) refl
    where
      go : (j : Bool) → is_joined T st t ≡ j → T.argument (next_of st t) ≤ pick j 0 (balance_to T t (progress T st t))
      go true q = absurd (e (joined_ended t h q))
      go false q =
          let at : T.first t + progress T st t ≡ next_of st t = progress_next t h e in
          rw at at (balance_free T l t h (progress T st t) (omega (arith, f.next_high t h, after_end T l.contents t h)) (rw at k))

  -- no share is above what is held
  pub share_held : (t : ℕ) → t < T.threads → share T st t ≤ st.held
  share_held t h = rw held_shares (sum_to_term (share T st) t T.threads h)

  -- "a free never takes more than is held"
  pub free_held : (t : ℕ) → t < T.threads → (status_of st t ≡ ended → ⊥) → kind T (next_of st t) ≡ free → T.argument (next_of st t) ≤ st.held
  free_held t h e k = omega (arith, free_share t h e k, share_held t h)
