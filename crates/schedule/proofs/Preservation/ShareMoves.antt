-- How the shares move when an action is done: by the argument at an alloc and a free, from the child to its parent at a join, and not otherwise.
use mathlib.Core.Path.{◌≡◌, refl, sym, ◌∙◌}
use Prim.Native.Nat.{ℕ, zero, suc, ◌+◌, ◌-◌, ◌≤◌, ◌<◌}
use mathlib.Core.Bool.{Bool, true, false, ◌&&◌}
use mathlib.Core.List.{List}
use lib.ListN.{length, set, length-set}
use lib.Dec.{eqb}
use native.Mathlib.Omega.{arith}
use native.Mathlib.Decide.{ℕ_discrete}
use borrow.Author.Tests.{eqb-true, eq-eqb, ne_eqb}
use Rattle.table.specs.Sum.{any_below}
use Rattle.table.specs.Format.{code_of, is, Table, kind}
use Rattle.table.specs.declared.kinds.Kind.TheVariants.{Alloc as alloc, Free as free, Join as join}
use Rattle.table.specs.Checks.{owner, alloc_of, free_of}
use Rattle.table.proofs.Tests.{no_way, and_both, is_true, same_is}
use Rattle.table.proofs.Bodies.{after_end, join_above, join_below}
use Rattle.table.proofs.Nesting.{some_any_below, any_below_true}
use Rattle.schedule.specs.Machine.{State, ended, next_of, status_of, amount_of}
use Rattle.schedule.specs.Sound.{progress_in, joined_in, share_in, balance_to, is_done, progress, is_joined, share}
use Rattle.order.proofs.Lawful.{Lawful}
use Rattle.order.proofs.Words.{never_true}
use Rattle.order.proofs.Lists.{set_each}
use Rattle.order.proofs.Joins.{join_once}
use Rattle.schedule.proofs.Sound.Balances.{balance_step, balance_join}
use Rattle.schedule.proofs.Sound.Sharing.{Shared, shared_alike}
use Rattle.schedule.proofs.Sound.Facts.{Facts}
use Rattle.schedule.proofs.Sound.Done.{done_alike, next_below, owner_of_next}
use Rattle.schedule.proofs.Preservation.Does.{Does}
use Rattle.schedule.proofs.Sound.Shares.{progress_next, progress_ended, joined_ended, free_share}

any_cong : (f g : ℕ → Bool) (k : ℕ) → ((i : ℕ) → i < k → f i ≡ g i) → any_below f k ≡ any_below g k
unfolding any_below
any_cong f g zero h = refl
any_cong f g (suc k) h = rw (h k (omega arith), any_cong f g k (λ i l. h i (omega arith)))

-- ---- nothing is done

-- with the next actions and the ended threads the same, the shares are
pub share_alike : (T : Table) (st st' : State) → ((u : ℕ) → next_of st' u ≡ next_of st u) → ((u : ℕ) → eqb (status_of st' u) ended ≡ eqb (status_of st u) ended)
    → (t : ℕ) → share T st' t ≡ share T st t
unfolding share_in progress_in joined_in
share_alike T st st' n e t = rw (joined, n t, e t)
  where
    joined : is_joined T st' t ≡ is_joined T st t
    joined = any_cong _ _ T.actions (λ a h. rw (done_alike T st a st' (n (owner T a)) (e (owner T a))))

-- ---- an action is done

-- thread t has done one action more, the others as many as before
pub record Progressed (T : Table) (t : ℕ) (st st' : State) : Type 0 where
  pub here : progress T st' t ≡ suc (progress T st t)
  pub there : (u : ℕ) → (u ≡ t → ⊥) → progress T st' u ≡ progress T st u

-- a thread that has not ended stands at the action after its next one
pub over_progressed : (T : Table) (p K : ℕ) (st st' : State) → Facts T p K st → (t a : ℕ) → t < T.threads → next_of st t ≡ a → (status_of st t ≡ ended → ⊥)
    → ((u : ℕ) → eqb (status_of st' u) ended ≡ eqb (status_of st u) ended) → next_of st' t ≡ suc a → ((u : ℕ) → (u ≡ t → ⊥) → next_of st' u ≡ next_of st u)
    → Progressed T t st st'
unfolding progress_in
over_progressed T p K st st' f t a h next live ends over beside =
    record {
      here = rw (ends t, ne_eqb (status_of st t) ended live, over) (omega (arith, f.next_low t h, next));
      there = λ u d. rw (ends u, beside u d);
    }

module _ (T : Table) (l : Lawful T) (p K : ℕ) (st : State) (f : Facts T p K st) (t a : ℕ) (below : t < T.threads) (next : next_of st t ≡ a) (live : status_of st t ≡ ended → ⊥)
    (st' : State) (x : Does T a st st') (g : Progressed T t st st') where
  inside : a < T.actions
  inside = rw next at (next_below T l p K st f t below)

  own : owner T a ≡ t
  own = rw next at (owner_of_next T l p K st f t below)

  place : T.first t + progress T st t ≡ a
  place = progress_next T l p K st f t below live ∙ next

  more : progress T st t < T.count t
  more = omega (arith, place, f.next_high t below, after_end T l.contents t below)

  -- a join's child has a higher number than its thread
  higher : kind T a ≡ join → t < T.argument a
  higher k = rw own at (join_above T l.contents l.bodies a inside k)

  -- ---- who is joined

  -- a thread that a does not join is joined as before
  joined_same : (u : ℕ) → (kind T a ≡ join → T.argument a ≡ u → ⊥) → is_joined T st' u ≡ is_joined T st u
  unfolding joined_in
  joined_same u n = any_cong _ _ T.actions (λ d h. at d (ℕ_discrete d a))
    where
      here : (j s : Bool) → is join (kind T a) ≡ j → eqb (T.argument a) u ≡ s → (j && (s && is_done T st' a)) ≡ (j && (s && is_done T st a))
      here false s i e = refl
      here true false i e = refl
      here true true i e = absurd (n (is_true join (kind T a) i) (eqb-true (T.argument a) u e))

      at : (d : ℕ) → Dec (d ≡ a)
          → (is join (kind T d) && (eqb (T.argument d) u && is_done T st' d)) ≡ (is join (kind T d) && (eqb (T.argument d) u && is_done T st d))
      at d (yes e) = rw e (here (is join (kind T a)) (eqb (T.argument a) u) refl refl)
      at d (no e) = rw (x.same d e)

  unjoined : is_joined T st t ≡ false
  unjoined = never_true (is_joined T st t) (λ j. live (joined_ended T l p K st f t below j))

  -- at most one action joins a thread, so the child of a join that is not done is not joined
  child_unjoined : kind T a ≡ join → is_joined T st (T.argument a) ≡ false
  unfolding joined_in
  child_unjoined k = never_true (is_joined T st (T.argument a)) other
    where
      other : is_joined T st (T.argument a) ≡ true → ⊥
      other j =
          let (d, h, y) = any_below_true (λ d. is join (kind T d) && (eqb (T.argument d) (T.argument a) && is_done T st d)) T.actions j in
          let (i, z) = and_both (is join (kind T d)) (eqb (T.argument d) (T.argument a) && is_done T st d) y in
          let (e, q) = and_both (eqb (T.argument d) (T.argument a)) (is_done T st d) z in
          let same : d ≡ a = join_once T l.contents l.bodies l.nesting d a h inside (is_true join (kind T d) i) k (eqb-true _ _ e) in
          no_way (cc x.not_yet)

  child_joined : kind T a ≡ join → is_joined T st' (T.argument a) ≡ true
  unfolding joined_in
  child_joined k =
      some_any_below _ T.actions a inside (rw (same_is join (kind T a) k, eq-eqb (T.argument a) (T.argument a) refl) x.now)

  -- ---- the shares

  share_before : share T st t ≡ balance_to T t (progress T st t)
  unfolding share_in
  share_before = rw unjoined

  share_after : share T st' t ≡ balance_to T t (suc (progress T st t))
  unfolding share_in
  share_after = rw (joined_same t (λ k e. omega (arith, higher k)), unjoined, g.here)

  goes_share : is join (kind T a) ≡ false → share T st' t + free_of T a ≡ share T st t + alloc_of T a
  goes_share k = rw (share_before, share_after) (rw place at (balance_step T l t below (progress T st t) more (rw place k)))

  other_share : (u : ℕ) → (u ≡ t → ⊥) → (kind T a ≡ join → T.argument a ≡ u → ⊥) → share T st' u ≡ share T st u
  unfolding share_in
  other_share u d n = rw (joined_same u n, g.there u d)

  child_share : kind T a ≡ join → share T st' (T.argument a) ≡ 0
  unfolding share_in
  child_share k = rw (child_joined k)

  -- an ended child that is not joined holds its final balance
  child_before : kind T a ≡ join → status_of st (T.argument a) ≡ ended → share T st (T.argument a) ≡ balance_to T (T.argument a) (T.count (T.argument a))
  unfolding share_in
  child_before k e = rw (child_unjoined k, progress_ended T l p K st f (T.argument a) e)

  join_share : kind T a ≡ join → status_of st (T.argument a) ≡ ended → share T st' t ≡ share T st t + share T st (T.argument a)
  join_share k e = rw (share_before, share_after, child_before k e) (rw place at (balance_join T l t below (progress T st t) more (rw place k)))

  -- ---- the amounts

  thread_fits : (u : ℕ) → u < T.threads → u < length st.amounts
  thread_fits u h = omega (arith, f.shared.size, l.few_threads)

  -- an action that draws nothing, gives nothing back and joins no child
  pub shared_same : alloc_of T a ≡ 0 → free_of T a ≡ 0 → is join (kind T a) ≡ false → Shared T st'.next st'.status st.amounts
  shared_same e d j = shared_alike T st.next st.status st'.next st'.status st.amounts f.shared (λ u h. at u (ℕ_discrete u t))
    where
      at : (u : ℕ) → Dec (u ≡ t) → share T st' u ≡ share T st u
      at u (yes q) = rw q (omega (arith, goes_share j))
      at u (no q) = other_share u q (λ k i. no_way (cc (same_is join (kind T a) k)))

  -- thread t's amount alone moves
  own_moves : (y : ℕ) → is join (kind T a) ≡ false → y ≡ share T st' t → Shared T st'.next st'.status (set st.amounts t y)
  own_moves y j e =
      record {
        size = length-set st.amounts t y ∙ f.shared.size;
        each =
            set_each st.amounts t y 0 (λ u z. u < T.threads → z ≡ share T st' u) (thread_fits t below) (λ h. e)
            (λ u d h. f.shared.each u h ∙ sym (other_share u d (λ k i. no_way (cc (same_is join (kind T a) k)))));
        rest =
            set_each st.amounts t y 0 (λ u z. T.threads ≤ u → z ≡ 0) (thread_fits t below) (λ h. absurd (omega (arith, below))) (λ u d. f.shared.rest u);
      }

  pub shared_alloc : kind T a ≡ alloc → Shared T st'.next st'.status (set st.amounts t (amount_of st t + T.argument a))
  unfolding alloc_of free_of is code_of
  shared_alloc k = own_moves _ (rw k) (omega (arith, f.shared.each t below, rw k at (goes_share (rw k))))

  pub shared_free : kind T a ≡ free → Shared T st'.next st'.status (set st.amounts t (amount_of st t - T.argument a))
  unfolding alloc_of free_of is code_of
  shared_free k =
      let h : T.argument a ≤ share T st t = rw next at (free_share T l p K st f t below live (rw next k)) in
      own_moves _ (rw k) (omega (arith, f.shared.each t below, rw k at (goes_share (rw k))))

  -- "a join moves the child's amount to its parent"
  pub shared_join : kind T a ≡ join → status_of st (T.argument a) ≡ ended
      → Shared T st'.next st'.status (set (set st.amounts t (amount_of st t + amount_of st (T.argument a))) (T.argument a) 0)
  shared_join k e =
      record {
        size = length-set parents c 0 ∙ length-set st.amounts t sum ∙ f.shared.size;
        each =
            set_each parents c 0 0 (λ u z. u < T.threads → z ≡ share T st' u) child_fits (λ h. sym (child_share k))
            (λ u n. set_each st.amounts t sum 0 (λ u z. (u ≡ c → ⊥) → u < T.threads → z ≡ share T st' u) (thread_fits t below)
            (λ n h. moved)
            (λ u d n h. f.shared.each u h ∙ sym (other_share u d (λ i q. n (sym q)))) u n);
        rest =
            set_each parents c 0 0 (λ u z. T.threads ≤ u → z ≡ 0) child_fits (λ h. refl)
            (λ u n. set_each st.amounts t sum 0 (λ u z. T.threads ≤ u → z ≡ 0) (thread_fits t below) (λ h. absurd (omega (arith, below))) (λ u d. f.shared.rest u) u);
      }
    where
      c : ℕ
      c = T.argument a

      sum : ℕ
      sum = amount_of st t + amount_of st c

      parents : List ℕ
      parents = set st.amounts t sum

      child : c < T.threads
      child = join_below T l.contents l.bodies a inside k

      child_fits : c < length parents
      child_fits = rw (length-set st.amounts t sum) (thread_fits c child)

      moved : sum ≡ share T st' t
      moved = omega (arith, f.shared.each t below, f.shared.each c child, join_share k e)
