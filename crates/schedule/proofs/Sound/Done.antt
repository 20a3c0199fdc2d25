-- What is done and what is not, in a sound state: nothing of an unborn thread, everything that a born thread's next action comes after, and nothing between a fork to come and the
-- action after it.
use mathlib.Core.Path.{◌≡◌, refl, ◌∙◌}
use Prim.Native.Nat.{ℕ, zero, suc, ◌≤◌, ◌<◌}
use mathlib.Core.List.{[], ◌∷◌, Memᴰ}
use mathlib.Core.Bool.{Bool, true, false, and-false, or-false}
use mathlib.Core.Logic.{◌⊎◌, inl, inr, ⊎_elim}
use native.Mathlib.Decide.{ℕ_discrete, dec_lt}
use native.Mathlib.Omega.{arith}
use lib.Dec.{ltb, eqb}
use borrow.Author.Tests.{ltb-true, eqb-true, eq-eqb, ne_eqb, lt-ltb, le-ltb}
use Rattle.table.specs.Format.{is, Table, kind}
use Rattle.table.specs.declared.kinds.Kind.TheVariants.{End as end, Fork as fork, Join as join}
use Rattle.table.specs.Checks.{owner, end_of}
use Rattle.table.specs.Level.{fork_below, depends_on}
use Rattle.table.proofs.Tests.{no_way, and_both, is_true}
use Rattle.table.proofs.Bodies.{after_end, owner_is, owner_of_end, owner_end, end_within, join_below, next_within, first_within, owner_of_first, owner_below_lem, owner_first, fork_below_lem, fork_above, next_owner}
use Rattle.table.proofs.Nesting.{fork_found, fork_exists}
use Rattle.table.proofs.Levels.{depends_step, depends_join, depends_root, depends_child, by_place}
use Rattle.schedule.specs.Machine.{State, unborn, ended, next_of, status_of}
use Rattle.schedule.specs.Sound.{is_done, done_in}
use Rattle.order.specs.Order.{number_of}
use Rattle.order.proofs.Lawful.{Lawful}
use Rattle.order.proofs.Words.{never_false, or_exactly, eqb_same}
use Rattle.order.proofs.Numbers.{number_child, number_rises, number_between}
use Rattle.schedule.proofs.Sound.Facts.{Done, Facts}

-- ---- done or not, by the thread's next action

module _ (T : Table) (st : State) (d : ℕ) where
  pub done_low : d < next_of st (owner T d) → Done T st d
  unfolding done_in
  done_low h = rw (lt-ltb d (next_of st (owner T d)) h)

  pub done_last : d ≡ next_of st (owner T d) → status_of st (owner T d) ≡ ended → Done T st d
  unfolding done_in
  done_last h e =
      rw (le-ltb d (next_of st (owner T d)) (omega arith), eq-eqb d (next_of st (owner T d)) h, eq-eqb (status_of st (owner T d)) ended e)

  -- of a thread not ended, what stands before its next action is done
  pub done_live : (status_of st (owner T d) ≡ ended → ⊥) → is_done T st d ≡ ltb d (next_of st (owner T d))
  unfolding done_in
  done_live n = rw (ne_eqb (status_of st (owner T d)) ended n, and-false (eqb d (next_of st (owner T d)))) (or-false (ltb d (next_of st (owner T d))))

  pub undone : next_of st (owner T d) ≤ d → (status_of st (owner T d) ≡ ended → ⊥) → is_done T st d ≡ false
  undone h n = done_live n ∙ le-ltb d (next_of st (owner T d)) h

  -- it stands before its thread's next action, or the thread has ended with it
  pub done_where : Done T st d → (d < next_of st (owner T d)) ⊎ ((d ≡ next_of st (owner T d)) × (status_of st (owner T d) ≡ ended))
  unfolding done_in
  done_where e =
      ⊎_elim (λ q. inl (ltb-true d (next_of st (owner T d)) q))
      (λ q.
      let (i, j) = and_both (eqb d (next_of st (owner T d))) (eqb (status_of st (owner T d)) ended) q in
      inr (eqb-true d (next_of st (owner T d)) i, eqb-true (status_of st (owner T d)) ended j))
      ((or_exactly _ _).0 e)

  -- with the thread's next action and its being ended the same, the same is done
  pub done_alike : (st' : State) → next_of st' (owner T d) ≡ next_of st (owner T d) → eqb (status_of st' (owner T d)) ended ≡ eqb (status_of st (owner T d)) ended
      → is_done T st' d ≡ is_done T st d
  unfolding done_in
  done_alike st' n e = rw (n, e)

  -- with the thread's next action the same, the other actions that are done are the same, whether it has ended or not
  pub done_ending : (st' : State) (a : ℕ) → next_of st (owner T d) ≡ a → next_of st' (owner T d) ≡ a → (d ≡ a → ⊥) → is_done T st' d ≡ is_done T st d
  unfolding done_in
  done_ending st' a n n' j = rw (n, n', ne_eqb d a j)

  pub done_same : (st' : State) → next_of st' (owner T d) ≡ next_of st (owner T d) → (status_of st' (owner T d) ≡ ended → status_of st (owner T d) ≡ ended)
      → (status_of st (owner T d) ≡ ended → status_of st' (owner T d) ≡ ended) → is_done T st' d ≡ is_done T st d
  done_same st' e to back = done_alike st' e (eqb_same (status_of st' (owner T d)) (status_of st (owner T d)) ended to back)

-- a thread's first action has its lowest number
pub number_first : (T : Table) → Lawful T → (d : ℕ) → d < T.actions → number_of T (T.first (owner T d)) ≤ number_of T d
number_first T l d h = go (ℕ_discrete (T.first (owner T d)) d)
  where
    go : Dec (T.first (owner T d) ≡ d) → number_of T (T.first (owner T d)) ≤ number_of T d
    go (yes r) = let y : number_of T (T.first (owner T d)) ≡ number_of T d = cc in omega arith
    go (no r) =
        let below : T.first (owner T d) < d = omega (arith, owner_first T l.contents d h) in
        omega (arith, number_rises T l (T.first (owner T d)) d below h (owner_of_first T l.contents (owner T d) (owner_below_lem T l.contents d h)))

-- ---- in a sound state

module _ (T : Table) (l : Lawful T) (p K : ℕ) (st : State) (f : Facts T p K st) where
  pub next_below : (t : ℕ) → t < T.threads → next_of st t < T.actions
  next_below t h = omega (arith, f.next_high t h, end_within T l.contents t h)

  pub owner_of_next : (t : ℕ) → t < T.threads → owner T (next_of st t) ≡ t
  owner_of_next t h = owner_is T l.contents t (next_of st t) h (f.next_low t h) (omega (arith, f.next_high t h, after_end T l.contents t h))

  -- a thread whose end is done has ended, and all of an ended thread is done
  pub done_ended : (t : ℕ) → t < T.threads → Done T st (end_of T t) → status_of st t ≡ ended
  done_ended t h d = go (rw (owner_of_end T l.contents t h) at (done_where T st (end_of T t) d))
    where
      go : (end_of T t < next_of st t) ⊎ ((end_of T t ≡ next_of st t) × (status_of st t ≡ ended)) → status_of st t ≡ ended
      go (inl i) = absurd (omega (arith, f.next_high t h))
      go (inr i) = i.1

  pub ended_all : (a : ℕ) → a < T.actions → status_of st (owner T a) ≡ ended → Done T st a
  ended_all a h e = go (ℕ_discrete a (next_of st (owner T a)))
    where
      u : ℕ
      u = owner T a

      w : u < T.threads
      w = owner_below_lem T l.contents a h

      go : Dec (a ≡ next_of st u) → Done T st a
      go (yes i) = done_last T st a i e
      go (no i) = done_low T st a (omega (arith, i, f.ended_last u w e, after_end T l.contents u w, owner_end T l.contents a h))

  -- a child not yet forked is unborn
  pub undone_unborn : (x : ℕ) → x < T.actions → kind T x ≡ fork → is_done T st x ≡ false → status_of st (T.argument x) ≡ unborn
  undone_unborn x h k n =
      f.fork_unborn (T.argument x) (omega (arith, fork_above T l.contents l.bodies x h k)) (fork_below_lem T l.contents l.bodies x h k)
      (rw (fork_found T l.contents l.bodies l.nesting x h k) n)

  -- a born thread's fork is done
  pub born_forked : (x : ℕ) → x < T.actions → kind T x ≡ fork → (status_of st (T.argument x) ≡ unborn → ⊥) → Done T st x
  born_forked x h k n = never_false (is_done T st x) (λ e. n (undone_unborn x h k e))

  -- what a born thread's next action depends on is done, where that is no join of a child not ended
  pub next_depends : (t : ℕ) → t < T.threads → (status_of st t ≡ unborn → ⊥) → (kind T (next_of st t) ≡ join → status_of st (T.argument (next_of st t)) ≡ ended)
      → (d : ℕ) → Memᴰ d (depends_on T (next_of st t)) → Done T st d
  next_depends t h n j d m = by_place T l.contents l.bodies l.nesting l.forking P root child next (next_of st t) (next_below t h) refl j m
    where
      P : ℕ → Type 0
      P a = next_of st t ≡ a → (kind T a ≡ join → status_of st (T.argument a) ≡ ended) → Memᴰ d (depends_on T a) → Done T st d

      root : 0 < T.threads → P (T.first 0)
      root s e i k = absurd (mathlib.Core.List.Memᴰ.not-nil (rw (depends_root T l.contents l.bodies l.nesting s) at k))

      child : (a : ℕ) → a < T.actions → kind T a ≡ fork → P (T.first (T.argument a))
      child a s q e i k =
          let o : T.argument a ≡ t = cc (owner_of_next t h, owner_of_first T l.contents (T.argument a) (fork_below_lem T l.contents l.bodies a s q)) in
          let y : d ≡ a = mathlib.Core.List.Memᴰ.eq_of_singleton (rw (depends_child T l.contents l.bodies l.nesting a s q) at k) in
          rw y (born_forked a s q (rw o n))

      next : (a : ℕ) → a < T.actions → is end (kind T a) ≡ false → P (suc a)
      next a s q e i k = go (is join (kind T (suc a))) refl
        where
          before : d ≡ a → Done T st d
          before y =
              let o : owner T a ≡ t = cc (owner_of_next t h, next_owner T l.contents l.bodies a s q) in
              rw y (done_low T st a (rw (o, e) (omega arith)))

          child_end : kind T (suc a) ≡ join → Done T st (end_of T (T.argument (suc a)))
          child_end j =
              let w : T.argument (suc a) < T.threads = join_below T l.contents l.bodies (suc a) (next_within T l.contents l.bodies a s q) j in
              ended_all (end_of T (T.argument (suc a))) (end_within T l.contents (T.argument (suc a)) w) (rw (owner_of_end T l.contents (T.argument (suc a)) w) (i j))

          go : (r : Bool) → is join (kind T (suc a)) ≡ r → Done T st d
          go true r =
              let j : kind T (suc a) ≡ join = is_true join (kind T (suc a)) r in
              let x : ℕ = end_of T (T.argument (suc a)) in
              ⊎_elim before (λ (m : Memᴰ d (x ∷ [])). let y : d ≡ x = mathlib.Core.List.Memᴰ.eq_of_singleton m in rw y (child_end j))
              (mathlib.Core.List.Memᴰ.cases_cons (rw (depends_join T l.contents l.bodies a s q j) at k))
          go false r = before (mathlib.Core.List.Memᴰ.eq_of_singleton (rw (depends_step T l.contents l.bodies a s q r) at k))

  -- nothing of an unborn thread is done
  pub unborn_first : (t : ℕ) → t < T.threads → status_of st t ≡ unborn → next_of st t ≡ T.first t
  unborn_first zero h e = absurd (f.root_born e)
  unborn_first (suc t) h e = go (fork_exists T l.contents l.bodies l.nesting l.forking (suc t) (omega arith) h) (dec_lt (T.first (suc t)) (next_of st (suc t)))
    where
      go : (x : ℕ) × (x < T.actions) × (kind T x ≡ fork) × (T.argument x ≡ suc t) → Dec (T.first (suc t) < next_of st (suc t)) → next_of st (suc t) ≡ T.first (suc t)
      go (x, i, k, q) (yes s) =
          let done : Done T st (T.first (suc t)) = done_low T st (T.first (suc t)) (rw (owner_of_first T l.contents (suc t) h) s) in
          let m : Memᴰ x (depends_on T (T.first (suc t))) = rw (← q, depends_child T l.contents l.bodies l.nesting x i k) (mathlib.Core.List.Memᴰ.head refl) in
          let y : Done T st x = f.ordered (T.first (suc t)) x (first_within T l.contents (suc t) h) done m in
          no_way (cc (f.unborn_fork (suc t) (omega arith) h e, fork_found T l.contents l.bodies l.nesting x i k))
      go x (no s) = omega (arith, f.next_low (suc t) h)

  pub unborn_undone : (d : ℕ) → d < T.actions → status_of st (owner T d) ≡ unborn → is_done T st d ≡ false
  unborn_undone d h e =
      let first : next_of st (owner T d) ≤ d = rw (unborn_first (owner T d) (owner_below_lem T l.contents d h) e) (owner_first T l.contents d h) in
      undone T st d first (λ q. omega arith)

  -- what lies between a fork that is not done and the action after it belongs to unborn threads
  pub between_unborn : (x : ℕ) → x < T.actions → kind T x ≡ fork → is_done T st x ≡ false
      → (d : ℕ) → d < T.actions → number_of T x < number_of T d → number_of T d < number_of T (suc x) → status_of st (owner T d) ≡ unborn
  between_unborn x h k n d i low high = along (number_of T d) d i low high (omega arith)
    where
      -- an action comes after its thread's fork
      later : (z d : ℕ) → z < T.actions → kind T z ≡ fork → d < T.actions → T.argument z ≡ owner T d → number_of T z < number_of T d
      later z d s q i r =
          let start : number_of T (T.first (owner T d)) ≡ suc (number_of T z) = rw (← r) (number_child T l z s q) in
          omega (arith, number_first T l d i)

      along : (fuel : ℕ) (d : ℕ) → d < T.actions → number_of T x < number_of T d → number_of T d < number_of T (suc x) → number_of T d ≤ fuel
          → status_of st (owner T d) ≡ unborn
      along zero d i low high e = omega arith
      along (suc fuel) d i low high e = go (along fuel) (number_between T l x d h k i low high)
        where
          go : ((y : ℕ) → y < T.actions → number_of T x < number_of T y → number_of T y < number_of T (suc x) → number_of T y ≤ fuel → status_of st (owner T y) ≡ unborn)
              → (owner T d ≡ T.argument x)
              ⊎ ((0 < owner T d) × (number_of T x < number_of T (fork_below T T.actions (owner T d))) × (number_of T (fork_below T T.actions (owner T d)) < number_of T (suc x)))
              → status_of st (owner T d) ≡ unborn
          go ih (inl o) = rw o (undone_unborn x h k n)
          go ih (inr (pos, above, below)) =
              let (z, s, q, r) = fork_exists T l.contents l.bodies l.nesting l.forking (owner T d) pos (owner_below_lem T l.contents d i) in
              let y : fork_below T T.actions (owner T d) ≡ z = cc (r, fork_found T l.contents l.bodies l.nesting z s q) in
              let none : status_of st (owner T z) ≡ unborn = ih z s (rw y at above) (rw y at below) (omega (arith, later z d s q i r)) in
              cc (r, undone_unborn z s q (unborn_undone z s none))
