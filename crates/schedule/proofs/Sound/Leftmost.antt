-- The first action in serial order that is not done: while the root has not ended it is the next one of the leftmost thread, and it is enabled. With the root ended everything is done.
use mathlib.Core.Path.{◌≡◌, refl}
use Prim.Native.Nat.{ℕ, zero, suc, ◌≤◌, ◌<◌}
use native.Mathlib.Omega.{arith}
use native.Mathlib.Decide.{dec_lt}
use mathlib.Core.List.Memᴰ
use mathlib.Core.List.{List, ◌∷◌, Memᴰ}
use mathlib.Core.Bool.{Bool, true, false}
use mathlib.Core.Logic.{◌⊎◌, inl, inr}
use Rattle.table.specs.Format.{Table, kind}
use Rattle.table.specs.declared.kinds.Kind.TheVariants.{Join as join}
use Rattle.table.specs.Checks.{owner, end_of}
use Rattle.table.specs.Level.{fork_below}
use Rattle.table.proofs.Tests.{no_way}
use Rattle.table.proofs.Bodies.{owner_below_lem, join_below}
use Rattle.table.proofs.Nesting.{fork_found, fork_exists}
use Rattle.schedule.specs.Machine.{State, unborn, ready, held, waiting, ended, next_of, status_of}
use Rattle.schedule.specs.Sound.{is_done}
use Rattle.order.specs.Order.{number_of}
use Rattle.order.proofs.Lawful.{Lawful}
use Rattle.schedule.proofs.Sound.Facts.{Done, Facts}
use Rattle.order.proofs.Numbers.{number_rises, number_child, number_depends}
use Rattle.order.proofs.Words.{Ascends}
use Rattle.schedule.proofs.Sound.Done.{done_low, undone, done_ended, ended_all, number_first, next_below, owner_of_next}
use Rattle.schedule.proofs.Bounds.Beyond.{Enabled}
use Rattle.order.proofs.Joins.{join_depends, by_joins}

-- of the five statuses, neither unborn nor waiting nor ended
ready_or_held : (s : ℕ) → s ≤ ended → (s ≡ unborn → ⊥) → (s ≡ waiting → ⊥) → (s ≡ ended → ⊥) → (s ≡ ready) ⊎ (s ≡ held)
ready_or_held zero h u v w = absurd (u refl)
ready_or_held (suc zero) h u v w = inl refl
ready_or_held (suc (suc zero)) h u v w = inr refl
ready_or_held (suc (suc (suc zero))) h u v w = absurd (v refl)
ready_or_held (suc (suc (suc (suc zero)))) h u v w = absurd (w refl)
ready_or_held (suc (suc (suc (suc (suc k))))) h u v w = absurd (omega arith)

module _ (T : Table) (l : Lawful T) (p K : ℕ) (st : State) (f : Facts T p K st) where
  -- ---- what is done, thread by thread

  -- the next action of a thread not ended is not done
  pub next_undone : (t : ℕ) → t < T.threads → (status_of st t ≡ ended → ⊥) → is_done T st (next_of st t) ≡ false
  next_undone t h e =
      let o : owner T (next_of st t) ≡ t = owner_of_next T l p K st f t h in
      undone T st (next_of st t) (rw o (omega arith)) (rw o e)

  -- ---- the root has ended

  pub all_done : status_of st 0 ≡ ended → (a : ℕ) → a < T.actions → Done T st a
  all_done e a h =
      ended_all T l p K st f a h
      (by_joins T l.contents l.bodies l.nesting l.forking (λ t. status_of st t ≡ ended) e
      (λ j i k q.
      let w : T.argument j < T.threads = join_below T l.contents l.bodies j i k in
      done_ended T l p K st f (T.argument j) w (f.ordered j (end_of T (T.argument j)) i (ended_all T l p K st f j i q) (join_depends T j k)))
      (owner T a) (owner_below_lem T l.contents a h))

  -- ---- an action that is not done while all before it are

  module _ (a : ℕ) (within : a < T.actions) (not_yet : is_done T st a ≡ false) (lower : (d : ℕ) → d < T.actions → number_of T d < number_of T a → Done T st d) where
    below : owner T a < T.threads
    below = owner_below_lem T l.contents a within

    unended : status_of st (owner T a) ≡ ended → ⊥
    unended e = no_way (cc (ended_all T l p K st f a within e))

    born : status_of st (owner T a) ≡ unborn → ⊥
    born e = go (owner T a) refl
      where
        go : (t : ℕ) → owner T a ≡ t → ⊥
        go zero o = f.root_born (rw o at e)
        go (suc t) o =
            let w : suc t < T.threads = rw o at below in
            let x = fork_exists T l.contents l.bodies l.nesting l.forking (suc t) (omega arith) w in
            let y : fork_below T T.actions (suc t) ≡ x.0 = rw x.3 at (fork_found T l.contents l.bodies l.nesting x.0 x.1 x.2) in
            let z : is_done T st x.0 ≡ false = rw y at (f.unborn_fork (suc t) (omega arith) w (rw o at e)) in
            let n : number_of T (T.first (suc t)) ≡ suc (number_of T x.0) = rw x.3 at (number_child T l x.0 x.1 x.2) in
            let m : number_of T (T.first (suc t)) ≤ number_of T a = rw o at (number_first T l a within) in
            no_way (cc (lower x.0 x.1 (omega arith)))

    -- it is its thread's next
    first_next : next_of st (owner T a) ≡ a
    first_next = go (dec_lt (next_of st (owner T a)) a) (dec_lt a (next_of st (owner T a)))
      where
        go : Dec (next_of st (owner T a) < a) → Dec (a < next_of st (owner T a)) → next_of st (owner T a) ≡ a
        go (yes i) q =
            let d : ℕ = next_of st (owner T a) in
            no_way (cc (
              lower d (next_below T l p K st f (owner T a) below) (number_rises T l d a i within (owner_of_next T l p K st f (owner T a) below)),
              next_undone (owner T a) below unended,
            ))
        go (no i) (yes q) = no_way (cc (done_low T st a q))
        go (no i) (no q) = omega arith

    first_listed : Memᴰ (owner T a) st.list
    first_listed = f.live_listed (owner T a) below born unended

  -- ---- the leftmost thread's next action

  module _ (t : ℕ) (others : List ℕ) (leftmost : st.list ≡ t ∷ others) where
    -- no listed thread's next action is lower
    leftmost_lowest : (u : ℕ) → Memᴰ u st.list → number_of T (next_of st t) ≤ number_of T (next_of st u)
    unfolding Ascends
    leftmost_lowest u m = go (Memᴰ.cases_cons (rw leftmost at m))
      where
        go : (u ≡ t) ⊎ Memᴰ u others → number_of T (next_of st t) ≤ number_of T (next_of st u)
        go (inl e) = rw e (omega arith)
        go (inr i) = omega (arith, (rw leftmost at f.serial).0 u i)

    leftmost_listed : Memᴰ t st.list
    leftmost_listed = rw leftmost (Memᴰ.head refl)

    -- all actions before it are done
    pub front_done : (a : ℕ) → a < T.actions → number_of T a < number_of T (next_of st t) → Done T st a
    front_done a h i = go (suc (number_of T a)) a h (omega arith) i
      where
        go : (k a : ℕ) → a < T.actions → number_of T a < k → number_of T a < number_of T (next_of st t) → Done T st a
        go zero a h j i = absurd (omega arith)
        go (suc k) a h j i = test (is_done T st a) refl (λ d q r. go k d q (omega arith) (omega arith))
          where
            test : (q : Bool) → is_done T st a ≡ q → ((d : ℕ) → d < T.actions → number_of T d < number_of T a → Done T st d) → q ≡ true
            test true e lower = refl
            test false e lower =
                let n : next_of st (owner T a) ≡ a = first_next a h e lower in
                let m : number_of T (next_of st t) ≤ number_of T a = rw n at (leftmost_lowest (owner T a) (first_listed a h e lower)) in
                absurd (omega arith)

    leftmost_joined : kind T (next_of st t) ≡ join → status_of st (T.argument (next_of st t)) ≡ ended
    leftmost_joined k =
        let w : next_of st t < T.actions = next_below T l p K st f t (f.list_below t leftmost_listed) in
        let x : ℕ = end_of T (T.argument (next_of st t)) in
        let (i, j) = number_depends T l (next_of st t) x w (join_depends T (next_of st t) k) in
        done_ended T l p K st f (T.argument (next_of st t)) (join_below T l.contents l.bodies (next_of st t) w k) (front_done x i j)

    pub leftmost_enabled : Enabled T st t
    leftmost_enabled =
        let below : t < T.threads = f.list_below t leftmost_listed in
        let waits : status_of st t ≡ waiting → ⊥ = λ e. f.wait_open t below e (leftmost_joined (f.wait_join t below e)) in
        record {
          below = below;
          taken = ready_or_held (status_of st t) (f.status_known t below) (f.list_born t leftmost_listed) waits (f.list_unended t leftmost_listed);
          joined = leftmost_joined;
        }

    pub leftmost_undone : is_done T st (next_of st t) ≡ false
    leftmost_undone = next_undone t (f.list_below t leftmost_listed) (f.list_unended t leftmost_listed)
