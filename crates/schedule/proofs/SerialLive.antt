-- Every state that keeps what any kind of run keeps has a list of its live threads in serial order; so what a turn keeps of a run with a list, it keeps of any.
use mathlib.Core.Path.{◌≡◌, refl, sym, subst, ap, ◌∙◌}
use Prim.Native.Nat.{ℕ, zero, suc, ◌+◌, ◌≤◌, ◌<◌}
use mathlib.Core.List.Memᴰ
use mathlib.Core.List.{List, [], ◌∷◌, Memᴰ}
use mathlib.Core.Bool.{Bool, true, false, ◌&&◌}
use mathlib.Core.Logic.{⊎_elim, ◌↔◌}
use native.Mathlib.Omega.{arith}
use native.Mathlib.Decide.{ℕ_discrete}
use lib.ListN.{get_or}
use lib.Dec.{ltb, eqb}
use borrow.Author.Tests.{eqb-true, eq-eqb, lt-ltb}
use Rattle.table.specs.Sum.{pick}
use Rattle.table.specs.Format.{Table}
use Rattle.table.specs.Checks.{owner, end_of}
use Rattle.table.specs.Serial.{serial_order}
use Rattle.table.proofs.Bodies.{end_within, owner_is, after_end, owner_below_lem}
use Rattle.order.specs.Order.{number_of}
use Rattle.schedule.specs.declared.Worker.{Worker}
use Rattle.schedule.specs.Machine.{State, unborn, ended}
use Rattle.schedule.specs.Sound.{live_in, next_in_body, Common, Listed}
use Rattle.order.proofs.Lawful.{Lawful}
use Rattle.order.proofs.Numbers.{number_below, number_place, place_number}
use Rattle.order.proofs.Words.{and_exactly, all_in_exactly, Ascends, not_eqb_exactly, and_of}
use Rattle.schedule.proofs.Sound.Facts.{Facts, facts}
use Rattle.schedule.proofs.Sound.Clauses.{next_in_body_exactly, list_follows_exactly, in_serial_order_exactly}

live_is : (status : List ℕ) (t : ℕ) → (live_in status t ≡ true) ↔ ((get_or status t 0 ≡ unborn → ⊥) × (get_or status t 0 ≡ ended → ⊥))
unfolding live_in
live_is status t = and_of (not_eqb_exactly _ _) (not_eqb_exactly _ _)

module _ (T : Table) (next status : List ℕ) where
  -- the action is the next one of a live thread
  unfoldable pub live_next : ℕ → Bool
  live_next a = eqb (get_or next (owner T a) 0) a && live_in status (owner T a)

  live_parts : (a : ℕ) → live_next a ≡ true → (get_or next (owner T a) 0 ≡ a) × (live_in status (owner T a) ≡ true)
  unfolding live_next
  live_parts a e =
      let q = (and_exactly (eqb (get_or next (owner T a) 0) a) (live_in status (owner T a))).0 e in
      (eqb-true (get_or next (owner T a) 0) a q.0, q.1)

  abbrev pub at : ℕ → ℕ
  at i = get_or (serial_order T) i 0

  -- the threads of such actions, over k places of serial order from i on
  unfoldable pub live_from : ℕ → ℕ → List ℕ
  live_from zero i = []
  live_from (suc k) i = pick (live_next (at i)) (owner T (at i) ∷ live_from k (suc i)) (live_from k (suc i))

  pub record Stands (i k u : ℕ) : Type 0 where
    pub place : ℕ
    pub low : i ≤ place
    pub high : place < i + k
    pub live : live_next (at place) ≡ true
    pub is : owner T (at place) ≡ u

  later : (i k u : ℕ) → Stands (suc i) k u → Stands i (suc k) u
  later i k u s = record { place = s.place; low = omega (arith, s.low); high = omega (arith, s.high); live = s.live; is = s.is }

  stands : (k i u : ℕ) → Memᴰ u (live_from k i) → Stands i k u
  unfolding live_from
  stands zero i u m = absurd (Memᴰ.not-nil m)
  stands (suc k) i u m = go (live_next (at i)) refl (stands k (suc i) u) m
    where
      go : (q : Bool) → live_next (at i) ≡ q → (Memᴰ u (live_from k (suc i)) → Stands (suc i) k u)
          → Memᴰ u (pick q (owner T (at i) ∷ live_from k (suc i)) (live_from k (suc i))) → Stands i (suc k) u
      go true e ih m =
          ⊎_elim (λ (x : u ≡ owner T (at i)). record { place = i; low = omega arith; high = omega arith; live = e; is = sym x })
          (λ (n : Memᴰ u (live_from k (suc i))). later i k u (ih n)) (Memᴰ.cases_cons m)
      go false e ih m = later i k u (ih m)

  there : (k i j : ℕ) → i ≤ j → j < i + k → live_next (at j) ≡ true → Memᴰ (owner T (at j)) (live_from k i)
  unfolding live_from
  there zero i j a b e = absurd (omega arith)
  there (suc k) i j a b e = go (live_next (at i)) refl (ℕ_discrete i j) (there k (suc i) j)
    where
      go : (q : Bool) → live_next (at i) ≡ q → Dec (i ≡ j) → (suc i ≤ j → j < suc i + k → live_next (at j) ≡ true → Memᴰ (owner T (at j)) (live_from k (suc i)))
          → Memᴰ (owner T (at j)) (pick q (owner T (at i) ∷ live_from k (suc i)) (live_from k (suc i)))
      go true d (yes x) ih = Memᴰ.head (ap (λ (n : ℕ). owner T (at n)) (sym x))
      go true d (no x) ih = Memᴰ.tail (ih (omega (arith, x)) (omega arith) e)
      go false d (yes x) ih = absurd (let z : false ≡ true = sym d ∙ rw x e in elim_false z)
        where
          elim_false : false ≡ true → ⊥
          elim_false z = subst (λ b. pick b ⊥ Unit) z tt
      go false d (no x) ih = ih (omega (arith, x)) (omega arith) e

  module _ (l : Lawful T) where
    number : (i k u : ℕ) → i + k ≤ T.actions → (s : Stands i k u) → number_of T (get_or next u 0) ≡ s.place
    unfolding live_next
    number i k u h s =
        let e : get_or next (owner T (at s.place)) 0 ≡ at s.place = (live_parts (at s.place) s.live).0 in
        let n : number_of T (at s.place) ≡ s.place = (place_number T l s.place (omega (arith, s.high))).1 in
        rw (sym s.is) (rw e n)

    ascending : (k i : ℕ) → i + k ≤ T.actions → Ascends (λ t. number_of T (get_or next t 0)) (live_from k i)
    unfolding live_from Ascends
    ascending zero i h = tt
    ascending (suc k) i h = go (live_next (at i)) refl (ascending k (suc i) (omega arith))
      where
        f : ℕ → ℕ
        f t = number_of T (get_or next t 0)

        here : live_next (at i) ≡ true → f (owner T (at i)) ≡ i
        here e = number i (suc k) (owner T (at i)) h (record { place = i; low = omega arith; high = omega arith; live = e; is = refl })

        go : (q : Bool) → live_next (at i) ≡ q → Ascends f (live_from k (suc i)) → Ascends f (pick q (owner T (at i) ∷ live_from k (suc i)) (live_from k (suc i)))
        go true e ih = (
          (λ y m.
              let s : Stands (suc i) k y = stands k (suc i) y m in
              omega (arith, here e, number (suc i) k y (omega arith) s, s.low)),
          ih,
        )
        go false e ih = ih

    abbrev pub serial_live : List ℕ
    serial_live = live_from T.actions 0

    module _ (placed : (t : ℕ) → t < T.threads → next_in_body T next t ≡ true) where
      live_there : (t : ℕ) → t < T.threads → live_in status t ≡ true → Memᴰ t serial_live
      unfolding live_next
      live_there t h e =
          let a : ℕ = get_or next t 0 in
          let b : (T.first t ≤ a) × (a ≤ end_of T t) = (next_in_body_exactly T next t).0 (placed t h) in
          let w : a < T.actions = omega (arith, b.1, end_within T l.contents t h) in
          let o : owner T a ≡ t = owner_is T l.contents t a h b.0 (omega (arith, b.1, after_end T l.contents t h)) in
          let p : at (number_of T a) ≡ a = number_place T l a w in
          let q : owner T (at (number_of T a)) ≡ t = ap (owner T) p ∙ o in
          subst (λ (u : ℕ). Memᴰ u serial_live) q
          (there T.actions 0 (number_of T a) (omega arith) (omega (arith, number_below T l a w))
          ((and_exactly _ _).1 (eq-eqb _ _ (ap (λ (u : ℕ). get_or next u 0) q ∙ sym p), ap (live_in status) q ∙ e)))

      there_live : (t : ℕ) → Memᴰ t serial_live → (t < T.threads) × (live_in status t ≡ true)
      unfolding live_next
      there_live t m =
          let s : Stands 0 T.actions t = stands T.actions 0 t m in
          let w : at s.place < T.actions = (place_number T l s.place (omega (arith, s.high))).0 in (
            subst (λ (u : ℕ). u < T.threads) s.is (owner_below_lem T l.contents (at s.place) w),
            subst (λ (u : ℕ). live_in status u ≡ true) s.is (live_parts (at s.place) s.live).1,
          )

      -- the list that a run with a list would have
      pub listed_live : Listed T next status serial_live
      listed_live =
          record {
            follows = λ t h.
                (list_follows_exactly status serial_live t).1 (
                  (λ m. (live_is status t).0 (there_live t m).1),
                  (λ q. live_there t h ((live_is status t).1 q)),
                );
            threads_alone = (all_in_exactly (λ t. ltb t T.threads) serial_live).1 (λ t m. lt-ltb t T.threads (there_live t m).0);
            serial = (in_serial_order_exactly T next serial_live).1 (ascending T.actions 0 (omega arith));
          }

-- so what is said of every state with a list is said of every state with what any kind of run keeps
module _ (T : Table) (l : Lawful T) (next status amounts : List ℕ) (workers : List Worker) (amount highest : ℕ) where
  abbrev pub with_live : State
  with_live =
      record {
        next = next;
        status = status;
        amounts = amounts;
        list = serial_live T next status l;
        workers = workers;
        held = amount;
        highest = highest;
        turns = 0;
      }

  pub common_facts : (p K : ℕ) → Common T p K next status amounts workers amount highest → Facts T p K with_live
  common_facts p K c = facts T l p K with_live (record { common = c; listed = listed_live T next status l c.placed })
