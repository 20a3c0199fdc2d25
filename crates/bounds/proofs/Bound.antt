-- The memory limit for rows of turns from the beginning: memory held as an instance of what draws bound.
use mathlib.Core.Path.{◌≡◌, refl, sym, ◌∙◌}
use Prim.Native.Nat.{ℕ, zero, suc, ◌+◌, ◌-◌, ◌*◌, ◌≤◌, ◌<◌}
use native.Mathlib.Omega.{arith}
use native.Mathlib.Decide.{ℕ_discrete, dec_lt}
use native.Mathlib.Nat.{mul_assoc, mul_comm}
use mathlib.Core.List.Memᴰ
use mathlib.Core.List.{List, [], ◌∷◌, Memᴰ}
use mathlib.Core.Bool.{Bool, true, false, ◌&&◌}
use lib.ListN.{take}
use lib.Dec.{ltb}
use borrow.Author.Tests.{lt-ltb, le-ltb}
use Rattle.table.specs.Sum.{pick, sum_to, sum_over}
use Rattle.table.specs.Format.{Table}
use Rattle.table.specs.Checks.{alloc_of, free_of}
use Rattle.table.specs.Serial.{serial_order, held_after, fronts, peak_of, S1}
use Rattle.table.specs.Level.{D}
use Rattle.table.proofs.Sums.{sum_to_cong}
use Rattle.schedule.specs.Machine.{State, ended, next_of, status_of}
use Rattle.schedule.specs.Begin.{start_state}
use Rattle.schedule.specs.Sound.{is_done, of_done, sum_done}
use Rattle.order.specs.Order.{number_of}
use Rattle.schedule.specs.Memory.{row_state, Keeps, limit}
use Rattle.order.proofs.Lawful.{Lawful}
use Rattle.schedule.proofs.Sound.Facts.{Done, Facts}
use Rattle.order.proofs.Numbers.{number_below, number_once}
use Rattle.schedule.proofs.Sound.Done.{next_below}
use Rattle.order.proofs.Depth.{greatest_member}
use Rattle.order.proofs.SerialSums.{lower, front_sum}
use Rattle.order.proofs.Totals.{sum_to_add}
use Rattle.schedule.proofs.Sound.Leftmost.{all_done, front_done, leftmost_undone}
use Rattle.bounds.proofs.Draws.{spent_beyond}
use Rattle.filling.proofs.Delay.{drawn_cost, Delayed}
use Rattle.bounds.proofs.Dummies.{dummies_few}
use Rattle.bounds.proofs.Covers.{covers}
use Rattle.order.proofs.Lists.{Below}
use Rattle.bounds.proofs.RowBounds.{Covered, row_within, row_serial}

-- the first k actions of serial order are a front part of it
take_front : (k : ℕ) (l : List ℕ) → Memᴰ (take k l) (fronts l)
unfolding fronts
take_front zero [] = Memᴰ.head refl
take_front (suc k) [] = Memᴰ.head refl
take_front zero (x ∷ l) = Memᴰ.head refl
take_front (suc k) (x ∷ l) = Memᴰ.tail (Memᴰ.map (x ∷◌) (take_front k l))

front_held : (T : Table) (k : ℕ) → held_after T (take k (serial_order T)) ≤ S1 T
unfolding S1 peak_of
front_held T k = greatest_member (held_after T) (take k (serial_order T)) (fronts (serial_order T)) (take_front k (serial_order T))

-- the limit's product, with the quota in front
pub quota_first : (b K q d : ℕ) → b * K * q * d ≡ K * (b * q * d)
quota_first b K q d = rw (mul_comm b K, mul_assoc K b q, mul_assoc K (b * q) d)

-- ---- what is held in a sound state

module _ (T : Table) (l : Lawful T) (p K : ℕ) (st : State) (f : Facts T p K st) where
  -- with v the first action not done: what is done is the front part before v, and what is done beyond v
  done_parts : (v : ℕ) → v < T.actions → is_done T st v ≡ false → ((a : ℕ) → a < T.actions → number_of T a < number_of T v → Done T st a)
      → (own : ℕ → ℕ) → sum_to (lower T own (number_of T v)) T.actions + spent_beyond T own st v ≡ sum_done T st own
  unfolding spent_beyond
  done_parts v w n before own =
      sum_to_add (lower T own (number_of T v)) (λ a. pick (is_done T st a && ltb (number_of T v) (number_of T a)) (own a) 0) (of_done T st own) T.actions
      (λ a h. each a h (dec_lt (number_of T a) (number_of T v)) (ℕ_discrete (number_of T a) (number_of T v)))
    where
      beyond : (q : Bool) (x : ℕ) → 0 + pick (q && true) x 0 ≡ pick q x 0
      beyond true x = omega arith
      beyond false x = refl

      each : (a : ℕ) → a < T.actions → Dec (number_of T a < number_of T v) → Dec (number_of T a ≡ number_of T v)
          → lower T own (number_of T v) a + pick (is_done T st a && ltb (number_of T v) (number_of T a)) (own a) 0 ≡ of_done T st own a
      each a h (yes i) d = rw (lt-ltb (number_of T a) (number_of T v) i, le-ltb (number_of T v) (number_of T a) (omega arith), before a h i) (omega arith)
      each a h (no i) (yes d) =
          let e : a ≡ v = number_once T l a v h w d in
          let u : is_done T st a ≡ false = rw e n in
          rw (u, le-ltb (number_of T a) (number_of T v) (omega arith))
      each a h (no i) (no d) =
          rw (le-ltb (number_of T a) (number_of T v) (omega arith), lt-ltb (number_of T v) (number_of T a) (omega (arith, d))) (beyond (is_done T st a) (own a))

  -- with the root ended, what is done is all of serial order
  done_all : status_of st 0 ≡ ended → (own : ℕ → ℕ) → sum_done T st own ≡ sum_over own (take T.actions (serial_order T))
  done_all e own =
      sum_to_cong (of_done T st own) (lower T own T.actions) T.actions
      (λ a h. rw (all_done T l p K st f e a h, lt-ltb (number_of T a) T.actions (number_below T l a h)))
      ∙ sym (front_sum T l own T.actions (omega arith))

  pub held_ended : status_of st 0 ≡ ended → st.held ≤ S1 T
  unfolding held_after
  held_ended e = omega (arith, f.amount, done_all e (alloc_of T), done_all e (free_of T), front_held T T.actions)

  -- while it has not, with v the first action not done: the next action of the leftmost thread
  pub held_open : (v : ℕ) → v < T.actions → is_done T st v ≡ false → ((a : ℕ) → a < T.actions → number_of T a < number_of T v → Done T st a) → st.held ≤ S1 T + spent_beyond T (alloc_of T) st v
  unfolding held_after
  held_open v w u before =
      let parts = done_parts v w u before in
      let n : number_of T v ≤ T.actions = omega (arith, number_below T l v w) in
      omega (
        arith,
        f.amount,
        parts (alloc_of T),
        parts (free_of T),
        front_sum T l (alloc_of T) (number_of T v) n,
        front_sum T l (free_of T) (number_of T v) n,
        front_held T (number_of T v),
      )

module _ (T : Table) (l : Lawful T) (p K : ℕ) (some : 1 ≤ p) (few : p ≤ 16) (delayed : Delayed T (drawn_cost T K)) where
  -- memory held, from the serial peak on, is covered by what the allocs done beyond the first action not done drew
  held_covered : Covered T p K (λ st. st.held) (S1 T) (drawn_cost T K)
  held_covered =
      record {
        at_end_lem = held_ended T l p K;
        before = λ st f t others e h.
            let v : ℕ = next_of st t in
            let w : v < T.actions = next_below T l p K st f t h in
            let u : is_done T st v ≡ false = leftmost_undone T l p K st f t others e in
            omega (arith, held_open T l p K st f v w u (front_done T l p K st f t others e), covers T l p K (drawn_cost T K) st f v w u delayed);
      }

  pub row_bound : (b : ℕ) → 1 ≤ b → (row : List ℕ) → Below p row → Keeps b row → (row_state T K (start_state T) row).held ≤ limit T p K b
  unfolding limit
  row_bound b g row h r =
      omega (
        arith,
        row_within T l p K some few (λ st. st.held) (S1 T) (drawn_cost T K) K held_covered (dummies_few T l p K few) row h b r,
        quota_first b K (p - 1) (D T - 1),
      )

  pub row_alone : p ≡ 1 → (row : List ℕ) → Below p row → (row_state T K (start_state T) row).held ≤ S1 T
  row_alone e row h = row_serial T l p K some few (λ st. st.held) (S1 T) (drawn_cost T K) K held_covered (dummies_few T l p K few) row h e
