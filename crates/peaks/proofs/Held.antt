-- The peak theorem: a state that keeps what any kind of run keeps, and in which no entered unended thread has a load above r, holds at most the root's peak at load r.
use mathlib.Core.Path.{◌≡◌, refl}
use Prim.Native.Nat.{ℕ, suc, ◌+◌, ◌-◌, ◌≤◌, ◌<◌, max}
use native.Mathlib.Omega.{arith}
use native.Mathlib.Nat.{add-zero}
use native.Mathlib.Decide.{ℕ_discrete, dec_lt, dec_le}
use mathlib.Core.List.{List, [], ◌∷◌}
use mathlib.Core.Bool.{Bool, true, false}
use lib.Dec.{eqb, ltb}
use borrow.Author.Tests.{eq-eqb, ne_eqb, lt-ltb}
use Rattle.table.specs.Sum.{pick, sum_to, sum_over, greatest_to}
use Rattle.table.specs.Format.{Table, kind}
use Rattle.table.specs.declared.kinds.Kind.TheVariants.{End as end}
use Rattle.table.specs.Checks.{open_before, end_of, tail}
use Rattle.table.proofs.Sums.{sum_to_zero}
use Rattle.table.proofs.Bodies.{after_end, end_kind}
use Rattle.table.proofs.Nesting.{open_first}
use Rattle.table.proofs.NestedThreads.{greatest_at}
use Rattle.schedule.specs.declared.Worker.{Worker}
use Rattle.schedule.specs.Machine.{State, unborn, ended, next_of, status_of}
use Rattle.schedule.specs.Sound.{Common, balance_to, progress, is_joined}
use Rattle.order.proofs.Lawful.{Lawful}
use Rattle.schedule.proofs.Sound.Facts.{Facts}
use Rattle.schedule.proofs.Sound.Shares.{progress_ended, progress_next}
use Rattle.peaks.specs.Peak.{unended, unended_in, outer, fresh, past, load, Light, final, gain, most, peak_on, peak_at}
use Rattle.peaks.proofs.Opens.{reach, Forked, Stacked, stacked, open_over}
use Rattle.peaks.proofs.Loads.{outer_root, outer_child}
use Rattle.peaks.proofs.Peaks.{gain_ended, gain_unended, peak_at_lem}
use Rattle.peaks.proofs.Weights.{within_weights}
use Rattle.schedule.proofs.SerialLive.{with_live, common_facts}

-- Thread t's place, or an earlier one where it may stand, with no more unended children, and since which it and all below it hold at most `extra` more.
pub record Settled (T : Table) (stop : ℕ → Bool) (st : State) (t extra : ℕ) : Type 0 where
  pub at : ℕ
  pub within : at ≤ progress T st t
  pub stops : stop (T.first t + at) ≡ true
  pub counted : unended_in st.status (past T (T.first t + at)) ≤ unended_in st.status (past T (T.first t + progress T st t))
  pub near : (w : ℕ → ℕ) → ((d : ℕ) → d < T.threads → status_of st d ≡ ended → final T d ≤ w d) → reach T w t (progress T st t) ≤ reach T w t at + extra

-- Each entered unended thread stands at such a place.
module _ (T : Table) (l : Lawful T) (p K : ℕ) (st : State) (f : Facts T p K st) (r : ℕ) (light : Light T st.next st.status r) (stop : ℕ → Bool)
    (ends : (a : ℕ) → kind T a ≡ end → stop (suc a) ≡ true) (extra : ℕ → ℕ)
    (settled : (t : ℕ) → t < T.threads → (status_of st t ≡ unborn → ⊥) → (status_of st t ≡ ended → ⊥) → T.first t < next_of st t → Settled T stop st t (extra t)) where
  -- what a thread and all below it hold at most: of an ended one its final balance, of one not entered nothing
  weight : ℕ → ℕ
  weight t = pick (eqb (status_of st t) ended) (final T t) (pick (ltb (T.first t) (next_of st t)) (peak_on T stop t (r - outer T st.status t)) 0)

  weight_ended : (t : ℕ) → status_of st t ≡ ended → weight t ≡ final T t
  unfolding weight
  weight_ended t e = rw (eq-eqb (status_of st t) ended e)

  weight_entered : (t : ℕ) → (status_of st t ≡ ended → ⊥) → T.first t < next_of st t → weight t ≡ peak_on T stop t (r - outer T st.status t)
  unfolding weight
  weight_entered t n h = rw (ne_eqb (status_of st t) ended n, lt-ltb (T.first t) (next_of st t) h)

  weight_unended : (t : ℕ) → (status_of st t ≡ ended → ⊥) → weight t ≤ peak_on T stop t (r - outer T st.status t)
  unfolding weight
  weight_unended t n = rw (ne_eqb (status_of st t) ended n) (go (ltb (T.first t) (next_of st t)))
    where
      go : (q : Bool) → pick q (peak_on T stop t (r - outer T st.status t)) 0 ≤ peak_on T stop t (r - outer T st.status t)
      go true = omega arith
      go false = omega arith

  ended_none : (t : ℕ) → status_of st t ≡ ended → unended st.status t ≡ 0
  ended_none t e = rw (eq-eqb (status_of st t) ended e)

  unended_one : (t : ℕ) → (status_of st t ≡ ended → ⊥) → unended st.status t ≡ 1
  unended_one t n = rw (ne_eqb (status_of st t) ended n)

  -- a child's elders
  outer_stacked : (t c : ℕ) (others : List ℕ) → Forked T t c others → outer T st.status c ≡ unended_in st.status others + outer T st.status t
  outer_stacked t c others x = rw (x.names, x.owned, x.stood) at (outer_child T l st.status x.action x.within x.forks)

  -- open children, as many unended as there are
  gain_holds : (t : ℕ) (cs : List ℕ) → Stacked T t cs → sum_over weight cs ≤ gain T (peak_on T stop) (r - outer T st.status t) cs (unended_in st.status cs)
  unfolding sum_over
  gain_holds t [] s = omega arith
  gain_holds t (c ∷ cs) s = go (ℕ_discrete (status_of st c) ended) (gain_holds t cs s.1)
    where
      a : ℕ
      a = r - outer T st.status t

      j : ℕ
      j = unended_in st.status cs

      go : Dec (status_of st c ≡ ended) → sum_over weight cs ≤ gain T (peak_on T stop) a cs j → weight c + sum_over weight cs ≤ gain T (peak_on T stop) a (c ∷ cs) (unended st.status c + j)
      go (yes e) ih =
          let u : unended st.status c + j ≡ j = omega (arith, ended_none c e) in
          rw u (omega (arith, weight_ended c e, ih, gain_ended T (peak_on T stop) a c cs j))
      go (no n) ih =
          let z : r - outer T st.status c ≡ a - j = omega (arith, outer_stacked t c cs s.0) in
          let u : unended st.status c + j ≡ suc j = omega (arith, unended_one c n) in
          rw u (omega (arith, rw z at (weight_unended c n), ih, gain_unended T (peak_on T stop) a c cs j))

  -- .. at a place where the load is allowed
  module _ (t : ℕ) (below : t < T.threads) (within : outer T st.status t ≤ r) where
    a : ℕ
    a = r - outer T st.status t

    few : (b : Bool) (cs : List ℕ) → Stacked T t cs → unended_in st.status cs ≤ a → sum_over weight cs ≤ most T (peak_on T stop) a b cs
    unfolding most a
    few b cs s h = omega (arith, gain_holds t cs s, greatest_at (gain T (peak_on T stop) a cs) (suc a) (unended_in st.status cs) (omega arith))

    -- the one more right after a fork
    last : (c : ℕ) (cs : List ℕ) → Stacked T t (c ∷ cs) → unended_in st.status cs ≤ a → (unended_in st.status (c ∷ cs) ≤ a → ⊥) → sum_over weight (c ∷ cs) ≤ most T (peak_on T stop) a true (c ∷ cs)
    unfolding most a sum_over
    last c cs s h i = go (ℕ_discrete (status_of st c) ended)
      where
        go : Dec (status_of st c ≡ ended) → weight c + sum_over weight cs ≤ max (greatest_to (gain T (peak_on T stop) a (c ∷ cs)) (suc a)) (peak_on T stop c 0 + gain T (peak_on T stop) a cs a)
        go (yes e) = absurd (i (omega (arith, ended_none c e, h)))
        go (no n) =
            let j : unended_in st.status cs ≡ a = omega (arith, unended_one c n, h, i) in
            let z : r - outer T st.status c ≡ 0 = omega (arith, outer_stacked t c cs s.0, j) in
            omega (arith, rw z at (weight_unended c n), rw j at (gain_holds t cs s.1))

    most_holds : (b : Bool) (cs : List ℕ) → Stacked T t cs → unended_in st.status (pick b (tail cs) cs) ≤ a → sum_over weight cs ≤ most T (peak_on T stop) a b cs
    most_holds false cs s h = few false cs s h
    most_holds true [] s h = few true [] s h
    most_holds true (c ∷ cs) s h = go (dec_le (unended_in st.status (c ∷ cs)) a)
      where
        go : Dec (unended_in st.status (c ∷ cs) ≤ a) → sum_over weight (c ∷ cs) ≤ most T (peak_on T stop) a true (c ∷ cs)
        go (yes i) = few true (c ∷ cs) s i
        go (no i) = last c cs s h i

  -- thread by thread
  each : (t : ℕ) → t < T.threads → (status_of st t ≡ unborn → ⊥) → is_joined T st t ≡ false → reach T weight t (progress T st t) ≤ weight t + extra t
  unfolding reach sum_over sum_to load Light a
  each t h b j = go (ℕ_discrete (status_of st t) ended) (dec_lt (T.first t) (next_of st t))
    where
      go : Dec (status_of st t ≡ ended) → Dec (T.first t < next_of st t)
          → balance_to T t (progress T st t) + sum_over weight (open_before T (T.first t + progress T st t)) ≤ weight t + extra t
      go (yes e) i = rw (progress_ended T l p K st f t e, open_over T l t h) (omega (arith, weight_ended t e))
      go (no n) (no i) =
          let z : progress T st t ≡ 0 = omega (arith, progress_next T l p K st f t h n, i) in
          rw (z, add-zero (T.first t), open_first T l.contents l.bodies l.nesting t h) (omega arith)
      go (no n) (yes i) =
          let s : Settled T stop st t (extra t) = settled t h b n i in
          let k : ℕ = s.at in
          let e : T.first t + progress T st t ≡ next_of st t = progress_next T l p K st f t h n in
          let q : k < T.count t = omega (arith, e, f.next_high t h, after_end T l.contents t h, s.within) in
          let o : outer T st.status t + unended_in st.status (past T (next_of st t)) ≤ r = light t h i n in
          let c : unended_in st.status (past T (T.first t + k)) ≤ unended_in st.status (past T (next_of st t)) = rw e at s.counted in
          let o' : unended_in st.status (past T (T.first t + k)) ≤ r - outer T st.status t = omega (arith, o, c) in
          let m : sum_over weight (open_before T (T.first t + k)) ≤ most T (peak_on T stop) (r - outer T st.status t) (fresh T (T.first t + k)) (open_before T (T.first t + k)) =
          most_holds t h (omega (arith, o)) (fresh T (T.first t + k)) (open_before T (T.first t + k)) (stacked T l t k h q) o' in
          omega (
            arith,
            m,
            s.near weight (λ d i e. omega (arith, weight_ended d e)),
            peak_at_lem T l stop t (r - outer T st.status t) k h (omega (arith, q)) s.stops,
            weight_entered t n i,
          )

  pub peak_settled : st.held ≤ peak_on T stop 0 r + sum_to extra T.threads
  peak_settled = omega (arith, within_weights T l p K st f weight extra each, root (ℕ_discrete (status_of st 0) ended))
    where
      root : Dec (status_of st 0 ≡ ended) → weight 0 ≤ peak_on T stop 0 r
      root (yes e) =
          let h : 0 < T.threads = l.some_thread in
          let z : stop (T.first 0 + T.count 0) ≡ true = rw (← after_end T l.contents 0 h) (ends (end_of T 0) (end_kind T l.contents l.bodies 0 h)) in
          omega (arith, weight_ended 0 e, peak_at_lem T l stop 0 r (T.count 0) h (omega arith) z)
      root (no n) =
          let z : r - outer T st.status 0 ≡ r = omega (arith, outer_root T l st.status) in
          rw z at (weight_unended 0 n)

-- the peak theorem
pub peak_held : (T : Table) (l : Lawful T) (p K : ℕ) (st : State) → Facts T p K st → (r : ℕ) → Light T st.next st.status r → st.held ≤ peak_at T 0 r
peak_held T l p K st f r light =
    omega (
      arith,
      peak_settled T l p K st f r light (λ a. true) (λ a k. refl) (λ t. 0)
          (λ t h b n i. record { at = progress T st t; within = omega arith; stops = refl; counted = omega arith; near = λ w c. omega arith }),
      sum_to_zero (λ t. 0) T.threads (λ t h. refl),
    )

-- .. of every state with what any kind of run keeps: the list is beside the point
pub peak_common : (T : Table) (l : Lawful T) (p K : ℕ) (next status amounts : List ℕ) (workers : List Worker) (amount highest : ℕ)
    → Common T p K next status amounts workers amount highest → (r : ℕ) → Light T next status r → amount ≤ peak_at T 0 r
peak_common T l p K next status amounts workers amount highest c r h =
    peak_held T l p K (with_live T l next status amounts workers amount highest) (common_facts T l next status amounts workers amount highest p K c) r h
