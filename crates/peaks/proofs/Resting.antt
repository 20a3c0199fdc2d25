-- Resting places: where every live thread that nobody holds stands at one, held is within the peak over resting places and R for each worker.
use mathlib.Core.Path.{◌≡◌, refl}
use Prim.Native.Nat.{ℕ, zero, suc, ◌+◌, ◌*◌, ◌≤◌, ◌<◌}
use native.Mathlib.Omega.{arith}
use native.Mathlib.Nat.{add-suc, mul_comm, mul-le-mul_left}
use native.Mathlib.Decide.{ℕ_discrete}
use mathlib.Core.List.{List}
use mathlib.Core.Bool.{Bool, true, false}
use lib.ListN.{get_or}
use lib.Dec.{eqb}
use borrow.Author.Tests.{eqb-true, eq-eqb, ne_eqb}
use Rattle.table.specs.Sum.{pick, sum_over}
use Rattle.table.specs.Format.{is, Table, kind}
use Rattle.table.specs.declared.kinds.Kind.TheVariants.{End as end, Fork as fork, Join as join}
use Rattle.table.specs.Checks.{open_before, end_of}
use Rattle.table.proofs.Tests.{is_true}
use Rattle.table.proofs.Bodies.{owner_at, join_below}
use Rattle.table.proofs.Nesting.{open_join, open_same}
use Rattle.table.proofs.Amounts.{action_within}
use Rattle.schedule.specs.declared.Worker.{Worker}
use Rattle.schedule.specs.Machine.{State, unborn, held, ended, next_of, status_of, worker_of}
use Rattle.order.specs.Words.{count_below}
use Rattle.schedule.specs.Sound.{progress, is_done, Common}
use Rattle.order.proofs.Lawful.{Lawful}
use Rattle.order.proofs.Joins.{join_depends}
use Rattle.order.proofs.CountBelow.{count_bound}
use Rattle.schedule.proofs.Sound.Facts.{Facts}
use Rattle.schedule.proofs.Sound.Done.{done_low, done_ended}
use Rattle.schedule.proofs.Sound.Shares.{progress_next, progress_within}
use Rattle.peaks.specs.Peak.{unended_in, fresh, past, Light, peak_on}
use Rattle.peaks.specs.Rests.{rests, rested, rise, R}
use Rattle.peaks.proofs.Loads.{past_fewer}
use Rattle.peaks.proofs.Held.{Settled, peak_settled}
use Rattle.schedule.proofs.SerialLive.{with_live, common_facts}
use Rattle.peaks.proofs.Unpreempted.{Stands, rests_end}
use Rattle.peaks.proofs.Rises.{rested_within, rested_rests, rise_within, rests_not, reach_rested}
use Rattle.peaks.proofs.Counts.{few_targets, count_times}

module _ (T : Table) (l : Lawful T) (p K : ℕ) (st : State) (f : Facts T p K st) where
  module _ (t : ℕ) (h : t < T.threads) (n : status_of st t ≡ ended → ⊥) where
    -- a child whose join is done has ended
    joined_ended : (i : ℕ) → i < progress T st t → kind T (T.first t + i) ≡ join → status_of st (T.argument (T.first t + i)) ≡ ended
    joined_ended i b k =
        let a : ℕ = T.first t + i in
        let c : i < T.count t = omega (arith, progress_within T l p K st f t h) in
        let w : a < T.actions = action_within T l.contents l.bodies t i h c in
        let d : is_done T st a ≡ true = done_low T st a (rw (owner_at T l.contents t i h c) (omega (arith, progress_next T l p K st f t h n))) in
        done_ended T l p K st f (T.argument a) (join_below T l.contents l.bodies a w k) (f.ordered a (end_of T (T.argument a)) w d (join_depends T a k))

    -- since the last resting place no child was forked, and those joined had ended
    open_since : (k : ℕ) → k ≤ progress T st t → unended_in st.status (open_before T (T.first t + rested T t k)) ≤ unended_in st.status (open_before T (T.first t + k))
    unfolding rested sum_over
    open_since zero b = omega arith
    open_since (suc k) b = go (rests T (T.first t + suc k)) refl (open_since k (omega arith))
      where
        a : ℕ
        a = T.first t + k

        step : is end (kind T a) ≡ false → is fork (kind T a) ≡ false → (q : Bool) → is join (kind T a) ≡ q → unended_in st.status (open_before T a) ≤ unended_in st.status (open_before T (suc a))
        step e o true q =
            let j : kind T a ≡ join = is_true join (kind T a) q in
            let w : a < T.actions = action_within T l.contents l.bodies t k h (omega (arith, progress_within T l p K st f t h)) in
            rw (open_join T l.contents l.bodies l.nesting a w j, eq-eqb (status_of st (T.argument a)) ended (joined_ended k (omega arith) j)) (omega arith)
        step e o false q = rw (open_same T l.contents l.bodies l.nesting a e o q) (omega arith)

        go : (q : Bool) → rests T (T.first t + suc k) ≡ q → unended_in st.status (open_before T (T.first t + rested T t k)) ≤ unended_in st.status (open_before T a)
            → unended_in st.status (open_before T (T.first t + pick q (suc k) (rested T t k))) ≤ unended_in st.status (open_before T (T.first t + suc k))
        go true q ih = omega arith
        go false q ih =
            let (e, o) = rests_not T a (rw add-suc at q) in
            rw (add-suc (T.first t) k) (omega (arith, ih, step e o (is join (kind T a)) refl))

    past_since : (k : ℕ) → k ≤ progress T st t → unended_in st.status (past T (T.first t + rested T t k)) ≤ unended_in st.status (past T (T.first t + k))
    unfolding rested fresh
    past_since zero b = omega arith
    past_since (suc k) b = go (rests T (T.first t + suc k)) refl (open_since (suc k) b)
      where
        go : (q : Bool) → rests T (T.first t + suc k) ≡ q
            → unended_in st.status (open_before T (T.first t + pick q (suc k) (rested T t k))) ≤ unended_in st.status (open_before T (T.first t + suc k))
            → unended_in st.status (past T (T.first t + pick q (suc k) (rested T t k))) ≤ unended_in st.status (past T (T.first t + suc k))
        go true q ih = omega arith
        go false q ih = rw (not_fresh q) (omega (arith, ih, past_fewer T st.status (T.first t + rested T t k)))
          where
            not_fresh : rests T (T.first t + suc k) ≡ false → fresh T (T.first t + suc k) ≡ false
            not_fresh q = rw (add-suc (T.first t) k) (fresh_not (T.first t + k) (rests_not T (T.first t + k) (rw add-suc at q)).1)
              where
                fresh_not : (a : ℕ) → is fork (kind T a) ≡ false → fresh T (suc a) ≡ false
                fresh_not a e = e

    -- its last resting place
    at_rest : (extra : ℕ) → rise T t (progress T st t) ≤ extra → Settled T (rests T) st t extra
    at_rest extra b =
        record {
          at = rested T t k;
          within = rested_within T t k;
          stops = rested_rests T t l h k;
          counted = past_since k (omega arith);
          near = λ w c.
              omega (
                arith,
                b,
                reach_rested T l w t h k (progress_within T l p K st f t h)
                    (λ i j g.
                    let z : T.first t + i < T.actions = action_within T l.contents l.bodies t i h (omega (arith, progress_within T l p K st f t h)) in
                    c (T.argument (T.first t + i)) (join_below T l.contents l.bodies (T.first t + i) z g) (joined_ended i j g)),
              );
        }
      where
        k : ℕ
        k = progress T st t

  few_held : count_below (λ t. eqb (status_of st t) held) T.threads ≤ p
  few_held =
      omega (
        arith,
        few_targets 16 T.threads (λ t. eqb (status_of st t) held) (λ w. (worker_of st w).holds) (λ w. (worker_of st w).thread)
            (λ t h q. f.holding.held_holder t h (eqb-true (status_of st t) held q)),
        few_targets p 16 (λ w. (worker_of st w).holds) (λ w. (worker_of st w).holds) (λ w. w) (λ t j q. (t, f.holding.holder_below t j q, q, refl)),
        count_bound (λ w. (worker_of st w).holds) p,
      )

  pub rest_held : (r : ℕ) → Light T st.next st.status r → ((t : ℕ) → t < T.threads → Stands (status_of st t) → rests T (next_of st t) ≡ true)
      → st.held ≤ peak_on T (rests T) 0 r + p * R T
  rest_held r light placed =
      omega (
        arith,
        peak_settled T l p K st f r light (rests T) (rests_end T) (λ t. pick (eqb (status_of st t) held) (R T) 0) (λ t h b n i. each t h b n (ℕ_discrete (status_of st t) held)),
        count_times (λ t. eqb (status_of st t) held) (R T) T.threads,
        mul-le-mul_left (R T) few_held,
        mul_comm (R T) p,
      )
    where
      each : (t : ℕ) → t < T.threads → (status_of st t ≡ unborn → ⊥) → (status_of st t ≡ ended → ⊥) → Dec (status_of st t ≡ held) → Settled T (rests T) st t (pick (eqb (status_of st t) held) (R T) 0)
      each t h b n (yes q) = rw (eq-eqb (status_of st t) held q) (at_rest t h n (R T) (rise_within T t h (progress T st t) (progress_within T l p K st f t h)))
      each t h b n (no q) =
          let y : rests T (T.first t + progress T st t) ≡ true = rw (progress_next T l p K st f t h n) (placed t h (b, n, q)) in
          rw (ne_eqb (status_of st t) held q)
          (record { at = progress T st t; within = omega arith; stops = y; counted = omega arith; near = λ w c. omega arith })

-- of every state with what any kind of run keeps
pub rest_common : (T : Table) (l : Lawful T) (p K : ℕ) (next status amounts : List ℕ) (workers : List Worker) (amount highest : ℕ) → Common T p K next status amounts workers amount highest
    → (r : ℕ) → Light T next status r → ((t : ℕ) → t < T.threads → Stands (get_or status t 0) → rests T (get_or next t 0) ≡ true) → amount ≤ peak_on T (rests T) 0 r + p * R T
rest_common T l p K next status amounts workers amount highest c r light placed =
    rest_held T l p K (with_live T l next status amounts workers amount highest) (common_facts T l next status amounts workers amount highest p K c) r light placed
