-- What the actions done come to, thread by thread: of a thread, the actions below the first that is not done.
use mathlib.Core.Path.{◌≡◌, refl, sym, ap, ◌∙◌}
use mathlib.Core.List.{List}
use Prim.Native.Nat.{ℕ, ◌+◌, ◌-◌, ◌*◌, ◌≤◌, ◌<◌}
use mathlib.Core.Bool.{Bool, true, false}
use native.Mathlib.Decide.{dec_lt}
use native.Mathlib.Numerals.{add-one}
use native.Mathlib.Omega.{arith}
use borrow.Author.Tests.{lt-ltb, le-ltb}
use lib.Dec.{ltb, eqb}
use lib.ListN.{get_or}
use Rattle.table.specs.Sum.{pick, sum_to}
use Rattle.table.specs.Format.{Table}
use Rattle.table.specs.Checks.{end_of, counts_below}
use Rattle.table.specs.Rules.{ContentRules}
use Rattle.table.proofs.Sums.{sum_to_cong}
use Rattle.table.proofs.Bodies.{first_is, counts_all, after_end, owner_at}
use Rattle.schedule.specs.Machine.{ended}
use Rattle.schedule.specs.Sound.{done_in, of_done_in, sum_done_in}
use Rattle.order.proofs.Totals.{sum_to_append, sum_to_front}
use Rattle.soundness.specs.Code.Checks.{done_to}
use Rattle.soundness.specs.Code.Adding.{Added}
use Rattle.soundness.proofs.Done.{before_stop}

ltb_from : (f i x : ℕ) → ltb (f + i) x ≡ ltb i (x - f)
ltb_from f i x = go (dec_lt (f + i) x)
  where
    go : Dec (f + i < x) → ltb (f + i) x ≡ ltb i (x - f)
    go (yes p) = rw (lt-ltb (f + i) x p, lt-ltb i (x - f) (omega arith))
    go (no p) = rw (le-ltb (f + i) x (omega (arith, p)), le-ltb i (x - f) (omega (arith, p)))

-- thread t is at an action of its body, and stop is its first that is not done
pub record Undone (T : Table) (next status : List ℕ) (t stop : ℕ) : Type 0 where
  pub thread : t < T.threads
  pub low : T.first t ≤ get_or next t 0
  pub high : get_or next t 0 ≤ end_of T t
  pub value : stop ≡ done_to next status t

-- the sum over what is done in the threads below t, of amounts of 24 bits
pub record Counted (T : Table) (next status : List ℕ) (own : ℕ → ℕ) (t sum : ℕ) : Type 0 where
  pub value : sum ≡ sum_to (of_done_in T next status own) (counts_below T t)
  pub small : sum ≤ 16777215 * counts_below T t

module _ (T : Table) (c : ContentRules T) (next status : List ℕ) where
  module _ (t stop : ℕ) (u : Undone T next status t stop) where
    pub undone_low : T.first t ≤ stop
    undone_low = go (eqb (get_or status t 0) ended) u.value
      where
        go : (s : Bool) → stop ≡ pick s (get_or next t 0 + 1) (get_or next t 0) → T.first t ≤ stop
        go true q = omega arith
        go false q = omega arith

    pub undone_high : stop ≤ T.first t + T.count t
    undone_high = go (eqb (get_or status t 0) ended) u.value
      where
        go : (s : Bool) → stop ≡ pick s (get_or next t 0 + 1) (get_or next t 0) → stop ≤ T.first t + T.count t
        go true q = omega (arith, after_end T c t u.thread)
        go false q = omega (arith, after_end T c t u.thread)

    done_below : (i : ℕ) → i < T.count t → done_in T next status (T.first t + i) ≡ ltb i (stop - T.first t)
    unfolding done_in
    done_below i h =
        rw (owner_at T c t i u.thread h) (sym (before_stop next status t (T.first t + i)) ∙ ap (ltb (T.first t + i)) (sym u.value) ∙ ltb_from (T.first t) i stop)

    thread_done : (own : ℕ → ℕ)
        → sum_to (of_done_in T next status own) (T.first t + T.count t) + sum_to own (T.first t) ≡ sum_to (of_done_in T next status own) (T.first t) + sum_to own stop
    thread_done own =
        let f : ℕ = T.first t in
        let k : ℕ = stop - T.first t in
        let e : stop ≡ f + k = omega (arith, undone_low) in
        let body : sum_to (λ i. of_done_in T next status own (f + i)) (T.count t) ≡ sum_to (λ i. own (f + i)) k =
        sum_to_cong _ _ (T.count t) (λ i h. rw (done_below i h)) ∙ sum_to_front (λ i. own (f + i)) k (T.count t) (omega (arith, undone_high)) in
        rw (sum_to_append (of_done_in T next status own) f (T.count t), e, sum_to_append own f k) (omega (arith, body))

    -- the thread's amounts go into the sum
    pub counted_next : (own : ℕ → ℕ) (before after : ℕ) → Counted T next status own t before → Added own (T.first t) stop before after → Counted T next status own (t + 1) after
    unfolding sum_to
    counted_next own before after n a =
        let e : T.first t ≡ counts_below T t = first_is T c t u.thread in
        record {
          value = rw (add-one, ← e) (omega (arith, thread_done own, rw (← e) at n.value, a.value));
          small = rw (add-one, ← e) (omega (arith, undone_high, a.small));
        }

  pub counted_first : (own : ℕ → ℕ) → Counted T next status own 0 0
  unfolding sum_to
  counted_first own = record { value = refl; small = omega arith }

  -- past the last thread it is the sum over all that is done
  pub counted_last : (own : ℕ → ℕ) (t sum : ℕ) → t ≡ T.threads → Counted T next status own t sum → sum ≡ sum_done_in T next status own
  counted_last own t sum e n = n.value ∙ ap (sum_to (of_done_in T next status own)) (ap (counts_below T) e ∙ counts_all T c)
