-- S_p from the table alone: the peak of p workers of the filled-out table (N6) is that of the table as given.
--
-- By induction from the highest thread down. An old thread's places in the filled-out table are its places in the given one, and two more in front of each big alloc, right after the fork of a tree and
-- right after its join: there the thread's balance is that in front of the alloc, and open are the children that are open there, with the tree's root in front of them, which holds nothing.
use mathlib.Core.Path.{◌≡◌, refl, sym, ap, ap₂, ◌∙◌}
use Prim.Native.Nat.{ℕ, zero, suc, ◌+◌, ◌-◌, ◌≤◌, ◌<◌}
use native.Mathlib.Omega.{arith}
use native.Mathlib.Decide.{dec_lt}
use mathlib.Core.List.{List, ◌∷◌}
use mathlib.Core.Bool.{Bool, true, false}
use lib.ListN.{length}
use Rattle.table.specs.Sum.{pick, sum_to, any_below, greatest_to}
use Rattle.table.specs.Format.{is, code_of, Table, kind, table_of}
use Rattle.table.specs.declared.kinds.Kind.TheVariants.{Fork as fork, Join as join}
use Rattle.table.specs.Checks.{opened, open_before}
use Rattle.table.specs.Rules.{ContentRules, BodyRules, Rules}
use Rattle.table.specs.Written.{written}
use Rattle.table.proofs.Bodies.{first_is, first_next, after_end, end_kind}
use Rattle.table.proofs.Nesting.{open_first}
use Rattle.table.proofs.Amounts.{action_within}
use Rattle.table.proofs.Serial.{downward}
use Rattle.table.proofs.NestedThreads.{greatest_at, greatest_under}
use Rattle.order.proofs.Lawful.{Lawful, lawful}
use Rattle.filling.specs.Filled.{big, root_of, in_front, filled_from, filled_bodies, filled_out}
use Rattle.filling.proofs.Fills.{Fills, c, b, n, root_in, count_old, lead, start, lead_next, lead_plain, lead_big, placed, placed_next_lem, placed_kind, placed_argument, front_fork, front_root, front_join, front_two, old_below}
use Rattle.filling.proofs.Balances.{new_still, parts_same, parts_forked, parts_joined}
use Rattle.filling.proofs.FilledTable.{Fits, fills, fill_rules}
use Rattle.schedule.specs.Sound.{balance_to}
use Rattle.peaks.specs.Peak.{fresh, final, gain, most, peak_there, peak_at, workers_peak}
use Rattle.peaks.proofs.Opens.{open_child}
use Rattle.peaks.proofs.Peaks.{Same, most_same, peak_is, peak_at_lem}
use Rattle.peaks.proofs.PeakSizes.{final_whole, peak_whole}

-- ---- what is open, and right after a fork

-- in front of a thread's first action no fork stands
first_not_fresh : (T : Table) → ContentRules T → BodyRules T → (t : ℕ) → t < T.threads → fresh T (T.first t) ≡ false
unfolding fresh sum_to is code_of
first_not_fresh T c b zero h = rw (first_is T c zero h)
first_not_fresh T c b (suc t) h =
    let l : t < T.threads = omega arith in
    rw (first_next T c t h, ← after_end T c t l, fresh, end_kind T c b t l)

fork_fresh : (T : Table) (a : ℕ) → kind T a ≡ fork → fresh T (suc a) ≡ true
unfolding fresh is code_of
fork_fresh T a e = rw e

join_not_fresh : (T : Table) (a : ℕ) → kind T a ≡ join → fresh T (suc a) ≡ false
unfolding fresh is code_of
join_not_fresh T a e = rw e

module _ (T : Table) (K : ℕ) (U : Table) (x : Fills T K U) where
  abbrev c_t : ContentRules T
  c_t = x.lawful.contents

  abbrev b_t : BodyRules T
  b_t = x.lawful.bodies

  module _ (t : ℕ) (known : t < T.threads) where
    -- the place of action i
    abbrev from : ℕ → ℕ
    from i = start T K U x t i

    abbrev here : ℕ → ℕ
    here i = T.first t + i

    -- ---- open children

    front_open : (i : ℕ) → i < T.count t → big T K (here i) ≡ true → open_before U (suc (from i)) ≡ root_of T K (here i) ∷ open_before U (from i)
    unfolding open_before
    front_open i w e = rw (front_fork T K U x t i known w e, front_root T K U x t i known w e)

    joined_open : (i : ℕ) → i < T.count t → big T K (here i) ≡ true → open_before U (suc (suc (from i))) ≡ open_before U (from i)
    unfolding open_before
    joined_open i w e = rw (front_join T K U x t i known w e, front_open i w e)

    placed_open : (i : ℕ) (w : i < T.count t) → open_before U (placed T K U x t i known w) ≡ open_before U (from i)
    placed_open i w = go (big T K (here i)) refl
      where
        go : (q : Bool) → big T K (here i) ≡ q → open_before U (placed T K U x t i known w) ≡ open_before U (from i)
        go true e = ap (open_before U) (front_two T K U x t i known w e) ∙ joined_open i w e
        go false e =
            let z : length (in_front T K (here i)) ≡ 0 = rw e in
            let same : placed T K U x t i known w ≡ from i = omega arith in
            ap (open_before U) same

    known_new : t < U.threads
    known_new = omega (arith, old_below T K U x t known, x.reads.threads)

    from_first : from 0 ≡ U.first t
    unfolding filled_from
    from_first = omega arith

    open_same : (i : ℕ) → i ≤ T.count t → open_before U (from i) ≡ open_before T (here i)
    unfolding open_before
    open_same zero h =
        let z : here 0 ≡ T.first t = omega arith in
        ap (open_before U) from_first ∙ open_first U (c T K U x) (b T K U x) (n T K U x) t known_new ∙ sym (ap (open_before T) z ∙ open_first T c_t b_t x.lawful.nesting t known)
    open_same (suc i) h =
        let w : i < T.count t = omega arith in
        let z : here (suc i) ≡ suc (here i) = omega arith in
        ap (open_before U) (placed_next_lem T K U x t i known w)
        ∙ (λ e. opened (placed_kind T K U x t i known w e) (placed_argument T K U x t i known w e) ((placed_open i w ∙ open_same i (omega arith)) e))
        ∙ sym (ap (open_before T) z)

    fresh_same : (i : ℕ) → i ≤ T.count t → fresh U (from i) ≡ fresh T (here i)
    unfolding fresh
    fresh_same zero h =
        let z : here 0 ≡ T.first t = omega arith in
        ap (fresh U) from_first ∙ first_not_fresh U (c T K U x) (b T K U x) t known_new ∙ sym (ap (fresh T) z ∙ first_not_fresh T c_t b_t t known)
    fresh_same (suc i) h =
        let w : i < T.count t = omega arith in
        let z : here (suc i) ≡ suc (here i) = omega arith in
        ap (fresh U) (placed_next_lem T K U x t i known w) ∙ ap (is fork) (placed_kind T K U x t i known w) ∙ sym (ap (fresh T) z)

    -- ---- places

    data Spot (k : ℕ) : Type 0 where
      at : (i : ℕ) → i ≤ T.count t → k ≡ lead T K U x t i → Spot k
      forked : (i : ℕ) → i < T.count t → big T K (here i) ≡ true → k ≡ suc (lead T K U x t i) → Spot k
      joined : (i : ℕ) → i < T.count t → big T K (here i) ≡ true → k ≡ suc (suc (lead T K U x t i)) → Spot k

    spot : (k : ℕ) → k ≤ U.count t → Spot k
    unfolding filled_from
    spot zero h = at 0 (omega arith) refl
    spot (suc k) h = go (spot k (omega arith))
      where
        onward : (i : ℕ) → i < T.count t → k ≡ lead T K U x t i → (q : Bool) → big T K (here i) ≡ q → Spot (suc k)
        onward i w e true p = forked i w p (ap suc e)
        onward i w e false p = at (suc i) w (ap suc e ∙ sym (lead_plain T K U x t i p))

        last : (i : ℕ) → i ≤ T.count t → k ≡ lead T K U x t i → Dec (i < T.count t) → Spot (suc k)
        last i l e (yes w) = onward i w e (big T K (here i)) refl
        last i l e (no w) =
            let z : i ≡ T.count t = omega arith in
            absurd (omega (arith, count_old T K U x t known, ap (λ (m : ℕ). lead T K U x t m) z))

        go : Spot k → Spot (suc k)
        go (at i l e) = last i l e (dec_lt i (T.count t))
        go (forked i w p e) = joined i w p (ap suc e)
        go (joined i w p e) = at (suc i) w (ap suc e ∙ sym (lead_big T K U x t i p))

    -- ---- balances

    balance_same : (i : ℕ) → i ≤ T.count t → balance_to U t (lead T K U x t i) ≡ balance_to T t i
    balance_same i h = let (a, f) = parts_same T K U x t known i h in ap₂ ◌-◌ a f

    balance_forked : (i : ℕ) → i < T.count t → big T K (T.first t + i) ≡ true → balance_to U t (suc (lead T K U x t i)) ≡ balance_to T t i
    balance_forked i w e = let (a, f) = parts_forked T K U x t known i w e in ap₂ ◌-◌ a f

    balance_joined : (i : ℕ) → i < T.count t → big T K (T.first t + i) ≡ true → balance_to U t (suc (suc (lead T K U x t i))) ≡ balance_to T t i
    balance_joined i w e = let (a, f) = parts_joined T K U x t known i w e in ap₂ ◌-◌ a f

    final_same : final U t ≡ final T t
    final_same = ap (balance_to U t) (count_old T K U x t known) ∙ balance_same (T.count t) (omega arith)

-- ---- what open children can hold

-- with none right after a fork it is no more
most_calm : (T : Table) (v : ℕ → ℕ → ℕ) (r : ℕ) (f : Bool) (l : List ℕ) → most T v r false l ≤ most T v r f l
unfolding most
most_calm T v r f l = omega arith

-- nor with one in front that holds nothing, right after its fork
gain_idle : (T : Table) (v : ℕ → ℕ → ℕ) (r c : ℕ) (l : List ℕ) → final T c ≡ 0 → ((s : ℕ) → v c s ≡ 0) → (j : ℕ) → j < suc r → gain T v r (c ∷ l) j ≤ greatest_to (gain T v r l) (suc r)
unfolding gain
gain_idle T v r c l e z zero i = omega (arith, e, greatest_at (gain T v r l) (suc r) zero i)
gain_idle T v r c l e z (suc j) i = omega (arith, e, z (r - j), greatest_at (gain T v r l) (suc r) (suc j) i, greatest_at (gain T v r l) (suc r) j (omega arith))

most_idle : (T : Table) (v : ℕ → ℕ → ℕ) (r c : ℕ) (l : List ℕ) → final T c ≡ 0 → ((s : ℕ) → v c s ≡ 0) → most T v r true (c ∷ l) ≤ most T v r false l
unfolding most
most_idle T v r c l e z =
    omega (
      arith,
      greatest_under (gain T v r (c ∷ l)) (suc r) (greatest_to (gain T v r l) (suc r)) (gain_idle T v r c l e z),
      greatest_at (gain T v r l) (suc r) r (omega arith),
      z 0,
    )

-- ---- the peaks

module _ (T : Table) (K : ℕ) (U : Table) (x : Fills T K U) (l : Lawful U) where
  -- a new thread's peak is 0
  new_final : (t : ℕ) → T.threads ≤ t → t < U.threads → final U t ≡ 0
  new_final t lo hi = omega (arith, final_whole U l t hi, new_still T K U x t lo hi)

  new_peak : (t : ℕ) → T.threads ≤ t → t < U.threads → (r : ℕ) → peak_at U t r ≡ 0
  new_peak t lo hi r = omega (arith, peak_whole U l (λ a. true) t r hi, new_still T K U x t lo hi)

  module _ (t : ℕ) (known : t < T.threads) (below : (d : ℕ) → t < d → d < T.threads → (s : ℕ) → peak_at U d s ≡ peak_at T d s) (r : ℕ) where
    abbrev there : ℕ → List ℕ
    there i = open_before T (T.first t + i)

    same : (i : ℕ) → i ≤ T.count t → Same T U (peak_at U) (peak_at T) (there i)
    same i h d m = let (a, b) = open_child T x.lawful t i d known h m in (final_same T K U x d b, below d a b)

    -- at a place of the given table
    at_place : (i : ℕ) → i ≤ T.count t
        → balance_to U t (lead T K U x t i) + most U (peak_at U) r (fresh U (U.first t + lead T K U x t i)) (open_before U (U.first t + lead T K U x t i))
        ≡ balance_to T t i + most T (peak_at T) r (fresh T (T.first t + i)) (there i)
    at_place i h =
        ap₂ ◌+◌ (balance_same T K U x t known i h)
        (ap₂ (most U (peak_at U) r) (fresh_same T K U x t known i h) (open_same T K U x t known i h) ∙ most_same T U (peak_at U) (peak_at T) r (fresh T (T.first t + i)) (there i) (same i h))

    given : (i : ℕ) → i ≤ T.count t → balance_to T t i + most T (peak_at T) r (fresh T (T.first t + i)) (there i) ≤ peak_at T t r
    given i h = peak_at_lem T x.lawful (λ a. true) t r i known h refl

    -- right after the join of a tree
    after_join : (i : ℕ) → i < T.count t → big T K (T.first t + i) ≡ true
        → balance_to U t (suc (suc (lead T K U x t i))) + most U (peak_at U) r (fresh U (U.first t + suc (suc (lead T K U x t i)))) (open_before U (U.first t + suc (suc (lead T K U x t i)))) ≤ peak_at T t r
    after_join i w e =
        let z : U.first t + suc (suc (lead T K U x t i)) ≡ suc (suc (start T K U x t i)) = omega arith in
        let o : open_before U (suc (suc (start T K U x t i))) ≡ there i = joined_open T K U x t known i w e ∙ open_same T K U x t known i (omega arith) in
        let m : most U (peak_at U) r (fresh U (U.first t + suc (suc (lead T K U x t i)))) (open_before U (U.first t + suc (suc (lead T K U x t i)))) ≡ most T (peak_at T) r false (there i) =
        ap₂ (most U (peak_at U) r) (ap (fresh U) z ∙ not_fresh) (ap (open_before U) z ∙ o) ∙ most_same T U (peak_at U) (peak_at T) r false (there i) (same i (omega arith)) in
        omega (arith, m, balance_joined T K U x t known i w e, given i (omega arith), most_calm T (peak_at T) r (fresh T (T.first t + i)) (there i))
      where
        not_fresh : fresh U (suc (suc (start T K U x t i))) ≡ false
        not_fresh = join_not_fresh U (suc (start T K U x t i)) (front_join T K U x t i known w e)

    -- right after its fork
    after_fork : (i : ℕ) → i < T.count t → big T K (T.first t + i) ≡ true
        → balance_to U t (suc (lead T K U x t i)) + most U (peak_at U) r (fresh U (U.first t + suc (lead T K U x t i))) (open_before U (U.first t + suc (lead T K U x t i))) ≤ peak_at T t r
    after_fork i w e =
        let root : ℕ = root_of T K (T.first t + i) in
        let (lo, hi) = root_in T K U x (T.first t + i) (action_within T x.lawful.contents x.lawful.bodies t i known w) e in
        let z : U.first t + suc (lead T K U x t i) ≡ suc (start T K U x t i) = omega arith in
        let o : open_before U (suc (start T K U x t i)) ≡ root ∷ there i = front_open T K U x t known i w e ∙ ap (λ (k : List ℕ). root ∷ k) (open_same T K U x t known i (omega arith)) in
        let f : fresh U (suc (start T K U x t i)) ≡ true = fork_fresh U (start T K U x t i) (front_fork T K U x t i known w e) in
        let m : most U (peak_at U) r (fresh U (U.first t + suc (lead T K U x t i))) (open_before U (U.first t + suc (lead T K U x t i))) ≡ most U (peak_at U) r true (root ∷ there i) =
        ap₂ (most U (peak_at U) r) (ap (fresh U) z ∙ f) (ap (open_before U) z ∙ o) in
        omega (
          arith,
          m,
          most_idle U (peak_at U) r root (there i) (new_final root lo hi) (new_peak root lo hi),
          most_same T U (peak_at U) (peak_at T) r false (there i) (same i (omega arith)),
          balance_forked T K U x t known i w e,
          given i (omega arith),
          most_calm T (peak_at T) r (fresh T (T.first t + i)) (there i),
        )

    spot_within : (k : ℕ) → Spot T K U x t known k → balance_to U t k + most U (peak_at U) r (fresh U (U.first t + k)) (open_before U (U.first t + k)) ≤ peak_at T t r
    spot_within k (at i h e) = rw e (omega (arith, at_place i h, given i h))
    spot_within k (forked i w p e) = rw e (after_fork i w p)
    spot_within k (joined i w p e) = rw e (after_join i w p)

    upward : peak_at U t r ≤ peak_at T t r
    unfolding peak_there
    upward =
        rw (peak_is U l (λ a. true) t r (known_new T K U x t known))
        (greatest_under _ (suc (U.count t)) _ (λ k i. spot_within k (spot T K U x t known k (omega arith))))

    lead_within : (i : ℕ) → i ≤ T.count t → lead T K U x t i ≤ U.count t
    lead_within i h = rw (count_old T K U x t known) (lead_rises i (T.count t - i) (omega arith))
      where
        lead_rises : (i m : ℕ) → i + m ≡ T.count t → lead T K U x t i ≤ lead T K U x t (T.count t)
        lead_rises i zero e = let z : i ≡ T.count t = omega arith in rw z (omega arith)
        lead_rises i (suc m) e = omega (arith, lead_next T K U x t i, lead_rises (suc i) m (omega arith))

    backward : peak_at T t r ≤ peak_at U t r
    unfolding peak_there
    backward =
        rw (peak_is T x.lawful (λ a. true) t r known)
        (greatest_under _ (suc (T.count t)) _
        (λ k i. omega (arith, at_place k (omega arith), peak_at_lem U l (λ a. true) t r (lead T K U x t k) (known_new T K U x t known) (lead_within k (omega arith)) refl)))

    both : peak_at U t r ≡ peak_at T t r
    both = omega (arith, upward, backward)

  -- every thread of the given table has the same peaks
  pub old_peak : (t : ℕ) → t < T.threads → (r : ℕ) → peak_at U t r ≡ peak_at T t r
  old_peak = downward (λ t. (r : ℕ) → peak_at U t r ≡ peak_at T t r) T.threads (λ t h below r. both t h below r)

  pub filled_workers : (p : ℕ) → workers_peak U p ≡ workers_peak T p
  unfolding workers_peak
  filled_workers p = old_peak 0 x.lawful.some_thread (p - 1)

pub fill_workers : (s : List ℕ) (K : ℕ) → Rules s → 1 ≤ K → Fits (table_of s) K → (p : ℕ) → workers_peak (table_of (filled_out s K)) p ≡ workers_peak (table_of s) p
unfolding filled_out
fill_workers s K rules some fits p = go (any_below (big (table_of s) K) (table_of s).actions) (fill_rules s K rules some fits)
  where
    go : (q : Bool) → Rules (pick q (written (filled_bodies (table_of s) K)) s) → workers_peak (table_of (pick q (written (filled_bodies (table_of s) K)) s)) p ≡ workers_peak (table_of s) p
    go true f = filled_workers (table_of s) K (table_of (written (filled_bodies (table_of s) K))) (fills s K rules some fits) (lawful (written (filled_bodies (table_of s) K)) f) p
    go false f = refl
