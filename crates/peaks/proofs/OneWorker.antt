-- At load 0 the peak is the serial one: the peak of one worker is S1.
use mathlib.Core.Path.{◌≡◌, refl, sym, ◌∙◌}
use Prim.Native.Nat.{ℕ, zero, suc, ◌+◌, ◌-◌, ◌≤◌, ◌<◌, max}
use native.Mathlib.Omega.{arith}
use native.Mathlib.Nat.{add-suc, add-zero}
use native.Mathlib.Decide.{dec_lt}
use mathlib.Core.List.{List, [], ◌∷◌, Memᴰ}
use mathlib.Core.Bool.{Bool, true, false}
use Rattle.table.specs.Sum.{sum_to, sum_over, greatest_to}
use Rattle.table.specs.Format.{code_of, is, Table, kind}
use Rattle.table.specs.declared.kinds.Kind.TheVariants.{End as end, Fork as fork}
use Rattle.table.specs.Checks.{open_before, alloc_of, free_of, whole, end_of}
use Rattle.table.specs.Serial.{S1}
use Rattle.table.proofs.Tests.{is_true, fork_no_end}
use Rattle.table.proofs.Bodies.{count_pos, after_end, end_kind, fork_above, fork_below_lem}
use Rattle.table.proofs.Nesting.{open_first, open_fork, open_below}
use Rattle.table.proofs.Amounts.{fork_part, fork_part_open, action_within, action_next, whole_is}
use Rattle.table.proofs.Peaks.{top_at, part_held, peak_thread}
use Rattle.table.proofs.Peaks.{peak_at as serial_peak}
use Rattle.table.proofs.NestedThreads.{greatest_at, greatest_under}
use Rattle.schedule.specs.Sound.{balance_to}
use Rattle.order.proofs.Lawful.{Lawful}
use Rattle.schedule.proofs.Sound.Balances.{balance_step}
use Rattle.peaks.specs.Peak.{fresh, final, gain, most, peak_there, peak_at, workers_peak}
use Rattle.peaks.proofs.Opens.{open_over}
use Rattle.peaks.proofs.Peaks.{peak_is, peak_at_lem}

-- all open children ended
gain_none : (T : Table) (peak : ℕ → ℕ → ℕ) (r : ℕ) (l : List ℕ) → gain T peak r l 0 ≡ sum_over (final T) l
unfolding gain sum_over
gain_none T peak r [] = refl
gain_none T peak r (c ∷ l) = omega (arith, gain_none T peak r l)

most_none : (T : Table) (peak : ℕ → ℕ → ℕ) (l : List ℕ) → most T peak 0 false l ≡ sum_over (final T) l
unfolding most greatest_to
most_none T peak l = omega (arith, gain_none T peak 0 l)

most_fresh : (T : Table) (peak : ℕ → ℕ → ℕ) (c : ℕ) (l : List ℕ) → most T peak 0 true (c ∷ l) ≡ max (sum_over (final T) (c ∷ l)) (peak c 0 + sum_over (final T) l)
unfolding most greatest_to
most_fresh T peak c l = omega (arith, gain_none T peak 0 (c ∷ l), gain_none T peak 0 l)

most_base : (T : Table) (peak : ℕ → ℕ → ℕ) (f : Bool) (l : List ℕ) → sum_over (final T) l ≤ most T peak 0 f l
unfolding most greatest_to
most_base T peak f l = omega (arith, gain_none T peak 0 l)

zero_balance : (T : Table) (t : ℕ) → balance_to T t 0 ≡ 0
unfolding sum_to
zero_balance T t = refl

most_nil : (T : Table) (peak : ℕ → ℕ → ℕ) (f : Bool) → most T peak 0 f [] ≡ 0
unfolding most greatest_to gain
most_nil T peak true = refl
most_nil T peak false = refl

module _ (T : Table) (l : Lawful T) where
  -- an open child's final balance is what is left of it
  open_final : (ds : List ℕ) → ((d : ℕ) → Memᴰ d ds → d < T.threads) → sum_over (final T) ds + sum_over (whole T (free_of T)) ds ≡ sum_over (whole T (alloc_of T)) ds
  unfolding sum_over
  open_final [] h = refl
  open_final (d ∷ ds) h =
      let i : d < T.threads = h d (Memᴰ.head refl) in
      omega (
        arith,
        open_final ds (λ x m. h x (Memᴰ.tail m)),
        whole_is T l.contents l.bodies (alloc_of T) d i,
        whole_is T l.contents l.bodies (free_of T) d i,
        part_held T l.contents l.bodies l.nesting l.balances d (T.count d) i (omega arith),
      )

  -- what serial order holds before an action, counted from the thread's start
  serial_there : (t k : ℕ) → t < T.threads → k < T.count t
      → fork_part T (alloc_of T) t k - fork_part T (free_of T) t k ≡ balance_to T t k + sum_over (final T) (open_before T (T.first t + k))
  serial_there t k h i =
      let a : ℕ = T.first t + k in
      let w : a < T.actions = action_within T l.contents l.bodies t k h i in
      omega (
        arith,
        fork_part_open T l.contents l.bodies l.nesting (alloc_of T) t k h i,
        fork_part_open T l.contents l.bodies l.nesting (free_of T) t k h i,
        part_held T l.contents l.bodies l.nesting l.balances t k h (omega arith),
        open_final (open_before T a) (λ d m. open_below T l.contents l.bodies l.nesting a d w m),
      )

  -- a fork and an end draw nothing
  fork_balance : (t k : ℕ) → t < T.threads → k < T.count t → kind T (T.first t + k) ≡ fork → balance_to T t (suc k) ≡ balance_to T t k
  unfolding alloc_of free_of is code_of
  fork_balance t k h i y =
      let e = balance_step T l t h k i (rw y) in
      let e' = rw y at e in
      omega arith

  end_balance : (t k : ℕ) → t < T.threads → k < T.count t → kind T (T.first t + k) ≡ end → balance_to T t (suc k) ≡ balance_to T t k
  unfolding alloc_of free_of is code_of
  end_balance t k h i y =
      let e = balance_step T l t h k i (rw y) in
      let e' = rw y at e in
      omega arith

  module _ (t : ℕ) (h : t < T.threads) (same : (d : ℕ) → t < d → d < T.threads → peak_at T d 0 ≡ serial_peak T d) where
    abbrev top : ℕ
    top = greatest_to (top_at T (serial_peak T) t) (T.count t)

    base : (k : ℕ) → k < T.count t → balance_to T t k + sum_over (final T) (open_before T (T.first t + k)) ≤ top
    base k i = omega (arith, serial_there t k h i, greatest_at (top_at T (serial_peak T) t) (T.count t) k i)

    forked : (k : ℕ) → k < T.count t → kind T (T.first t + k) ≡ fork
        → balance_to T t k + sum_over (final T) (open_before T (T.first t + k)) + peak_at T (T.argument (T.first t + k)) 0 ≡ top_at T (serial_peak T) t k
    unfolding is code_of
    forked k i y =
        let w : T.first t + k < T.actions = action_within T l.contents l.bodies t k h i in
        let up : t < T.argument (T.first t + k) =
        rw (Rattle.table.proofs.Bodies.owner_at T l.contents t k h i) at (fork_above T l.contents l.bodies (T.first t + k) w y) in
        rw y (omega (arith, serial_there t k h i, same (T.argument (T.first t + k)) up (fork_below_lem T l.contents l.bodies (T.first t + k) w y)))

    -- the thread's last place
    over : balance_to T t (T.count t) ≤ top
    unfolding sum_over
    over = go (T.count t) refl
      where
        go : (k : ℕ) → T.count t ≡ k → balance_to T t k ≤ top
        go zero e = absurd (omega (arith, count_pos T l.contents t h))
        go (suc k) e =
            let last : T.first t + k ≡ end_of T t = omega (arith, after_end T l.contents t h, e) in
            let z : kind T (T.first t + k) ≡ end = rw last (end_kind T l.contents l.bodies t h) in
            let i : k < T.count t = omega (arith, e) in
            omega (arith, base k i, end_balance t k h i z)

    there : (k : ℕ) → k ≤ T.count t → balance_to T t k + most T (peak_at T) 0 (fresh T (T.first t + k)) (open_before T (T.first t + k)) ≤ top
    unfolding fresh sum_over
    there zero i = rw (add-zero, open_first T l.contents l.bodies l.nesting t h, most_nil) (omega (arith, zero_balance T t))
    there (suc k) i = rw add-suc (go (is fork (kind T (T.first t + k))) refl)
      where
        a : ℕ
        a = T.first t + k

        go : (q : Bool) → is fork (kind T a) ≡ q → balance_to T t (suc k) + most T (peak_at T) 0 q (open_before T (suc a)) ≤ top
        go true e =
            let y : kind T a ≡ fork = is_true fork (kind T a) e in
            let b : suc k < T.count t = action_next T l.contents l.bodies t k h i (fork_no_end y) in
            let o : open_before T (suc a) ≡ T.argument a ∷ open_before T a = open_fork T l.contents l.bodies l.nesting a y in
            let s = rw (add-suc, o) at (base (suc k) b) in
            rw (o, most_fresh) (omega (arith, s, forked k i y, fork_balance t k h i y, greatest_at (top_at T (serial_peak T) t) (T.count t) k i))
        go false e = rw most_none (at (dec_lt (suc k) (T.count t)))
          where
            at : Dec (suc k < T.count t) → balance_to T t (suc k) + sum_over (final T) (open_before T (suc a)) ≤ top
            at (yes j) = rw add-suc at (base (suc k) j)
            at (no j) =
                let b : suc k ≡ T.count t = omega (arith, i, j) in
                let z : suc a ≡ T.first t + T.count t = omega (arith, b) in
                rw (z, open_over T l t h, b) (omega (arith, over))

    back : (k : ℕ) → k < T.count t → top_at T (serial_peak T) t k ≤ peak_at T t 0
    unfolding fresh
    back k i = go (is fork (kind T a)) refl
      where
        a : ℕ
        a = T.first t + k

        go : (q : Bool) → is fork (kind T a) ≡ q → top_at T (serial_peak T) t k ≤ peak_at T t 0
        go false e =
            rw e (omega (arith, serial_there t k h i, peak_at_lem T l (λ a. true) t 0 k h (omega arith) refl, most_base T (peak_at T) (fresh T a) (open_before T a)))
        go true e =
            let y : kind T a ≡ fork = is_true fork (kind T a) e in
            let o : open_before T (suc a) ≡ T.argument a ∷ open_before T a = open_fork T l.contents l.bodies l.nesting a y in
            let s = rw (add-suc, e, o, most_fresh) at (peak_at_lem T l (λ a. true) t 0 (suc k) h i refl) in
            omega (arith, s, forked k i y, fork_balance t k h i y)

    peak_same : peak_at T t 0 ≡ top
    unfolding peak_there
    peak_same =
        let le : peak_at T t 0 ≤ top = rw (peak_is T l (λ a. true) t 0 h) (greatest_under (peak_there T (peak_at T) t 0) (suc (T.count t)) top (λ k i. there k (omega arith))) in
        let ge : top ≤ peak_at T t 0 = greatest_under (top_at T (serial_peak T) t) (T.count t) (peak_at T t 0) back in
        omega arith

  pub peak_serial : (t : ℕ) → t < T.threads → peak_at T t 0 ≡ serial_peak T t
  peak_serial t h = go T.threads t (omega arith) h
    where
      go : (fuel t : ℕ) → T.threads ≤ fuel + t → t < T.threads → peak_at T t 0 ≡ serial_peak T t
      go zero t b h = absurd (omega arith)
      go (suc fuel) t b h =
          peak_same t h (λ d i j. go fuel d (omega arith) j) ∙ sym (peak_thread T l.contents l.bodies l.nesting l.balances t h)

  pub one_worker : workers_peak T 1 ≡ S1 T
  unfolding workers_peak S1
  one_worker = peak_serial 0 l.some_thread
