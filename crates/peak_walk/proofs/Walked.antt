-- A walk over a thread's body on lists that are right above the thread comes to its peak and its final balance. The invariant: the balance is the thread's so far, the best that of the places
-- so far, and the rows are those of the children that stand open.
use Rattle.std.proofs.Common.{◌≡◌, ℕ, zero, suc, ◌+◌, ◌-◌, ◌^◌, ◌<◌, ◌≤◌, max, Bool, true, false, List, [], ◌∷◌, length, get_or, sym, refl, ap, ◌∙◌, subst, add-zero, add-suc, arith}
use native.Mathlib.Decide.{ℕ_discrete}
use Rattle.table.specs.Sum.{pick, sum_to, greatest_to}
use Rattle.table.specs.Format.{code_of, is, Table, kind}
use Rattle.table.specs.declared.kinds.Kind.{Kind}
use Rattle.table.specs.declared.kinds.Kind.TheVariants.{End as end, Work as work, Alloc as alloc, Free as free, Fork as fork, Join as join, Unknown as unknown}
use Rattle.table.specs.Checks.{open_before, opened, tail}
use Rattle.table.proofs.Amounts.{action_next}
use Rattle.table.proofs.Nesting.{open_first, open_end, open_fork}
use Rattle.table.proofs.Tests.{fork_no_end}
use Rattle.schedule.specs.Sound.{balance_to}
use Rattle.order.proofs.Lawful.{Lawful}
use Rattle.peaks.specs.Peak.{fresh, final, gain, one_more, most, peak_there, peak_on}
use Rattle.peaks.specs.Rests.{stretch_begins, rests}
use Rattle.table.proofs.Sums.{greatest_to_cong}
use Rattle.peaks.proofs.Peaks.{peak_is}
use Rattle.peaks.proofs.PeakSizes.{final_whole, peak_whole, place_whole, open_whole}
use Rattle.peak_walk.specs.Peaked.{standing}
use Rattle.peak_walk.specs.Code.Walk.{slot, cut, row_value, pushed, row_greatest, balance_after, depth_after, rows_after, extra_after, Walked, walk, place_after, stepped, may_after, walked, Right}
use Rattle.peak_walk.proofs.OpenRows.{cut_small, pushed_length, pushed_below, pushed_at, RowsOf, rows_kept, top_row, open_few}
use Rattle.peak_walk.proofs.BalanceAlong.{thread_small, inside, child_fork, balance_next}

pub may_is : (T : Table) (resting : Bool) (a : ℕ) → may_after T.code resting a ≡ standing T resting (suc a)
unfolding may_after rests stretch_begins
may_is T true a = refl
may_is T false a = refl

tail_length : (l : List ℕ) → length (tail l) ≡ length l - 1
tail_length [] = refl
tail_length (c ∷ l) = omega arith

pub greatest_next : (f : ℕ → ℕ) (k : ℕ) → greatest_to f (suc k) ≡ max (greatest_to f k) (f k)
unfolding greatest_to
greatest_next f k = refl

zeros : (k : ℕ) → greatest_to (λ j. 0) k ≡ 0
unfolding greatest_to
zeros zero = refl
zeros (suc k) = omega (arith, zeros k)

module _ (T : Table) (l : Lawful T) (small : (a : ℕ) → T.argument a < 16777216) (resting : Bool) (peaks finals rows : List ℕ) (r t : ℕ) (low : r ≤ 16) (h : t < T.threads)
    (right : Right T resting peaks finals rows r (suc t)) where
  abbrev P : ℕ → ℕ → ℕ
  P = peak_on T (standing T resting)

  abbrev place : ℕ → ℕ
  place k = pick (standing T resting (T.first t + k)) (peak_there T P t r k) 0

  abbrev opens : ℕ → List ℕ
  opens k = open_before T (T.first t + k)

  peak_right : (d s : ℕ) → t < d → d < T.threads → s ≤ r → get_or peaks (slot d s) 0 ≡ peak_on T (standing T resting) d s
  peak_right d s a b c = go (ℕ_discrete s r)
    where
      go : Dec (s ≡ r) → get_or peaks (slot d s) 0 ≡ peak_on T (standing T resting) d s
      go (yes e) = rw e (right.here d a b)
      go (no n) = right.lower d s b (omega (arith, c, n))

  -- no number is too large
  final_small : (d : ℕ) → d < T.threads → final T d < 2 ^ 40
  final_small d i = omega (arith, final_whole T l d i, thread_small T l small d i)

  peak_small : (d s : ℕ) → d < T.threads → peak_on T (standing T resting) d s < 2 ^ 40
  peak_small d s i = omega (arith, peak_whole T l (standing T resting) d s i, thread_small T l small d i)

  gain_small : (k j : ℕ) → k ≤ T.count t → gain T (peak_on T (standing T resting)) r (open_before T (T.first t + k)) j < 2 ^ 40
  gain_small k j i = omega (arith, open_whole T l (standing T resting) t r k j h i, thread_small T l small t h)

  pub record Holds (k : ℕ) (w : Walked) : Type 0 where
    pub balance : w.balance ≡ balance_to T t k
    pub best : w.best ≡ greatest_to place (suc k)
    pub depth : w.depth ≡ length (open_before T (T.first t + k))
    pub open_rows : RowsOf T (peak_on T (standing T resting)) r w.rows (open_before T (T.first t + k))
    pub none : (j : ℕ) → j < 17 → get_or w.rows j 0 ≡ 0
    pub size : length w.rows ≡ 17408

  bare : (f : ℕ) (l : List ℕ) → l ≡ [] → max 0 (pick (standing T resting f) (balance_to T t 0 + most T P r (fresh T f) l) 0) ≡ 0
  unfolding greatest_to sum_to most gain
  bare f l e =
      subst (λ (m : List ℕ). max 0 (pick (standing T resting f) (balance_to T t 0 + most T P r (fresh T f) m) 0) ≡ 0) (sym e)
      (go (standing T resting f) (fresh T f) (zeros (suc r)))
    where
      go : (q f : Bool) → greatest_to (λ j. 0) (suc r) ≡ 0 → max 0 (pick q (0 + max (greatest_to (λ j. 0) (suc r)) (pick f 0 0)) 0) ≡ 0
      go true true z = omega (arith, z)
      go true false z = omega (arith, z)
      go false f z = refl

  nothing : greatest_to place 1 ≡ 0
  unfolding greatest_to peak_there
  nothing =
      bare (T.first t + 0) (open_before T (T.first t + 0)) (rw (add-zero (T.first t), open_first T l.contents l.bodies l.nesting t h))

  start : Holds 0 (walk 0 0 0 rows)
  unfolding sum_to RowsOf
  start =
      record {
        balance = refl;
        best = sym nothing;
        depth = rw (add-zero (T.first t), open_first T l.contents l.bodies l.nesting t h);
        open_rows = rw (add-zero (T.first t), open_first T l.contents l.bodies l.nesting t h) tt;
        none = right.none;
        size = right.rows_size;
      }

  there_is : (k : ℕ) → peak_there T (peak_on T (standing T resting)) t r (suc k)
      ≡ balance_to T t (suc k)
      + max (greatest_to (gain T (peak_on T (standing T resting)) r (opened (kind T (T.first t + k)) (T.argument (T.first t + k)) (open_before T (T.first t + k)))) (suc r))
      (pick (is fork (kind T (T.first t + k))) (one_more T (peak_on T (standing T resting)) r (opened (kind T (T.first t + k)) (T.argument (T.first t + k)) (open_before T (T.first t + k)))) 0)
  unfolding peak_there most fresh open_before
  there_is k = rw (add-suc (T.first t) k) refl

  no_row : (rows' : List ℕ) → RowsOf T (peak_on T (standing T resting)) r rows' []
  unfolding RowsOf
  no_row rows' = tt

  more : (rows' : List ℕ) (c : ℕ) (ds : List ℕ) → ((j : ℕ) → j ≤ r → get_or rows' (slot (suc (length ds)) j) 0 ≡ gain T (peak_on T (standing T resting)) r (c ∷ ds) j)
      → RowsOf T (peak_on T (standing T resting)) r rows' ds → RowsOf T (peak_on T (standing T resting)) r rows' (c ∷ ds)
  unfolding RowsOf
  more rows' c ds e s = (e, s)

  tail_rows : (rows' ds : List ℕ) → RowsOf T (peak_on T (standing T resting)) r rows' ds → RowsOf T (peak_on T (standing T resting)) r rows' (tail ds)
  unfolding RowsOf
  tail_rows rows' [] s = tt
  tail_rows rows' (c ∷ ds) s = s.1

  -- one action more
  module _ (k : ℕ) (i : k < T.count t) (w : Walked) (v : Holds k w) where
    abbrev a : ℕ
    a = T.first t + k

    abbrev x : ℕ
    x = T.argument a

    abbrev cs : List ℕ
    cs = open_before T a

    top : (j : ℕ) → j ≤ r → get_or w.rows (slot w.depth j) 0 ≡ gain T (peak_on T (standing T resting)) r (open_before T (T.first t + k)) j
    top j b = rw v.depth (top_row T P r w.rows cs low v.none v.open_rows j b)

    -- a fork is not the last action, and with its child open there are fewer than there are threads
    few : kind T (T.first t + k) ≡ fork → suc (length (open_before T (T.first t + k))) < T.threads
    few e =
        let b : suc k < T.count t = action_next T l.contents l.bodies t k h i (fork_no_end e) in
        rw (add-suc (T.first t) k, open_fork T l.contents l.bodies l.nesting a e) at (open_few T l t h (suc k) b)

    balance_is : (K : Kind) → kind T (T.first t + k) ≡ K → balance_after finals K (T.argument (T.first t + k)) w.balance ≡ balance_to T t (suc k)
    balance_is = balance_next T l t h k i small finals right.balances w.balance v.balance

    -- ---- the rows

    -- a child's row
    value_is : kind T (T.first t + k) ≡ fork → (j : ℕ) → j ≤ r → row_value peaks finals r (T.argument (T.first t + k)) w.depth w.rows j
        ≡ gain T (peak_on T (standing T resting)) r (T.argument (T.first t + k) ∷ open_before T (T.first t + k)) j
    unfolding row_value gain
    value_is e zero b =
        let (p, q) = child_fork T l t h k i e in
        let f : get_or finals x 0 ≡ final T x = right.balances x p q in
        let g = top 0 b in
        cut_small _ (omega (arith, f, g, final_small x q, gain_small k 0 (omega arith))) ∙ omega (arith, f, g)
    value_is e (suc j) b =
        let (p, q) = child_fork T l t h k i e in
        let f : get_or finals x 0 ≡ final T x = right.balances x p q in
        let g = top (suc j) b in
        let g' = top j (omega arith) in
        let y : get_or peaks (slot x (r - j)) 0 ≡ P x (r - j) = peak_right x (r - j) p q (omega arith) in
        let c : cut (get_or finals x 0 + get_or w.rows (slot w.depth (suc j)) 0) ≡ final T x + gain T P r cs (suc j) =
        cut_small _ (omega (arith, f, g, final_small x q, gain_small k (suc j) (omega arith))) ∙ omega (arith, f, g) in
        let c' : cut (get_or peaks (slot x (r - j)) 0 + get_or w.rows (slot w.depth j) 0) ≡ P x (r - j) + gain T P r cs j =
        cut_small _ (omega (arith, y, g', peak_small x (r - j) q, gain_small k j (omega arith))) ∙ omega (arith, y, g') in
        omega (arith, c, c')

    pub record Rows (K : Kind) (ds rows' : List ℕ) : Type 0 where
      pub depth : depth_after K w.depth ≡ length ds
      pub open_rows : RowsOf T (peak_on T (standing T resting)) r rows' ds
      pub none : (j : ℕ) → j < 17 → get_or rows' j 0 ≡ 0
      pub size : length rows' ≡ 17408

    rows_next : (K : Kind) → kind T (T.first t + k) ≡ K
        → Rows K (opened K (T.argument (T.first t + k)) (open_before T (T.first t + k))) (rows_after peaks finals r K (T.argument (T.first t + k)) w.depth w.rows)
    unfolding depth_after rows_after is code_of
    rows_next end e =
        let z : length cs ≡ 0 = rw (open_end T l.contents l.bodies l.nesting a (inside T l t h k i) e) in
        record { depth = omega (arith, v.depth, z); open_rows = no_row w.rows; none = v.none; size = v.size }
    rows_next work e = record { depth = v.depth; open_rows = v.open_rows; none = v.none; size = v.size }
    rows_next alloc e = record { depth = v.depth; open_rows = v.open_rows; none = v.none; size = v.size }
    rows_next free e = record { depth = v.depth; open_rows = v.open_rows; none = v.none; size = v.size }
    rows_next unknown e = record { depth = v.depth; open_rows = v.open_rows; none = v.none; size = v.size }
    rows_next join e =
        record { depth = omega (arith, v.depth, tail_length cs); open_rows = tail_rows w.rows cs v.open_rows; none = v.none; size = v.size }
    rows_next fork e =
        let new : List ℕ = pushed peaks finals r x w.depth w.rows (suc r) in
        let room : slot (suc w.depth) 16 < length w.rows = omega (arith, v.size, v.depth, few e, l.few_threads) in
        let below : (j : ℕ) → j < slot (suc (length cs)) 0 → get_or new j 0 ≡ get_or w.rows j 0 =
        λ j b. pushed_below peaks finals r x w.depth w.rows (suc r) j (omega (arith, b, v.depth)) in
        record {
          depth = omega (arith, v.depth);
          open_rows =
              more new x cs
              (λ j b.
              ap (λ (d : ℕ). get_or new (slot (suc d) j) 0) (sym v.depth)
              ∙ pushed_at peaks finals r x w.depth w.rows (suc r) j (omega (arith, low)) (omega arith) room
              ∙ value_is e j b)
              (rows_kept T P r w.rows new cs low below v.open_rows);
          none = λ j b. below j (omega arith) ∙ v.none j b;
          size = pushed_length peaks finals r x w.depth w.rows (suc r) ∙ v.size;
        }

    -- ---- the place

    extra_next : (K : Kind) → kind T (T.first t + k) ≡ K → extra_after peaks r K (T.argument (T.first t + k)) w.depth w.rows
        ≡ pick (is fork K) (one_more T (peak_on T (standing T resting)) r (opened K (T.argument (T.first t + k)) (open_before T (T.first t + k)))) 0
    unfolding extra_after is code_of
    extra_next end e = refl
    extra_next work e = refl
    extra_next alloc e = refl
    extra_next free e = refl
    extra_next join e = refl
    extra_next unknown e = refl
    extra_next fork e =
        let (p, q) = child_fork T l t h k i e in
        let g = top r (omega arith) in
        let y : get_or peaks (slot x 0) 0 ≡ P x 0 = peak_right x 0 p q (omega arith) in
        cut_small _ (omega (arith, y, g, peak_small x 0 q, gain_small k r (omega arith))) ∙ omega (arith, y, g)

    place_next : place_after peaks finals r (kind T (T.first t + k)) (T.argument (T.first t + k)) w ≡ peak_there T (peak_on T (standing T resting)) t r (suc k)
    place_next =
        let n : Rows (kind T a) (opened (kind T a) x cs) (rows_after peaks finals r (kind T a) x w.depth w.rows) = rows_next (kind T a) refl in
        let tops : row_greatest (rows_after peaks finals r (kind T a) x w.depth w.rows) (depth_after (kind T a) w.depth) r ≡ greatest_to (gain T P r (opened (kind T a) x cs)) (suc r) =
        greatest_to_cong _ _ (suc r) (λ j b. rw n.depth (top_row T P r (rows_after peaks finals r (kind T a) x w.depth w.rows) (opened (kind T a) x cs) low n.none n.open_rows j (omega arith))) in
        let e : balance_after finals (kind T a) x w.balance
        + max (row_greatest (rows_after peaks finals r (kind T a) x w.depth w.rows) (depth_after (kind T a) w.depth) r) (extra_after peaks r (kind T a) x w.depth w.rows)
        ≡ peak_there T P t r (suc k) =
        omega (arith, balance_is (kind T a) refl, tops, extra_next (kind T a) refl, there_is k) in
        cut_small _ (omega (arith, e, place_whole T l (standing T resting) t r (suc k) h i, thread_small T l small t h)) ∙ e

    step : Holds (suc k) (stepped peaks finals r (may_after T.code resting (T.first t + k)) (kind T (T.first t + k)) (T.argument (T.first t + k)) w)
    unfolding stepped open_before
    step =
        let n : Rows (kind T a) (opened (kind T a) x cs) (rows_after peaks finals r (kind T a) x w.depth w.rows) = rows_next (kind T a) refl in
        record {
          balance = balance_is (kind T a) refl;
          best = best_next (may_after T.code resting a) (may_is T resting a);
          depth = rw (add-suc (T.first t) k) n.depth;
          open_rows = rw (add-suc (T.first t) k) n.open_rows;
          none = n.none;
          size = n.size;
        }
      where
        best_next : (q : Bool) → q ≡ standing T resting (suc (T.first t + k))
            → pick q (max w.best (place_after peaks finals r (kind T a) x w)) w.best ≡ greatest_to place (suc (suc k))
        best_next q e = rw (greatest_next place (suc k), add-suc (T.first t) k, ← e) (go q)
          where
            go : (q : Bool) → pick q (max w.best (place_after peaks finals r (kind T a) x w)) w.best ≡ max (greatest_to place (suc k)) (pick q (peak_there T P t r (suc k)) 0)
            go true = omega (arith, v.best, place_next)
            go false = omega (arith, v.best)

  holds : (k : ℕ) → k ≤ T.count t → Holds k (walked T.code T.argument resting peaks finals r (T.first t) rows k)
  unfolding walked
  holds zero i = start
  holds (suc k) i = step k i _ (holds k (omega arith))

  -- the whole body
  pub record Found (w : Walked) : Type 0 where
    pub best : w.best ≡ peak_on T (standing T resting) t r
    pub balance : w.balance ≡ final T t
    pub none : (j : ℕ) → j < 17 → get_or w.rows j 0 ≡ 0
    pub size : length w.rows ≡ 17408

  pub walk_right_lem : Found (walked T.code T.argument resting peaks finals r (T.first t) rows (T.count t))
  walk_right_lem =
      let v = holds (T.count t) (omega arith) in
      record { best = v.best ∙ sym (peak_is T l (standing T resting) t r h); balance = v.balance; none = v.none; size = v.size }
