-- The rows of open children in a flat list: a row more is written past the others, and there is room for it, since fewer children stand open than there are threads.
use Rattle.std.proofs.Common.{◌≡◌, ℕ, zero, suc, ◌+◌, ◌-◌, ◌^◌, ◌<◌, ◌≤◌, List, [], ◌∷◌, length, get_or, set, refl, ◌∙◌, ⊎_elim, mod-eq_of_lt, zero-add, arith, length-set, get_or-set_other, get_or-set_same}
use native.Mathlib.Decide.{ℕ_discrete}
use mathlib.Core.List.Memᴰ
use mathlib.Core.List.{Memᴰ}
use Rattle.table.specs.Format.{Table, kind}
use Rattle.table.specs.declared.kinds.Kind.TheVariants.{Fork as fork}
use Rattle.table.specs.Checks.{open_before, owner}
use Rattle.table.proofs.Nesting.{open_first, open_forked, fork_found}
use Rattle.order.proofs.Lawful.{Lawful}
use Rattle.schedule.proofs.Linked.Once.{Once, once_short}
use Rattle.peaks.specs.Peak.{gain}
use Rattle.peaks.proofs.Opens.{along, open_child}
use Rattle.peak_walk.specs.Code.Walk.{slot, cut, row_value, pushed}

pub cut_small : (x : ℕ) → x < 2 ^ 64 → cut x ≡ x
cut_small x h = mod-eq_of_lt h

-- ---- a row more

module _ (peaks finals : List ℕ) (r c d : ℕ) (rows : List ℕ) where
  pub pushed_length : (k : ℕ) → length (pushed peaks finals r c d rows k) ≡ length rows
  unfolding pushed
  pushed_length zero = refl
  pushed_length (suc k) = length-set (pushed peaks finals r c d rows k) (slot (suc d) k) _ ∙ pushed_length k

  -- the rows below stay
  pub pushed_below : (k i : ℕ) → i < slot (suc d) 0 → get_or (pushed peaks finals r c d rows k) i 0 ≡ get_or rows i 0
  unfolding pushed
  pushed_below zero i h = refl
  pushed_below (suc k) i h = get_or-set_other (pushed peaks finals r c d rows k) (slot (suc d) k) i _ 0 (λ e. omega arith) ∙ pushed_below k i h

  value_same : (k j : ℕ) → j ≤ 16 → row_value peaks finals r c d (pushed peaks finals r c d rows k) j ≡ row_value peaks finals r c d rows j
  unfolding row_value
  value_same k zero h = rw (pushed_below k (slot d 0) (omega arith))
  value_same k (suc j) h = rw (pushed_below k (slot d (suc j)) (omega arith), pushed_below k (slot d j) (omega arith))

  pub pushed_at : (k j : ℕ) → k ≤ 17 → j < k → slot (suc d) 16 < length rows → get_or (pushed peaks finals r c d rows k) (slot (suc d) j) 0 ≡ row_value peaks finals r c d rows j
  unfolding pushed
  pushed_at zero j b h s = absurd (omega arith)
  pushed_at (suc k) j b h s = go (ℕ_discrete j k) (λ i. pushed_at k j (omega arith) i s)
    where
      go : Dec (j ≡ k) → (j < k → get_or (pushed peaks finals r c d rows k) (slot (suc d) j) 0 ≡ row_value peaks finals r c d rows j)
          → get_or (set (pushed peaks finals r c d rows k) (slot (suc d) k) (row_value peaks finals r c d (pushed peaks finals r c d rows k) k)) (slot (suc d) j) 0 ≡ row_value peaks finals r c d rows j
      go (yes e) ih =
          rw e (get_or-set_same (pushed peaks finals r c d rows k) (slot (suc d) k) _ 0 (omega (arith, pushed_length k, s, b)) ∙ value_same k k (omega arith))
      go (no n) ih = get_or-set_other (pushed peaks finals r c d rows k) (slot (suc d) k) (slot (suc d) j) _ 0 (λ e. n (omega arith)) ∙ ih (omega (arith, n))

-- ---- the rows of a list of open children

module _ (T : Table) (peak : ℕ → ℕ → ℕ) (r : ℕ) where
  unfoldable pub RowsOf : List ℕ → List ℕ → Type 0
  RowsOf rows [] = Unit {0}
  RowsOf rows (c ∷ l) = ((j : ℕ) → j ≤ r → get_or rows (slot (suc (length l)) j) 0 ≡ gain T peak r (c ∷ l) j) × RowsOf rows l

  -- only what stands below matters
  pub rows_kept : (rows rows' l : List ℕ) → r ≤ 16 → ((i : ℕ) → i < slot (suc (length l)) 0 → get_or rows' i 0 ≡ get_or rows i 0) → RowsOf rows l → RowsOf rows' l
  unfolding RowsOf
  rows_kept rows rows' [] b e s = tt
  rows_kept rows rows' (c ∷ l) b e s =
      ((λ j i. e (slot (suc (length l)) j) (omega arith) ∙ s.0 j i), rows_kept rows rows' l b (λ i h. e i (omega arith)) s.1)

  -- the topmost row, of no open child too
  pub top_row : (rows l : List ℕ) → r ≤ 16 → ((j : ℕ) → j < 17 → get_or rows j 0 ≡ 0) → RowsOf rows l → (j : ℕ) → j ≤ r → get_or rows (slot (length l) j) 0 ≡ gain T peak r l j
  unfolding RowsOf gain
  top_row rows [] b z s j h = rw (zero-add j) (z j (omega arith))
  top_row rows (c ∷ l) b z s j h = s.0 j h

-- ---- room for a row more

module _ (T : Table) (l : Lawful T) (t : ℕ) (h : t < T.threads) where
  open_once : (k : ℕ) → k < T.count t → Once (open_before T (T.first t + k))
  unfolding Once
  open_once k i =
      along T l t h (λ (a : ℕ). Once (open_before T a)) (rw (open_first T l.contents l.bodies l.nesting t h) tt)
      (λ k j w y e s. rw e ((λ m. again (T.first t + k) w y (open_forked T l.contents l.bodies l.nesting (T.first t + k) (T.argument (T.first t + k)) w m)), s))
      (λ k j w e s. (rw e at s).1)
      (λ k j w e s. rw e s)
      k i
    where
      again : (a : ℕ) → a < T.actions → kind T a ≡ fork
          → (x : ℕ) × (x < a) × (kind T x ≡ fork) × (T.argument x ≡ T.argument a) × (owner T x ≡ owner T a) → ⊥
      again a w y (x, q, z, e, o) =
          omega (
            arith,
            rw e at (fork_found T l.contents l.bodies l.nesting x (omega arith) z),
            fork_found T l.contents l.bodies l.nesting a w y,
          )

  -- fewer than there are threads
  pub open_few : (k : ℕ) → k < T.count t → length (open_before T (T.first t + k)) < T.threads
  unfolding Once
  open_few k i =
      once_short T.threads (0 ∷ open_before T (T.first t + k))
      ((λ m. omega (arith, (open_child T l t k 0 h (omega arith) m).0)), open_once k i)
      (λ x m.
      ⊎_elim (λ (e : x ≡ 0). omega (arith, e, h)) (λ (n : Memᴰ x (open_before T (T.first t + k))). (open_child T l t k x h (omega arith) n).1) (Memᴰ.cases_cons m))
