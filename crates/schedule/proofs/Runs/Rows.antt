-- Rows of turns from the beginning: the amounts that the state keeps are those of the replies.
use mathlib.Core.Path.{◌≡◌, refl, ap, ◌∙◌}
use Prim.Native.Nat.{ℕ, ◌+◌, ◌≤◌, ◌<◌, max}
use native.Mathlib.Omega.{arith}
use mathlib.Core.List.Memᴰ
use mathlib.Core.List.{List, [], ◌∷◌, ◌++◌, map, Memᴰ}
use mathlib.Core.Logic.{◌⊎◌, inl, inr}
use Rattle.table.specs.Sum.{greatest}
use Rattle.table.specs.Format.{Table}
use Rattle.table.specs.Checks.{alloc_of, free_of}
use Rattle.table.proofs.Levels.{greatest_same, greatest_bound}
use Rattle.table.proofs.Peaks.{greatest_map}
use Rattle.schedule.specs.Machine.{State, turn_of}
use Rattle.schedule.specs.Begin.{start_state}
use Rattle.schedule.specs.Memory.{row_state, replies, sum_replies, row_sum, row_memory, front_rows, peak_memory}
use Rattle.order.proofs.Lawful.{Lawful}
use Rattle.schedule.proofs.Sound.Facts.{Facts}
use Rattle.schedule.proofs.Preservation.Turns.{turn_facts}
use Rattle.schedule.proofs.Preservation.Starts.{start_facts, start_held}
use Rattle.schedule.proofs.Runs.Replies.{Amounts, turn_amounts}

-- ---- front parts

-- the empty front part counts
greatest_empty : (f : List ℕ → ℕ) (row : List ℕ) → f [] ≤ greatest f (front_rows row)
unfolding greatest front_rows
greatest_empty f [] = omega arith
greatest_empty f (w ∷ row) = omega arith

greatest_front : (f : List ℕ → ℕ) (w : ℕ) (row : List ℕ) → greatest f (front_rows (w ∷ row)) ≡ max (f []) (greatest (λ q. f (w ∷ q)) (front_rows row))
unfolding greatest front_rows
greatest_front f w row = rw (greatest_map f (w ∷◌) (front_rows row))

pub front_rest : (row front : List ℕ) → Memᴰ front (front_rows row) → (rest : List ℕ) × (row ≡ front ++ rest)
unfolding front_rows
front_rest [] front m = go (Memᴰ.cases_cons m)
  where
    go : (front ≡ []) ⊎ Memᴰ front [] → (rest : List ℕ) × ([] ≡ front ++ rest)
    go (inl e) = ([], rw e)
    go (inr z) = absurd (Memᴰ.not-nil z)
front_rest (w ∷ row) front m = go (front_rest row) (Memᴰ.cases_cons m)
  where
    go : ((q : List ℕ) → Memᴰ q (front_rows row) → (rest : List ℕ) × (row ≡ q ++ rest))
        → (front ≡ []) ⊎ Memᴰ front (map (w ∷◌) (front_rows row)) → (rest : List ℕ) × (w ∷ row ≡ front ++ rest)
    go ih (inl e) = (w ∷ row, rw e)
    go ih (inr z) =
        let q = Memᴰ.of_map (w ∷◌) (front_rows row) z in
        let r = ih q.0 q.1 in
        (r.0, ap (w ∷◌) r.1 ∙ ap (λ (x : List ℕ). x ++ r.0) q.2)

-- the workers of a front part are the row's
pub front_workers : (P : ℕ → Type 0) (row front rest : List ℕ) → row ≡ front ++ rest → ((w : ℕ) → Memᴰ w row → P w) → (w : ℕ) → Memᴰ w front → P w
front_workers P row front rest e h w m = (rw e at h) w (Memᴰ.append_left rest m)

pub row_state_append : (T : Table) (K : ℕ) (st : State) (front rest : List ℕ) → row_state T K st (front ++ rest) ≡ row_state T K (row_state T K st front) rest
unfolding row_state
row_state_append T K st [] rest = refl
row_state_append T K st (w ∷ front) rest = row_state_append T K (turn_of T K w st).state front rest

-- ---- rows

module _ (T : Table) (l : Lawful T) (p K : ℕ) (few : p ≤ 16) where
  pub row_facts : (st : State) → Facts T p K st → (row : List ℕ) → ((w : ℕ) → Memᴰ w row → w < p) → Facts T p K (row_state T K st row)
  unfolding row_state
  row_facts st f [] h = f
  row_facts st f (w ∷ row) h =
      row_facts (turn_of T K w st).state (turn_facts T l p K few w (h w (Memᴰ.head refl)) st f) row (λ v m. h v (Memᴰ.tail m))

  -- from any sound state
  row_amounts : (st : State) → Facts T p K st → (row : List ℕ) → ((w : ℕ) → Memᴰ w row → w < p)
      → (row_state T K st row).held + sum_replies (free_of T) (replies T K st row) ≡ st.held + sum_replies (alloc_of T) (replies T K st row)
  unfolding row_state replies sum_replies
  row_amounts st f [] h = refl
  row_amounts st f (w ∷ row) h =
      let b : w < p = h w (Memᴰ.head refl) in
      let a : Amounts T st (turn_of T K w st) = turn_amounts T l p K few w b st f in
      let g : Facts T p K (turn_of T K w st).state = turn_facts T l p K few w b st f in
      omega (arith, a.moves, row_amounts (turn_of T K w st).state g row (λ v m. h v (Memᴰ.tail m)))

  row_tops : (st : State) → Facts T p K st → (row : List ℕ) → ((w : ℕ) → Memᴰ w row → w < p)
      → (row_state T K st row).highest ≡ max st.highest (greatest (λ front. (row_state T K st front).held) (front_rows row))
  unfolding row_state greatest front_rows
  row_tops st f [] h = omega (arith, f.above)
  row_tops st f (w ∷ row) h =
      let b : w < p = h w (Memᴰ.head refl) in
      let st' : State = (turn_of T K w st).state in
      let a : Amounts T st (turn_of T K w st) = turn_amounts T l p K few w b st f in
      let r : (row_state T K st' row).highest ≡ max st'.highest (greatest (λ front. (row_state T K st' front).held) (front_rows row)) =
      row_tops st' (turn_facts T l p K few w b st f) row (λ v m. h v (Memᴰ.tail m)) in
      omega (
        arith,
        a.tops,
        f.above,
        r,
        greatest_front (λ front. (row_state T K st front).held) w row,
        greatest_empty (λ front. (row_state T K st' front).held) row,
      )

  -- what is freed was drawn before: the difference in `row_memory` is the amount
  pub row_balanced : (row : List ℕ) → ((w : ℕ) → Memᴰ w row → w < p) → row_sum free_of T K row ≤ row_sum alloc_of T K row
  row_balanced row h = omega (arith, row_amounts (start_state T) (start_facts T l p K) row h, (start_held T l).0)

  pub row_held : (row : List ℕ) → ((w : ℕ) → Memᴰ w row → w < p) → (row_state T K (start_state T) row).held ≡ row_memory T K row
  unfolding row_memory
  row_held row h = omega (arith, row_amounts (start_state T) (start_facts T l p K) row h, (start_held T l).0)

  pub row_highest : (row : List ℕ) → ((w : ℕ) → Memᴰ w row → w < p) → (row_state T K (start_state T) row).highest ≡ peak_memory T K row
  unfolding peak_memory
  row_highest row h =
      let e : greatest (λ front. (row_state T K (start_state T) front).held) (front_rows row) ≡ greatest (row_memory T K) (front_rows row) =
      greatest_same (λ front. (row_state T K (start_state T) front).held) (row_memory T K) (front_rows row)
      (λ front m. let r = front_rest row front m in row_held front (front_workers (λ w. w < p) row front r.0 r.1 h)) in
      omega (arith, e, row_tops (start_state T) (start_facts T l p K) row h, (start_held T l).1)

-- the greatest amount after a front part is within what bounds them all
pub peak_within_lem : (T : Table) (K B : ℕ) (row : List ℕ) → ((front rest : List ℕ) → row ≡ front ++ rest → row_memory T K front ≤ B) → peak_memory T K row ≤ B
unfolding peak_memory
peak_within_lem T K B row h = greatest_bound (row_memory T K) (front_rows row) B (λ front m. let r = front_rest row front m in h front r.0 r.1)
