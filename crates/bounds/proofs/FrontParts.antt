-- From rows of turns to their front parts: the bounds of Bound.antt on memory held, for every front part of a row and for the greatest of them.
use mathlib.Core.Path.{◌≡◌, ◌∙◌}
use Prim.Native.Nat.{ℕ, ◌≤◌, ◌<◌}
use mathlib.Core.List.{List, ◌++◌, append_assoc, Memᴰ}
use Rattle.table.specs.Format.{Table}
use Rattle.table.specs.Serial.{S1}
use Rattle.schedule.specs.Memory.{row_memory, Keeps, limit}
use Rattle.order.proofs.Lawful.{Lawful}
use Rattle.schedule.proofs.Runs.Rows.{front_workers, row_held}
use Rattle.filling.proofs.Delay.{drawn_cost, Delayed}
use Rattle.bounds.proofs.Bound.{row_bound, row_alone}

-- a front part of a row that keeps the rule keeps it
pub keeps_front : (b : ℕ) (row front rest : List ℕ) → row ≡ front ++ rest → Keeps b row → Keeps b front
unfolding Keeps
keeps_front b row front rest e k before stretch after w v d n =
    k before stretch (after ++ rest) w v (e ∙ rw d (simp append_assoc)) n

module _ (T : Table) (l : Lawful T) (p K : ℕ) (some : 1 ≤ p) (few : p ≤ 16) (delayed : Delayed T (drawn_cost T K)) (row : List ℕ) (h : (w : ℕ) → Memᴰ w row → w < p) where
  front_below : (front rest : List ℕ) → row ≡ front ++ rest → (w : ℕ) → Memᴰ w front → w < p
  front_below front rest e = front_workers (λ w. w < p) row front rest e h

  pub front_bound : (b : ℕ) → 1 ≤ b → Keeps b row → (front rest : List ℕ) → row ≡ front ++ rest → row_memory T K front ≤ limit T p K b
  front_bound b g r front rest e =
      rw (row_held T l p K few front (front_below front rest e)) at
      (row_bound T l p K some few delayed b g front (front_below front rest e) (keeps_front b row front rest e r))

  pub front_alone : p ≡ 1 → (front rest : List ℕ) → row ≡ front ++ rest → row_memory T K front ≤ S1 T
  front_alone q front rest e =
      rw (row_held T l p K few front (front_below front rest e)) at (row_alone T l p K some few delayed q front (front_below front rest e))
