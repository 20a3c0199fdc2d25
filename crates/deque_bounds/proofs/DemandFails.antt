-- Demand 3's limit does not hold of DFDeques; with an alloc above K, not even without leaps.
use mathlib.Core.Path.{◌≡◌, sym, subst}
use Prim.Native.Nat.{ℕ, zero, suc, ◌≤◌, ◌<◌}
use mathlib.Core.List.Memᴰ
use mathlib.Core.List.{List, [], ◌∷◌, map, Memᴰ}
use mathlib.Core.Logic.{◌⊎◌, inl, inr}
use native.Mathlib.Omega.{arith}
use Rattle.schedule.specs.Memory.{Keeps, limit}
use Rattle.bounds.proofs.KeepsTest.{keeps_exactly}
use Rattle.deques.specs.DequeRuns.{Pair, pair}
use Rattle.deques.specs.Deques.{start_deques}
use Rattle.deques.specs.DequeCalls.{row_deques}
use Rattle.deque_bounds.specs.DequeRows.{leaps}
use Rattle.deque_bounds.specs.DemandCase.{parted, rounds, leaping, leaping_held, leaping_limit, leaping_keeps}
use Rattle.deque_bounds.specs.BigLeaps.{five, five_row, five_held, five_leaps, five_limit, five_keeps}
use Rattle.deque_bounds.proofs.SerialLinesTurns.{BelowAll}

rounds_below : (k c e : ℕ) → c < 2 → e < 2 → (l : List Pair) → BelowAll 2 l → BelowAll 2 (rounds k c e l)
unfolding rounds
rounds_below zero c e h i l b g m = b g m
rounds_below (suc k) c e h i l b g m = first (rounds_below k c e h i l b g) (Memᴰ.cases_cons m)
  where
    second : (Memᴰ g (rounds k c e l) → (g.worker < 2) × (g.choice < 2)) → (g ≡ pair 1 e) ⊎ Memᴰ g (rounds k c e l) → (g.worker < 2) × (g.choice < 2)
    second ih (inl q) = subst (λ (y : Pair). (y.worker < 2) × (y.choice < 2)) (sym q) (omega arith, i)
    second ih (inr n) = ih n

    first : (Memᴰ g (rounds k c e l) → (g.worker < 2) × (g.choice < 2)) → (g ≡ pair 0 c) ⊎ Memᴰ g (pair 1 e ∷ rounds k c e l) → (g.worker < 2) × (g.choice < 2)
    first ih (inl q) = subst (λ (y : Pair). (y.worker < 2) × (y.choice < 2)) (sym q) (omega arith, h)
    first ih (inr n) = second ih (Memᴰ.cases_cons n)

none_below : BelowAll 2 []
none_below g m = absurd (Memᴰ.not-nil m)

leaping_below : BelowAll 2 leaping
leaping_below =
    rounds_below 1 0 0 (omega arith) (omega arith) _ (rounds_below 35 1 1 (omega arith) (omega arith) _ (rounds_below 32 0 0 (omega arith) (omega arith) _ last))
  where
    last : BelowAll 2 (pair 0 0 ∷ [])
    last g m = go (Memᴰ.cases_cons m)
      where
        go : (g ≡ pair 0 0) ⊎ Memᴰ g [] → (g.worker < 2) × (g.choice < 2)
        go (inl e) = subst (λ (y : Pair). (y.worker < 2) × (y.choice < 2)) (sym e) (omega arith, omega arith)
        go (inr n) = none_below g n

pub demand_fails : ((row : List Pair) → BelowAll 2 row → Keeps 1 (map (λ (g : Pair). g.worker) row) → (row_deques parted 1 (start_deques parted) row).state.held ≤ limit parted 2 1 1) → ⊥
demand_fails f =
    omega (arith, f leaping leaping_below ((keeps_exactly 1 (map (λ (g : Pair). g.worker) leaping)).0 leaping_keeps), leaping_held, leaping_limit)

-- with an alloc above K it does not hold of the rows without a leap either, and so the limit by leaps does not
pub big_fails : ((row : List Pair) → BelowAll 2 row → Keeps 1 (map (λ (g : Pair). g.worker) row) → leaps five 1 (start_deques five) row ≡ 0
    → (row_deques five 1 (start_deques five) row).state.held ≤ limit five 2 1 1) → ⊥
big_fails f =
    omega (
      arith,
      f five_row (rounds_below 56 0 0 (omega arith) (omega arith) _ (rounds_below 13 0 1 (omega arith) (omega arith) _ none_below))
          ((keeps_exactly 1 (map (λ (g : Pair). g.worker) five_row)).0 five_keeps) five_leaps,
      five_held,
      five_limit,
    )
