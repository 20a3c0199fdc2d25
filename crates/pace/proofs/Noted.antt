-- For who counts turns and refuses none: a pace stands for every row of its workers' turns, whatever the row keeps, and so has the least b that it keeps, as long as the counters have room.
use mathlib.Core.Path.{◌≡◌, refl, subst}
use mathlib.Core.Logic.{◌↔◌}
use Prim.Native.Nat.{ℕ, suc, ◌+◌, ◌-◌, ◌^◌, ◌<◌, ◌≤◌}
use native.Mathlib.Omega.{arith}
use mathlib.Core.List.Memᴰ
use mathlib.Core.List.{List, [], ◌∷◌, ◌++◌, append_assoc, append-nil}
use mathlib.Core.Bool.{Bool, true, false}
use lib.ListN.{length, length-append}
use lib.Dec.{eqb}
use Rattle.table.specs.Sum.{pick}
use Rattle.schedule.specs.Memory.{Keeps}
use Rattle.order.proofs.Lists.{Below}
use Rattle.pace.specs.Since.{since_latest, asked_of, Asks}
use Rattle.pace.specs.Pace.{asked, took, took_each, start_pace, kept_in}
use Rattle.pace.specs.Stands.{StandsFor}
use Rattle.pace.proofs.Rows.{count_length, since_most}
use Rattle.pace.proofs.Exact.{asked_exactly, took_stands, start_stands}

-- a row asks no more of a turn than one more than its length
asks_most : (row : List ℕ) (w : ℕ) → Asks (1 + length row) row w
unfolding Asks asked_of
asks_most row w x = go (eqb x w)
  where
    go : (q : Bool) → pick q 0 (since_latest x w row) ≤ 1 + length row
    go true = omega arith
    go false = omega (arith, since_most x w row, count_length w row)

pub noted_stands : (p b : ℕ) (more l row : List ℕ) → StandsFor l p b row → Below p more → length row + length more < 2 ^ 32 - 2 → StandsFor (took_each l more) p b (row ++ more)
unfolding took_each
noted_stands p b [] l row h below room = rw (append-nil row) h
noted_stands p b (u ∷ more) l row h below room =
    let i : u < p = below u (Memᴰ.head refl) in
    let fits : asked l u < 2 ^ 32 - 1 = omega (arith, (asked_exactly l p b row h u (omega (arith, i, h.few_workers)) (1 + length row)).1 (asks_most row u)) in
    let n : length (row ++ u ∷ []) ≡ length row + 1 = length-append row (u ∷ []) in
    subst (λ (k : List ℕ). StandsFor (took_each (took l u) more) p b k) (append_assoc row (u ∷ []) more)
    (noted_stands p b more (took l u) (row ++ u ∷ []) (took_stands l p b row h u i fits) (λ w m. below w (Memᴰ.tail m)) (omega (arith, n, room)))

-- The least b that a row keeps: from a beginning on, whatever turns of the p workers are counted, the row keeps the rule with exactly those numbers that are no smaller than the number kept beside.
pub kept_exactly : (p b : ℕ) (l row : List ℕ) → (start_pace p b l).number ≡ 0 → Below p row → length row < 2 ^ 32 - 2
    → (c : ℕ) → Keeps c row ↔ (kept_in (took_each (start_pace p b l).pace row) ≤ c)
kept_exactly p b l row e below room = (noted_stands p b row (start_pace p b l).pace [] (start_stands p b l e) below (omega (arith, room))).kept
