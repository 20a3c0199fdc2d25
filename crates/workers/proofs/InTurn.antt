-- Lists of events that keep rule 4 exist for every row of turns: each turn, and at once what it leaves to do.
use mathlib.Core.Path.{◌≡◌, refl}
use Prim.Native.Nat.{ℕ}
use native.Mathlib.Decide.{ℕ_discrete}
use mathlib.Core.List.{List, [], ◌∷◌}
use borrow.Author.Tests.{eq-eqb, ne_eqb}
use Rattle.schedule.specs.Record.{table_in}
use Rattle.schedule.specs.Turn.{turned}
use Rattle.workers.specs.Real.{Effect, nothing, allocs, frees, joins, Pending, none, draw, inherit, Real, put, by_turn, by_work}
use Rattle.workers.specs.Workers.{turn, work, Workers, effect_in, after_event, MayCome, Orderly, in_turn}

abbrev pub NonePending : Real → Type 0
NonePending m = (v : ℕ) → m.pending v ≡ none

-- what was put at w is done, and nothing is pending again
undone : (w : ℕ) (x : Pending) (f : ℕ → Pending) → ((v : ℕ) → f v ≡ none) → (v : ℕ) → put w none (put w x f) v ≡ none
undone w x f n v = go (ℕ_discrete v w)
  where
    go : Dec (v ≡ w) → put w none (put w x f) v ≡ none
    go (yes e) = rw (eq-eqb v w e)
    go (no e) = rw (ne_eqb v w e) (n v)

pub none_again : (e : Effect) (w : ℕ) (m : Real) → NonePending m → NonePending (by_work ((by_turn e w m).pending w) w (by_turn e w m))
none_again nothing w m n = rw (n w) n
none_again (allocs t x) w m n = rw (eq-eqb w w refl) (undone w (draw t x) m.pending n)
none_again (frees t x) w m n = rw (n w) n
none_again (joins t c) w m n = rw (eq-eqb w w refl) (undone w (inherit t c) m.pending n)

pub in_turn_orderly : (row : List ℕ) (s : Workers) → NonePending s.real → Orderly (in_turn row) s
unfolding Orderly MayCome after_event in_turn
in_turn_orderly [] s n = tt
in_turn_orderly (w ∷ row) s n =
    (n w, (tt, in_turn_orderly row (after_event (work w) (after_event (turn w) s)) (none_again (effect_in (table_in s.run) (turned s.run w).answer) w s.real n)))
