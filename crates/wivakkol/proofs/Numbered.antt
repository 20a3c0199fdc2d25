-- Every check has a number, and none has 0: where a call answers 0, no check applies.
use Rattle.std.specs.Prelude.{Err, Ok, Result, ⊤}
use Rattle.table.specs.declared.Refusal.{Refusal}
use mathlib.Core.Path.{◌≡◌, refl}
use Prim.Native.Nat.{ℕ, zero, suc}
use native.Mathlib.Omega.{arith}
use mathlib.Core.List.{List, [], ◌∷◌, ◌++◌}
use mathlib.Core.Bool.{Bool, true, false}
use Rattle.table.specs.Sum.{pick}
use Rattle.table.specs.Format.{table_of}
use Rattle.table.specs.Pass.{Check, Pass, or_else, refusal, try_at, try_from, try_pass, first_found}
use Rattle.table.specs.Checks.{passes}
use Rattle.table.specs.Load.{found_number}
use Rattle.schedule.specs.declared.Run.{Run}
use Rattle.schedule.specs.Begin.{begin_passes}
use Rattle.schedule.specs.Turn.{turn_checks}
use Rattle.soundness.specs.Tested.{begin_found}

-- a finding with the number 0 is none
abbrev pub Numbered : Result ⊤ Refusal → Type 0
Numbered f = found_number f ≡ 0 → f ≡ Ok tt

pub data Checks : List Check → Type 0 where
  none : Checks []
  one : {c : Check} {cs : List Check} → (c.number ≡ 0 → ⊥) → Checks cs → Checks (c ∷ cs)

pub data Passes : List Pass → Type 0 where
  end : Passes []
  then : {p : Pass} {ps : List Pass} → Checks p.checks → Passes ps → Passes (p ∷ ps)

either : (f g : Result ⊤ Refusal) → Numbered f → Numbered g → Numbered (or_else f g)
either (Ok _) g h k e = k e
either (Err r) g h k e = h e

at_place : (cs : List Check) → Checks cs → (i : ℕ) → Numbered (try_at cs i)
unfolding try_at
at_place [] none i = λ e. refl
at_place (c ∷ cs) (one d t) i = go (c.applies i) (at_place cs t i)
  where
    go : (b : Bool) → Numbered (try_at cs i) → Numbered (pick b (Err (refusal c.number i)) (try_at cs i))
    go true rest e = absurd (d e)
    go false rest e = rest e

from_place : (cs : List Check) → Checks cs → (i k : ℕ) → Numbered (try_from cs i k)
unfolding try_from
from_place cs t i zero = λ e. refl
from_place cs t i (suc k) = either (try_at cs i) (try_from cs (suc i) k) (at_place cs t i) (from_place cs t (suc i) k)

pub all_passes : (ps : List Pass) → Passes ps → Numbered (first_found ps)
unfolding first_found try_pass
all_passes [] end = λ e. refl
all_passes (p ∷ ps) (then t r) = either (try_pass p) (first_found ps) (from_place p.checks t p.from p.places) (all_passes ps r)

pub number_is : (n : ℕ) → suc n ≡ 0 → ⊥
number_is n e = omega (arith, e)

-- the table's own checks, and those of passes behind them
pub own_numbered : (s : List ℕ) (rest : List Pass) → Passes rest → Passes (passes s ++ rest)
unfolding passes
own_numbered s rest t =
    then (one (number_is 0) (one (number_is 1) (one (number_is 2) none)))
    (then (one (number_is 3) none)
    (then (one (number_is 3) none)
    (then (one (number_is 4) (one (number_is 5) (one (number_is 6) none)))
    (then (one (number_is 7) (one (number_is 8) (one (number_is 8) none)))
    (then (one (number_is 10) none)
    (then (one (number_is 9) none) t))))))

pub begin_numbered : (s : List ℕ) (p K : ℕ) → found_number (begin_found s p K) ≡ 0 → begin_found s p K ≡ Ok tt
begin_numbered s p K =
    all_passes (passes s ++ begin_passes (table_of s) p K)
    (own_numbered s (begin_passes (table_of s) p K) (then (one (number_is 19) (one (number_is 20) none)) (then (one (number_is 43) none) end)))

pub turn_numbered : (r : Run) (w : ℕ) → Numbered (try_at (turn_checks r w) 0)
unfolding turn_checks
turn_numbered r w = at_place (turn_checks r w) (one (number_is 31) (one (number_is 29) (one (number_is 30) none))) 0
