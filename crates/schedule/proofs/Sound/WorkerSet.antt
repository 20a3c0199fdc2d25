-- The set of workers that hold a thread: the count of ones is their number.
use mathlib.Core.Path.{◌≡◌, refl, sym, ◌∙◌}
use Prim.Native.Nat.{ℕ, ◌+◌, ◌*◌, ◌^◌}
use native.Mathlib.Omega.{arith}
use mathlib.Core.List.{List, [], ◌∷◌}
use mathlib.Core.Bool.{Bool, true, false}
use lib.Count.{ones, ones_cat}
use lib.ListN.{length, get_or}
use Rattle.table.specs.Sum.{pick, sum_to}
use Rattle.order.specs.Words.{count_below}
use Rattle.order.proofs.Totals.{sum_to_first}
use Rattle.schedule.specs.declared.Worker.{Worker}
use Rattle.schedule.specs.Machine.{nobody}
use Rattle.schedule.specs.Record.{set_of}

-- a lowest bit in front of the others
digit_ones : (t : Bool) (n : ℕ) → ones (pick t 1 0 + 2 * n) ≡ pick t 1 0 + ones n
unfolding ones
digit_ones true n =
    let e : 1 + 2 * n ≡ n * 2 ^ 1 + 1 = omega arith in
    rw e (omega (arith, ones_cat 1 n 1 (omega arith)))
digit_ones false n =
    let e : 0 + 2 * n ≡ n * 2 ^ 1 + 0 = omega arith in
    rw e (omega (arith, ones_cat 1 n 0 (omega arith)))

-- the ones of the set are the workers that hold a thread
pub set_ones : (l : List Worker) → ones (set_of l) ≡ count_below (λ w. (get_or l w nobody).holds) (length l)
unfolding set_of ones sum_to
set_ones [] = refl
set_ones (x ∷ l) = digit_ones x.holds (set_of l) ∙ omega (arith, set_ones l) ∙ sym (sum_to_first (λ w. pick (get_or (x ∷ l) w nobody).holds 1 0) (length l))
