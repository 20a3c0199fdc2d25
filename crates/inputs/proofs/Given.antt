-- A line of the front by its number, and a step that has nothing to do with the order.
use Rattle.std.specs.Prelude.{Err, Ok, Result}
use Prim.Native.Nat.{ℕ}
use native.Mathlib.Omega.{arith}
use mathlib.Core.Path.{◌≡◌, refl, ap}
use mathlib.Core.List.{List}
use Rattle.inputs.specs.Front.{Front, Step, goes, given_to}
use Rattle.inputs.specs.Code.Steps.{Plainly, Stepping, front_is, held_by}
use Rattle.inputs.specs.declared.Wanted.{Wanted}
use Rattle.inputs.specs.declared.front.Front.{Front as Kept}
use Rattle.inputs.specs.declared.front.Step.{Step as Taken}
use Rattle.inputs.specs.declared.front.Step.TheVariants.{Goes}

module _ (f : ℕ → Front) (k : Result ℕ Wanted) where
  pub given_goes : {x : ℕ} {g : Kept} → k ≡ Ok x → ((buf : List ℕ) → front_is g buf ≡ f x) → held_by g ≡ 0 → Plainly (Ok (Goes g)) (given_to f k)
  given_goes q e z = record { value = λ buf. rw q (ap goes (e buf)); none = z }

  pub given_stops : {e : Wanted} → k ≡ Err e → Plainly (Err e) (given_to f k)
  given_stops q = record { value = λ buf. rw q; none = refl }

pub stepping_as : {r : Result Taken Wanted} {buf : List ℕ} {s t : Step} → s ≡ t → Stepping r buf s → Stepping r buf t
stepping_as e p = rw e at p

-- whatever the order
pub plainly_stepping : {r : Result Taken Wanted} {s : Step} (buf : List ℕ) → Plainly r s → Stepping r buf s
plainly_stepping buf p = record { value = p.value buf; few = omega (arith, p.none) }
