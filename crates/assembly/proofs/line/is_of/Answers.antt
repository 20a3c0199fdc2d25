-- `assembly::line::is_of` meets its contract, by what the line says.
use mathlib.Core.Path.{◌≡◌, refl}
use mathlib.Core.Bool.{Bool, true, false, not}
use Prim.Native.Nat.{ℕ}
use Rattle.assembly.specs.Code.Steps.{of_sort}
use Rattle.assembly.specs.declared.Expected.{Expected}
use Rattle.assembly.specs.declared.Said.TheVariants.{Nothing, Thread, Action, Expects}
use Rattle.assembly.proofs.line.is_of.Goals as goal

nothing : (b : Bool) → false ≡ of_sort b Nothing
nothing true = refl
nothing false = refl

thread : (b : Bool) (t : ℕ) → b ≡ of_sort b (Thread t)
thread true t = refl
thread false t = refl

action : (b : Bool) (k x : ℕ) → not b ≡ of_sort b (Action k x)
action true k x = refl
action false k x = refl

expects : (b : Bool) (e : Expected) → false ≡ of_sort b (Expects e)
expects true e = refl
expects false e = refl

pub returns-in-Nothing : goal.returns-in-Nothing
returns-in-Nothing c = rw c.in-Nothing.is (nothing c.args.threads)

pub returns-in-Thread : goal.returns-in-Thread
returns-in-Thread c = rw c.in-Thread.is (thread c.args.threads _)

pub returns-in-Action : goal.returns-in-Action
returns-in-Action c = rw c.in-Action.is (action c.args.threads _ _)

pub returns-in-Expects : goal.returns-in-Expects
returns-in-Expects c = rw c.in-Expects.is (expects c.args.threads _)
