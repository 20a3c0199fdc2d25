-- `asyncdf::beginning::copy` meets its contract. The invariant: the first i places have the bytes, and the others 0.
use Prim.Native.Nat.{ℕ, ◌-◌, ◌≤◌}
use mathlib.Core.List.{List}
use lib.ListN.{length, get_or}
use Rattle.soundness.proofs.Laying.{Laid}
use Rattle.asyncdf.proofs.beginning.copy.Given as goal

pub record Inv (s out : List ℕ) (i : ℕ) : Type 0 where
  pub few : length s ≤ 36868
  pub within : i ≤ length s
  pub laid : Laid 36868 (λ j. get_or s j 0) out i

abbrev pub invariant-loop-i : goal.invariant-loop-i
invariant-loop-i l = Inv l.bytes l.out l.i
