-- `joining::split::sum_to` meets its contract. The invariant: the sum of the lengths passed, each of 32 bits.
use mathlib.Core.Path.{◌≡◌}
use Prim.Native.Nat.{ℕ, ◌*◌, ◌≤◌}
use mathlib.Core.List.{List}
use lib.ListN.{take}
use Rattle.joining.specs.Answers.{sum_of}
use Rattle.joining.proofs.split.sum_to.Given as goal

pub record Inv (ls : List ℕ) (k sum i : ℕ) : Type 0 where
  pub within : i ≤ k
  pub same : sum ≡ sum_of (take i ls)
  pub small : sum ≤ 4294967296 * i

abbrev pub invariant-loop-i : goal.invariant-loop-i
invariant-loop-i l = Inv l.lengths l.k l.sum l.i
