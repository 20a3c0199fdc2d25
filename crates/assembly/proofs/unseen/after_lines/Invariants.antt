-- `assembly::unseen::after_lines` meets its contract. The invariant: i lines are passed.
use Prim.Native.Nat.{ℕ, ◌≤◌}
use mathlib.Core.Path.{◌≡◌}
use mathlib.Core.List.{List}
use lib.ListN.{length, drop}
use Rattle.assembly.specs.Unseen.{after_lines}
use Rattle.assembly.proofs.unseen.after_lines.Given as goal

pub record Inv (s : List ℕ) (k at i : ℕ) : Type 0 where
  pub passed : i ≤ k
  pub within : at ≤ length s
  pub rest : drop at s ≡ after_lines i s

abbrev pub invariant-loop-i : goal.invariant-loop-i
invariant-loop-i l = Inv l.text l.k l.at l.i
