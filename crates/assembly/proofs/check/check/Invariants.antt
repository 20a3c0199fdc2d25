-- `assembly::check::check` meets its contract. The invariant: the check of the rest from here is the check of all.
use Prim.Native.Nat.{ℕ, ◌+◌, ◌-◌, ◌≤◌}
use mathlib.Core.Path.{◌≡◌}
use mathlib.Core.List.{List}
use lib.ListN.{length, drop}
use Rattle.assembly.specs.Said.{saids}
use Rattle.assembly.specs.Assembly.{checked_from, checked, longest_text}
use Rattle.assembly.proofs.check.check.Given as goal

pub record Inv (s : List ℕ) (at line n m : ℕ) : Type 0 where
  pub short : length s ≤ longest_text
  pub within : at ≤ length s
  pub lines : line ≤ at + 1
  pub threads : n ≤ at
  pub actions : m ≤ at
  pub rest : checked_from line n m (saids (drop at s)) ≡ checked (saids s)

abbrev pub invariant-loop-at : goal.invariant-loop-at
invariant-loop-at l = Inv l.text l.at l.line l.n l.m

abbrev pub decreases-loop-at : goal.decreases-loop-at
decreases-loop-at l = length l.text - l.at
