-- `assembly::place::line_that` meets its contract. The invariant: the line found in the rest is the line found in all.
use Prim.Native.Nat.{ℕ, ◌+◌, ◌-◌, ◌≤◌}
use mathlib.Core.Path.{◌≡◌}
use mathlib.Core.List.{List}
use mathlib.Core.Bool.{Bool}
use lib.ListN.{length, drop}
use Rattle.assembly.specs.Said.{saids}
use Rattle.assembly.specs.Assembly.{line_that, longest_text}
use Rattle.assembly.specs.Code.Steps.{of_sort}
use Rattle.assembly.specs.declared.Said.{Said}
use Rattle.assembly.proofs.place.line_that.Given as goal

pub record Inv (p : Said → Bool) (s : List ℕ) (k at line left : ℕ) : Type 0 where
  pub short : length s ≤ longest_text
  pub within : at ≤ length s
  pub lines : line ≤ at + 1
  pub rest : line_that p line left (saids (drop at s)) ≡ line_that p 1 k (saids s)

abbrev pub invariant-loop-at : goal.invariant-loop-at
invariant-loop-at l = Inv (of_sort l.threads) l.text l.k l.at l.line l.left

abbrev pub decreases-loop-at : goal.decreases-loop-at
decreases-loop-at l = length l.text - l.at
