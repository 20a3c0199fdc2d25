-- `joining::write::put_joins` meets its contract. The invariant: the joins of the parts before are what is left, and the number is the next part's root.
use mathlib.Core.Path.{◌≡◌}
use Prim.Native.Nat.{ℕ, suc, ◌≤◌}
use mathlib.Core.List.{List}
use lib.ListN.{length, take}
use Rattle.rows.proofs.Rest.{Rest}
use Rattle.joining.specs.Answers.{parts_of}
use Rattle.joining.specs.Code.Rows.{starts_over, join_rows, threads_over}
use Rattle.joining.proofs.write.put_joins.Given as goal

pub record Inv (out₀ : List ℕ) (at₀ : ℕ) (ps : List (List ℕ)) (out : List ℕ) (at root i : ℕ) : Type 0 where
  pub within : i ≤ length ps
  pub counted : root ≡ suc (threads_over (take i ps))
  pub left : Rest out₀ at₀ (join_rows (starts_over 1 ps)) out at (join_rows (starts_over 1 (take i ps)))

abbrev pub invariant-loop-i : goal.invariant-loop-i
invariant-loop-i l = Inv l.initial.out l.initial.at (parts_of l.lengths l.tables) l.out l.at l.root l.i

abbrev pub decreases-loop-i : goal.decreases-loop-i
decreases-loop-i l = l.i
