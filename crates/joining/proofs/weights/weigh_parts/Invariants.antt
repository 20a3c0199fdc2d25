-- `joining::weights::weigh_parts` meets its contract. The invariant: the weights of the parts that are left, from the totals so far, are those of all.
use mathlib.Core.Path.{◌≡◌}
use Prim.Native.Nat.{ℕ, ◌≤◌}
use mathlib.Core.List.{List}
use lib.ListN.{length, drop, replicate}
use Rattle.joining.specs.Answers.{parts_of}
use Rattle.joining.specs.Code.Steps.{Small, no_part, weights_from}
use Rattle.joining.specs.declared.weights.Totals.{Totals}
use Rattle.joining.proofs.weights.weigh_parts.Given as goal

abbrev pub Clear : List ℕ → List ℕ → List ℕ → List ℕ → Type 0
Clear a b c d = (a ≡ replicate 1024 0) × (b ≡ replicate 1024 0) × (c ≡ replicate 1024 0) × (d ≡ replicate 1024 0)

pub record Inv (s ls a b c d : List ℕ) (t : Totals) (i : ℕ) : Type 0 where
  pub within : i ≤ length ls
  pub clear : Clear a b c d
  pub small : Small i t
  pub left : weights_from i t (drop i (parts_of ls s)) ≡ weights_from 0 no_part (parts_of ls s)

abbrev pub invariant-loop-i : goal.invariant-loop-i
invariant-loop-i l = Inv l.tables l.lengths l.rises l.falls l.peaks l.depths l.totals l.i
