-- `inputs::read::read_front` meets its contract. The invariant: the front that is read on from here is the front of the whole text.
use Prim.Native.Nat.{ℕ, ◌-◌, ◌≤◌}
use mathlib.Core.Path.{◌≡◌}
use mathlib.Core.List.{List}
use lib.ListN.{length, drop}
use Rattle.assembly.specs.Words.{lines_of}
use Rattle.assembly.specs.Assembly.{longest_text}
use Rattle.assembly.specs.Unseen.{after_lines}
use Rattle.inputs.specs.Front.{front_from, front_of}
use Rattle.inputs.specs.Code.Steps.{Room, front_is, held_by}
use Rattle.inputs.specs.declared.front.Front.{Front as Kept}
use Rattle.inputs.proofs.read.read_front.Given as goal

pub record Inv (s buf : List ℕ) (f : Kept) (k at : ℕ) : Type 0 where
  pub short : length s ≤ longest_text
  pub room : Room buf (held_by f)
  pub within : at ≤ length s
  pub passed : k ≤ at
  pub place : drop at s ≡ after_lines k s
  pub rest : front_from (front_is f buf) k (lines_of (drop at s)) ≡ front_of s

abbrev pub invariant-loop-at : goal.invariant-loop-at
invariant-loop-at l = Inv l.text l.order l.front l.lines l.at

abbrev pub decreases-loop-at : goal.decreases-loop-at
decreases-loop-at l = length l.text - l.at
