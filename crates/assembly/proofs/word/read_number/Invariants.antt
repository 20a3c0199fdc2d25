-- `assembly::word::read_number` meets its contract. The invariant: the rest, read on from v, has the word's value, and v is at most as much as it may be.
use Prim.Native.Nat.{ℕ, ◌≤◌}
use mathlib.Core.Path.{◌≡◌}
use mathlib.Core.List.{List}
use mathlib.Core.Bool.{false}
use lib.ListN.{length, drop}
use Rattle.assembly.specs.Words.{zero_led}
use Rattle.assembly.specs.Upto.{next_value, value_from}
use Rattle.assembly.proofs.word.read_number.Given as goal

pub record Inv (w : List ℕ) (most v i : ℕ) : Type 0 where
  pub within : i ≤ length w
  pub small : v ≤ most
  pub led : zero_led w ≡ false
  pub rest : value_from most v (drop i w) ≡ value_from most 0 w

-- a byte that goes on is a digit, and the number stays small
pub record Digit (most v b : ℕ) : Type 0 where
  pub least : 48 ≤ b
  pub greatest : b ≤ 57
  pub small : next_value v b ≤ most

abbrev pub invariant-loop-b : goal.invariant-loop-b
invariant-loop-b l = Inv l.w l.most l.v l.b-index
