-- `canonical::numbers::forked_sizes` meets its contract. The invariant: the total is that of the actions before i.
use mathlib.Core.Path.{◌≡◌}
use Prim.Native.Nat.{ℕ, ◌*◌, ◌≤◌}
use mathlib.Core.List.{List}
use lib.ListN.{length}
use Rattle.table.specs.Format.{code_at, argument_at}
use Rattle.canonical.specs.Code.NumberWalk.{forked_sizes}
use Rattle.canonical.specs.Code.NumbersOf.{BodyIn}
use Rattle.canonical.proofs.numbers.forked_sizes.Given as goal

pub record Inv (l : List ℕ) (first count : ℕ) (sizes : List ℕ) (total i : ℕ) : Type 0 where
  pub body : BodyIn first count
  pub sized : length sizes ≡ 1024
  pub within : i ≤ count
  pub value : total ≡ forked_sizes (code_at l) (argument_at l) sizes first i
  pub low : total ≤ 65535 * i

abbrev pub invariant-loop-i : goal.invariant-loop-i
invariant-loop-i l = Inv l.actions l.first l.count l.sizes l.total l.i
