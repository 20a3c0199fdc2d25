-- `canonical::numbers::number_walk` meets its contract. The invariant: what is left of the walk from here is the whole walk.
use mathlib.Core.Path.{◌≡◌}
use Prim.Native.Nat.{ℕ, ◌+◌, ◌-◌, ◌*◌, ◌≤◌, ◌<◌}
use mathlib.Core.List.{List}
use lib.ListN.{length}
use Rattle.table.specs.Format.{code_at, argument_at}
use Rattle.canonical.specs.Code.NumberWalk.{cut16}
use Rattle.canonical.specs.Code.NumberWalk.{Numbered, numbered, number_body}
use Rattle.canonical.specs.Code.NumbersOf.{BodyIn}
use Rattle.canonical.proofs.numbers.number_walk.Given as goal

abbrev pub rest : List ℕ → List ℕ → ℕ → ℕ → Numbered → Numbered
rest l sizes a k w = number_body cut16 (code_at l) (argument_at l) sizes a k w

pub record Inv (l : List ℕ) (first count start : ℕ) (sizes new₀ new : List ℕ) (next i : ℕ) : Type 0 where
  pub within : i ≤ count
  pub body : BodyIn first count
  pub small : start < 4294967296
  pub sizes_sized : length sizes ≡ 1024
  pub sized : length new ≡ 1024
  pub low : next ≤ start + 65535 * i
  pub same : rest l sizes (first + i) (count - i) (numbered new next) ≡ rest l sizes first count (numbered new₀ start)

abbrev pub invariant-loop-i : goal.invariant-loop-i
invariant-loop-i l = Inv l.actions l.first l.count l.start l.sizes l.initial.new l.new l.next l.i
