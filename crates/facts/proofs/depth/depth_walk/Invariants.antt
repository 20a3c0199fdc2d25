-- `facts::depth::depth_walk` meets its contract. The invariant: what is left of the walk from here is the whole walk.
use mathlib.Core.Path.{◌≡◌}
use Prim.Native.Nat.{ℕ, ◌+◌, ◌-◌, ◌≤◌, ◌<◌}
use mathlib.Core.List.{List}
use lib.ListN.{length}
use Rattle.table.specs.Format.{code_at, argument_at}
use Rattle.facts.specs.Code.DepthWalk.{Reached, reached, body_depth, cut16}
use Rattle.facts.proofs.depth.depth_walk.Given as goal

abbrev pub rest : List ℕ → ℕ → ℕ → Reached → Reached
rest l a k w = body_depth cut16 (code_at l) (argument_at l) a k w

pub record Inv (l : List ℕ) (count : ℕ) (depths₀ depths : List ℕ) (last i : ℕ) : Type 0 where
  pub within : i ≤ count
  pub few : count < 65536
  pub sized : length depths ≡ 1024
  pub low : last ≤ 65536 + i
  pub same : rest l i (count - i) (reached depths last) ≡ rest l 0 count (reached depths₀ 0)

abbrev pub invariant-loop-i : goal.invariant-loop-i
invariant-loop-i l = Inv l.body l.count l.initial.depths l.depths l.last l.i
