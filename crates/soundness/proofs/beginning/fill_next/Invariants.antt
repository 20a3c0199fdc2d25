-- `soundness::beginning::fill_next` meets its contract. The invariant: the first t places have these threads' first actions, and the others 0.
use Prim.Native.Nat.{ℕ, ◌≤◌}
use mathlib.Core.List.{List}
use Rattle.table.specs.Format.{actions_of, table_of}
use Rattle.table.proofs.Sizes.{Sizes}
use Rattle.soundness.proofs.Laying.{Laid}
use Rattle.soundness.proofs.beginning.fill_next.Given as goal

pub record Inv (s : List ℕ) (n : ℕ) (next : List ℕ) (t : ℕ) : Type 0 where
  pub sizes : Sizes s n (actions_of s)
  pub within : t ≤ n
  pub laid : Laid 1024 (table_of s).first next t

abbrev pub invariant-loop-t : goal.invariant-loop-t
invariant-loop-t l = Inv l.bytes l.n l.next l.t
