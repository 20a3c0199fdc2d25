-- `assembly::scan::span` meets its contract. The invariant: what was passed and the span of the rest are the span of all.
use Prim.Native.Nat.{ℕ, ◌+◌, ◌≤◌}
use mathlib.Core.Path.{◌≡◌}
use mathlib.Core.List.{List}
use mathlib.Core.Bool.{Bool}
use lib.ListN.{length, drop}
use Rattle.assembly.specs.Words.{span_of, in_class}
use Rattle.assembly.proofs.scan.span.Given as goal

pub record Inv (p : ℕ → Bool) (s : List ℕ) (i : ℕ) : Type 0 where
  pub within : i ≤ length s
  pub rest : i + span_of p (drop i s) ≡ span_of p s

abbrev pub invariant-loop-i : goal.invariant-loop-i
invariant-loop-i l = Inv (in_class l.class) l.s l.i
