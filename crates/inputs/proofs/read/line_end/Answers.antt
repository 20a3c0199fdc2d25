-- `inputs::read::line_end` meets its contract: up to the newline, or the text's end.
use native.Mathlib.Omega.{arith}
use Prim.Native.Nat.{ℕ, ◌+◌, ◌-◌, ◌≤◌}
use mathlib.Core.List.{List}
use lib.ListN.{length, take, drop, length-drop}
use Rattle.table.proofs.Parts.{rest_part}
use Rattle.assembly.specs.Words.{in_class, Spans}
use Rattle.assembly.specs.declared.scan.Class.TheVariants.{Line}
use Rattle.inputs.specs.Code.Steps.{Lined}
use Rattle.inputs.proofs.read.line_end.Goals as goal

module _ (s : List ℕ) (at k : ℕ) (v : Spans (in_class Line) (take (length s - at) (drop at s)) k) where
  room : k ≤ length s - at
  room = omega (arith, rw (rest_part s at) at v.within, length-drop at s)

  line : at ≤ length s → Lined s at (at + k)
  line h = record { value = rw (rw (rest_part s at) at v.value); within = omega (arith, room) }

pub overflow_add-result : goal.overflow_add-result
overflow_add-result c = omega (arith, c.requires, room c.args.text.now c.args.at c.span.result c.span.ensures)

pub returns : goal.returns
returns c = line _ _ _ c.span.ensures (omega (arith, c.requires))
