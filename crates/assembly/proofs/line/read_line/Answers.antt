-- `assembly::line::read_line` meets its contract: a line up to its newline, or up to the text's end.
use Prim.Native.Nat.{ℕ, ◌+◌, ◌-◌, ◌≤◌}
use native.Mathlib.Omega.{arith}
use mathlib.Core.Path.{◌≡◌}
use mathlib.Core.List.{List}
use lib.ListN.{length, take, drop, length-drop}
use Rattle.table.proofs.Parts.{rest_part}
use Rattle.assembly.specs.Words.{in_class, span_of, Spans}
use Rattle.assembly.specs.declared.scan.Class.TheVariants.{Line}
use Rattle.assembly.proofs.Lines.{reads_line, reads_last}
use Rattle.assembly.proofs.line.read_line.Goals as goal

module _ (s : List ℕ) (at k : ℕ) (v : Spans (in_class Line) (take (length s - at) (drop at s)) k) where
  room : k ≤ length s - at
  room = omega (arith, rw (rest_part s at) at v.within, length-drop at s)

  end : at + k ≡ at + span_of (in_class Line) (drop at s)
  end = rw (rw (rest_part s at) at v.value)

pub slice_bounds-span-count : goal.slice_bounds-span-count
slice_bounds-span-count c = omega arith

pub slice_bounds-span-start : goal.slice_bounds-span-start
slice_bounds-span-start c = omega arith

pub slice_bounds-span-end : goal.slice_bounds-span-end
slice_bounds-span-end c = omega arith

pub overflow_add-end : goal.overflow_add-end
overflow_add-end c = omega (arith, c.requires, room c.args.text.now c.args.at c.span.result c.span.ensures)

pub slice_bounds-line_said-count : goal.slice_bounds-line_said-count
slice_bounds-line_said-count c = omega arith

pub slice_bounds-line_said-start : goal.slice_bounds-line_said-start
slice_bounds-line_said-start c = omega arith

pub slice_bounds-line_said-end : goal.slice_bounds-line_said-end
slice_bounds-line_said-end c = omega (arith, c.requires, room c.args.text.now c.args.at c.span.result c.span.ensures)

pub overflow_add-result : goal.overflow_add-result
overflow_add-result c = omega arith

pub returns-then-end-text : goal.returns-then-end-text
returns-then-end-text c = reads_line _ _ _ _ c.requires (end _ _ _ c.span.ensures) c.line_said-said.ensures c.if-end-text.true

pub returns : goal.returns
returns c = reads_last _ _ _ _ c.requires (end _ _ _ c.span.ensures) c.line_said-said.ensures c.if-end-text.false
