-- `assembly::word::first_word` meets its contract: blanks, and the word after them.
use Prim.Native.Nat.{ℕ, ◌+◌, ◌-◌, ◌≤◌}
use native.Mathlib.Omega.{arith}
use mathlib.Core.List.{List}
use lib.ListN.{length, take, drop, length-drop}
use Rattle.table.proofs.Parts.{rest_part}
use Rattle.assembly.specs.Words.{in_class, Spans, FirstWord}
use Rattle.assembly.specs.declared.scan.Class.TheVariants.{Blank, Word}
use Rattle.assembly.proofs.Parts.{word_first}
use Rattle.assembly.proofs.word.first_word.Goals as goal

module _ (s : List ℕ) (start k : ℕ) (b : Spans (in_class Word) (take (length s - start) (drop start s)) k) where
  room : k ≤ length s - start
  room = omega (arith, rw (rest_part s start) at b.within, length-drop start s)

  found : Spans (in_class Blank) s start → FirstWord s start (start + k)
  found a = word_first s start k a.value (rw (rest_part s start) at b.value) room

pub slice_bounds-span-count : goal.slice_bounds-span-count
slice_bounds-span-count c = omega (arith, c.span-start.ensures.within)

pub slice_bounds-span-start : goal.slice_bounds-span-start
slice_bounds-span-start c = omega (arith, c.span-start.ensures.within)

pub slice_bounds-span-end : goal.slice_bounds-span-end
slice_bounds-span-end c = omega (arith, c.span-start.ensures.within)

pub overflow_add-end : goal.overflow_add-end
overflow_add-end c = omega (arith, c.span-start.ensures.within, room c.args.s.now c.span-start.result c.span.result c.span.ensures)

pub returns : goal.returns
returns c = found _ _ _ c.span.ensures c.span-start.ensures
