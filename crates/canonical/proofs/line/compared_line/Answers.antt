-- `canonical::line::compared_line` meets its contract: the word, or the refusal's texts.
use mathlib.Core.Path.{◌≡◌, ap, ◌∙◌}
use Prim.Native.Nat.{ℕ}
use mathlib.Core.List.{List}
use native.Mathlib.Omega.{arith}
use lib.ListN.{length}
use Rattle.rows.specs.Rows.{over}
use Rattle.canonical.specs.Lines.{compared_line}
use Rattle.std.specs.Prelude.{Ok, Result}
use Rattle.std.specs.declared.cmp.Ordering.{Ordering}
use Rattle.std.specs.declared.cmp.Ordering.TheVariants.{Less, Equal, Greater}
use Rattle.canonical.specs.declared.RefusedTable.{RefusedTable}
use Rattle.canonical.proofs.CompareLine.{word_told}
use Rattle.canonical.proofs.line.compared_line.Goals as goal

line_of : (x y : Result Ordering RefusedTable) (s o : List ℕ) (r : ℕ) → x ≡ y → (r ≡ length (compared_line y)) × (o ≡ over (compared_line y) s) → (r ≡ length (compared_line x)) × (o ≡ over (compared_line x) s)
line_of x y s o r e p = rw e p

pub returns-in-Ok-Less : goal.returns-in-Ok-Less
unfolding compared_line
returns-in-Ok-Less c = let d = c.args in let q : c.in-Ok-Less.field-0 ≡ Less = rw c.in-Ok-Less.is at c.in-Ok-Less.field-0-is in let both = line_of _ _ d.out.now _ _ (c.in-Ok-Less.is ∙ ap Ok q) (word_told d.out.now (omega arith) _ (omega arith) _ _ c.put_word.ensures) in record { value = both.0; out_after = both.1 }

pub returns-in-Ok-Equal : goal.returns-in-Ok-Equal
unfolding compared_line
returns-in-Ok-Equal c = let d = c.args in let q : c.in-Ok-Equal.field-0 ≡ Equal = rw c.in-Ok-Equal.is at c.in-Ok-Equal.field-0-is in let both = line_of _ _ d.out.now _ _ (c.in-Ok-Equal.is ∙ ap Ok q) (word_told d.out.now (omega arith) _ (omega arith) _ _ c.put_word-in-Ok-Equal.ensures) in record { value = both.0; out_after = both.1 }

pub returns-in-Ok-Greater : goal.returns-in-Ok-Greater
unfolding compared_line
returns-in-Ok-Greater c = let d = c.args in let q : c.in-Ok-Greater.field-0 ≡ Greater = rw c.in-Ok-Greater.is at c.in-Ok-Greater.field-0-is in let both = line_of _ _ d.out.now _ _ (c.in-Ok-Greater.is ∙ ap Ok q) (word_told d.out.now (omega arith) _ (omega arith) _ _ c.put_word-in-Ok-Greater.ensures) in record { value = both.0; out_after = both.1 }

pub returns-in-Err : goal.returns-in-Err
returns-in-Err c = let d = c.args in let both = line_of _ _ d.out.now _ _ c.in-Err.is (c.put_refused.ensures.value, c.put_refused.ensures.out_after) in record { value = both.0; out_after = both.1 }
