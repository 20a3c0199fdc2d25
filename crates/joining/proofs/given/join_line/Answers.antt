-- `joining::given::join_line` meets its contract: no line, or the refusal's.
use mathlib.Core.Path.{◌≡◌, refl, ap, ◌∙◌}
use Prim.Native.Nat.{ℕ}
use mathlib.Core.List.{List}
use native.Mathlib.Omega.{arith}
use lib.ListN.{length}
use Rattle.io.specs.Counts.{IsPrefixLen}
use Rattle.text.specs.Text.{ascii}
use Rattle.rows.specs.Rows.{over}
use Rattle.joining.specs.Given.{join_line}
use Rattle.text.proofs.Told.{refused_told, told_within}
use Rattle.joining.proofs.given.join_line.Goals as goal
use Rattle.joining.specs.declared.JoinError.{JoinError}
use Rattle.std.specs.Prelude.{Err, Result}
use Rattle.table.specs.declared.Facts.{Facts}

line_of : (x y : Result Facts JoinError) (s o : List ℕ) (r : ℕ) → x ≡ y → r ≡ length (join_line y) → o ≡ over (join_line y) s → (r ≡ length (join_line x)) × ((o ≡ over (join_line x) s) × IsPrefixLen r o)
line_of x y s o r e p q = rw e (p, (q, told_within (join_line y) s o r p q))

pub returns-in-Ok : goal.returns-in-Ok
unfolding join_line
returns-in-Ok c = let both = line_of _ _ c.args.out.now _ _ c.in-Ok.is refl refl in record { value = both.0; out_after = both.1.0; prefix_len = both.1.1 }

pub returns-in-Whole : goal.returns-in-Whole
unfolding join_line
returns-in-Whole c = let d = c.args in
    let both = line_of _ _ d.out.now _ _ (c.in-Err.is ∙ ap Err c.in-Whole.is) c.table_line.ensures.value (rw c.table_line.ensures.value at c.table_line.ensures.out_after) in record { value = both.0; out_after = both.1.0; prefix_len = both.1.1 }

pub returns-in-InPart : goal.returns-in-InPart
unfolding join_line
returns-in-InPart c = let d = c.args in
    let p = refused_told d.out.now (omega arith) _ (omega arith) (omega arith) (ascii " part ") (omega arith) _ (omega arith) _ _ c.put_refused_of.ensures in let both = line_of _ _ d.out.now _ _ (c.in-Err.is ∙ ap Err c.in-InPart.is) p.0 p.1 in record { value = both.0; out_after = both.1.0; prefix_len = both.1.1 }
