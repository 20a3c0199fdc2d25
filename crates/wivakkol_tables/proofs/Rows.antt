-- An answer's number and row are those of its values.
use Rattle.std.specs.Prelude.{Result, ℕ}
use Rattle.std.specs.declared.cmp.Ordering.{Ordering}
use Rattle.table.specs.declared.Refusal.{Refusal}
use mathlib.Core.Path.{◌≡◌, sym, ap, ◌∙◌}
use Rattle.canonical.specs.Answers.{FormValues, form_values_of, CompareValues, compare_values_of}
use Rattle.canonical.specs.declared.RefusedTable.{RefusedTable}
use Rattle.joining.specs.Answers.{JoinValues, join_values_of}
use Rattle.joining.specs.declared.JoinError.{JoinError}
use Rattle.table.specs.declared.Facts.{Facts}
use Rattle.wivakkol_tables.specs.Rows.{form_row, compare_row, join_row}

-- of an answer x that is y, and whose values are v
pub form_row_lem : (x y : Result ℕ Refusal) (v : FormValues) → x ≡ y → form_values_of x ≡ v → ((form_values_of y).number ≡ v.number) × (form_row (form_values_of y) ≡ form_row v)
form_row_lem x y v e p =
    let z : form_values_of y ≡ v = ap form_values_of (sym e) ∙ p in
    (ap (λ (w : FormValues). w.number) z, ap form_row z)

pub compare_row_lem : (x y : Result Ordering RefusedTable) (v : CompareValues) → x ≡ y → compare_values_of x ≡ v → ((compare_values_of y).number ≡ v.number) × (compare_row (compare_values_of y) ≡ compare_row v)
compare_row_lem x y v e p =
    let z : compare_values_of y ≡ v = ap compare_values_of (sym e) ∙ p in
    (ap (λ (w : CompareValues). w.number) z, ap compare_row z)

pub join_row_lem : (x y : Result Facts JoinError) (v : JoinValues) → x ≡ y → join_values_of x ≡ v → ((join_values_of y).number ≡ v.number) × (join_row (join_values_of y) ≡ join_row v)
join_row_lem x y v e p =
    let z : join_values_of y ≡ v = ap join_values_of (sym e) ∙ p in
    (ap (λ (w : JoinValues). w.number) z, ap join_row z)
