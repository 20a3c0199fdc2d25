-- The rows of worked cases, from those of table and quota: table E, a table that frees too much, and E on a board with memory 55.
use mathlib.Core.Path.{◌≡◌, refl, sym, ap, ◌∙◌}
use mathlib.Core.List.{[], ◌∷◌}
use Rattle.table.specs.Load.{loaded, table_values, values_of}
use Rattle.table.specs.Cases.{E, overfreed, accepted, refused, cases, worked}
use Rattle.table.proofs.Values.{table_values_lem}
use Rattle.quota.specs.Quota.{quoted, values_for}
use Rattle.quota.specs.Quota.{values_of as quota_values_of}
use Rattle.quota.specs.Cases.{given}
use Rattle.quota.specs.Cases.{cases as quota_cases, worked as quota_worked}
use Rattle.quota.proofs.Checks.{values_are}
use Rattle.wivakkol.specs.Rows.{facts_row, quota_row}

pub e_row : facts_row (table_values E) ≡ 0 ∷ 3 ∷ 12 ∷ 6 ∷ 8 ∷ 2 ∷ []
unfolding cases
e_row =
    let row : values_of (loaded E) ≡ (accepted E 3 12 6 8 2).values = cc worked in
    ap facts_row (sym (table_values_lem E) ∙ row)

pub overfreed_row : facts_row (table_values overfreed) ≡ 1 ∷ 0 ∷ 0 ∷ 0 ∷ 0 ∷ 0 ∷ []
unfolding cases
overfreed_row =
    let row : values_of (loaded overfreed) ≡ (refused overfreed 10 1).values = cc worked in
    ap facts_row (sym (table_values_lem overfreed) ∙ row)

pub e_quota : quota_row (values_for E 2 1 55) ≡ 0 ∷ 7 ∷ []
unfolding quota_cases
e_quota =
    let row : quota_values_of (quoted E 2 1 55) ≡ (given E 2 1 55 7).values = cc quota_worked in
    ap quota_row (sym (values_are E 2 1 55 refl).1 ∙ row)
