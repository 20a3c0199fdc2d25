-- Document 01's cases that bear a star, on tables, on runs, on single turns, on the limit and on the listing's text, as one table with one theorem over all of them. The rows of our own
-- stand beside them in each file and have their theorem there.
use mathlib.Core.Path.{◌≡◌, refl, sym, ap, ap₂, ◌∙◌}
use Prim.Native.Nat.{ℕ}
use mathlib.Core.List.{List, [], ◌∷◌, ◌++◌, map, map-map}
use Rattle.table.specs.Load.{TableValues, values_of, loaded}
use Rattle.table.specs.Cases.{Case as TableCase}
use Rattle.table.specs.Cases.{cases as table_cases, worked as tables_worked}
use Rattle.schedule.specs.Answers.{Values}
use Rattle.schedule.specs.Turn.{turned}
use Rattle.schedule.specs.Listing.{Listing}
use Rattle.schedule.specs.Cases.{Case, never, ran_by}
use Rattle.schedule.specs.Cases.{cases as run_cases}
use Rattle.schedule.specs.TurnCases.{TurnCase, said_by, turn_cases}
use Rattle.schedule.specs.Rule.{Measures, RowCase, measured_by, row_cases}
use Rattle.schedule.proofs.CaseLaws.{worked_turned, said_turned, rows_turned}
use Rattle.listing.specs.Listing.{listing_of}
use Rattle.listing.specs.Cases.{Case as ListingCase}
use Rattle.listing.specs.Cases.{cases as listing_cases}
use Rattle.listing.proofs.Worked.{listings_worked}

-- what a case comes to: the values of a loaded table, the listing of a run, what a single turn says, a row's measures against the limit, or the bytes that `turnlist` prints
pub data Outcome : Type 0 where
  loads : TableValues → Outcome
  lists : Listing → Outcome
  says : Values → Outcome
  measures : Measures → Outcome
  prints : List ℕ → Outcome

-- what the definitions give, and what document 01 says
pub record Row : Type 0 where
  pub computed : Outcome
  pub expected : Outcome

abbrev pub table_row : TableCase → Row
table_row c = record { computed = loads (values_of (loaded c.bytes)); expected = loads c.values }

abbrev pub run_row : Case → Row
run_row c = record { computed = lists (ran_by never turned c.bytes c.workers c.quota c.order); expected = lists c.listing }

abbrev pub turn_case_row : TurnCase → Row
turn_case_row c = record { computed = says (said_by turned c); expected = says c.values }

abbrev pub limit_row : RowCase → Row
limit_row c = record { computed = measures (measured_by turned c); expected = measures c.measures }

abbrev pub text_row : ListingCase → Row
text_row c = record { computed = prints (listing_of c.input); expected = prints c.text }

unfoldable pub starred : List Row
starred = map table_row table_cases ++ (map run_row run_cases ++ (map turn_case_row turn_cases ++ (map limit_row row_cases ++ map text_row listing_cases)))

abbrev Agree : List Row → Type 0
Agree l = map (λ (r : Row). r.computed) l ≡ map (λ (r : Row). r.expected) l

map_append : (f : Row → Outcome) (k l : List Row) → map f (k ++ l) ≡ map f k ++ map f l
map_append f [] l = refl
map_append f (x ∷ k) l = rw (map_append f k l)

agree_append : (k l : List Row) → Agree k → Agree l → Agree (k ++ l)
agree_append k l h i = map_append _ k l ∙ ap₂ ◌++◌ h i ∙ sym (map_append _ k l)

-- rows of one sort: what holds of the values holds of the outcomes
rows_agree : {A B : Type 0} (row : A → Row) (given said : A → B) (kind : B → Outcome) (l : List A)
    → map (λ x. (row x).computed) l ≡ map (λ x. kind (given x)) l → map (λ x. (row x).expected) l ≡ map (λ x. kind (said x)) l → map given l ≡ map said l
    → Agree (map row l)
rows_agree row given said kind l c e h =
    map-map _ row l ∙ c ∙ sym (map-map kind given l) ∙ ap (map kind) h ∙ map-map kind said l ∙ sym e ∙ sym (map-map _ row l)

-- every row comes to what document 01 says
pub starred_worked : map (λ (r : Row). r.computed) starred ≡ map (λ (r : Row). r.expected) starred
unfolding starred
starred_worked =
    agree_append (map table_row table_cases) _ (rows_agree table_row _ _ loads table_cases refl refl tables_worked)
    (agree_append (map run_row run_cases) _ (rows_agree run_row _ _ lists run_cases refl refl worked_turned.0)
    (agree_append (map turn_case_row turn_cases) _ (rows_agree turn_case_row _ _ says turn_cases refl refl said_turned.0)
    (agree_append (map limit_row row_cases) _ (rows_agree limit_row _ _ measures row_cases refl refl rows_turned.0)
    (rows_agree text_row _ _ prints listing_cases refl refl listings_worked.0))))
