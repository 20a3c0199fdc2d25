-- A turn on a run in lent memory, shown before it is taken (N4).
use Rattle.std.specs.Prelude.{ℕ, List, [], ◌∷◌, ◌++◌, eqb, get_or}
use Rattle.table.specs.Sum.{pick}
use Rattle.schedule.specs.Shown.{Shown}
use Rattle.run_memory.specs.Memory.{Memory, Answer, lent_turn}
use Rattle.run_memory.specs.Stands.{values_row}

-- the refusal's number, 0 where there is none, and the lent row; the memory is read alone: "the record itself is unaltered"
pub record Preview : Type 0 where
  pub number : ℕ
  pub row : List ℕ

abbrev pub preview : ℕ → List ℕ → Preview
preview number row = record { number = number; row = row }

-- "memory held, its highest and the worker's quota left"
abbrev pub amounts_in : Memory → ℕ → List ℕ
amounts_in M w = get_or M.totals 0 0 ∷ get_or M.totals 1 0 ∷ get_or M.quotas w 0 ∷ []

abbrev pub no_amounts : List ℕ
no_amounts = 0 ∷ 0 ∷ 0 ∷ []

-- "It equals taking the turn on a copy, refusals included (number and place alone)": the turn's row of five numbers, and the three amounts after it
unfoldable pub lent_preview : List ℕ → ℕ → Memory → Preview
lent_preview s w M =
    let a : Answer = lent_turn s w M in
    preview a.number (a.row ++ pick (eqb a.number 0) (amounts_in a.memory w) no_amounts)

-- number and row of the paper's values of a preview
abbrev pub shown_as : Shown → Preview
shown_as v = preview v.said.number (values_row v.said ++ (v.held ∷ v.highest ∷ v.quota ∷ []))
