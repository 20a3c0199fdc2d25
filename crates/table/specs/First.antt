-- The first check that applies, said without running any: "Checks run from top to bottom; within a pass, by rising entry or action. The first that applies wins."
use Rattle.std.specs.Prelude.{◌≡◌, ℕ, ◌+◌, ◌≤◌, ◌<◌, List, true}
use Rattle.std.proofs.Math.Option.{some}
use Rattle.std.proofs.Math.ListN.{get_elem?}
use Rattle.table.specs.Pass.{Check, Pass}

-- where a check stands: in which pass from the top, at which entry or action, in which row of that pass
pub record Standing : Type 0 where
  pub pass : ℕ
  pub place : ℕ
  pub row : ℕ

-- "that applies": there is such a pass, the place is one of its places, there is such a row with this number, and its condition is true at the place
pub record Applies (passes : List Pass) (number : ℕ) (w : Standing) : Type 0 where
  pub pass : Pass
  pub pass_there : get_elem? passes w.pass ≡ some pass
  pub place_from : pass.from ≤ w.place
  pub place_below : w.place < pass.from + pass.places
  pub check : Check
  pub check_there : get_elem? pass.checks w.row ≡ some check
  pub numbered : check.number ≡ number
  pub holds : check.applies w.place ≡ true

-- "from top to bottom; within a pass, by rising entry or action", and at one entry or action from top to bottom again
pub data Earlier (v w : Standing) : Type 0 where
  by_pass : v.pass < w.pass → Earlier v w
  by_place : v.pass ≡ w.pass → v.place < w.place → Earlier v w
  by_row : v.pass ≡ w.pass → v.place ≡ w.place → v.row < w.row → Earlier v w

-- "The first that applies": a check with this number applies at this place, and no check applies at a standing that is earlier
pub record FirstApplies (passes : List Pass) (number place : ℕ) : Type 0 where
  pub standing : Standing
  pub placed : standing.place ≡ place
  pub applies : Applies passes number standing
  pub first : (v : Standing) (k : ℕ) → Earlier v standing → Applies passes k v → ⊥
