-- How the checks are run (document 01, "Where each check stands"): "Checks run from top to bottom; within a pass, by rising entry or action. The first that applies wins."
use Rattle.std.specs.Prelude.{ℕ, zero, suc, List, [], ◌∷◌, Bool, Err, Ok, Result, ⊤}
use Rattle.table.specs.Sum.{pick}
use Rattle.table.specs.declared.Refusal.{Refusal}

-- a row of the document's list: its number, and its condition at a place
pub record Check : Type 0 where
  pub number : ℕ
  pub applies : ℕ → Bool

-- the rows that are tried together at each of some places, from the lowest on
pub record Pass : Type 0 where
  pub from : ℕ
  pub places : ℕ
  pub checks : List Check

-- the first of two findings
abbrev pub or_else : Result ⊤ Refusal → Result ⊤ Refusal → Result ⊤ Refusal
or_else (Ok _) g = g
or_else (Err r) g = Err r

abbrev pub refusal : ℕ → ℕ → Refusal
refusal number place = record { number = number; place = place }

-- at one place: the first check that applies
unfoldable pub try_at : List Check → ℕ → Result ⊤ Refusal
try_at [] i = Ok tt
try_at (c ∷ cs) i = pick (c.applies i) (Err (refusal c.number i)) (try_at cs i)

-- at k places from i on: the lowest place at which a check applies
unfoldable pub try_from : List Check → ℕ → ℕ → Result ⊤ Refusal
try_from cs i zero = Ok tt
try_from cs i (suc k) = or_else (try_at cs i) (try_from cs (suc i) k)

unfoldable pub try_pass : Pass → Result ⊤ Refusal
try_pass p = try_from p.checks p.from p.places

-- all passes, top to bottom
unfoldable pub first_found : List Pass → Result ⊤ Refusal
first_found [] = Ok tt
first_found (p ∷ ps) = or_else (try_pass p) (first_found ps)
