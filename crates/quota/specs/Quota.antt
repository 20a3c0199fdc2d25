-- The largest quota for a board (N1): "From a table, p, b and memory M (64 bits) give the largest K from the table's largest alloc (1 if it has none) up to 16,777,215 for which the
-- bound of demand 3 is at most M."
use Rattle.std.specs.Prelude.{ℕ, ◌-◌, ◌*◌, ◌/◌, ◌≤◌, ◌<◌, max, min, List, [], ◌∷◌, ◌++◌, Bool, ◌||◌, ltb, eqb, Err, Ok, Result, ⊤}
use Rattle.table.specs.declared.Refusal.{Refusal}
use Rattle.table.specs.Sum.{pick, greatest_to}
use Rattle.table.specs.Format.{Table, table_of}
use Rattle.table.specs.Pass.{Pass, first_found}
use Rattle.table.specs.Checks.{outside, alloc_of, passes}
use Rattle.table.specs.Rules.{Rules}
use Rattle.table.specs.Serial.{S1}
use Rattle.table.specs.Level.{D}
use Rattle.table.specs.Load.{found_number, found_place, if_found}
use Rattle.schedule.specs.Record.{max_workers}
use Rattle.schedule.specs.Begin.{max_quota}
use Rattle.schedule.specs.Memory.{limit}

-- ---- the largest, as the request says it

-- "the table's largest alloc (1 if it has none)"; no alloc that passes the checks is of less than 1
unfoldable pub least_quota : Table → ℕ
least_quota T = max 1 (greatest_to (alloc_of T) T.actions)

-- "from the table's largest alloc .. up to 16,777,215"
pub record InRange (T : Table) (K : ℕ) : Type 0 where
  pub low : least_quota T ≤ K
  pub high : K ≤ max_quota

-- "for which the bound of demand 3 is at most M"
abbrev pub Serves : Table → ℕ → ℕ → ℕ → ℕ → Type 0
Serves T p b M K = limit T p K b ≤ M

-- "the largest K"
pub record IsLargest (T : Table) (p b M K : ℕ) : Type 0 where
  pub in_range : InRange T K
  pub serves : Serves T p b M K
  pub none_above : (L : ℕ) → K < L → InRange T L → Serves T p b M L → ⊥

-- "or none exists"
abbrev pub NoneServes : Table → ℕ → ℕ → ℕ → Type 0
NoneServes T p b M = (K : ℕ) → InRange T K → Serves T p b M K → ⊥

-- ---- the answer

-- what each unit of quota adds to the bound: b·(p − 1)·(D − 1)
unfoldable pub cost_of : Table → ℕ → ℕ → ℕ
cost_of T p b = b * (p - 1) * (D T - 1)

-- how many units of a cost an amount pays for, up to 16,777,215: all of them where they cost nothing ("With p 1 or D 1 only S1 counts")
unfoldable pub most_within : ℕ → ℕ → ℕ
most_within cost spare = pick (eqb cost 0) max_quota (min max_quota (spare / cost))

-- the most that serves, the least apart
unfoldable pub most_quota : Table → ℕ → ℕ → ℕ → ℕ
most_quota T p b M = most_within (cost_of T p b) (M - S1 T)

-- 42: "no such K"
unfoldable pub no_quota : Table → ℕ → ℕ → ℕ → Bool
no_quota T p b M = ltb M (S1 T) || ltb (most_quota T p b M) (least_quota T)

abbrev pub max_gap : ℕ
max_gap = 65535

-- "41 b outside 1 to 65,535, tested after 20; 42 no such K, last", all with place 0
abbrev pub quota_pass : Table → ℕ → ℕ → ℕ → Pass
quota_pass T p b M =
    record {
      from = 0;
      places = 1;
      checks =
          record { number = 20; applies = λ i. outside 1 max_workers p }
          ∷ record { number = 41; applies = λ i. outside 1 max_gap b }
          ∷ record { number = 42; applies = λ i. no_quota T p b M }
          ∷ [];
    }

-- the table's own checks first
abbrev pub quota_passes : List ℕ → ℕ → ℕ → ℕ → List Pass
quota_passes s p b M = passes s ++ (quota_pass (table_of s) p b M ∷ [])

abbrev pub answered_by : Result ⊤ Refusal → ℕ → Result ℕ Refusal
answered_by (Ok _) K = Ok K
answered_by (Err r) K = Err r

-- what is answered to any bytes, p, b and M
unfoldable pub quoted : List ℕ → ℕ → ℕ → ℕ → Result ℕ Refusal
quoted s p b M = answered_by (first_found (quota_passes s p b M)) (most_quota (table_of s) p b M)

-- the checks before 42 pass
pub record Asked (s : List ℕ) (p b : ℕ) : Type 0 where
  pub rules : Rules s
  pub some_worker : 1 ≤ p
  pub few_workers : p ≤ max_workers
  pub some_gap : 1 ≤ b
  pub small_gap : b ≤ max_gap

-- ---- the paper's number and values

-- number and place of a refusal, 0 and 0 where there is none; K, 0 where there is none
pub record QuotaValues : Type 0 where
  pub number : ℕ
  pub place : ℕ
  pub quota : ℕ

abbrev pub values_of : Result ℕ Refusal → QuotaValues
values_of (Ok K) = record { number = 0; place = 0; quota = K }
values_of (Err r) = record { number = r.number; place = r.place; quota = 0 }

-- the same from the checks and the numbers alone
abbrev pub quota_values_with : Result ⊤ Refusal → ℕ → QuotaValues
quota_values_with found K = record { number = found_number found; place = found_place found; quota = if_found found 0 K }

unfoldable pub values_for : List ℕ → ℕ → ℕ → ℕ → QuotaValues
values_for s p b M = quota_values_with (first_found (quota_passes s p b M)) (most_quota (table_of s) p b M)
