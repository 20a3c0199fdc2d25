-- What `memlimit` says of any bytes, p, K and b: five numbers of the table that runs.
use Rattle.std.specs.Prelude.{ℕ, List, [], ◌∷◌, ◌++◌, ◌&&◌, length, ltb, Err, Ok, Result, ⊤}
use Rattle.table.specs.declared.Refusal.{Refusal}
use Rattle.table.specs.Sum.{pick, any_below}
use Rattle.table.specs.Format.{Table, table_of}
use Rattle.table.specs.Pass.{Check, Pass, refusal, first_found}
use Rattle.table.specs.Checks.{outside, passes}
use Rattle.table.specs.Serial.{S1}
use Rattle.schedule.specs.Record.{max_workers}
use Rattle.schedule.specs.Begin.{max_quota}
use Rattle.order.specs.Words.{is_nothing}
use Rattle.filling.specs.Filled.{big, filled_out, fill_pass}
use Rattle.filling.specs.Filling.{filled_into}
use Rattle.peaks.specs.Peak.{workers_peak}
use Rattle.peaks.specs.Rests.{stretch as stretch_of, useful_limit, parallel_peak}
use Rattle.quota.specs.Quota.{max_gap}
use Rattle.useful_limit.specs.declared.Numbers.{Numbers}

-- 20: p outside 1 to 16
abbrev pub workers_check : ℕ → Check
workers_check p = record { number = 20; applies = λ i. outside 1 max_workers p }

-- 41: b above 65,535; with b 0 nobody keeps any
abbrev pub gap_check : ℕ → Check
gap_check b = record { number = 41; applies = λ i. ltb max_gap b }

-- 21: K outside 1 to 16,777,215
abbrev pub quota_check : ℕ → Check
quota_check K = record { number = 21; applies = λ i. outside 1 max_quota K }

abbrev pub settings : List Check → Pass
settings checks = record { from = 0; places = 1; checks = checks }

-- the checks in their order: 1 to 11, 20, 41, 21, 44
abbrev pub limit_passes : List ℕ → ℕ → ℕ → ℕ → List Pass
limit_passes s p K b = passes s ++ (settings (workers_check p ∷ gap_check b ∷ quota_check K ∷ []) ∷ fill_pass (table_of s) K ∷ [])

-- the useful limit, S1, S_p, the parallel peak, the largest draw of a stretch under K
unfoldable pub numbers_of : Table → ℕ → ℕ → ℕ → Numbers
numbers_of T p K b =
    record { memory = useful_limit T p K b; serial = S1 T; peak = workers_peak T p; parallel = parallel_peak T; stretch = stretch_of T K }

abbrev pub limits_as : Result ⊤ Refusal → Numbers → Result Numbers Refusal
limits_as (Ok _) x = Ok x
limits_as (Err r) x = Err r

-- of the table that runs, filled out for K
unfoldable pub limits : List ℕ → ℕ → ℕ → ℕ → Result Numbers Refusal
limits s p K b = limits_as (first_found (limit_passes s p K b)) (numbers_of (table_of (filled_out s K)) p K b)

-- ---- in lent memory

-- how many bytes the filled-out table takes, 0 where the table as given runs
abbrev pub room_for : List ℕ → ℕ → ℕ
room_for s K = pick (any_below (big (table_of s) K) (table_of s).actions) (length (filled_out s K)) 0

-- 61, after 44: too little room is lent for the filled-out table
unfoldable pub limits_in : List ℕ → ℕ → ℕ → ℕ → ℕ → Result Numbers Refusal
limits_in s p K b room = pick (is_nothing (first_found (limit_passes s p K b)) && ltb room (room_for s K)) (Err (refusal 61 0)) (limits s p K b)

-- the lent buffer after it: as it was where a check applies
abbrev pub limits_into : List ℕ → ℕ → ℕ → ℕ → List ℕ → List ℕ
limits_into s p K b out = pick (is_nothing (first_found (limit_passes s p K b))) (filled_into s K out) out
