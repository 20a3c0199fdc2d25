-- What `dequelimit` says of any bytes, p, K and c: what DFDeques' memory stays within on the table that runs, for choices below c and for choices 0.
use Rattle.std.specs.Prelude.{ℕ, ◌+◌, ◌-◌, ◌*◌, min, List, [], ◌∷◌, ◌++◌, ◌&&◌, ltb, eqb, Err, Ok, Result, ⊤}
use Rattle.table.specs.declared.Refusal.{Refusal}
use Rattle.table.specs.Sum.{pick, any_below}
use Rattle.table.specs.Format.{Table, table_of}
use Rattle.table.specs.Pass.{Check, Pass, refusal, first_found}
use Rattle.table.specs.Checks.{outside, passes}
use Rattle.table.specs.Serial.{S1}
use Rattle.table.specs.Nested.{N}
use Rattle.order.specs.Words.{is_nothing}
use Rattle.filling.specs.Filled.{big, filled_out, fill_pass}
use Rattle.filling.specs.Filling.{filled_into}
use Rattle.peaks.specs.Peak.{peak_at}
use Rattle.useful_limit.specs.Limits.{workers_check, quota_check, settings, room_for}
use Rattle.deque_limit.specs.declared.Bounds.{Bounds}

-- for choices 0: the peak of two workers, and where no alloc is above K the lesser of it and S1 + K·(N − 1)
unfoldable pub near_limit : Table → ℕ → ℕ
near_limit T K = pick (any_below (big T K) T.actions) (peak_at T 0 1) (min (peak_at T 0 1) (S1 T + K * (N T - 1)))

-- for choices below c: the peak of c + 1 workers, for c 1 the number above
unfoldable pub choice_limit : Table → ℕ → ℕ → ℕ
choice_limit T K c = pick (eqb c 1) (near_limit T K) (peak_at T 0 c)

-- the two numbers: for choices below c, and for choices 0
unfoldable pub bounds_of : Table → ℕ → ℕ → Bounds
bounds_of T K c = record { memory = choice_limit T K c; near = near_limit T K }

-- 49: c outside 1 to p
abbrev pub choices_check : ℕ → ℕ → Check
choices_check p c = record { number = 49; applies = λ i. outside 1 p c }

-- the checks in their order: 1 to 11, 20, 49, 21, 44
abbrev pub choice_passes : List ℕ → ℕ → ℕ → ℕ → List Pass
choice_passes s p K c = passes s ++ (settings (workers_check p ∷ choices_check p c ∷ quota_check K ∷ []) ∷ fill_pass (table_of s) K ∷ [])

abbrev pub choices_as : Result ⊤ Refusal → Bounds → Result Bounds Refusal
choices_as (Ok _) x = Ok x
choices_as (Err r) x = Err r

-- of the table that runs, filled out for K
unfoldable pub choice_limits : List ℕ → ℕ → ℕ → ℕ → Result Bounds Refusal
choice_limits s p K c = choices_as (first_found (choice_passes s p K c)) (bounds_of (table_of (filled_out s K)) K c)

-- ---- in lent memory

-- 61, after 44: too little room is lent for the filled-out table
unfoldable pub choice_limits_in : List ℕ → ℕ → ℕ → ℕ → ℕ → Result Bounds Refusal
choice_limits_in s p K c room = pick (is_nothing (first_found (choice_passes s p K c)) && ltb room (room_for s K)) (Err (refusal 61 0)) (choice_limits s p K c)

-- the lent buffer after it: as it was where a check applies
abbrev pub choice_limits_into : List ℕ → ℕ → ℕ → ℕ → List ℕ → List ℕ
choice_limits_into s p K c out = pick (is_nothing (first_found (choice_passes s p K c))) (filled_into s K out) out
