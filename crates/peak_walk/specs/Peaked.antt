-- The peak of a table at a load from 0 to 16, over all places or over resting places alone, and its parallel peak: what the code answers to any bytes.
use Rattle.std.specs.Prelude.{ℕ, Bool, true, List, nat_lt, Err, Ok, Result, ⊤}
use Rattle.table.specs.declared.Refusal.{Refusal}
use Rattle.table.specs.Sum.{pick}
use Rattle.table.specs.Format.{Table, table_of}
use Rattle.table.specs.Pass.{refusal, first_found}
use Rattle.table.specs.Checks.{passes}
use Rattle.peaks.specs.Peak.{peak_on}
use Rattle.peaks.specs.Rests.{rests, parallel_peak}

-- where a thread may stand: at a resting place, or anywhere
abbrev pub standing : Table → Bool → ℕ → Bool
standing T resting a = pick resting (rests T a) true

-- of an accepted table; a load above 16 is refused as 20, since it is that of no p
abbrev pub own_peak : Table → ℕ → Bool → Result ℕ Refusal
own_peak T load resting = pick (nat_lt 16 load) (Err (refusal 20 0)) (Ok (peak_on T (standing T resting) 0 load))

abbrev pub peaked_by : Result ⊤ Refusal → Result ℕ Refusal → Result ℕ Refusal
peaked_by (Ok _) x = x
peaked_by (Err r) x = Err r

unfoldable pub peaked : List ℕ → ℕ → Bool → Result ℕ Refusal
peaked s load resting = peaked_by (first_found (passes s)) (own_peak (table_of s) load resting)

-- every open child at its best
unfoldable pub paralleled : List ℕ → Result ℕ Refusal
paralleled s = peaked_by (first_found (passes s)) (Ok (parallel_peak (table_of s)))
