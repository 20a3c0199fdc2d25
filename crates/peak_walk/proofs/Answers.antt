-- What the answer is, check by check, and that S_p is the peak at load p − 1.
use Rattle.std.specs.Prelude.{Err, Ok}
use Rattle.std.proofs.Common.{◌≡◌, ℕ, ◌-◌, ◌<◌, ◌≤◌, Bool, false, List, replicate, arith, le-ltb, lt-ltb}
use lib.ListN.{length-replicate, get_or-replicate}
use Rattle.table.specs.Format.{threads_of, table_of}
use Rattle.table.specs.Pass.{refusal, first_found}
use Rattle.table.specs.Checks.{passes}
use Rattle.table.specs.declared.Refusal.{Refusal}
use Rattle.table.proofs.Passes.{passes_rules}
use Rattle.peaks.specs.Peak.{peak_on, workers_peak}
use Rattle.peaks.specs.Rests.{parallel_peak}
use Rattle.peak_walk.specs.Peaked.{standing, peaked, paralleled}
use Rattle.peak_walk.specs.Code.Walk.{Accepted, Right}

module _ (s : List ℕ) (load : ℕ) (resting : Bool) where
  pub refused : {r : Refusal} → first_found (passes s) ≡ Err r → Err r ≡ peaked s load resting
  unfolding peaked
  refused e = rw e

  pub too_high : first_found (passes s) ≡ Ok tt → 16 < load → Err (refusal 20 0) ≡ peaked s load resting
  unfolding peaked
  too_high e h = rw (e, lt-ltb 16 load h)

  pub given : first_found (passes s) ≡ Ok tt → load ≤ 16 → {x : ℕ} → x ≡ peak_on (table_of s) (standing (table_of s) resting) 0 load → Ok x ≡ peaked s load resting
  unfolding peaked
  given e h p = rw (e, le-ltb 16 load h, p)

-- the parallel peak
module _ (s : List ℕ) where
  pub parallel_refused : {r : Refusal} → first_found (passes s) ≡ Err r → Err r ≡ paralleled s
  unfolding paralleled
  parallel_refused e = rw e

  pub parallel_given : first_found (passes s) ≡ Ok tt → {x : ℕ} → x ≡ parallel_peak (table_of s) → Ok x ≡ paralleled s
  unfolding paralleled
  parallel_given e p = rw (e, p)

-- S_p
pub peaked_workers : (s : List ℕ) (p : ℕ) → first_found (passes s) ≡ Ok tt → p ≤ 17 → peaked s (p - 1) false ≡ Ok (workers_peak (table_of s) p)
unfolding peaked workers_peak
peaked_workers s p e h = rw (e, le-ltb 16 (p - 1) (omega arith))

-- ---- where the walks begin

pub accepted : (s : List ℕ) (n : ℕ) → first_found (passes s) ≡ Ok tt → n ≡ threads_of s → Accepted s n
unfolding table_of
accepted s n e h = record { rules = (passes_rules s).0 e; threads = h }

pub right_start : (s : List ℕ) (n : ℕ) → Accepted s n → (resting : Bool) → Right (table_of s) resting (replicate 17408 0) (replicate 1024 0) (replicate 17408 0) 0 n
right_start s n a resting =
    record {
      lower = λ d x p q. absurd (omega arith);
      here = λ d p q. absurd (omega (arith, a.threads));
      balances = λ d p q. absurd (omega (arith, a.threads));
      peaks_size = length-replicate {A = ℕ} 17408 0;
      finals_size = length-replicate {A = ℕ} 1024 0;
      rows_size = length-replicate {A = ℕ} 17408 0;
      none = λ j p. get_or-replicate {A = ℕ} 17408 j 0 0 (omega arith);
    }
