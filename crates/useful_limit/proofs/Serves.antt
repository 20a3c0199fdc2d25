-- What a quota that fits is good for: a beginning with it is accepted, the table as given runs, and its useful limit is at most M.
use Rattle.std.specs.Prelude.{Ok}
use mathlib.Core.Path.{◌≡◌}
use Prim.Native.Nat.{ℕ, ◌≤◌, ◌<◌}
use native.Mathlib.Omega.{arith}
use mathlib.Core.List.{List, ◌++◌}
use borrow.Author.Tests.{le-ltb}
use Rattle.table.specs.Format.{Table, table_of}
use Rattle.table.specs.Pass.{first_found}
use Rattle.table.specs.Checks.{alloc_of, passes}
use Rattle.table.specs.Rules.{Rules}
use Rattle.table.proofs.Passes.{first_found_append, first_found_nothing, passes_rules, try_pass_from_0}
use Rattle.filling.specs.Filled.{big, filled_out, overfull}
use Rattle.filling.proofs.FilledTable.{in_place}
use Rattle.schedule.specs.Record.{max_workers}
use Rattle.schedule.specs.Begin.{max_quota, begin_passes, begin, start_run}
use Rattle.peaks.specs.Rests.{useful_limit}
use Rattle.quota.specs.Quota.{InRange}
use Rattle.quota.proofs.Least.{least_exactly}
use Rattle.quota.proofs.Answers.{in_outside}
use Rattle.useful_limit.specs.declared.Fitted.TheVariants.{Fits}
use Rattle.useful_limit.specs.Fit.{fitted}
use Rattle.useful_limit.proofs.Fits.{fit_exactly}

-- no check of a beginning applies to a quota in range
begin_passed : (T : Table) (p K : ℕ) → 1 ≤ p → p ≤ max_workers → InRange T K → first_found (begin_passes T p K) ≡ Ok tt
unfolding big overfull
begin_passed T p K low high r =
    let l = (least_exactly T K).0 r.low in
    (first_found_nothing (begin_passes T p K)).1 (
      (try_pass_from_0 1 _).1 ((λ i h. in_outside 1 max_workers p low high), ((λ i h. in_outside 1 max_quota K l.0 r.high), tt)),
      ((try_pass_from_0 T.actions _).1 ((λ a h. rw (le-ltb K (alloc_of T a) (l.1 a h))), tt), tt),
    )

-- of accepted bytes, with p workers and a quota in range
pub record Begins (s : List ℕ) (p K : ℕ) : Type 0 where
  pub small : (a : ℕ) → a < (table_of s).actions → alloc_of (table_of s) a ≤ K
  pub in_place : filled_out s K ≡ s
  pub found : first_found (passes s ++ begin_passes (table_of s) p K) ≡ Ok tt
  pub begun : begin s p K ≡ record { answer = Ok tt; run = start_run s p K }

pub range_begins : (s : List ℕ) (p K : ℕ) → Rules s → 1 ≤ p → p ≤ max_workers → InRange (table_of s) K → Begins s p K
unfolding begin
range_begins s p K rules low high r =
    let small : (a : ℕ) → a < (table_of s).actions → alloc_of (table_of s) a ≤ K = ((least_exactly (table_of s) K).0 r.low).1 in
    let place : filled_out s K ≡ s = in_place s K small in
    let found : first_found (passes s ++ begin_passes (table_of s) p K) ≡ (Ok tt) =
    rw (first_found_append (passes s) (begin_passes (table_of s) p K), (passes_rules s).1 rules, begin_passed (table_of s) p K low high r) in
    record { small = small; in_place = place; found = found; begun = rw (found, place) }

pub fit_serves : (s : List ℕ) (p b M K X : ℕ) → fitted s p b M ≡ Ok (Fits K X) → Begins s p K × (useful_limit (table_of (filled_out s K)) p K b ≤ M)
fit_serves s p b M K X e =
    let (asked, largest, is) = (fit_exactly s p b M K X).0 e in
    let begins : Begins s p K = range_begins s p K asked.rules asked.some_worker asked.few_workers largest.in_range in
    (begins, rw begins.in_place largest.serves)
