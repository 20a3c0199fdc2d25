-- Beginning both ways: a run is begun exactly when the table keeps every rule, p and K are within their ranges and the filled-out table within the limits, and refused with a number and a place exactly when that
-- check is the first that applies, over the table's passes and the beginning's.
use Rattle.std.specs.Prelude.{Err, Ok, Result, ⊤}
use mathlib.Core.Path.{◌≡◌, refl}
use mathlib.Core.Logic.Iff
use mathlib.Core.Logic.{◌↔◌}
use Prim.Native.Nat.{ℕ, ◌≤◌}
use mathlib.Core.List.{List, [], ◌∷◌, ◌++◌}
use Rattle.table.specs.Format.{Table, table_of}
use Rattle.table.specs.Pass.{try_pass, first_found}
use Rattle.table.specs.First.{FirstApplies}
use Rattle.table.specs.Checks.{passes}
use Rattle.table.specs.Rules.{Rules}
use Rattle.table.specs.declared.Refusal.{Refusal}
use Rattle.table.proofs.Tests.{no_way}
use Rattle.table.proofs.WellFormed.{not_outside}
use Rattle.table.proofs.Trying.{or_else_nothing}
use Rattle.table.proofs.Passes.{first_found_append, first_found_nothing, try_pass_from_0, passes_rules, found_exactly}
use Rattle.schedule.specs.declared.Run.{Run}
use Rattle.schedule.specs.Record.{max_workers, blank}
use Rattle.schedule.specs.Begin.{max_quota, setting_passes, begin_passes, start_run, begun_as, begin}
use Rattle.order.proofs.Lawful.{Lawful, lawful}
use Rattle.filling.specs.Filled.{filled_out, fill_pass}
use Rattle.filling.proofs.FilledTable.{room_exactly}
use Rattle.filling.proofs.FilledTable.{Fits as Room}
use Rattle.filling.proofs.Runs.{Runs, fill_runs}
use Rattle.schedule.proofs.Stores.{Fits, setting_fits}

-- ---- 20, 21 and 44

-- neither 20 nor 21 applies exactly when 1 ≤ p ≤ 16 and 1 ≤ K ≤ 16,777,215 (`Fits`, proofs/Stores)
pub settings_exactly : (p K : ℕ) → (first_found (setting_passes p K) ≡ Ok tt) ↔ Fits p K
settings_exactly p K = (setting_fits p K, none)
  where
    none : Fits p K → first_found (setting_passes p K) ≡ Ok tt
    none f =
        (first_found_nothing (setting_passes p K)).1
        ((try_pass_from_0 1 _).1 ((λ i l. not_outside 1 max_workers p f.some_worker f.few_workers), ((λ i l. not_outside 1 max_quota K f.some_quota f.few_quota), tt)), tt)

-- nor does 44 exactly when the filled-out table has at most 1,024 threads and 8,192 actions
pub fits_exactly : (T : Table) → T.threads ≤ 1024 → T.actions ≤ 8192 → (p K : ℕ) → (first_found (begin_passes T p K) ≡ Ok tt) ↔ (Fits p K × Room T K)
fits_exactly T n m p K =
    rw (first_found_append (setting_passes p K) (fill_pass T K ∷ []))
    (Iff.trans (or_else_nothing (first_found (setting_passes p K)) (first_found (fill_pass T K ∷ []))) (Iff.and (settings_exactly p K) (Iff.trans alone (room_exactly T K n m))))
  where
    alone : (first_found (fill_pass T K ∷ []) ≡ Ok tt) ↔ (try_pass (fill_pass T K) ≡ Ok tt)
    alone = ((λ e. ((first_found_nothing (fill_pass T K ∷ [])).0 e).0), (λ e. (first_found_nothing (fill_pass T K ∷ [])).1 (e, tt)))

-- ---- begun, and refused

answer_begun : (f : Result ⊤ Refusal) (r : Run) → ((begun_as f r).answer ≡ Ok tt) ↔ (f ≡ Ok tt)
answer_begun (Ok _) r = ((λ h. refl), (λ h. refl))
answer_begun (Err x) r = ((λ h. no_way (cc)), (λ h. no_way (cc)))

answer_refused : (f : Result ⊤ Refusal) (r : Run) (x : Refusal) → ((begun_as f r).answer ≡ Err x) ↔ (f ≡ Err x)
answer_refused (Ok _) r x = ((λ h. no_way (cc)), (λ h. no_way (cc)))
answer_refused (Err y) r x = ((λ h. cc), (λ h. cc))

module _ (s : List ℕ) (p K : ℕ) where
  abbrev found : Result ⊤ Refusal
  found = first_found (passes s ++ begin_passes (table_of s) p K)

  -- where none of the checks applies, the filled-out table is all that the requests say of it
  pub silent_runs : found ≡ Ok tt → Rules s × Fits p K × Runs s K
  silent_runs e =
      let T : Table = table_of s in
      let b = (or_else_nothing (first_found (passes s)) (first_found (begin_passes T p K))).0 (rw (first_found_append (passes s) (begin_passes T p K)) at e) in
      let d = (or_else_nothing (first_found (setting_passes p K)) (first_found (fill_pass T K ∷ []))).0 (rw (first_found_append (setting_passes p K) (fill_pass T K ∷ [])) at b.1) in
      let r : Rules s = (passes_rules s).0 b.0 in
      let f : Fits p K = setting_fits p K d.0 in
      (r, f, fill_runs s K r f.some_quota ((first_found_nothing (fill_pass T K ∷ [])).0 d.1).0)

  -- of a table that keeps every rule
  fits_so : Rules s → (first_found (begin_passes (table_of s) p K) ≡ Ok tt) ↔ (Fits p K × Room (table_of s) K)
  fits_so r = let l : Lawful (table_of s) = lawful s r in fits_exactly (table_of s) l.few_threads l.few_actions p K

  -- a run is begun exactly when the table keeps every rule, p is 1 to 16, K is 1 to 16,777,215 and the filled-out table has at most 1,024 threads and 8,192 actions
  pub begun_exactly : ((begin s p K).answer ≡ Ok tt) ↔ (Rules s × (Fits p K × Room (table_of s) K))
  unfolding begin
  begun_exactly =
      rw (first_found_append (passes s) (begin_passes (table_of s) p K))
      (Iff.trans (answer_begun _ (start_run (filled_out s K) p K)) (Iff.trans (or_else_nothing _ _) (
        (λ h. let r : Rules s = (passes_rules s).0 h.0 in (r, (fits_so r).0 h.1)),
        (λ h. ((passes_rules s).1 h.0, (fits_so h.0).1 h.1)),
      )))

  -- and with the record of the filled-out table's start
  pub begun_record : (begin s p K).answer ≡ Ok tt → (begin s p K).run ≡ start_run (filled_out s K) p K
  unfolding begin
  begun_record h = rw ((answer_begun found (start_run (filled_out s K) p K)).0 h)

  -- refused with a number and a place exactly when the first check that applies has that number and applies at that place
  pub begin_refused_exactly : (x : Refusal) → ((begin s p K).answer ≡ Err x) ↔ FirstApplies (passes s ++ begin_passes (table_of s) p K) x.number x.place
  unfolding begin
  begin_refused_exactly x = Iff.trans (answer_refused _ (start_run (filled_out s K) p K) x) (found_exactly (passes s ++ begin_passes (table_of s) p K) x)

  -- "A refused beginning hands back the blank record"
  pub begin_refused_record : (x : Refusal) → (begin s p K).answer ≡ Err x → (begin s p K).run ≡ blank
  unfolding begin
  begin_refused_record x h = rw ((answer_refused found (start_run (filled_out s K) p K) x).0 h)
