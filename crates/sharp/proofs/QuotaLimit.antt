-- The peak of p workers with quota K over every list of calls: what is held is at most C and at most CE of the table that runs, whatever the order of the turns, refused calls included.
--
-- What it cites: `begin`, `after_calls`, `row_of_calls`, `row_memory` and `peak_memory` as the memory limit of demand 3 does (proofs/Limit of crates/bounds); `quota_peak` is C, `any_quota_peak` is C0 and
-- `rests_under` a resting place under K (specs/Off); `need_peak` is CE and `LightNeed` is (W) (specs/Need); `workers_peak`, `stretch` and `resting_peak` are in specs/Peak and specs/Rests of crates/peaks.
use Rattle.std.specs.Prelude.{Ok}
use mathlib.Core.Path.{◌≡◌, sym, ap, ◌∙◌}
use Prim.Native.Nat.{ℕ, ◌-◌, ◌≤◌, ◌<◌}
use mathlib.Core.List.{List, [], ◌++◌, append-nil}
use mathlib.Core.Bool.{true}
use lib.ListN.{get_or}
use Rattle.table.specs.Format.{Table, table_of}
use Rattle.order.specs.Words.{count_below}
use Rattle.schedule.specs.declared.Run.{Run}
use Rattle.schedule.specs.Machine.{State}
use Rattle.schedule.specs.Begin.{begin}
use Rattle.schedule.specs.Calls.{Call, after_calls, row_of_calls}
use Rattle.schedule.specs.Memory.{row_memory, peak_memory}
use Rattle.order.proofs.Lists.{Below}
use Rattle.schedule.proofs.Runs.Rows.{row_held, row_highest}
use Rattle.schedule.proofs.Runs.Histories.{Started, Traced, calls_traced}
use Rattle.filling.specs.Filled.{filled_out}
use Rattle.peaks.specs.Peak.{workers_peak}
use Rattle.peaks.specs.Rests.{stretch, resting_peak}
use Rattle.peaks.proofs.Unpreempted.{Stands}
use Rattle.sharp.specs.Off.{rests_under, is_off, quota_peak, any_quota_peak}
use Rattle.sharp.specs.Need.{LightNeed, need_peak}
use Rattle.sharp.proofs.OffWithin.{quota_workers, quota_resting, quota_any}
use Rattle.sharp.proofs.NeedLaw.{row_need_light}
use Rattle.sharp.proofs.NeedWithin.{need_quota}
use Rattle.sharp.proofs.QuotaRows.{row_placed, row_off, row_quota, row_quotas, row_need, row_needs}

-- of a record r and the row of turns that led to it
pub record QuotaLimit (T : Table) (p K : ℕ) (r : Run) (row : List ℕ) : Type 0 where
  pub within : (r.held ≤ quota_peak T p K) × (r.highest ≤ quota_peak T p K)
  -- and so after every front part
  pub bounded : (front rest : List ℕ) → row ≡ front ++ rest → (row_memory T K front ≤ quota_peak T p K) × (peak_memory T K front ≤ quota_peak T p K)
  -- every live thread that nobody holds stands at a resting place under K
  pub placed : (t : ℕ) → t < T.threads → Stands (get_or r.status t 0) → rests_under T K (get_or r.next t 0) ≡ true
  -- so at most p threads stand elsewhere
  pub few_off : count_below (is_off T K r.next r.status) T.threads ≤ p
  -- it is at most S_p, at most the resting limit where K covers every stretch, and at most what whatever quota allows
  pub lower : (quota_peak T p K ≤ workers_peak T p) × (stretch T K ≤ K → quota_peak T p K ≤ resting_peak T p) × (quota_peak T p K ≤ any_quota_peak T p)

-- .. under both laws
pub record NeedLimit (T : Table) (p K : ℕ) (r : Run) (row : List ℕ) : Type 0 where
  pub within : (r.held ≤ need_peak T p K) × (r.highest ≤ need_peak T p K)
  -- and so after every front part
  pub bounded : (front rest : List ℕ) → row ≡ front ++ rest → (row_memory T K front ≤ need_peak T p K) × (peak_memory T K front ≤ need_peak T p K)
  -- no entered unended thread has a weighted load above p − 1
  pub light : LightNeed T p r.next r.status (p - 1)
  -- it is at most C
  pub lower : need_peak T p K ≤ quota_peak T p K

-- the limits for every order of turns, from table, p and K
pub record EveryOrder (T : Table) (p K : ℕ) (r : Run) (row : List ℕ) : Type 0 where
  pub quota : QuotaLimit T p K r row
  pub need : NeedLimit T p K r row

module _ (s : List ℕ) (p K : ℕ) (r : Run) (e : begin s p K ≡ record { answer = Ok tt; run = r }) (calls : List Call) where
  -- the table that runs (N6)
  abbrev T : Table
  T = table_of (filled_out s K)

  abbrev row : List ℕ
  row = row_of_calls calls r

  traced : Traced s p K r calls
  traced = calls_traced s p K r e calls

  below : Below p (row_of_calls calls r)
  below = traced.below row [] (sym (append-nil row))

  held : (after_calls calls r).held ≡ row_memory (table_of (filled_out s K)) K (row_of_calls calls r)
  held = ap (λ (x : State). x.held) traced.state ∙ row_held T traced.started.lawful p K traced.started.few_workers row below

  highest : (after_calls calls r).highest ≡ peak_memory (table_of (filled_out s K)) K (row_of_calls calls r)
  highest = ap (λ (x : State). x.highest) traced.state ∙ row_highest T traced.started.lawful p K traced.started.few_workers row below

  -- for every accepted table, p and K, and every list of calls from the record of the beginning
  pub quota_limit : QuotaLimit (table_of (filled_out s K)) p K (after_calls calls r) (row_of_calls calls r)
  quota_limit =
      let i : Started s p K r = traced.started in
      let bounded : (front rest : List ℕ) → row ≡ front ++ rest → (row_memory T K front ≤ quota_peak T p K) × (peak_memory T K front ≤ quota_peak T p K) =
      λ front rest d. (
        row_quota T i.lawful p K i.few_workers front (traced.below front rest d),
        row_quotas T i.lawful p K i.few_workers front (traced.below front rest d),
      ) in
      let whole = bounded row [] (sym (append-nil row)) in
      record {
        within = (rw held whole.0, rw highest whole.1);
        bounded = bounded;
        placed =
            rw (ap (λ (x : State). x.next) traced.state, ap (λ (x : State). x.status) traced.state) (row_placed T i.lawful p K i.few_workers row below);
        few_off =
            rw (ap (λ (x : State). x.next) traced.state, ap (λ (x : State). x.status) traced.state) (row_off T i.lawful p K i.few_workers row below);
        lower = (quota_workers T i.lawful p K, quota_resting T i.lawful p K, quota_any T i.lawful p K);
      }

  pub need_limit : NeedLimit (table_of (filled_out s K)) p K (after_calls calls r) (row_of_calls calls r)
  need_limit =
      let i : Started s p K r = traced.started in
      let bounded : (front rest : List ℕ) → row ≡ front ++ rest → (row_memory T K front ≤ need_peak T p K) × (peak_memory T K front ≤ need_peak T p K) =
      λ front rest d. (
        row_need T i.lawful p K i.few_workers front (traced.below front rest d),
        row_needs T i.lawful p K i.few_workers front (traced.below front rest d),
      ) in
      let whole = bounded row [] (sym (append-nil row)) in
      record {
        within = (rw held whole.0, rw highest whole.1);
        bounded = bounded;
        light =
            rw (ap (λ (x : State). x.next) traced.state, ap (λ (x : State). x.status) traced.state) (row_need_light T i.lawful p K i.few_workers row below);
        lower = need_quota T i.lawful p K;
      }

  pub every_order : EveryOrder (table_of (filled_out s K)) p K (after_calls calls r) (row_of_calls calls r)
  every_order = record { quota = quota_limit; need = need_limit }
