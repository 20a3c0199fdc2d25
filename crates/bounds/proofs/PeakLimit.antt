-- The peak of p workers over every list of calls: what is held is at most S_p, whatever K and whatever the order of the turns, refused calls included; and at most the useful limit. S_p of the table
-- that runs is that of the table as given (`given_workers`), so that it is one number whatever K.
--
-- What it cites: `begin`, `after_calls`, `row_of_calls`, `row_memory`, `peak_memory`, `Keeps` and `limit` as the memory limit of demand 3 does (Limit); `workers_peak` is S_p and `Light` that no
-- entered unended thread has a load above r (specs/Peak of crates/peaks); `stretch`, `covered`, `resting_peak` and `useful_limit` are in specs/Rests there.
use Rattle.std.specs.Prelude.{Ok}
use mathlib.Core.Path.{◌≡◌, refl, sym, ap, ◌∙◌}
use Prim.Native.Nat.{ℕ, suc, ◌+◌, ◌*◌, ◌-◌, ◌≤◌, ◌<◌}
use native.Mathlib.Omega.{arith}
use mathlib.Core.List.{List, [], ◌++◌, append-nil, Memᴰ}
use mathlib.Core.Bool.{Bool, true, false}
use lib.Dec.{leb, eqb}
use borrow.Author.Tests.{eqb-false, leb-true}
use Rattle.table.specs.Sum.{pick}
use Rattle.table.specs.Format.{Table, table_of}
use Rattle.table.specs.Rules.{Rules}
use Rattle.schedule.specs.declared.Run.{Run}
use Rattle.schedule.specs.declared.Reply.{Reply}
use Rattle.schedule.specs.declared.Begun.{Begun}
use Rattle.schedule.specs.Machine.{State}
use Rattle.schedule.specs.Begin.{begin, start_state}
use Rattle.schedule.specs.Calls.{Call, after_calls, row_of_calls}
use Rattle.schedule.specs.Memory.{replies, row_memory, peak_memory, Keeps, limit}
use Rattle.order.proofs.Lawful.{Lawful, lawful}
use Rattle.order.proofs.Lists.{Below}
use Rattle.schedule.proofs.Runs.Rows.{row_held, row_highest, front_workers}
use Rattle.schedule.proofs.Runs.Histories.{Started, Traced, calls_traced}
use Rattle.filling.specs.Filled.{filled_out}
use Rattle.filling.proofs.Delay.{drawn_cost, Delayed}
use Rattle.filling.proofs.FilledTable.{fill_rules}
use Rattle.filling.proofs.FilledTable.{Fits as Room}
use Rattle.schedule.proofs.Stores.{Fits}
use Rattle.schedule.proofs.Beginnings.{begun_exactly}
use Rattle.peaks.specs.Peak.{Light, workers_peak}
use Rattle.peaks.specs.Rests.{stretch, covered, resting_peak, parallel_peak, useful_limit}
use Rattle.peaks.proofs.LoadLaw.{row_light}
use Rattle.peaks.proofs.Unpreempted.{NoQuota}
use Rattle.peaks.proofs.RowPeaks.{row_peak, row_rests, row_quiet}
use Rattle.peaks.proofs.Useful.{useful_peak, useful_within}
use Rattle.peaks.proofs.Parallel.{enough_workers}
use Rattle.peaks.proofs.FilledPeak.{fill_workers}
use Rattle.bounds.proofs.FrontParts.{keeps_front, front_bound}
use Rattle.schedule.proofs.Runs.Rows.{peak_within_lem}

-- ---- rows of turns

-- the rule with b is asked for where b is at least 1: "b 0: nobody keeps any"
abbrev pub Ruled : ℕ → List ℕ → Type 0
Ruled b row = 1 ≤ b → Keeps b row

module _ (T : Table) (l : Lawful T) (p K : ℕ) (some : 1 ≤ p) (few : p ≤ 16) where
  row_peaks : (row : List ℕ) → Below p row → peak_memory T K row ≤ workers_peak T p
  row_peaks row h = peak_within_lem T K (workers_peak T p) row (λ front rest e. row_peak T l p K few front (front_workers (λ w. w < p) row front rest e h))

  module _ (delayed : Delayed T (drawn_cost T K)) (b : ℕ) where
    pub row_useful : (row : List ℕ) → Below p row → Ruled b row → row_memory T K row ≤ useful_limit T p K b
    unfolding useful_limit covered
    row_useful row h ruled = omega (arith, row_peak T l p K few row h, by_b (eqb b 0) refl, by_K (leb (stretch T K) K) refl)
      where
        by_b : (q : Bool) → eqb b 0 ≡ q → row_memory T K row ≤ pick q (workers_peak T p) (limit T p K b)
        by_b true e = row_peak T l p K few row h
        by_b false e =
            let g : 1 ≤ b = omega (arith, eqb-false b 0 e) in
            front_bound T l p K some few delayed row h b g (ruled g) row [] (sym (append-nil row))

        by_K : (q : Bool) → leb (stretch T K) K ≡ q → row_memory T K row ≤ pick q (resting_peak T p) (workers_peak T p)
        by_K true e = row_rests T l p K few (leb-true (stretch T K) K e) row h
        by_K false e = row_peak T l p K few row h

    row_usefuls : (row : List ℕ) → Below p row → Ruled b row → peak_memory T K row ≤ useful_limit T p K b
    row_usefuls row h ruled =
        peak_within_lem T K (useful_limit T p K b) row
        (λ front rest e. row_useful front (front_workers (λ w. w < p) row front rest e h) (λ g. keeps_front b row front rest e (ruled g)))

-- ---- lists of calls

-- of a record r and the row of turns that led to it
pub record PeakLimit (T : Table) (p K : ℕ) (r : Run) (row : List ℕ) : Type 0 where
  pub within : (r.held ≤ workers_peak T p) × (r.highest ≤ workers_peak T p)
  -- and so after every front part
  pub bounded : (front rest : List ℕ) → row ≡ front ++ rest → (row_memory T K front ≤ workers_peak T p) × (peak_memory T K front ≤ workers_peak T p)
  -- no entered unended thread has a load above p − 1
  pub light : Light T r.next r.status (p - 1)

pub record UsefulLimit (T : Table) (p K b : ℕ) (r : Run) (row : List ℕ) : Type 0 where
  -- for b at least 1 where the row keeps the rule with b, for b 0 always
  pub within : Ruled b row → (r.held ≤ useful_limit T p K b) × (r.highest ≤ useful_limit T p K b)
  -- and so after each front part that does
  pub bounded : (front rest : List ℕ) → row ≡ front ++ rest → Ruled b front → (row_memory T K front ≤ useful_limit T p K b) × (peak_memory T K front ≤ useful_limit T p K b)
  -- it is at most S_p, and for b at least 1 at most demand 3's limit
  pub lower : (useful_limit T p K b ≤ workers_peak T p) × (1 ≤ b → useful_limit T p K b ≤ limit T p K b)
  -- where K is at least what every stretch draws no turn replied quota
  pub quiet : stretch T K ≤ K → (q : Reply) → Memᴰ q (replies T K (start_state T) row) → NoQuota q

module _ (s : List ℕ) (p K : ℕ) (r : Run) (e : begin s p K ≡ record { answer = Ok tt; run = r }) (calls : List Call) where
  -- the table that runs (N6)
  abbrev T : Table
  T = table_of (filled_out s K)

  abbrev row : List ℕ
  row = row_of_calls calls r

  traced : Traced s p K r calls
  traced = calls_traced s p K r e calls

  below : Below p (row_of_calls calls r)
  below = traced.below row [] (sym (append-nil row))

  held : (after_calls calls r).held ≡ row_memory (table_of (filled_out s K)) K (row_of_calls calls r)
  held = ap (λ (x : State). x.held) traced.state ∙ row_held T traced.started.lawful p K traced.started.few_workers row below

  highest : (after_calls calls r).highest ≡ peak_memory (table_of (filled_out s K)) K (row_of_calls calls r)
  highest = ap (λ (x : State). x.highest) traced.state ∙ row_highest T traced.started.lawful p K traced.started.few_workers row below

  -- for every accepted table, p and K, and every list of calls from the record of the beginning
  pub peak_limit : PeakLimit (table_of (filled_out s K)) p K (after_calls calls r) (row_of_calls calls r)
  peak_limit =
      let i : Started s p K r = traced.started in
      let bounded : (front rest : List ℕ) → row ≡ front ++ rest → (row_memory T K front ≤ workers_peak T p) × (peak_memory T K front ≤ workers_peak T p) =
      λ front rest d. (
        row_peak T i.lawful p K i.few_workers front (traced.below front rest d),
        row_peaks T i.lawful p K i.some_worker i.few_workers front (traced.below front rest d),
      ) in
      let whole = bounded row [] (sym (append-nil row)) in
      record {
        within = (rw held whole.0, rw highest whole.1);
        bounded = bounded;
        light =
            rw (ap (λ (x : State). x.next) traced.state, ap (λ (x : State). x.status) traced.state) (row_light T i.lawful p K i.few_workers row below);
      }

  -- .. and every b
  pub useful_limit_lem : (b : ℕ) → UsefulLimit (table_of (filled_out s K)) p K b (after_calls calls r) (row_of_calls calls r)
  useful_limit_lem b =
      let i : Started s p K r = traced.started in
      let delayed : Delayed T (drawn_cost T K) = i.filling.delayed in
      let bounded : (front rest : List ℕ) → row ≡ front ++ rest → Ruled b front → (row_memory T K front ≤ useful_limit T p K b) × (peak_memory T K front ≤ useful_limit T p K b) =
      λ front rest d ruled. (
        row_useful T i.lawful p K i.some_worker i.few_workers delayed b front (traced.below front rest d) ruled,
        row_usefuls T i.lawful p K i.some_worker i.few_workers delayed b front (traced.below front rest d) ruled,
      ) in
      record {
        within = λ ruled. let whole = bounded row [] (sym (append-nil row)) ruled in (rw held whole.0, rw highest whole.1);
        bounded = bounded;
        lower = (useful_peak T p K b, useful_within T p K b);
        quiet = λ covers. row_quiet T i.lawful p K i.few_workers covers row below;
      }

-- ---- of the table as given

-- the table, p and K of an accepted beginning
module _ (s : List ℕ) (p K : ℕ) (e : (begin s p K).answer ≡ Ok tt) where
  begun : Rules s × (Fits p K × Room (table_of s) K)
  begun = (begun_exactly s p K).0 e

  -- the peak of q workers, for any q, of the filled-out table is that of the table as given
  pub given_workers : (q : ℕ) → workers_peak (table_of (filled_out s K)) q ≡ workers_peak (table_of s) q
  given_workers q = fill_workers s K begun.0 begun.1.0.some_quota begun.1.1 q

  -- and so is the parallel peak
  pub given_parallel : parallel_peak (table_of (filled_out s K)) ≡ parallel_peak (table_of s)
  given_parallel =
      let T : Table = table_of s in
      let U : Table = table_of (filled_out s K) in
      let q : ℕ = suc (U.actions * U.threads + T.actions * T.threads) in
      let f : Rules (filled_out s K) = fill_rules s K begun.0 begun.1.0.some_quota begun.1.1 in
      sym (enough_workers U (lawful (filled_out s K) f) q (omega arith)) ∙ given_workers q ∙ enough_workers T (lawful s begun.0) q (omega arith)

-- what every list of calls from the beginning holds, and ever held, is within the peak of p workers of the table as given
pub peak_given : (s : List ℕ) (p K : ℕ) (r : Run) → begin s p K ≡ record { answer = Ok tt; run = r } → (calls : List Call)
    → ((after_calls calls r).held ≤ workers_peak (table_of s) p) × ((after_calls calls r).highest ≤ workers_peak (table_of s) p)
peak_given s p K r e calls =
    let w = (peak_limit s p K r e calls).within in
    let g = given_workers s p K (ap (λ (x : Begun). x.answer) e) p in
    (omega (arith, w.0, g), omega (arith, w.1, g))
