-- What a quota that is given is good for, by N1 (`maxquota`) and by the useful limit (`fitquota`): a run with it is accepted, and after every row of its turns that keeps the rule with b no more
-- than M is held; where b is 0 a quota that fits asks nothing of the turns.
use Rattle.std.specs.Prelude.{Err, Ok, Result}
use Rattle.table.specs.declared.Refusal.{Refusal}
use mathlib.Core.Path.{◌≡◌, refl, sym, ap, ap₂, subst, ◌∙◌}
use Prim.Native.Nat.{ℕ, ◌≤◌}
use native.Mathlib.Omega.{arith}
use mathlib.Core.List.{List, [], ◌∷◌, ◌++◌, append-nil}
use borrow.Author.Tests.{le-ltb}
use lib.ListN.{length, get_or}
use contract.Lifetimes.{Lfts}
use denote.Ref.{Bor}
use denote.MutBor.{MutBor}
use denote.Triple.Clauses.{AtExit}
use borrow.Fn.Kinds.{ended_of}
use Rattle.table.specs.Format.{Table, table_of}
use Rattle.schedule.specs.declared.Run.{Run}
use Rattle.schedule.specs.declared.Begun.{Begun}
use Rattle.filling.specs.Filled.{filled_out}
use Rattle.schedule.specs.Begin.{begin, start_run}
use Rattle.schedule.specs.Calls.{Call, after_calls, row_of_calls, Answer}
use Rattle.schedule.specs.Memory.{row_memory, peak_memory, Keeps}
use Rattle.bounds.proofs.Limit.{MemoryLimit, memory_limit}
use Rattle.bounds.proofs.PeakLimit.{Ruled, UsefulLimit, useful_limit_lem}
use Rattle.quota.specs.Quota.{quoted, QuotaValues, values_of, values_for}
use Rattle.quota.proofs.Answers.{given_exactly}
use Rattle.quota.proofs.Checks.{values_are}
use Rattle.useful_limit.specs.declared.Fitted.{Fitted}
use Rattle.useful_limit.specs.declared.Fitted.TheVariants.{Fits, Short}
use Rattle.useful_limit.specs.Fit.{fitted}
use Rattle.useful_limit.proofs.Serves.{Begins, range_begins, fit_serves}
use Rattle.run_memory.specs.Memory.{Memory}
use Rattle.run_memory.specs.Memory.{Answer as Left}
use Rattle.run_memory.specs.Stands.{run_in}
use Rattle.soundness.specs.Tested.{begin_filling}
use Rattle.wivakkol.specs.Lent.{lent_begin}
use Rattle.wivakkol.specs.Rows.{fit_row}
use Rattle.wivakkol.proofs.Rooms.{no_bytes}
use Rattle.claims.specs.LentCalls.{LentCall, table_that_runs, Returned, moves_of}
use Rattle.claims.proofs.ByValue.{History, history_is}
use Rattle.claims.proofs.ByValue as by_value
use Rattle.claims.proofs.LentSays as from_c
use Rattle.claims.proofs.FromC.{LentHistory, CodeRefines, runs_so, begun_code_refines}
use Rattle.quota.proofs.largest_quota.Kinds as quota_kinds
use Rattle.quota.proofs.largest_quota.Reads as quota_promise
use Rattle.useful_limit.proofs.fit_in.Kinds as fit_kinds
use Rattle.useful_limit.proofs.fit_in.Reads as fit_promise

-- ---- a board with M

-- of a record r and the row of turns that led to it: after every front part that keeps the rule, memory held and its greatest so far are at most M, and so are the record's own if
-- the whole row keeps it
pub record WithinBoard (Rule : List ℕ → Type 0) (T : Table) (K M : ℕ) (r : Run) (row : List ℕ) : Type 0 where
  pub fronts : (front rest : List ℕ) → row ≡ front ++ rest → Rule front → (row_memory T K front ≤ M) × (peak_memory T K front ≤ M)
  pub recorded : Rule row → (r.held ≤ M) × (r.highest ≤ M)

-- By value: a beginning accepts, and after every history of calls from its record the board is kept.
pub record Served (Rule : List ℕ → Type 0) (s : List ℕ) (K M : ℕ) (x : Begun) : Type 0 where
  pub accepted : x.answer ≡ Ok tt
  pub within : {calls : List Call} {answers : List Answer} {row : List ℕ} {r : Run} → History x.run calls answers row r → WithinBoard Rule (table_of s) K M r row

-- From C: the same of a beginning in lent memory, with any buffer, an empty one too, and of the record that stands in the memory left; the table as given runs.
pub record LentServed (Rule : List ℕ → Type 0) (s : List ℕ) (K M : ℕ) (a : Left) (filled : List ℕ) : Type 0 where
  pub accepted : a.number ≡ 0
  pub in_place : table_that_runs s a filled ≡ s
  pub within : {l : List LentCall} {answers : List Returned} {row : List ℕ} {N : Memory} → LentHistory s a.memory l answers row N → WithinBoard Rule (table_of s) K M (run_in s N) row

-- with a quota in the range a beginning on lent memory is accepted, whatever the room
filling_begins : (s : List ℕ) (p K : ℕ) → Begins s p K → (begin_filling s p K).found ≡ Ok tt
unfolding begin_filling
filling_begins s p K g = g.found

pub lent_begins : (s : List ℕ) (p K : ℕ) → Begins s p K → (room : ℕ) → (lent_begin s p K room).number ≡ 0
unfolding lent_begin
lent_begins s p K g room = rw (filling_begins s p K g, no_bytes s p K g.small, le-ltb room 0 (omega arith))

-- the board is kept over the definitions' lists of calls, so it is over histories
module _ (s : List ℕ) (p K M : ℕ) (g : Begins s p K) (Rule : List ℕ → Type 0)
    (kept : (calls : List Call) → WithinBoard Rule (table_of s) K M (after_calls calls (start_run s p K)) (row_of_calls calls (start_run s p K))) where
  same : (calls : List Call) {r q : Run} {row : List ℕ} → q ≡ start_run s p K → r ≡ after_calls calls q → row ≡ row_of_calls calls q → WithinBoard Rule (table_of s) K M r row
  same calls {r} {q} {row} f d e =
      subst (λ (x : Run). WithinBoard Rule (table_of s) K M x row) (sym (d ∙ ap (after_calls calls) f))
      (subst (λ (x : List ℕ). WithinBoard Rule (table_of s) K M (after_calls calls (start_run s p K)) x) (sym (e ∙ ap (row_of_calls calls) f)) (kept calls))

  served : {x : Begun} → by_value.BeginSays s p K x → Served Rule s K M x
  served {x} h =
      let a : x ≡ record { answer = Ok tt; run = start_run s p K } = by_value.begin_is h ∙ g.begun in
      record {
        accepted = ap (λ (z : Begun). z.answer) a;
        within = λ {calls} {answers} {row} {r} t. let d = history_is t in same calls (ap (λ (z : Begun). z.run) a) d.record_is d.row_is;
      }

  lent_served : {out filled : List ℕ} {a : Left} → from_c.BeginSays s p K out a filled → LentServed Rule s K M a filled
  lent_served {out} {filled} {a} h =
      let n : a.number ≡ 0 = ap (λ (z : Left). z.number) (from_c.begin_is h) ∙ lent_begins s p K g (length out) in
      let i : table_that_runs s a filled ≡ s = runs_so h n ∙ g.in_place in
      record {
        accepted = n;
        in_place = i;
        within = λ {l} {answers} {row} {N} t.
            let c = subst (λ (u : List ℕ). CodeRefines u (begin s p K).run l answers row N) i
            (begun_code_refines h n (subst (λ (u : List ℕ). LentHistory u a.memory l answers row N) (sym i) t)) in
            same (moves_of l) (ap (λ (z : Begun). z.run) g.begun) c.record_after c.row_is;
      }

-- ---- the largest quota (N1)

-- N1 looks at K from the largest alloc up: nothing is above such a K, and the table as given runs
pub quota_begins : (s : List ℕ) (p b M K : ℕ) → quoted s p b M ≡ Ok K → Begins s p K
quota_begins s p b M K e =
    let g = (given_exactly s p b M K).0 e in
    range_begins s p K g.0.rules g.0.some_worker g.0.few_workers g.1.in_range

-- for every quota that is given and every list of calls from the record of the beginning with it
pub quota_serves : (s : List ℕ) (p b M K : ℕ) → quoted s p b M ≡ Ok K
    → (begin s p K ≡ record { answer = Ok tt; run = start_run s p K })
    × ((calls : List Call) → WithinBoard (Keeps b) (table_of s) K M (after_calls calls (start_run s p K)) (row_of_calls calls (start_run s p K)))
quota_serves s p b M K e =
    let g = (given_exactly s p b M K).0 e in
    let i = quota_begins s p b M K e in (
      i.begun,
      λ calls.
          let l : MemoryLimit (table_of s) p K b (after_calls calls (start_run s p K)) (row_of_calls calls (start_run s p K)) = rw i.in_place at (memory_limit s p K (start_run s p K) i.begun b g.0.some_gap calls) in
          let fronts : (front rest : List ℕ) → row_of_calls calls (start_run s p K) ≡ front ++ rest → Keeps b front → (row_memory (table_of s) K front ≤ M) × (peak_memory (table_of s) K front ≤ M) =
          λ front rest d k. let w = l.bounded front rest d k in (omega (arith, w.0, g.1.serves), omega (arith, w.1, g.1.serves)) in
          record {
            fronts = fronts;
            recorded = λ k. let w = fronts (row_of_calls calls (start_run s p K)) [] (sym (append-nil _)) k in (rw l.held w.0, rw l.highest w.1);
          },
    )

-- `quota::largest_quota(bytes, p, b, M)` answered q
pub record QuotaSays (s : List ℕ) (p b M : ℕ) (q : Result ℕ Refusal) : Type 0 where
  pub lifetimes : Lfts 1
  pub bytes : Bor (List ℕ)
  pub lent : bytes.now ≡ s
  pub exit : AtExit (ended_of 1 quota_kinds.ps quota_kinds.r) lifetimes
  pub promised : quota_promise.Learnt lifetimes (bytes, (p, (b, (M, tt)))) q exit

pub quota_is : {s : List ℕ} {p b M : ℕ} {q : Result ℕ Refusal} → QuotaSays s p b M q → q ≡ quoted s p b M
quota_is {s} {p} {b} {M} h = h.promised.0 ∙ ap (λ (l : List ℕ). quoted l p b M) h.lent

-- `wivakkol_quota` puts the quota of `values_for` into its row, 0 where none is given
pub row_given : (s : List ℕ) (p b M K : ℕ) → (values_for s p b M).quota ≡ K → 1 ≤ K → quoted s p b M ≡ Ok K
row_given s p b M K e h = go (quoted s p b M) (values_are s p b M {x = quoted s p b M} refl).1
  where
    go : (q : Result ℕ Refusal) → values_of q ≡ values_for s p b M → q ≡ Ok K
    go (Ok L) d = ap Ok (ap (λ (v : QuotaValues). v.quota) d ∙ e)
    go (Err r) d = absurd (omega (arith, h, e, ap (λ (v : QuotaValues). v.quota) d))

pub code_quota_serves : {s : List ℕ} {p : ℕ} (b : ℕ) {M K : ℕ} → quoted s p b M ≡ Ok K → {x : Begun} → by_value.BeginSays s p K x → Served (Keeps b) s K M x
code_quota_serves {s} {p} b {M} {K} e h = served s p K M (quota_begins s p b M K e) (Keeps b) (quota_serves s p b M K e).1 h

pub lent_code_quota_serves : {s : List ℕ} {p : ℕ} (b : ℕ) {M K : ℕ} → quoted s p b M ≡ Ok K → {out filled : List ℕ} {a : Left} → from_c.BeginSays s p K out a filled → LentServed (Keeps b) s K M a filled
lent_code_quota_serves {s} {p} b {M} {K} e h = lent_served s p K M (quota_begins s p b M K e) (Keeps b) (quota_serves s p b M K e).1 h

-- ---- the quota that fits: of b at least 1 rows that keep the rule with b are asked for, of b 0 nothing

pub fit_within : (s : List ℕ) (p b M K X : ℕ) → fitted s p b M ≡ Ok (Fits K X)
    → (calls : List Call) → WithinBoard (Ruled b) (table_of s) K M (after_calls calls (start_run s p K)) (row_of_calls calls (start_run s p K))
fit_within s p b M K X e calls =
    let (i, most) = fit_serves s p b M K X e in
    let l : UsefulLimit (table_of (filled_out s K)) p K b (after_calls calls (start_run s p K)) (row_of_calls calls (start_run s p K)) = useful_limit_lem s p K (start_run s p K) i.begun calls b in
    subst (λ (u : List ℕ). WithinBoard (Ruled b) (table_of u) K M (after_calls calls (start_run s p K)) (row_of_calls calls (start_run s p K))) i.in_place
    (record {
      fronts = λ front rest d k. let w = l.bounded front rest d k in (omega (arith, w.0, most), omega (arith, w.1, most));
      recorded = λ k. let w = l.within k in (omega (arith, w.0, most), omega (arith, w.1, most));
    })

-- `useful_limit::fit_in(table, p, b, M, ..)` answered x, lent working memory that held anything
pub record FitSays (s : List ℕ) (p b M : ℕ) (x : Result Fitted Refusal) : Type 0 where
  pub lifetimes : Lfts 7
  pub table : Bor (List ℕ)
  pub rises : MutBor (List ℕ)
  pub falls : MutBor (List ℕ)
  pub serials : MutBor (List ℕ)
  pub depths : MutBor (List ℕ)
  pub peaks : MutBor (List ℕ)
  pub rows : MutBor (List ℕ)
  pub lent : table.now ≡ s
  pub exit : AtExit (ended_of 7 fit_kinds.ps fit_kinds.r) lifetimes
  pub promised : fit_promise.Learnt lifetimes (table, (p, (b, (M, (rises, (falls, (serials, (depths, (peaks, (rows, tt)))))))))) x exit

pub fit_is : {s : List ℕ} {p b M : ℕ} {x : Result Fitted Refusal} → FitSays s p b M x → x ≡ fitted s p b M
fit_is {s} {p} {b} {M} h = h.promised.0 ∙ ap (λ (l : List ℕ). fitted l p b M) h.lent

-- `wivakkol_fit` puts 1 into its row where a quota fits, and after it the quota and the memory that it needs
pub row_fits : (s : List ℕ) (p b M K X : ℕ) → fit_row (fitted s p b M) ≡ 0 ∷ 1 ∷ K ∷ X ∷ [] → fitted s p b M ≡ Ok (Fits K X)
row_fits s p b M K X e = go (fitted s p b M) e
  where
    go : (q : Result Fitted Refusal) → fit_row q ≡ 0 ∷ 1 ∷ K ∷ X ∷ [] → q ≡ Ok (Fits K X)
    go (Ok (Fits L Y)) d = ap Ok (ap₂ Fits (ap (λ (l : List ℕ). get_or l 2 0) d) (ap (λ (l : List ℕ). get_or l 3 0) d))
    go (Ok (Short L Y)) d = absurd (let z : ◌≡◌ {A = ℕ} 0 1 = ap (λ (l : List ℕ). get_or l 1 0) d in omega (arith, z))
    go (Err r) d = absurd (let z : ◌≡◌ {A = ℕ} 0 1 = ap (λ (l : List ℕ). get_or l 1 0) d in omega (arith, z))

pub code_fit_serves : {s : List ℕ} {p : ℕ} (b : ℕ) {M K X : ℕ} → fitted s p b M ≡ Ok (Fits K X) → {x : Begun} → by_value.BeginSays s p K x → Served (Ruled b) s K M x
code_fit_serves {s} {p} b {M} {K} {X} e h = served s p K M (fit_serves s p b M K X e).0 (Ruled b) (fit_within s p b M K X e) h

pub lent_code_fit_serves : {s : List ℕ} {p : ℕ} (b : ℕ) {M K X : ℕ} → fitted s p b M ≡ Ok (Fits K X) → {out filled : List ℕ} {a : Left} → from_c.BeginSays s p K out a filled → LentServed (Ruled b) s K M a filled
lent_code_fit_serves {s} {p} b {M} {K} {X} e h = lent_served s p K M (fit_serves s p b M K X e).0 (Ruled b) (fit_within s p b M K X e) h
