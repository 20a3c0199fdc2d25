-- Turns that a pace lets through, one by one, keep the rule; and so what the limits of a row say of them holds with no hypothesis on the row.
use mathlib.Core.Path.{◌≡◌, sym, subst}
use mathlib.Core.Logic.{◌↔◌}
use Prim.Native.Nat.{ℕ, ◌<◌, ◌≤◌}
use native.Mathlib.Omega.{arith}
use mathlib.Core.List.{List, [], ◌∷◌, ◌++◌, append_assoc, append-nil}
use mathlib.Core.Bool.{true}
use lib.ListN.{length}
use Rattle.table.specs.Format.{Table}
use Rattle.schedule.specs.declared.Run.{Run}
use Rattle.schedule.specs.Record.{list_in}
use Rattle.schedule.specs.Threads.{thread_limit}
use Rattle.schedule.specs.Memory.{row_memory, peak_memory, Keeps, limit}
use Rattle.bounds.proofs.Limit.{MemoryLimit}
use Rattle.bounds.proofs.ThreadLimit.{ThreadLimit}
use Rattle.pace.specs.Pace.{may, took}
use Rattle.pace.specs.Stands.{StandsFor}
use Rattle.pace.proofs.Exact.{may_exactly, may_stands, somebody_may}

-- a row of turns of workers below p, each of which the pace lets through
pub data Lets (p : ℕ) : List ℕ → List ℕ → List ℕ → Type 0 where
  stay : {P : List ℕ} → Lets p P [] P
  step : {P : List ℕ} {w : ℕ} {row P' : List ℕ} → w < p → may P w ≡ true → Lets p (took P w) row P' → Lets p P (w ∷ row) P'

pub then : {p : ℕ} {P P' P'' row rest : List ℕ} → Lets p P row P' → Lets p P' rest P'' → Lets p P (row ++ rest) P''
then stay k = k
then (step i m h) k = step i m (then h k)

pub record Paces (p b : ℕ) (row : List ℕ) (P : List ℕ) : Type 0 where
  pub keeps : Keeps b row
  pub stands : StandsFor P p b row

pub lets_keep : {p b : ℕ} {P P' more : List ℕ} → Lets p P more P' → (row : List ℕ) → Paces p b row P → Paces p b (row ++ more) P'
lets_keep stay row h = rw (append-nil row) h
lets_keep {p} {b} {P' = P'} (step {P} {w} {row = more} i m k) row h =
    let next : Paces p b (row ++ w ∷ []) (took P w) =
    record {
      keeps = (may_exactly P p b row h.stands h.keeps w (omega (arith, i, h.stands.few_workers))).0 m;
      stands = may_stands P p b row h.stands w i m;
    } in
    subst (λ (l : List ℕ). Paces p b l P') (append_assoc row (w ∷ []) more) (lets_keep k (row ++ w ∷ []) next)

-- what a list of paced calls leaves of a run of the table T and of its pace
pub record PacedWithin (T : Table) (p K b : ℕ) (row : List ℕ) (r : Run) (P : List ℕ) : Type 0 where
  -- the turns taken keep the rule with b, and the pace stands for them
  pub keeps : Keeps b row
  pub stands : StandsFor P p b row
  -- demand 3 of the record and the row
  pub memory : MemoryLimit T p K b r row
  -- and with no hypothesis on the row: memory held now, and the highest ever
  pub held : r.held ≤ limit T p K b
  pub highest : r.highest ≤ limit T p K b
  -- N2's limit on the threads in the list too
  pub threads : ThreadLimit T p K b r row
  pub listed : length (list_in r) ≤ thread_limit T p b
  -- a worker may have the next turn exactly where the row with it keeps the rule, and some worker may
  pub exact : (w : ℕ) → w < p → (may P w ≡ true) ↔ Keeps b (row ++ w ∷ [])
  pub somebody : (w : ℕ) × ((w < p) × (may P w ≡ true))

pub within_so : {T : Table} {p K b : ℕ} {row : List ℕ} {r : Run} {P : List ℕ} → Paces p b row P → MemoryLimit T p K b r row → ThreadLimit T p K b r row → PacedWithin T p K b row r P
within_so {T} {p} {K} {b} {row} {r} {P} c m t =
    let within : (row_memory T K row ≤ limit T p K b) × (peak_memory T K row ≤ limit T p K b) = m.bounded row [] (sym (append-nil row)) c.keeps in
    record {
      keeps = c.keeps;
      stands = c.stands;
      memory = m;
      held = rw m.held within.0;
      highest = rw m.highest within.1;
      threads = t;
      listed = rw t.listed (t.bounded row [] (sym (append-nil row)) c.keeps);
      exact = λ w i. may_exactly P p b row c.stands c.keeps w (omega (arith, i, c.stands.few_workers));
      somebody = somebody_may P p b row c.stands;
    }
