-- Paced rounds from the pace's beginning on, in calls one after the other, of any lengths and with any b, and no other turns, are never refused with 60: whose turn is next in rounds has had none
-- since each other's latest.
use mathlib.Core.Path.{◌≡◌, refl, sym, ap, subst, ◌∙◌}
use Prim.Native.Nat.{ℕ, zero, suc, ◌+◌, ◌-◌, ◌^◌, ◌%◌, ◌<◌}
use native.Mathlib.Omega.{arith}
use native.Mathlib.Nat.{mod-lt}
use mathlib.Core.List.{List, [], ◌∷◌, ◌++◌, map}
use mathlib.Core.Bool.{Bool, true, false}
use lib.ListN.{get_or}
use lib.Dec.{eqb, ltb}
use borrow.Author.Tests.{eqb-true, lt-ltb}
use Rattle.table.specs.Sum.{pick}
use Rattle.order.specs.Firsts.{firsts}
use Rattle.schedule.specs.Memory.{Keeps}
use Rattle.schedule.specs.declared.Reply.TheVariants.{Idle}
use Rattle.bounds.proofs.Rounds.{rounds_keep}
use Rattle.run_memory.specs.Memory.{Memory, moved_in, told, turn_in}
use Rattle.run_memory.specs.Runs.{stopped, over_in}
use Rattle.run_memory.proofs.Refusals.{turn_number}
use Rattle.pace.specs.Pace.{workers_in, may, may_number, next_in, took, took_each, start_pace}
use Rattle.pace.specs.Since.{Asks}
use Rattle.pace.specs.Stands.{StandsFor}
use Rattle.pace.proofs.Rows.{keeps_snoc}
use Rattle.pace.proofs.Exact.{may_exactly, may_stands, start_stands}
use Rattle.wivakkol_pace.specs.Paced.{hindrance_in, held_back, paced_told, paced_in}
use Rattle.wivakkol_pace.specs.PacedRuns.{paced_stop, paced_drive, paced_run, paced_rounds}
use Rattle.paced_claims.specs.PacedCalls.{by_rounds, paced_call, workers_of, taken_by, paced_after}
use Rattle.paced_claims.proofs.Steps.{Taken, taken, call_steps}
use Rattle.paced_claims.proofs.RoundsKeep.{Turning, in_rounds, this_worker, goes_on, first_turning, steps_pace}

-- ---- the next in rounds may go

-- where the row with a turn of worker w keeps the rule with 1, w may have it, whatever b
pub may_one : {P : List ℕ} {p b : ℕ} {row : List ℕ} → StandsFor P p b row → (w : ℕ) → w < 16 → Keeps 1 (row ++ w ∷ []) → may P w ≡ true
unfolding Asks
may_one {P} {p} {b} {row} h w i k =
    let one : Keeps 1 row × Asks 1 row w = (keeps_snoc 1 row w).0 k in
    let all : Keeps b row = (h.kept b).1 (omega (arith, (h.kept 1).0 one.0, h.some_bound)) in
    (may_exactly P p b row h all w i).1 ((keeps_snoc b row w).1 (all, λ x. omega (arith, one.1 x, h.some_bound)))

-- one more
firsts_more : (f : ℕ → ℕ) (t n : ℕ) → firsts f t n ++ (f (t + n) ∷ []) ≡ firsts f t (suc n)
unfolding firsts
firsts_more f t zero = let e : t + 0 ≡ t = omega arith in rw e refl
firsts_more f t (suc n) = let e : t + suc n ≡ suc t + n = omega arith in rw e (ap (f t ∷◌) (firsts_more f (suc t) n))

-- a pace that stands for n turns in rounds
pub record Rounded (p b n : ℕ) (P : List ℕ) : Type 0 where
  pub turning : Turning p n P
  pub stands : StandsFor P p b (firsts (λ j. j % p) 0 n)

module _ {p b : ℕ} where
  next_row : {n : ℕ} {P : List ℕ} → Rounded p b n P → firsts (λ j. j % p) 0 n ++ (next_in P ∷ []) ≡ firsts (λ j. j % p) 0 (suc n)
  next_row {n} {P} h =
      let e : 0 + n ≡ n = omega arith in
      ap (λ (w : ℕ). firsts (λ j. j % p) 0 n ++ (w ∷ [])) (h.turning.next ∙ ap (λ (m : ℕ). m % p) (sym e)) ∙ firsts_more (λ j. j % p) 0 n

  below_p : {n : ℕ} {P : List ℕ} → Rounded p b n P → next_in P < p
  below_p {n} h = rw h.turning.next (mod-lt n h.stands.some_worker)

  pub next_may : {n : ℕ} {P : List ℕ} → Rounded p b n P → may P (next_in P) ≡ true
  next_may {n} {P} h = may_one h.stands (next_in P) (omega (arith, below_p h, h.stands.few_workers)) (rw (next_row h) (rounds_keep p h.stands.some_worker (suc n)))

  -- nor does the pace hold it back
  pub next_number : {n : ℕ} {P : List ℕ} → Rounded p b n P → eqb (may_number P (next_in P)) 0 ≡ true
  unfolding may_number
  next_number {n} {P} h = rw (lt-ltb (next_in P) (workers_in P) (omega (arith, below_p h, h.stands.workers)), next_may h)

  pub rounded_on : {n : ℕ} {P : List ℕ} → Rounded p b n P → Rounded p b (suc n) (took P (next_in P))
  rounded_on {n} {P} h =
      record {
        turning = goes_on p h.stands.some_worker h.stands.few_workers n P h.turning;
        stands = subst (λ (row : List ℕ). StandsFor (took P (next_in P)) p b row) (next_row h) (may_stands P p b (firsts (λ j. j % p) 0 n) h.stands (next_in P) (below_p h) (next_may h));
      }

  rounded_after : (k i n : ℕ) (P : List ℕ) → Rounded p b n P → Rounded p b (n + k) (took_each P (workers_of in_rounds i k P))
  unfolding workers_of took_each
  rounded_after zero i n P h = let a : n + 0 ≡ n = omega arith in rw a h
  rounded_after (suc k) i n P h =
      let a : n + suc k ≡ suc n + k = omega arith in
      rw (a, this_worker i P) (rounded_after k (suc i) (suc n) (took P (next_in P)) (rounded_on h))

-- ---- a turn, a run and calls of runs

passes : (s : List ℕ) (w : ℕ) (M : Memory) (P : List ℕ) → may P w ≡ true → (paced_in s w M P).told.number ≡ 60 → ⊥
unfolding paced_in held_back may_number
passes s w M P m = rw m (go (eqb (hindrance_in M w) 0) (ltb w (workers_in P)))
  where
    go : (q b : Bool) → let n : ℕ = pick q (pick b 0 30) 0 in
        (pick (eqb n 0) (paced_told (turn_in s w M) (pick (eqb (turn_in s w M).number 0) (took P w) P)) (paced_told (told n Idle M) P)).told.number ≡ 60 → ⊥
    go true true e = omega (arith, e, turn_number s w M)
    go true false e = omega (arith, e)
    go false b e = omega (arith, e, turn_number s w M)

module _ (s : List ℕ) {p b : ℕ} where
  drive_passes : (k i n : ℕ) (M : Memory) (P : List ℕ) → Rounded p b n P → (paced_drive s in_rounds k i M P).stop.number ≡ 60 → ⊥
  unfolding paced_drive
  drive_passes zero i n M P h = λ e. omega (arith, e)
  drive_passes (suc k) i n M P h =
      rw (this_worker i P) (go (over_in M) (eqb (paced_in s (next_in P) M P).told.number 0) refl (drive_passes k (suc i) (suc n)))
    where
      go : (o q : Bool) → eqb (paced_in s (next_in P) M P).told.number 0 ≡ q
          → ((M : Memory) (P : List ℕ) → Rounded p b (suc n) P → (paced_drive s in_rounds k (suc i) M P).stop.number ≡ 60 → ⊥)
          → (pick o (paced_stop (stopped 0 true i M) P) (pick q (paced_drive s in_rounds k (suc i) (paced_in s (next_in P) M P).told.memory (paced_in s (next_in P) M P).pace)
          (paced_stop (stopped (paced_in s (next_in P) M P).told.number false i M) P))).stop.number ≡ 60 → ⊥
      go true q f rest e = omega (arith, e)
      go false false f rest e = passes s (next_in P) M P (next_may h) e
      go false true f rest e =
          let t : Taken s (next_in P) M P = taken s (next_in P) M P (eqb-true (paced_in s (next_in P) M P).told.number 0 f) in
          rest (paced_in s (next_in P) M P).told.memory (paced_in s (next_in P) M P).pace (subst (Rounded p b (suc n)) (sym t.pace) (rounded_on h)) e

  run_passes : (limit n : ℕ) (M : Memory) (P : List ℕ) → Rounded p b n P → (paced_rounds s limit M P).answer.number ≡ 60 → ⊥
  unfolding paced_rounds paced_run
  run_passes limit n M P h = go (eqb (moved_in M).turns (2 ^ 64 - 1)) (eqb (get_or M.settings 0 0) 0)
    where
      go : (q b : Bool) → (pick q (paced_stop (stopped 32 false 0 M) P) (pick b (paced_stop (stopped 30 false 0 M) P) (paced_drive s in_rounds limit 0 M P))).stop.number ≡ 60 → ⊥
      go true b e = omega (arith, e)
      go false true e = omega (arith, e)
      go false false e = drive_passes limit 0 n M P h e

  rounded_call : (limit n : ℕ) (M : Memory) (P : List ℕ) → Rounded p b n P → (m : ℕ) × Rounded p b m (paced_rounds s limit M P).pace
  unfolding paced_call taken_by
  rounded_call limit n M P h =
      let t : ℕ = get_or (paced_rounds s limit M P).answer.row 2 0 in
      let after : (paced_rounds s limit M P).pace ≡ took_each P (workers_of in_rounds 0 t P) = steps_pace (call_steps s (by_rounds limit) M P) in
      (n + t, subst (Rounded p b (n + t)) (sym after) (rounded_after t 0 n P h))

  calls_pass : (limits : List ℕ) (limit n : ℕ) (M : Memory) (P : List ℕ) → Rounded p b n P
      → (paced_rounds s limit (paced_after s (map by_rounds limits) M P).memory (paced_after s (map by_rounds limits) M P).pace).answer.number ≡ 60 → ⊥
  unfolding paced_after paced_call
  calls_pass [] limit n M P h = run_passes limit n M P h
  calls_pass (x ∷ limits) limit n M P h =
      let r = rounded_call x n M P h in
      calls_pass limits limit r.0 (paced_rounds s x M P).answer.memory (paced_rounds s x M P).pace r.1

-- a pace that is begun
pub first_rounded : (p b : ℕ) (l : List ℕ) → (start_pace p b l).number ≡ 0 → Rounded p b 0 (start_pace p b l).pace
unfolding firsts
first_rounded p b l e = record { turning = first_turning p b l e; stands = start_stands p b l e }

-- from a pace that is begun, on any run: no call of rounds after calls of rounds is refused with 60
pub paced_rounds_pass : (s : List ℕ) (p b : ℕ) (l : List ℕ) → (start_pace p b l).number ≡ 0 → (M : Memory) (limits : List ℕ) (limit : ℕ)
    → (paced_rounds s limit (paced_after s (map by_rounds limits) M (start_pace p b l).pace).memory (paced_after s (map by_rounds limits) M (start_pace p b l).pace).pace).answer.number ≡ 60 → ⊥
paced_rounds_pass s p b l e M limits limit = calls_pass s limits limit 0 M (start_pace p b l).pace (first_rounded p b l e)
