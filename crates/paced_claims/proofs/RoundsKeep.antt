-- Paced rounds from the pace's beginning on, in calls one after the other, of any lengths, are one run in rounds: together they keep the rule with 1, whatever the pace's b.
use mathlib.Core.Path.{◌≡◌, refl, sym, ap, ap₂, subst, ◌∙◌}
use Prim.Native.Nat.{ℕ, zero, suc, ◌+◌, ◌%◌, ◌<◌, ◌≤◌}
use native.Mathlib.Omega.{arith}
use native.Mathlib.Nat.{mod-lt, zero-mod}
use mathlib.Core.List.{List, [], ◌∷◌, ◌++◌, map}
use mathlib.Core.Bool.{Bool, true, false}
use lib.ListN.{length, get_or}
use lib.Dec.{ltb}
use Rattle.table.specs.Sum.{pick}
use Rattle.order.specs.Firsts.{firsts}
use Rattle.schedule.specs.Memory.{Keeps}
use Rattle.bounds.proofs.Rounds.{rounds_keep}
use Rattle.run_memory.specs.Memory.{Memory, Answer}
use Rattle.run_memory.proofs.Turning.{in_turn}
use Rattle.pace.specs.Pace.{next_in, took, took_each, start_pace}
use Rattle.pace.specs.Since.{after_latest}
use Rattle.pace.specs.Stands.{StandsFor}
use Rattle.pace.proofs.Cells.{took_long, took_past_counters, took_after}
use Rattle.pace.proofs.Exact.{start_stands}
use Rattle.wivakkol_pace.specs.PacedRuns.{paced_worker, paced_rounds}
use Rattle.paced_claims.specs.PacedCalls.{by_rounds, paced_call, workers_of, taken_by, paced_row}
use Rattle.paced_claims.proofs.Steps.{Steps, stay, step, opened, call_steps}

-- ---- the pace after turns in rounds

-- the next of p workers in rounds after n turns is n modulo p
pub record Turning (p n : ℕ) (P : List ℕ) : Type 0 where
  pub long : length P ≡ 260
  pub workers : get_or P 257 0 ≡ p
  pub next : next_in P ≡ n % p

abbrev pub in_rounds : ℕ → List ℕ → ℕ
in_rounds = paced_worker [] true

pub this_worker : (i : ℕ) (P : List ℕ) → in_rounds i P ≡ next_in P
unfolding paced_worker
this_worker i P = refl

module _ (p : ℕ) (some : 0 < p) (few : p ≤ 16) where
  next_took : (P : List ℕ) (w : ℕ) → length P ≡ 260 → get_or P 257 0 ≡ p → w < 16 → next_in (took P w) ≡ pick (ltb (w + 1) p) (w + 1) 0
  unfolding next_in
  next_took P w long workers small =
      rw (took_after P long w small, took_past_counters P long w small 257 (omega arith) (λ z. omega arith) (λ z. omega arith), workers)

  pub goes_on : (n : ℕ) (P : List ℕ) → Turning p n P → Turning p (suc n) (took P (next_in P))
  goes_on n P h =
      let small : next_in P < 16 = rw h.next (omega (arith, mod-lt n some, few)) in
      let e : n + 1 ≡ suc n = omega arith in
      record {
        long = took_long P h.long (next_in P) small;
        workers = took_past_counters P h.long (next_in P) small 257 (omega arith) (λ z. omega arith) (λ z. omega arith) ∙ h.workers;
        next = next_took P (next_in P) h.long h.workers small ∙ in_turn p n some h.next ∙ ap (λ (m : ℕ). m % p) e;
      }

  -- k turns in rounds and then what comes after them
  rounds_then : (k i n m : ℕ) (P rest : List ℕ) → Turning p n P → rest ≡ firsts (λ j. j % p) (n + k) m → workers_of in_rounds i k P ++ rest ≡ firsts (λ j. j % p) n (k + m)
  unfolding workers_of firsts
  rounds_then zero i n m P rest h e =
      let a : n + 0 ≡ n = omega arith in
      let b : 0 + m ≡ m = omega arith in
      rw b (e ∙ ap (λ (t : ℕ). firsts (λ j. j % p) t m) a)
  rounds_then (suc k) i n m P rest h e =
      let a : n + suc k ≡ suc n + k = omega arith in
      let b : suc k + m ≡ suc (k + m) = omega arith in
      rw (b, this_worker i P) (
      ap₂ ◌∷◌ h.next (rounds_then k (suc i) (suc n) m (took P (next_in P)) rest (goes_on n P h) (e ∙ ap (λ (t : ℕ). firsts (λ j. j % p) t m) a))
      )

  pace_after : (k i n : ℕ) (P : List ℕ) → Turning p n P → Turning p (n + k) (took_each P (workers_of in_rounds i k P))
  unfolding workers_of took_each
  pace_after zero i n P h = let a : n + 0 ≡ n = omega arith in rw a h
  pace_after (suc k) i n P h =
      let a : n + suc k ≡ suc n + k = omega arith in
      rw (a, this_worker i P) (pace_after k (suc i) (suc n) (took P (next_in P)) (goes_on n P h))

-- ---- the calls

-- what turns one by one leave of a pace
pub steps_pace : {s : List ℕ} {M M' : Memory} {P P' row : List ℕ} → Steps s M P row M' P' → P' ≡ took_each P row
unfolding took_each
steps_pace stay = refl
steps_pace (step t h) = steps_pace h
steps_pace (opened h) = steps_pace h

module _ (s : List ℕ) (p : ℕ) (some : 0 < p) (few : p ≤ 16) where
  rounds_are : (limits : List ℕ) (n : ℕ) (M : Memory) (P : List ℕ) → Turning p n P → (k : ℕ) × (paced_row s (map by_rounds limits) M P ≡ firsts (λ j. j % p) n k)
  unfolding paced_row taken_by paced_call firsts
  rounds_are [] n M P h = (0, refl)
  rounds_are (limit ∷ limits) n M P h =
      let a : Answer = (paced_rounds s limit M P).answer in
      let t : ℕ = get_or a.row 2 0 in
      let after : (paced_rounds s limit M P).pace ≡ took_each P (workers_of in_rounds 0 t P) = steps_pace (call_steps s (by_rounds limit) M P) in
      let on : Turning p (n + t) (paced_rounds s limit M P).pace = subst (Turning p (n + t)) (sym after) (pace_after p some few t 0 n P h) in
      let r = rounds_are limits (n + t) a.memory (paced_rounds s limit M P).pace on in
      (t + r.0, rounds_then p some few t 0 n r.0 P (paced_row s (map by_rounds limits) a.memory (paced_rounds s limit M P).pace) h r.1)

-- worker 0 is next where no turn is counted
next_none : (P : List ℕ) → get_or P 259 0 ≡ 0 → next_in P ≡ 0
unfolding next_in
next_none P e = rw e (go (ltb 0 (get_or P 257 0)))
  where
    go : (q : Bool) → ◌≡◌ {A = ℕ} (pick q 0 0) 0
    go true = refl
    go false = refl

-- a pace that is begun
pub first_turning : (p b : ℕ) (l : List ℕ) → (start_pace p b l).number ≡ 0 → Turning p 0 (start_pace p b l).pace
unfolding after_latest
first_turning p b l e =
    let P : List ℕ = (start_pace p b l).pace in
    let h : StandsFor P p b [] = start_stands p b l e in
    record { long = h.long; workers = h.workers; next = next_none P h.after ∙ sym (zero-mod p) }

-- from a pace that is begun, on any run
pub paced_rounds_keep : (s : List ℕ) (p b : ℕ) (l : List ℕ) → (start_pace p b l).number ≡ 0 → (M : Memory) (limits : List ℕ) → Keeps 1 (paced_row s (map by_rounds limits) M (start_pace p b l).pace)
paced_rounds_keep s p b l e M limits =
    let P : List ℕ = (start_pace p b l).pace in
    let h : StandsFor P p b [] = start_stands p b l e in
    let r = rounds_are s p h.some_worker h.few_workers limits 0 M P (first_turning p b l e) in
    rw r.1 (rounds_keep p h.some_worker r.0)
