-- Paced rounds by value from the pace's beginning on, in calls one after the other and no other turns, are never refused with 60, as from C (RoundsPass).
use Rattle.std.specs.Prelude.{Ok}
use mathlib.Core.Path.{◌≡◌, sym, subst}
use Prim.Native.Nat.{ℕ, zero, suc, ◌-◌, ◌^◌}
use native.Mathlib.Omega.{arith}
use mathlib.Core.List.{List, [], ◌∷◌, map}
use mathlib.Core.Bool.{Bool, true, false}
use lib.ListN.{replicate}
use lib.Dec.{eqb}
use Rattle.table.specs.Sum.{pick}
use Rattle.table.specs.Pass.{refusal}
use Rattle.table.proofs.Tests.{no_way}
use Rattle.schedule.specs.declared.Run.{Run}
use Rattle.schedule.specs.declared.Report.{Report}
use Rattle.schedule.specs.declared.Report.TheVariants.{Finished, Spent, Refused}
use Rattle.schedule.specs.Turn.{unsound, root_ended, no_worker}
use Rattle.schedule.specs.Runs.{moved}
use Rattle.schedule.specs.Answers.{report_values}
use Rattle.schedule.specs.Calls.{in_rounds}
use Rattle.pace.specs.Pace.{may_number, next_in}
use Rattle.pacing.specs.declared.Pace.{Pace}
use Rattle.pacing.specs.declared.PacedRan.{PacedRan}
use Rattle.pacing.specs.Pacing.{counted, begin_pace, paced_ran, paced_drive, paced_rounds_run}
use Rattle.pacing.specs.PacedValues.{Beside}
use Rattle.pacing.proofs.PacedCalls.{begun_started}
use Rattle.paced_claims.specs.PacedMoves.{paced_move, paced_moves}
use Rattle.paced_claims.proofs.RoundsPass.{Rounded, next_number, rounded_on, first_rounded}

-- a run that is not refused with 60, and leaves a pace that stands for turns in rounds
record Passes (p b : ℕ) (d : PacedRan) : Type 0 where
  not_held : (report_values d.report).number ≡ 60 → ⊥
  count : ℕ
  rounded : Rounded p b count d.pace.numbers

module _ {p b : ℕ} where
  stays : (n : ℕ) (r : Run) (P : Pace) (x : Report) → Rounded p b n P.numbers → ((report_values x).number ≡ 60 → ⊥) → Passes p b (paced_ran x r P)
  stays n r P x h d = record { not_held = d; count = n; rounded = h }

  drive_passes : (k i n : ℕ) (r : Run) (P : Pace) → Rounded p b n P.numbers → Passes p b (paced_drive (λ j l. next_in l) k i r P)
  unfolding paced_drive
  drive_passes zero i n r P h = stays n r P (pick (root_ended r) (Finished i) (Spent i)) h (go (root_ended r))
    where
      go : (q : Bool) → (report_values (pick q (Finished i) (Spent i))).number ≡ 60 → ⊥
      go true e = omega (arith, e)
      go false e = omega (arith, e)
  drive_passes (suc k) i n r P h =
      go (root_ended r) (eqb r.turns (2 ^ 64 - 1)) (no_worker r w) (eqb (may_number P.numbers w) 0) (next_number h) (drive_passes k (suc i) (suc n) (moved r w) (counted P w) (rounded_on h))
    where
      w : ℕ
      w = next_in P.numbers

      go : (o f g m : Bool) → m ≡ true → Passes p b (paced_drive (λ j l. next_in l) k (suc i) (moved r w) (counted P w))
          → Passes p b (pick o (paced_ran (Finished i) r P) (pick f (paced_ran (Refused i (refusal 32 0)) r P) (pick g (paced_ran (Refused i (refusal 30 0)) r P)
          (pick m (paced_drive (λ j l. next_in l) k (suc i) (moved r w) (counted P w)) (paced_ran (Refused i (refusal (may_number P.numbers w) 0)) r P)))))
      go true f g m e rest = stays n r P (Finished i) h (λ z. omega (arith, z))
      go false true g m e rest = stays n r P (Refused i (refusal 32 0)) h (λ z. omega (arith, z))
      go false false true m e rest = stays n r P (Refused i (refusal 30 0)) h (λ z. omega (arith, z))
      go false false false true e rest = rest
      go false false false false e rest = no_way (cc)

  run_passes : (limit n : ℕ) (r : Run) (P : Pace) → Rounded p b n P.numbers → Passes p b (paced_rounds_run r P limit)
  unfolding paced_rounds_run
  run_passes limit n r P h = go (unsound r) (eqb r.workers 0)
    where
      go : (q c : Bool) → Passes p b (pick q (paced_ran (Refused 0 (refusal 32 0)) r P) (pick c (paced_ran (Refused 0 (refusal 30 0)) r P) (paced_drive (λ j l. next_in l) limit 0 r P)))
      go true c = stays n r P (Refused 0 (refusal 32 0)) h (λ z. omega (arith, z))
      go false true = stays n r P (Refused 0 (refusal 30 0)) h (λ z. omega (arith, z))
      go false false = drive_passes limit 0 n r P h

  calls_pass : (limits : List ℕ) (limit n : ℕ) (r : Run) (P : Pace) → Rounded p b n P.numbers
      → let z : Beside = paced_moves (map in_rounds limits) r P in Passes p b (paced_rounds_run z.run z.pace limit)
  unfolding paced_moves paced_move
  calls_pass [] limit n r P h = run_passes limit n r P h
  calls_pass (x ∷ limits) limit n r P h =
      let d : PacedRan = paced_rounds_run r P x in
      let v = run_passes x n r P h in
      calls_pass limits limit v.count d.run d.pace v.rounded

-- from a pace that is begun, on any record: no call of rounds after calls of rounds is refused with 60
pub moves_rounds_pass : (p b : ℕ) → (begin_pace p b).answer ≡ Ok tt → (r : Run) (limits : List ℕ) (limit : ℕ)
    → let z : Beside = paced_moves (map in_rounds limits) r (begin_pace p b).pace in (report_values (paced_rounds_run z.run z.pace limit).report).number ≡ 60 → ⊥
moves_rounds_pass p b e r limits limit =
    let k = begun_started p b e in
    (calls_pass limits limit 0 r (begin_pace p b).pace (subst (Rounded p b 0) (sym k.1) (first_rounded p b (replicate 260 0) k.0))).not_held
