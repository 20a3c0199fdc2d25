-- What a limit that is given is good for (most-serves): the beginning is accepted, and a run in rounds from it with this limit replies finished. Refused it is exactly as a beginning
-- is (refused-as-begun).
use Rattle.std.specs.Prelude.{Err, Ok, Result, ⊤}
use mathlib.Core.Path.{◌≡◌, refl, sym, ap, subst, ◌∙◌}
use Prim.Native.Nat.{ℕ, ◌*◌, ◌≤◌}
use native.Mathlib.Nat.{mul-le-mul}
use native.Mathlib.Omega.{arith}
use mathlib.Core.List.{List}
use Rattle.table.specs.Format.{table_of}
use Rattle.table.specs.declared.Refusal.{Refusal}
use Rattle.table.proofs.Tests.{no_way}
use Rattle.order.specs.Turns.{turns_of}
use Rattle.filling.specs.Filled.{filled_out}
use Rattle.schedule.specs.declared.Run.{Run}
use Rattle.schedule.specs.declared.Report.TheVariants.{Finished}
use Rattle.schedule.specs.Record.{table_in}
use Rattle.schedule.specs.Begin.{begin, start_run}
use Rattle.schedule.specs.Sound.{Sound}
use Rattle.schedule.specs.Runs.{rounds_run}
use Rattle.schedule.proofs.Stores.{steady_lawful, steady_fits}
use Rattle.schedule.proofs.Runs.Histories.{begin_sound, start_state_lem}
use Rattle.bounds.proofs.Most.{rounds_finish}
use Rattle.most.specs.Most.{limit_of, most_as, most_found, most_of}
use Rattle.most.proofs.TurnCounts.{turns_few}

pub record Serves (s : List ℕ) (p K L : ℕ) : Type 0 where
  -- a beginning with these is accepted
  pub begun : begin s p K ≡ record { answer = Ok tt; run = start_run (filled_out s K) p K }
  -- "L = p × (m + A + J)" of "the table as run"
  pub is_limit : L ≡ p * turns_of (table_of (filled_out s K))
  -- 18 bits: what `runrounds` reads as its limit has 32
  pub few : L ≤ 262144
  -- "turns in rounds always reply finished"
  pub finishes : (k : ℕ) × ((rounds_run (start_run (filled_out s K) p K) L).report ≡ Finished k)

turns_are : (f : Result ⊤ Refusal) (x L : ℕ) → most_as f x ≡ Ok L → (f ≡ Ok tt) × (L ≡ x)
turns_are (Ok _) x L e = (refl, cc)
turns_are (Err r) x L e = no_way (cc)

refused_are : (f : Result ⊤ Refusal) (x : ℕ) (r : Refusal) → most_as f x ≡ Err r → f ≡ Err r
refused_are (Ok _) x r e = no_way (cc)
refused_are (Err q) x r e = cc

module _ (s : List ℕ) (p K : ℕ) (r : Run) (e : begin s p K ≡ record { answer = Ok tt; run = r }) where
  begun_few : p * turns_of (table_of (filled_out s K)) ≤ 262144
  begun_few =
      let h : Sound r = begin_sound s p K r e in
      let (t, w, q, st) = start_state_lem s p K r e in
      let same : r.workers * turns_of (table_in r) ≡ p * turns_of (table_of (filled_out s K)) = rw (t, w) in
      let x : turns_of (table_in r) ≤ 16384 = omega (arith, turns_few (table_in r), (steady_lawful r h.steady).few_actions) in
      omega (arith, same, mul-le-mul (steady_fits r h.steady).few_workers x)

pub most_serves : (s : List ℕ) (p K L : ℕ) → most_of s p K ≡ Ok L → Serves s p K L
unfolding most_of limit_of begin
most_serves s p K L e =
    let (silent, is) = turns_are (most_found s p K) (limit_of s p K) L e in
    let r : Run = start_run (filled_out s K) p K in
    let b : begin s p K ≡ record { answer = Ok tt; run = r } = rw silent in
    record {
      begun = b;
      is_limit = is;
      few = omega (arith, is, begun_few s p K r b);
      finishes = subst (λ (x : ℕ). (k : ℕ) × ((rounds_run r x).report ≡ Finished k)) (sym is) (rounds_finish s p K r b);
    }

pub refused_as_begun : (s : List ℕ) (p K : ℕ) (r : Refusal) → most_of s p K ≡ Err r → (begin s p K).answer ≡ Err r
unfolding most_of begin
refused_as_begun s p K r e = rw (refused_are (most_found s p K) (limit_of s p K) r e)
