-- Rules 2 and 4 are needed: what is computed of turns on sound records holds of turns as they are defined, each with its test of the whole record.
use Rattle.std.specs.Prelude.{Ok}
use mathlib.Core.Path.{◌≡◌, refl, ap, ◌∙◌}
use Prim.Native.Nat.{ℕ, ◌+◌, ◌-◌, ◌^◌, ◌≤◌}
use native.Mathlib.Omega.{arith}
use mathlib.Core.List.{List, [], ◌∷◌}
use mathlib.Core.Bool.{Bool, ◌&&◌}
use lib.ListN.{length}
use Rattle.schedule.specs.Begin.{begin}
use Rattle.schedule.specs.Sound.{Steady}
use Rattle.schedule.specs.Turn.{turned}
use Rattle.schedule.specs.Cases.{turned_sound}
use Rattle.schedule.proofs.Runs.Histories.{turn_steady}
use Rattle.schedule.proofs.CaseLaws.{turned_sound_lem, turned_turns, begun_fresh}
use Rattle.workers.specs.LateFree.{LateEvent, turn, work, freed, Late, start_late, late_event, after_late}
use Rattle.workers.specs.BrokenRules.{always, is_one_by_one, freed_before, RuleCase, case_of, late_events, freed_in_time, early_events, drawn_in_time, LateFree, EarlyTurn, rules_worked}

-- from a sound record, as long as turns taken stays below 2^64 − 1
late_sound : (l : List LateEvent) (s : Late) → Steady s.run → s.run.turns + length l ≤ 2 ^ 64 - 1 → after_late turned l s ≡ after_late turned_sound l s
unfolding after_late late_event
late_sound [] s h k = refl
late_sound (turn w ∷ l) s h k =
    let e : turned s.run w ≡ turned_sound s.run w = turned_sound_lem s.run w (record { steady = h; turns = omega arith }) in
    let ih = late_sound l _ (turn_steady s.run w h) (omega (arith, turned_turns s.run w)) in
    ih ∙ rw e
late_sound (work w ∷ l) s h k = late_sound l _ h (omega arith)
late_sound (freed w ∷ l) s h k = late_sound l _ h (omega arith)

always_sound : (test : LateEvent → Late → Bool) (l : List LateEvent) (s : Late) → Steady s.run → s.run.turns + length l ≤ 2 ^ 64 - 1
    → always test turned l s ≡ always test turned_sound l s
unfolding always late_event
always_sound test [] s h k = refl
always_sound test (turn w ∷ l) s h k =
    let e : turned s.run w ≡ turned_sound s.run w = turned_sound_lem s.run w (record { steady = h; turns = omega arith }) in
    let ih = always_sound test l _ (turn_steady s.run w h) (omega (arith, turned_turns s.run w)) in
    ap (test (turn w) s &&◌) (ih ∙ rw e)
always_sound test (work w ∷ l) s h k = ap (test (work w) s &&◌) (always_sound test l _ h (omega arith))
always_sound test (freed w ∷ l) s h k = ap (test (freed w) s &&◌) (always_sound test l _ h (omega arith))

-- from the beginning
case_sound : (bytes : List ℕ) (p K : ℕ) (l : List LateEvent) → length l ≤ 2 ^ 64 - 1 → (begin bytes p K).answer ≡ Ok tt → case_of turned bytes p K l ≡ case_of turned_sound bytes p K l
case_sound bytes p K l k e =
    let s : Late = start_late (begin bytes p K).run in
    let f = begun_fresh bytes p K e in
    let g = always_sound is_one_by_one l s f.0 (omega (arith, f.1)) in
    let h = always_sound freed_before l s f.0 (omega (arith, f.1)) in
    rw (g, h, late_sound l s f.0 (omega (arith, f.1)))

-- a case that is computed
of_turns : (bytes : List ℕ) (p K : ℕ) (l : List LateEvent) (c : RuleCase) → length l ≤ 2 ^ 64 - 1 → c.begun ≡ Ok tt → case_of turned_sound bytes p K l ≡ c → case_of turned bytes p K l ≡ c
of_turns bytes p K l c k b e = case_sound bytes p K l k (ap (λ (x : RuleCase). x.begun) e ∙ b) ∙ e

-- Rule 2 broken alone: real memory is 2 where the run's highest is 1; with the free in time it is 1.
pub late_free : LateFree turned
unfolding late_events freed_in_time
late_free = (of_turns _ _ _ _ _ (omega arith) refl rules_worked.0.0, of_turns _ _ _ _ _ (omega arith) refl rules_worked.0.1)

-- Rule 4 broken alone, by one worker: likewise.
pub early_turn : EarlyTurn turned
unfolding early_events drawn_in_time
early_turn = (of_turns _ _ _ _ _ (omega arith) refl rules_worked.1.0, of_turns _ _ _ _ _ (omega arith) refl rules_worked.1.1)
