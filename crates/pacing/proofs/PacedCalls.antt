-- A beginning of a pace and a paced turn, by the answers of the calls below them.
use Rattle.std.specs.Prelude.{Err, Ok, Result, is_err}
use Rattle.table.specs.declared.Refusal.{Refusal}
use Rattle.schedule.specs.declared.Taken.{Taken}
use mathlib.Core.Path.{◌≡◌, refl, ap, ◌∙◌}
use Prim.Native.Nat.{ℕ, ◌≤◌, ◌<◌}
use native.Mathlib.Omega.{arith}
use mathlib.Core.List.{List}
use mathlib.Core.Bool.{Bool, true, false, ◌&&◌}
use borrow.Author.Tests.{ne_eqb, eq-eqb}
use lib.ListN.{replicate}
use lib.Dec.{ltb, leb, eqb}
use Rattle.table.specs.Sum.{pick}
use Rattle.table.specs.Pass.{refusal}
use Rattle.table.proofs.Tests.{no_way}
use Rattle.schedule.specs.declared.Run.{Run}
use Rattle.schedule.specs.declared.Turned.{Turned}
use Rattle.schedule.specs.Turn.{turned}
use Rattle.pace.specs.Pace.{Paced, paced, blank, start_pace, may_number, took}
use Rattle.wivakkol_pace.proofs.PacedNumbers.{may_small}
use Rattle.pacing.specs.declared.Pace.{Pace}
use Rattle.pacing.specs.declared.PaceBegun.{PaceBegun}
use Rattle.pacing.specs.Pacing.{pace, pace_begun, begin_pace, is_taken, paced_turn, paced_turned}

-- ---- a beginning

abbrev pace_begun_as : Paced → PaceBegun
pace_begun_as k = pick (eqb k.number 0) (pace_begun (Ok tt) (pace k.pace)) (pace_begun (Err (refusal k.number 0)) (pace k.pace))

module _ (p b : ℕ) where
  abbrev started : Paced
  started = start_pace p b (replicate 260 0)

  begun_so : pace_begun_as started ≡ begin_pace p b
  unfolding start_pace begin_pace
  begun_so = go (ltb 0 p && leb p 16) refl (ltb 0 b && leb b 65535) refl
    where
      go : (x : Bool) → (ltb 0 p && leb p 16) ≡ x → (y : Bool) → (ltb 0 b && leb b 65535) ≡ y → pace_begun_as started ≡ begin_pace p b
      go true e true f = rw (e, f)
      go true e false f = rw (e, f)
      go false e y f = rw e

  small_so : started.number ≤ 41
  unfolding start_pace
  small_so = go (ltb 0 p && leb p 16) (ltb 0 b && leb b 65535)
    where
      go : (x y : Bool) → (pick x (pick y (paced 0 (blank p b)) (paced 41 (replicate 260 0))) (paced 20 (replicate 260 0))).number ≤ 41
      go true true = omega arith
      go true false = omega arith
      go false y = omega arith

  module _ {number : ℕ} {l : List ℕ} (e : paced number l ≡ started) where
    pub start_small : number < 256
    start_small = omega (arith, ap (λ (k : Paced). k.number) e, small_so)

    pub start_refused : (number ≡ 0 → ⊥) → pace_begun (Err (refusal number 0)) (pace l) ≡ begin_pace p b
    start_refused d = (rw (ne_eqb number 0 d) refl) ∙ ap pace_begun_as e ∙ begun_so

    pub start_begun : number ≡ 0 → pace_begun (Ok tt) (pace l) ≡ begin_pace p b
    start_begun d = (rw (eq-eqb number 0 d) refl) ∙ ap pace_begun_as e ∙ begun_so

-- a pace that is begun is one begun in memory
pub begun_started : (p b : ℕ) → (begin_pace p b).answer ≡ Ok tt → ((start_pace p b (replicate 260 0)).number ≡ 0) × ((begin_pace p b).pace.numbers ≡ (start_pace p b (replicate 260 0)).pace)
unfolding start_pace begin_pace
begun_started p b = go (ltb 0 p && leb p 16) (ltb 0 b && leb b 65535)
  where
    go : (x y : Bool)
        → (pick x (pick y (pace_begun (Ok tt) (pace (blank p b))) (pace_begun (Err (refusal 41 0)) (pace (replicate 260 0)))) (pace_begun (Err (refusal 20 0)) (pace (replicate 260 0)))).answer ≡ Ok tt
        → ((pick x (pick y (paced 0 (blank p b)) (paced 41 (replicate 260 0))) (paced 20 (replicate 260 0))).number ≡ 0)
        × ((pick x (pick y (pace_begun (Ok tt) (pace (blank p b))) (pace_begun (Err (refusal 41 0)) (pace (replicate 260 0)))) (pace_begun (Err (refusal 20 0)) (pace (replicate 260 0)))).pace.numbers
        ≡ (pick x (pick y (paced 0 (blank p b)) (paced 41 (replicate 260 0))) (paced 20 (replicate 260 0))).pace)
    go true true e = (refl, refl)
    go true false e = no_way (cc)
    go false y e = no_way (cc)

-- ---- a turn

-- the pace's number is one of a refusal
pub number_small : (P : List ℕ) (w : ℕ) {n : ℕ} → n ≡ may_number P w → n < 256
number_small P w e = omega (arith, e, may_small P w)

-- an answer that was asked with `is_err`
pub refused_err : (x : Result Taken Refusal) {b : Bool} → b ≡ is_err x → b ≡ true → is_taken x ≡ false
refused_err (Ok t) e d = no_way (cc)
refused_err (Err r) e d = refl

pub taken_ok : (x : Result Taken Refusal) {b : Bool} → b ≡ is_err x → b ≡ false → is_taken x ≡ true
taken_ok (Ok t) e d = refl
taken_ok (Err r) e d = no_way (cc)

module _ (r : Run) (P : Pace) (w : ℕ) {t : Turned} (e : t ≡ turned r w) where
  pub refused_so : is_taken t.answer ≡ false → paced_turn t.answer t.run P ≡ paced_turned r P w
  unfolding paced_turned
  refused_so d = rw (← e, d) refl

  module _ {n : ℕ} (k : n ≡ may_number P.numbers w) where
    pub held_so : is_taken t.answer ≡ true → (n ≡ 0 → ⊥) → paced_turn (Err (refusal n 0)) r P ≡ paced_turned r P w
    unfolding paced_turned
    held_so d m = rw (← e, d, ← k, ne_eqb n 0 m) refl

    pub taken_so : {x : Result Taken Refusal} {l : List ℕ} → t.answer ≡ x → is_taken x ≡ true → n ≡ 0 → l ≡ took P.numbers w → paced_turn x t.run (pace l) ≡ paced_turned r P w
    unfolding paced_turned
    taken_so {x} {l} a d m q = rw (← e, a, d, ← k, m, q) refl
