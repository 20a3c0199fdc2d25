-- `wivakkol_pace::paced_in` meets its contract: held back, refused or taken.
use mathlib.Core.Path.{◌≡◌, refl, sym, ap, ◌∙◌}
use Prim.Native.Nat.{ℕ}
use mathlib.Core.List.{List}
use mathlib.Core.Bool.{Bool, ◌&&◌}
use lib.Dec.{eqb}
use borrow.Author.Tests.{ne_eqb}
use Rattle.std.specs.Prelude.{Err, Ok, Result}
use Rattle.table.specs.Sum.{pick}
use Rattle.schedule.specs.declared.Taken.{Taken}
use Rattle.schedule.specs.declared.Reply.TheVariants.{Idle}
use Rattle.run_memory.specs.Memory.{Memory, Told, told, unless, number_in, reply_in, passed_in, passed_over}
use Rattle.run_memory.specs.Blocks.{memory_of}
use Rattle.run_memory.proofs.Takes.{free, refused_as, err_is, passes_none}
use Rattle.wivakkol_pace.specs.Paced.{held_back, PacedTold, paced_told}
use Rattle.wivakkol_pace.proofs.PacedTurns.{tested, held_as, holds_back, refuses, takes}
use Rattle.wivakkol_pace.proofs.paced_in.Goals.{After-stops}
use Rattle.wivakkol_pace.proofs.paced_in.Goals as goal

back : (k : After-stops) → k.stops.result ≡ unless (held_back k.args.w (memory_of k.args.bytes.now k.args.words.now k.args.numbers.now k.args.sums.now) k.args.pace.now)
back k =
    held_as k.args.table.now k.args.w (memory_of k.args.bytes.now k.args.words.now k.args.numbers.now k.args.sums.now) k.args.pace.now (
    tested k.args.w k.total_at.ensures k.setting_at.ensures k.status_at.ensures k.hindrance-hindered.ensures
    ) k.stops.ensures

-- what `?` hands on is a refusal
module _ (r : Result Taken ℕ) {n : ℕ} (e : r ≡ Err n) where
  hands : {M : Memory} {P : List ℕ} {t : PacedTold} → paced_told (told n Idle M) P ≡ t → paced_told (told (number_in r) (reply_in r) M) P ≡ t
  hands {M} {P} d = ap (λ (y : Result Taken ℕ). paced_told (told (number_in y) (reply_in y) M) P) e ∙ d

  numbered : (n ≡ 0 → ⊥) → (k : ℕ) → r ≡ Err k → k ≡ 0 → ⊥
  numbered h k d z = let p : n ≡ k = cc (sym e ∙ d) in h (p ∙ z)

  passes : (counting : Bool) (x : ℕ) → (n ≡ 0 → ⊥) → passed_in r ≡ pick (counting && eqb (number_in r) 0) x 0
  passes counting x h = rw e (passes_none counting n x (ne_eqb n 0 h))

  refused_so : {M : Memory} {t : Told} → told (number_in r) (reply_in r) M ≡ t → told n Idle M ≡ t
  refused_so {M} d = ap (λ (y : Result Taken ℕ). told (number_in y) (reply_in y) M) (sym e) ∙ d

-- a turn that is taken
module _ (r : Result Taken ℕ) {x : Taken} (e : r ≡ Ok x) where
  took_so : {M : Memory} {t : Told} → told (number_in r) (reply_in r) M ≡ t → told 0 x.reply M ≡ t
  took_so {M} d = ap (λ (y : Result Taken ℕ). told (number_in y) (reply_in y) M) (sym e) ∙ d

  passed_so : (counting : Bool) (z : ℕ) → passed_in r ≡ pick (counting && eqb (number_in r) 0) z 0 → x.passed ≡ pick (counting && eqb 0 0) z 0
  passed_so counting z d = ap (λ (y : Result Taken ℕ). passed_in y) (sym e) ∙ d ∙ ap (λ (y : Result Taken ℕ). pick (counting && eqb (number_in y) 0) z 0) e

pub returns-in_err-stops : goal.returns-in_err-stops
returns-in_err-stops c =
    let a = c.args in
    let M : Memory = memory_of a.bytes.now a.words.now a.numbers.now a.sums.now in
    let f = refused_as _ (back (goal.at.returns-in_err-stops c).After-stops) c.in_err-stops.was in
    let r = c.from_residual.result in
    let e = err_is _ c.from_residual.ensures in
    record {
      pace_after = hands r e (holds_back a.table.now a.w M a.pace.now f.0 f.1);
      nonzero = numbered r e f.1;
      passed_value = passes r e a.counting (passed_over M a.w) f.1;
    }

pub returns-in_err-taken : goal.returns-in_err-taken
returns-in_err-taken c =
    let a = c.args in
    let M : Memory = memory_of a.bytes.now a.words.now a.numbers.now a.sums.now in
    let z = free _ (back (goal.at.returns-in_err-taken c).After-stops) c.in_ok-stops.was in
    let d = c.turn_in.ensures.nonzero _ c.in_err-taken.was in
    let r = c.from_residual-in_err-taken.result in
    let e = err_is _ c.from_residual-in_err-taken.ensures in
    record {
      pace_after = hands r e (refuses a.table.now a.w M a.pace.now refl z (refused_so _ c.in_err-taken.was c.turn_in.ensures.sums_after) d);
      nonzero = numbered r e d;
      passed_value = passes r e a.counting (passed_over M a.w) d;
    }

pub returns : goal.returns
returns c =
    let a = c.args in
    let M : Memory = memory_of a.bytes.now a.words.now a.numbers.now a.sums.now in
    let z = free _ (back (goal.at.returns c).After-stops) c.in_ok-stops.was in
    record {
      pace_after = takes a.table.now a.w M a.pace.now refl z (took_so _ c.in_ok-taken.was c.turn_in.ensures.sums_after) refl c.took.ensures;
      nonzero = λ n e. cc e;
      passed_value = passed_so _ c.in_ok-taken.was a.counting (passed_over M a.w) c.turn_in.ensures.passed_value;
    }
