use Rattle.std.specs.Prelude.{None, Some}
use native.Mathlib.Omega.{arith}
use Prim.Native.Nat.{ℕ, ◌+◌, ◌≤◌, ◌<◌}
use native.Mathlib.Numerals.{add-one}
use mathlib.Core.Path.{◌≡◌, refl, sym, ◌∙◌}
use mathlib.Core.List.{List}
use mathlib.Core.Bool.{Bool, true, false, ◌&&◌}
use borrow.Author.Tests.{leb-true}
use lib.Dec.{leb}
use lib.ListN.{length, get_or, drop_of_length-le}
use lib.Seq.{drop-cons}
use Rattle.assembly.specs.Words.{is_digit, zero_led}
use Rattle.assembly.specs.Upto.{next_value, goes_on, value_from, number_in}
use Rattle.assembly.specs.Code.Steps.{Numbered}
use Rattle.assembly.proofs.word.read_number.Invariants.{Digit, Inv}
use Rattle.assembly.proofs.word.read_number.Goals as goal

both : (s t : Bool) → (s && t) ≡ true → (s ≡ true) × (t ≡ true)
both true t e = (refl, e)
both false t e = absurd (let z : ◌≡◌ {A = Bool} false true = e in let y : ◌≡◌ {A = ℕ} 0 1 = cc in omega arith)

digit : (most v b : ℕ) → goes_on most v b ≡ true → Digit most v b
digit most v b e =
    let p = both (is_digit b) (leb (next_value v b) most) e in
    let q = both (leb 48 b) (leb b 57) p.0 in
    record { least = leb-true 48 b q.0; greatest = leb-true b 57 q.1; small = leb-true (next_value v b) most p.1 }

none : (most : ℕ) (w : List ℕ) → None ≡ number_in most w → Numbered most w None
none most w e = record { value = e; small = λ x q. absurd (let z : ◌≡◌ {A = ℕ} 0 1 = cc in omega arith) }

no_number_lem : (most : ℕ) (w : List ℕ) → zero_led w ≡ true → Numbered most w None
unfolding number_in
no_number_lem most w e = none most w (rw e)

module _ (w : List ℕ) (most v i : ℕ) (h : Inv w most v i) where
  stops : i < length w → goes_on most v (get_or w i 0) ≡ false → Numbered most w None
  unfolding value_from number_in
  stops l e = none most w (rw h.led (rw (drop-cons w i 0 l, e) at h.rest))

  again : i < length w → goes_on most v (get_or w i 0) ≡ true → Inv w most (next_value v (get_or w i 0)) (i + 1)
  unfolding value_from
  again l e =
      record {
        within = omega arith;
        small = (digit most v (get_or w i 0) e).small;
        led = h.led;
        rest = rw add-one (rw (drop-cons w i 0 l, e) at h.rest);
      }

  ends : length w ≤ i → Numbered most w (Some v)
  unfolding value_from number_in
  ends l =
      record {
        value = rw h.led (rw (drop_of_length-le w {i = i} l) at h.rest);
        small = λ x q. let e : v ≡ x = cc in omega (arith, e, h.small);
      }

pub returns-then-zero_led : goal.returns-then-zero_led
returns-then-zero_led c = no_number_lem _ _ (sym c.zero_led.ensures ∙ c.if-zero_led.true)

pub loop-b-init : goal.loop-b-init
loop-b-init c = record { within = omega arith; small = omega arith; led = sym c.zero_led.ensures ∙ c.if-zero_led.false; rest = refl }

pub returns-then-not-goes_on : goal.returns-then-not-goes_on
returns-then-not-goes_on c = stops _ _ _ _ c.loop-b.invariant c.loop-b-test.true (sym c.goes_on.ensures ∙ c.if-not-goes_on.true)

pub overflow_mul-v : goal.overflow_mul-v
overflow_mul-v c = omega (arith, (digit c.args.most c.loop-b.v (get_or c.args.w.now c.loop-b.b-index 0) (sym c.goes_on.ensures ∙ c.if-not-goes_on.false)).small)

pub overflow_sub-v : goal.overflow_sub-v
overflow_sub-v c = omega (arith, (digit c.args.most c.loop-b.v (get_or c.args.w.now c.loop-b.b-index 0) (sym c.goes_on.ensures ∙ c.if-not-goes_on.false)).least)

pub overflow_cast-v : goal.overflow_cast-v
overflow_cast-v c = omega (arith, (digit c.args.most c.loop-b.v (get_or c.args.w.now c.loop-b.b-index 0) (sym c.goes_on.ensures ∙ c.if-not-goes_on.false)).greatest)

pub overflow_add-v : goal.overflow_add-v
overflow_add-v c = omega (arith, (digit c.args.most c.loop-b.v (get_or c.args.w.now c.loop-b.b-index 0) (sym c.goes_on.ensures ∙ c.if-not-goes_on.false)).least, (digit c.args.most c.loop-b.v (get_or c.args.w.now c.loop-b.b-index 0) (sym c.goes_on.ensures ∙ c.if-not-goes_on.false)).small)

pub loop-b-preserved : goal.loop-b-preserved
loop-b-preserved c = again _ _ _ _ c.loop-b.invariant c.loop-b-test.true (sym c.goes_on.ensures ∙ c.if-not-goes_on.false)

pub returns : goal.returns
returns c = ends _ _ _ _ c.loop-b.invariant c.loop-b-test.false
