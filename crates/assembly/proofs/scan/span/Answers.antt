use Prim.Native.Nat.{ℕ, suc, ◌+◌, ◌≤◌, ◌<◌}
use native.Mathlib.Numerals.{add-one}
use native.Mathlib.Omega.{arith}
use mathlib.Core.Path.{◌≡◌, sym, ◌∙◌}
use mathlib.Core.List.{List}
use mathlib.Core.Bool.{Bool, true, false}
use lib.ListN.{length, get_or, drop, drop_of_length-le}
use lib.Seq.{drop-cons}
use Rattle.assembly.specs.Words.{span_of, Spans}
use Rattle.assembly.proofs.Parts.{span_here, span_stops}
use Rattle.assembly.proofs.scan.span.Invariants.{Inv}
use Rattle.assembly.proofs.scan.span.Goals as goal

module _ (p : ℕ → Bool) (s : List ℕ) (i : ℕ) (v : Inv p s i) where
  again : i < length s → p (get_or s i 0) ≡ true → Inv p s (i + 1)
  again h t =
      let d = drop-cons s i 0 h in
      let e : span_of p (drop i s) ≡ suc (span_of p (drop (suc i) s)) = rw d (span_here p (get_or s i 0) (drop (suc i) s) t) in
      record { within = omega arith; rest = rw add-one (omega (arith, e, v.rest)) }

  stops : i < length s → p (get_or s i 0) ≡ false → Spans p s i
  stops h t =
      let d = drop-cons s i 0 h in
      let e : span_of p (drop i s) ≡ 0 = rw d (span_stops p (get_or s i 0) (drop (suc i) s) t) in
      record { value = omega (arith, e, v.rest); within = v.within }

  ends : length s ≤ i → Spans p s i
  unfolding span_of
  ends h =
      let e : span_of p (drop i s) ≡ 0 = rw (drop_of_length-le s {i = i} h) in
      record { value = omega (arith, e, v.rest); within = v.within }

pub loop-i-init : goal.loop-i-init
loop-i-init c = record { within = omega arith; rest = omega arith }

pub loop-i-preserved : goal.loop-i-preserved
loop-i-preserved c = again _ _ _ c.loop-i.invariant c.loop-i-test.true (sym c.in_class.ensures ∙ c.if-not-in_class.false)

pub returns-then-not-in_class : goal.returns-then-not-in_class
returns-then-not-in_class c = stops _ _ _ c.loop-i.invariant c.loop-i-test.true (sym c.in_class.ensures ∙ c.if-not-in_class.true)

pub returns : goal.returns
returns c =
    let e : length c.args.s.now ≡ c.loop-i.i = omega (arith, c.loop-i.invariant.within, c.loop-i-test.false) in
    rw e (ends _ _ _ c.loop-i.invariant c.loop-i-test.false)
