use Rattle.std.specs.Prelude.{Err, Ok, Result}
use native.Mathlib.Omega.{arith}
use Prim.Native.Nat.{ℕ, suc, ◌+◌, ◌-◌, ◌≤◌, ◌<◌, min}
use native.Mathlib.Numerals.{add-one}
use mathlib.Core.Path.{◌≡◌, refl, sym, ap, ◌∙◌}
use mathlib.Core.List.{List}
use lib.ListN.{length, take, drop}
use Rattle.assembly.specs.Words.{lines_of, words_of}
use Rattle.assembly.specs.Unseen.{after_lines}
use Rattle.inputs.specs.Front.{Front, Step, step_of, Fronted, onward, front_from, front_of, max_order}
use Rattle.inputs.specs.Code.Steps.{Stepping, Lined, Ending, ReadsFront, front_is, step_is}
use Rattle.inputs.specs.declared.Wanted.{Wanted}
use Rattle.inputs.specs.declared.front.Front.{Front as Kept}
use Rattle.inputs.specs.declared.front.Step.{Step as Taken}
use Rattle.inputs.specs.declared.front.Step.TheVariants.{Goes, Ends}
use Rattle.inputs.specs.declared.read.Read.{Read}
use Rattle.inputs.proofs.Lines.{lines_none, line_at, after_next}
use Rattle.inputs.proofs.read.read_front.Invariants.{Inv}
use Rattle.inputs.proofs.read.read_front.Goals as goal

abbrev read_to : Result Kept Wanted → ℕ → ℕ → Read
read_to e k at = record { end = e; lines = k; at = at }

module _ (s buf : List ℕ) (f : Kept) (k at : ℕ) (v : Inv s buf f k at) where
  text_ends : {e : Result Kept Wanted} → length s ≤ at → Ending f e → ReadsFront s buf (read_to e k at)
  unfolding front_from
  text_ends h d =
      record {
        value = d.value buf k ∙ (rw (lines_none s at h) at v.rest);
        rest = v.place;
        within = v.within;
        passed = v.passed;
        few = omega (arith, d.few, v.room.few);
        full = v.room.full;
      }

  module _ (end : ℕ) (h : at < length s) (d : Lined s at end) {r : Result Taken Wanted} (buf' : List ℕ)
      (t : Stepping r buf' (step_of (front_is f buf) (words_of (take (end - at) (drop at s))))) where
    abbrev next : ℕ
    next = min (suc end) (length s)

    abbrev onwards : Step → Fronted
    onwards x = onward x k (λ (g : Front). front_from g (suc k) (lines_of (drop next s)))

    stepped : onwards (step_is r buf') ≡ front_of s
    unfolding front_from
    stepped =
        let e : front_from (front_is f buf) k (lines_of (drop at s)) ≡ onwards (step_of (front_is f buf) (words_of (take (end - at) (drop at s)))) =
        rw (line_at s at end next h d.value refl) in
        ap onwards t.value ∙ sym e ∙ v.rest

    stops_here : {e : Wanted} → r ≡ Err e → length buf' ≡ max_order → ReadsFront s buf' (read_to (Err e) k at)
    stops_here q l = record { value = rw q at stepped; rest = v.place; within = v.within; passed = v.passed; few = omega arith; full = l }

    ends_here : {g : Kept} → r ≡ Ok (Ends g) → length buf' ≡ max_order → ReadsFront s buf' (read_to (Ok g) k at)
    ends_here q l = record { value = rw q at stepped; rest = v.place; within = v.within; passed = v.passed; few = rw q at t.few; full = l }

    later : at < next
    later = omega (arith, d.value)

    goes_on : {g : Kept} {n : ℕ} → r ≡ Ok (Goes g) → n ≡ next → length buf' ≡ max_order → Inv s buf' g (k + 1) n
    goes_on q e l =
        record {
          short = v.short;
          room = record { full = l; few = rw q at t.few };
          within = omega (arith, e);
          passed = omega (arith, e, later, v.passed);
          place = rw e (after_next s at end next h d.value refl k v.place);
          rest = rw (e, add-one) (rw q at stepped);
        }

pub loop-at-init : goal.loop-at-init
unfolding after_lines
loop-at-init c = record { short = c.requires.short; room = record { full = c.requires.full; few = omega arith }; within = omega arith; passed = omega arith; place = refl; rest = refl }

pub line_end-end-requires : goal.line_end-end-requires
line_end-end-requires c = c.loop-at-test.true

pub slice_bounds-take_line-count : goal.slice_bounds-take_line-count
slice_bounds-take_line-count c = omega (arith, c.line_end-end.ensures.value)

pub slice_bounds-take_line-start : goal.slice_bounds-take_line-start
slice_bounds-take_line-start c = omega (arith, c.line_end-end.ensures.value, c.line_end-end.ensures.within)

pub slice_bounds-take_line-end : goal.slice_bounds-take_line-end
slice_bounds-take_line-end c = omega (arith, c.line_end-end.ensures.within)

pub take_line-step-requires : goal.take_line-step-requires
take_line-step-requires c = c.loop-at.invariant.room

pub returns-in-Err : goal.returns-in-Err
returns-in-Err c = stops_here _ _ _ _ _ c.loop-at.invariant _ c.loop-at-test.true c.line_end-end.ensures _ c.take_line-step.ensures c.in-Err.is (omega (arith, c.loop-at.invariant.room.full))

pub returns-in-Ends : goal.returns-in-Ends
returns-in-Ends c = ends_here _ _ _ _ _ c.loop-at.invariant _ c.loop-at-test.true c.line_end-end.ensures _ c.take_line-step.ensures (c.in-Ok.is ∙ ap Ok c.in-Ends.is) (omega (arith, c.loop-at.invariant.room.full))

pub overflow_add-lines : goal.overflow_add-lines
overflow_add-lines c = omega (arith, c.loop-at.invariant.passed, c.loop-at.invariant.within, c.loop-at.invariant.short)

pub loop-at-smaller : goal.loop-at-smaller
loop-at-smaller c = omega (arith, later _ _ _ _ _ c.loop-at.invariant _ c.loop-at-test.true c.line_end-end.ensures _ c.take_line-step.ensures, c.next_line-at.ensures, c.loop-at-test.true)

pub loop-at-preserved : goal.loop-at-preserved
loop-at-preserved c = goes_on _ _ _ _ _ c.loop-at.invariant _ c.loop-at-test.true c.line_end-end.ensures _ c.take_line-step.ensures (c.in-Ok.is ∙ ap Ok c.in-Goes.is) c.next_line-at.ensures (omega (arith, c.loop-at.invariant.room.full))

pub returns : goal.returns
returns c = text_ends _ _ _ _ _ c.loop-at.invariant c.loop-at-test.false c.at_end.ensures
