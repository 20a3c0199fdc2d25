use Rattle.std.specs.Prelude.{Err, Ok}
use mathlib.Core.Path.{◌≡◌, refl, sym, ap, ◌∙◌}
use Prim.Native.Nat.{ℕ, suc, ◌+◌, ◌≤◌, ◌<◌}
use mathlib.Core.List.{List, [], ◌∷◌}
use native.Mathlib.Omega.{arith}
use lib.ListN.{length, get_or, drop, replicate}
use lib.Seq.{drop-cons, drop-length}
use Rattle.table.specs.declared.Refusal.{Refusal}
use Rattle.facts.specs.Weigh.{weighing}
use Rattle.facts.specs.declared.Weighed.{Weighed}
use Rattle.joining.specs.Answers.{parts_of}
use Rattle.joining.specs.Code.Steps.{no_part, add_part, weights_from}
use Rattle.joining.specs.declared.weights.Totals.{Totals}
use Rattle.joining.proofs.Splits.{parts_length}
use Rattle.joining.proofs.Weighs.{weighing_small, add_small}
use Rattle.joining.proofs.weights.weigh_parts.Invariants.{Clear, Inv}
use Rattle.joining.proofs.weights.weigh_parts.Goals as goal
use Rattle.joining.specs.declared.JoinError.TheVariants.{InPart}

start : (s ls : List ℕ) → Inv s ls (replicate 1024 0) (replicate 1024 0) (replicate 1024 0) (replicate 1024 0) no_part 0
start s ls =
    record {
      within = omega arith;
      clear = (refl, refl, refl, refl);
      small = record { threads = omega arith; actions = omega arith; held = omega arith; peak = omega arith; depth = omega arith; nested = omega arith };
      left = refl;
    }

module _ (s ls a b c d : List ℕ) (t : Totals) (i : ℕ) (v : Inv s ls a b c d t i) where
  split : i < length ls → drop i (parts_of ls s) ≡ get_or (parts_of ls s) i [] ∷ drop (suc i) (parts_of ls s)
  split h = drop-cons (parts_of ls s) i [] (omega (arith, parts_length ls s))

  module _ (h : i < length ls) (part : List ℕ) (e : part ≡ get_or (parts_of ls s) i []) where
    refused : (r : Refusal) → weighing part ≡ Err r → Err (InPart i r) ≡ weights_from 0 no_part (parts_of ls s)
    unfolding weights_from
    refused r q = rw (split h, ← e, q) at v.left

    again : (w : Weighed) → weighing part ≡ Ok w → (u : Totals) → u ≡ add_part i t w → (a' b' c' d' : List ℕ) → Clear a' b' c' d' → Inv s ls a' b' c' d' u (i + 1)
    unfolding weights_from
    again w q u p a' b' c' d' z =
        let n : i + 1 ≡ suc i = omega arith in
        record {
          within = omega arith;
          clear = z;
          small = rw (n, p) (add_small i t w v.small (weighing_small part w q));
          left = rw (n, p) (rw (split h, ← e, q) at v.left);
        }

  ends : length ls ≤ i → Ok t ≡ weights_from 0 no_part (parts_of ls s)
  unfolding weights_from
  ends h =
      let z : i ≡ length (parts_of ls s) = omega (arith, v.within, parts_length ls s) in
      let q : drop i (parts_of ls s) ≡ [] = ap (λ (j : ℕ). drop j (parts_of ls s)) z ∙ drop-length (parts_of ls s) in
      rw q at v.left

pub loop-i-init : goal.loop-i-init
loop-i-init c =
    let d = c.args in
    start d.tables.now d.lengths.now

pub part_at-part-requires : goal.part_at-part-requires
part_at-part-requires c = (c.requires, c.loop-i-test.true)

pub returns-in-Err : goal.returns-in-Err
returns-in-Err c = let d = c.args in record { value = refused d.tables.now d.lengths.now _ _ _ _ c.loop-i.totals c.loop-i.i c.loop-i.invariant c.loop-i-test.true _ c.part_at-part.ensures _ (sym c.weigh_in-answer.ensures.value ∙ c.in-Err.is); rises_after = c.weigh_in-answer.ensures.rises_after }

pub add_part-totals-requires : goal.add_part-totals-requires
add_part-totals-requires c =
    (c.loop-i.invariant.small, weighing_small _ _ (sym c.weigh_in-answer.ensures.value ∙ c.in-Ok.is), omega (arith, c.loop-i-test.true, c.requires.few))

pub loop-i-preserved : goal.loop-i-preserved
loop-i-preserved c =
    let d = c.args in
    again d.tables.now d.lengths.now _ _ _ _ c.loop-i.totals c.loop-i.i c.loop-i.invariant c.loop-i-test.true _ c.part_at-part.ensures _ (sym c.weigh_in-answer.ensures.value ∙ c.in-Ok.is)
    _ c.add_part-totals.ensures _ _ _ _ c.weigh_in-answer.ensures.rises_after

pub returns : goal.returns
returns c = let d = c.args in record { value = ends d.tables.now d.lengths.now _ _ _ _ c.loop-i.totals c.loop-i.i c.loop-i.invariant c.loop-i-test.false; rises_after = c.loop-i.invariant.clear }
