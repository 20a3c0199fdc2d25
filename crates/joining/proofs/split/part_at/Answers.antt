-- `joining::split::part_at` meets its contract: a part lies between two sums of lengths, within the bytes lent.
use mathlib.Core.Path.{◌≡◌, sym, ap, ◌∙◌}
use Prim.Native.Nat.{ℕ, suc, ◌+◌, ◌-◌, ◌≤◌, ◌<◌}
use mathlib.Core.List.{List, []}
use native.Mathlib.Omega.{arith}
use lib.ListN.{length, get_or, take, drop}
use Rattle.joining.specs.Answers.{parts_of, sum_of}
use Rattle.joining.specs.Code.Steps.{Lent}
use Rattle.joining.proofs.Splits.{sum_next, sum_within, part_is}
use Rattle.joining.proofs.split.part_at.Goals as goal

module _ (ls s : List ℕ) (i a b : ℕ) (h : i < length ls) (v : Lent ls s) (p : a ≡ sum_of (take i ls)) (q : b ≡ sum_of (take (i + 1) ls)) where
  next : b ≡ a + get_or ls i 0
  next =
      let z : i + 1 ≡ suc i = omega arith in
      let r : b ≡ sum_of (take (suc i) ls) = q ∙ ap (λ (j : ℕ). sum_of (take j ls)) z in
      omega (arith, r, p, sum_next ls i h)

  rises : a ≤ b
  rises = omega (arith, next)

  within : b ≤ length s
  within = omega (arith, q, sum_within ls (i + 1), v.adds)

  part : take (b - a) (drop a s) ≡ get_or (parts_of ls s) i []
  part =
      let d : b - a ≡ get_or ls i 0 = omega (arith, next) in
      rw (d, p) (sym (part_is ls s i h))

pub slice_bounds-result-count : goal.slice_bounds-result-count
slice_bounds-result-count c =
    rises c.args.lengths.now c.args.tables.now c.args.i _ _ c.requires.1 c.requires.0 c.sum_to-start.ensures c.sum_to-stop.ensures

pub slice_bounds-result-start : goal.slice_bounds-result-start
slice_bounds-result-start c =
    rises c.args.lengths.now c.args.tables.now c.args.i _ _ c.requires.1 c.requires.0 c.sum_to-start.ensures c.sum_to-stop.ensures

pub slice_bounds-result-end : goal.slice_bounds-result-end
slice_bounds-result-end c =
    within c.args.lengths.now c.args.tables.now c.args.i _ _ c.requires.1 c.requires.0 c.sum_to-start.ensures c.sum_to-stop.ensures

pub returns : goal.returns
returns c =
    part c.args.lengths.now c.args.tables.now c.args.i _ _ c.requires.1 c.requires.0 c.sum_to-start.ensures c.sum_to-stop.ensures
