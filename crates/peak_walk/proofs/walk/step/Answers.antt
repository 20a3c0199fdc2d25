-- `peak_walk::walk::step` meets its contract.
use Rattle.std.proofs.Common.{refl, ap, ◌≡◌, ℕ, ◌+◌, ◌%◌, ◌^◌, max, Bool, true, false, not, List, arith, rules}
use Rattle.table.specs.Format.{kind_of}
use Rattle.table.specs.declared.kinds.Kind.{Kind}
use Rattle.table.proofs.Tests.{no_way}
use Rattle.peak_walk.specs.Code.Walk.{row_greatest, balance_after, depth_after, rows_after, extra_after, walk, stepped}
use Rattle.peak_walk.proofs.Steps.{depth_rises}
use Rattle.peak_walk.proofs.walk.step.Goals as goal

module _ (peaks finals rows : List ℕ) (r : ℕ) (k : Kind) (x balance best depth b e d : ℕ) (rows' : List ℕ) (balance_is : b ≡ balance_after finals k x balance)
    (extra-is : e ≡ extra_after peaks r k x depth rows) (rows_are : rows' ≡ rows_after peaks finals r k x depth rows) (depth_is : d ≡ depth_after k depth) where
  passed : (may : Bool) → not may ≡ true → walk b best d rows' ≡ stepped peaks finals r may k x (walk balance best depth rows)
  unfolding stepped
  passed true z = no_way (cc)
  passed false z = rw (balance_is, rows_are, depth_is)

  counted : (may : Bool) → not may ≡ false → (g m s v : ℕ) → g ≡ row_greatest rows' d r → m ≡ max g e → s ≡ (b + m) % 2 ^ 64 → v ≡ max best s
      → walk b v d rows' ≡ stepped peaks finals r may k x (walk balance best depth rows)
  unfolding stepped
  counted true z g m s v greatest-is most_is sum_is_lem best_is = rw (best_is, sum_is_lem, most_is, greatest-is, balance_is, extra-is, rows_are, depth_is)
  counted false z g m s v greatest-is most_is sum_is_lem best_is = no_way (cc)

pub returns-then-not-may : goal.returns-then-not-may
returns-then-not-may c =
    let g = c.args in
    rw (← c.kind-kind.ensures)
    (passed g.peaks.now g.finals.now g.rows.now g.r c.kind-kind.result g.action.argument g.w.balance g.w.best g.w.depth c.balance_after-balance.result c.extra_after-extra.result
    c.depth_after-depth.result _ c.balance_after-balance.ensures c.extra_after-extra.ensures c.rows_after.ensures c.depth_after-depth.ensures g.may (ap not c.if-not-may.true))

pub row_greatest-requires : goal.row_greatest-requires
row_greatest-requires c =
    record {
      load = c.requires.load;
      child = omega arith;
      depth = omega (arith, c.depth_after-depth.ensures, depth_rises c.kind-kind.result c.args.w.depth, c.requires.depth);
    }

pub returns : goal.returns
returns c =
    let g = c.args in
    rw (← c.kind-kind.ensures)
    (counted g.peaks.now g.finals.now g.rows.now g.r c.kind-kind.result g.action.argument g.w.balance g.w.best g.w.depth c.balance_after-balance.result c.extra_after-extra.result
    c.depth_after-depth.result _ c.balance_after-balance.ensures c.extra_after-extra.ensures c.rows_after.ensures c.depth_after-depth.ensures g.may (ap not c.if-not-may.false) c.row_greatest.result c.max-most.result _
    c.max-best.result c.row_greatest.ensures c.max-most.ensures refl c.max-best.ensures)
