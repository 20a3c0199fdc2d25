use Prim.Native.Nat.{ℕ, suc, ◌+◌, ◌≤◌}
use native.Mathlib.Numerals.{add-one}
use native.Mathlib.Omega.{arith}
use mathlib.Core.Path.{◌≡◌, refl, sym, ◌∙◌}
use mathlib.Core.List.{List}
use mathlib.Core.Bool.{Bool, true, false, ◌&&◌}
use lib.Dec.{eqb}
use lib.ListN.{length, drop}
use Rattle.assembly.specs.Said.{saids}
use Rattle.assembly.specs.Assembly.{left_after, line_that}
use Rattle.assembly.specs.Code.Steps.{Reads}
use Rattle.assembly.specs.declared.Said.{Said}
use Rattle.assembly.specs.declared.line.Line.{Line}
use Rattle.assembly.proofs.Lines.{said_none}
use Rattle.assembly.proofs.place.line_that.Invariants.{Inv}
use Rattle.assembly.proofs.place.line_that.Goals as goal

module _ (p : Said → Bool) (s : List ℕ) (k at line left : ℕ) (v : Inv p s k at line left) where
  module _ {r : Line} {c : Bool} (d : Reads s at r) (e : c ≡ p r.said) where
    here : (c && eqb left 0) ≡ true → line ≡ line_that p 1 k (saids s)
    unfolding line_that
    here q =
        let a : line_that p line left (saids (drop at s)) ≡ line = rw (d.says, rw e at q) in
        sym a ∙ v.rest

    again : {j : ℕ} → (c && eqb left 0) ≡ false → j ≡ left_after c left → Inv p s k r.next (line + 1) j
    unfolding line_that
    again {j} q f =
        let a : line_that p line left (saids (drop at s)) ≡ line_that p (suc line) (left_after (p r.said) left) (saids (drop r.next s)) = rw (d.says, rw e at q) in
        record {
          short = v.short;
          within = d.within;
          lines = omega (arith, v.lines, d.later);
          rest = rw (add-one, f, e) (sym a ∙ v.rest);
        }

  ends : length s ≤ at → 0 ≡ line_that p 1 k (saids s)
  unfolding line_that
  ends h = rw (said_none s at h) at v.rest

pub loop-at-init : goal.loop-at-init
loop-at-init c = record { short = c.requires; within = omega arith; lines = omega arith; rest = refl }

pub read_line-read-requires : goal.read_line-read-requires
read_line-read-requires c = c.loop-at-test.true

pub returns-then-stands : goal.returns-then-stands
returns-then-stands c = here _ _ _ _ _ _ c.loop-at.invariant c.read_line-read.ensures c.is_of-counts.ensures (sym c.stands.ensures ∙ c.if-stands.true)

pub overflow_add-line : goal.overflow_add-line
overflow_add-line c = omega (arith, c.loop-at.invariant.short, c.loop-at.invariant.within, c.loop-at.invariant.lines)

pub loop-at-smaller : goal.loop-at-smaller
loop-at-smaller c = omega (arith, c.read_line-read.ensures.later, c.read_line-read.ensures.within)

pub loop-at-preserved : goal.loop-at-preserved
loop-at-preserved c = again _ _ _ _ _ _ c.loop-at.invariant c.read_line-read.ensures c.is_of-counts.ensures (sym c.stands.ensures ∙ c.if-stands.false) c.left_after-left.ensures

pub returns : goal.returns
returns c = ends _ _ _ _ _ _ c.loop-at.invariant c.loop-at-test.false
