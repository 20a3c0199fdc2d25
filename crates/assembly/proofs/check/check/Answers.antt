use Prim.Native.Nat.{ℕ, suc, ◌+◌, ◌≤◌}
use native.Mathlib.Numerals.{add-one}
use native.Mathlib.Omega.{arith}
use mathlib.Core.Path.{◌≡◌, refl, sym, ◌∙◌}
use mathlib.Core.List.{List}
use lib.ListN.{length, drop}
use Rattle.assembly.specs.Said.{saids}
use Rattle.assembly.specs.Assembly.{counted_by, checked_from, checked}
use Rattle.assembly.specs.Code.Steps.{Reads}
use Rattle.assembly.specs.declared.Expected.{Expected}
use Rattle.assembly.specs.declared.line.Line.{Line}
use Rattle.assembly.proofs.Lines.{said_none}
use Rattle.assembly.proofs.Counts.{checked_nil, checked_next, counted_more}
use Rattle.assembly.proofs.check.check.Invariants.{Inv}
use Rattle.assembly.proofs.check.check.Goals as goal
use Rattle.std.specs.Prelude.{Err, Ok}
use Rattle.assembly.specs.Assembly.{counts_of, fault_at}

module _ (s : List ℕ) (at line n m : ℕ) (v : Inv s at line n m) where
  module _ {r : Line} (d : Reads s at r) where
    stopped : {e : Expected} → counted_by r.said n m ≡ Err e → Err (fault_at line e) ≡ checked (saids s)
    stopped {e} q =
        let a : checked_from line n m (saids (drop at s)) ≡ Err (fault_at line e) = rw (d.says, checked_next line n m r.said (saids (drop r.next s)), q) in
        sym a ∙ v.rest

    again : {a b : ℕ} → counted_by r.said n m ≡ Ok (counts_of a b) → Inv s r.next (line + 1) a b
    again {a} {b} q =
        let e : checked_from line n m (saids (drop at s)) ≡ checked_from (suc line) a b (saids (drop r.next s)) =
        rw (d.says, checked_next line n m r.said (saids (drop r.next s)), q) in
        let c = counted_more r.said n m a b q in
        record {
          short = v.short;
          within = d.within;
          lines = omega (arith, v.lines, d.later);
          threads = omega (arith, v.threads, d.later, c.0);
          actions = omega (arith, v.actions, d.later, c.1);
          rest = rw add-one (sym e ∙ v.rest);
        }

  ends : length s ≤ at → Ok (counts_of n m) ≡ checked (saids s)
  ends h =
      let a : checked_from line n m (saids (drop at s)) ≡ Ok (counts_of n m) = rw (said_none s at h) (checked_nil line n m) in
      sym a ∙ v.rest

pub loop-at-init : goal.loop-at-init
loop-at-init c = record { short = c.requires; within = omega arith; lines = omega arith; threads = omega arith; actions = omega arith; rest = refl }

pub read_line-read-requires : goal.read_line-read-requires
read_line-read-requires c = c.loop-at-test.true

pub counted-counting-requires : goal.counted-counting-requires
counted-counting-requires c = let v = c.loop-at.invariant in record { threads = omega (arith, v.short, v.within, v.threads); actions = omega (arith, v.short, v.within, v.actions) }

pub returns-in-Err : goal.returns-in-Err
returns-in-Err c = stopped _ _ _ _ _ c.loop-at.invariant c.read_line-read.ensures (sym c.counted-counting.ensures ∙ c.in-Err.is)

pub overflow_add-line : goal.overflow_add-line
overflow_add-line c = omega (arith, c.loop-at.invariant.short, c.loop-at.invariant.within, c.loop-at.invariant.lines)

pub loop-at-smaller : goal.loop-at-smaller
loop-at-smaller c = omega (arith, c.read_line-read.ensures.later, c.read_line-read.ensures.within)

pub loop-at-preserved : goal.loop-at-preserved
loop-at-preserved c = again _ _ _ _ _ c.loop-at.invariant c.read_line-read.ensures (sym c.counted-counting.ensures ∙ c.in-Ok.is)

pub returns : goal.returns
returns c = ends _ _ _ _ _ c.loop-at.invariant c.loop-at-test.false
