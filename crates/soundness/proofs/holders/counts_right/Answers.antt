use mathlib.Core.Path.{◌≡◌}
use Prim.Native.Nat.{ℕ}
use mathlib.Core.List.{List}
use mathlib.Core.Bool.{true, false}
use native.Mathlib.Omega.{arith}
use borrow.Author.Tests.{eq-eqb, ne_eqb}
use lib.ListN.{get_or}
use Rattle.soundness.specs.Code.Checks.{holders_wanted}
use Rattle.order.proofs.Every.{passed_none, passed_more, passed_fails, passed_all}
use Rattle.soundness.proofs.holders.counts_right.Invariants.{test}
use Rattle.soundness.proofs.holders.counts_right.Goals as goal

-- by the count wanted, r
module _ (status counts : List ℕ) (t r : ℕ) (q : r ≡ holders_wanted (get_or status t 0)) where
  other : (get_or counts t 0 ≡ r → ⊥) → test status counts t ≡ false
  other k = rw (← q) (ne_eqb (get_or counts t 0) r k)

  same : get_or counts t 0 ≡ r → test status counts t ≡ true
  same k = rw (← q) (eq-eqb (get_or counts t 0) r k)

pub loop-t-init : goal.loop-t-init
loop-t-init c = passed_none

pub bounds-counts-t : goal.bounds-counts-t
bounds-counts-t c = omega arith

pub bounds-status-t : goal.bounds-status-t
bounds-status-t c = omega arith

pub returns-then-counts-t : goal.returns-then-counts-t
returns-then-counts-t c =
    let a = c.args in
    passed_fails c.loop-t.invariant c.loop-t-test.true (other a.status.now a.counts.now _ _ c.holders_wanted.ensures c.if-counts-t.true)

pub loop-t-preserved : goal.loop-t-preserved
loop-t-preserved c =
    passed_more c.loop-t.invariant (same c.args.status.now c.args.counts.now _ _ c.holders_wanted.ensures c.if-counts-t.false)

pub returns : goal.returns
returns c = passed_all c.loop-t.invariant c.loop-t-test.false
