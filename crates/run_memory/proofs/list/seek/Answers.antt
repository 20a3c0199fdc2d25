use mathlib.Core.Path.{◌≡◌, sym, subst, ◌∙◌}
use Prim.Native.Nat.{ℕ}
use mathlib.Core.List.{List}
use Rattle.run_memory.proofs.Searching.{sought_start, sought_found, sought_out, sought_over, sought_on, found_as, none_as}
use Rattle.run_memory.proofs.list.seek.Invariants.{Searched}
use Rattle.run_memory.proofs.list.seek.Goals as goal

read : (bytes words : List ℕ) (k h passed : ℕ) {r t : ℕ} → r ≡ t → Searched bytes words k h t passed → Searched bytes words k h r passed
read bytes words k h passed e s = subst (λ (z : ℕ). Searched bytes words k h z passed) (sym e) s

pub loop-passed-init : goal.loop-passed-init
loop-passed-init c =
    let d = c.args in
    read d.bytes.now d.words.now d.k d.h 0 c.head_at-t.ensures (sought_start _ _ _)

pub returns-then-status_at-eq-READY : goal.returns-then-status_at-eq-READY
returns-then-status_at-eq-READY c =
    found_as _ c.if-t-ge-NO_THREAD.false (sought_found _ _ _ _ _ c.loop-passed.invariant c.loop-passed-test.true c.if-t-ge-NO_THREAD.false (sym c.status_at.ensures ∙ c.if-status_at-eq-READY.true))

pub loop-passed-preserved : goal.loop-passed-preserved
loop-passed-preserved c =
    let a = c.args in
    read a.bytes.now a.words.now a.k a.h _ c.row_at-t.ensures
    (sought_on _ _ _ _ _ c.loop-passed.invariant c.loop-passed-test.true c.if-t-ge-NO_THREAD.false (λ q. c.if-status_at-eq-READY.false (c.status_at.ensures ∙ q)))

pub returns-then-t-ge-NO_THREAD : goal.returns-then-t-ge-NO_THREAD
returns-then-t-ge-NO_THREAD c = none_as _ (sought_out _ _ _ _ _ c.loop-passed.invariant c.if-t-ge-NO_THREAD.true).0

pub returns : goal.returns
returns c = none_as _ (sought_over _ _ _ _ _ c.loop-passed.invariant c.loop-passed-test.false).0
