use Rattle.std.specs.Prelude.{Err, Ok}
use mathlib.Core.Path.{◌≡◌, sym, ap, ◌∙◌}
use Prim.Native.Nat.{ℕ, pred, ◌+◌, ◌-◌, ◌<◌, ◌≤◌}
use mathlib.Core.List.{List, [], ◌∷◌}
use mathlib.Core.Bool.{Bool, true, false, not}
use native.Mathlib.Omega.{arith}
use lib.ListN.{get_or}
use Rattle.table.specs.Pass.{try_at, try_from, refusal}
use Rattle.checks.specs.Code.Steps.{unmarked}
use Rattle.table.proofs.Trying.{try_from_next, try_from_here}
use Rattle.checks.proofs.nest.never_forked.Invariants.{Inv}
use Rattle.checks.proofs.nest.never_forked.Goals as goal

start : (n : ℕ) (forked : List Bool) → n ≤ 1024 → Inv n forked 1
start n forked h =
    let e : n - 1 ≡ pred n = omega arith in
    record { small = h; remains = rw e }

module _ {n : ℕ} {forked : List Bool} {t : ℕ} (i : Inv n forked t) where
  again : t < n → not (get_or forked t false) ≡ false → Inv n forked (t + 1)
  unfolding try_at
  again h e = record { small = i.small; remains = sym (try_from_next _ t n h (rw e)) ∙ i.remains }

  stops : t < n → not (get_or forked t false) ≡ true → Err (refusal 11 t) ≡ try_from (unmarked forked ∷ []) 1 (pred n)
  unfolding try_at
  stops h e = sym (try_from_here _ t n h (refusal 11 t) (rw e)) ∙ i.remains

  none : n ≤ t → (Ok tt) ≡ try_from (unmarked forked ∷ []) 1 (pred n)
  unfolding try_from
  none h =
      let z : n - t ≡ 0 = omega arith in
      rw z at i.remains

pub loop-t-init : goal.loop-t-init
loop-t-init c = start _ c.args.forked.now c.requires

pub bounds-forked-t : goal.bounds-forked-t
bounds-forked-t c = omega arith

pub overflow_cast-t : goal.overflow_cast-t
overflow_cast-t c = omega arith

pub returns-then-not-forked-t : goal.returns-then-not-forked-t
returns-then-not-forked-t c =
    ap Err c.new.ensures ∙ stops c.loop-t.invariant c.loop-t-test.true (rw c.if-not-forked-t.true)

pub loop-t-preserved : goal.loop-t-preserved
loop-t-preserved c =
    again c.loop-t.invariant c.loop-t-test.true (rw c.if-not-forked-t.false)

pub returns : goal.returns
returns c = none c.loop-t.invariant c.loop-t-test.false
