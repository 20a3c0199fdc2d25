use mathlib.Core.Path.{◌≡◌, ap, ◌∙◌}
use Prim.Native.Nat.{ℕ, ◌+◌, ◌≤◌, ◌<◌}
use mathlib.Core.List.{List}
use native.Mathlib.Omega.{arith}
use lib.ListN.{set, replicate}
use Rattle.table.specs.Format.{table_of}
use Rattle.order.specs.Words.{filled}
use Rattle.order.specs.Firsts.{firsts}
use Rattle.soundness.specs.Code.Checks.{Accepted}
use Rattle.soundness.proofs.Laying.{laid_more, accepted_sizes}
use Rattle.soundness.proofs.beginning.fill_next.Invariants.{Inv}
use Rattle.soundness.proofs.beginning.fill_next.Goals as goal

start : {s next : List ℕ} {n : ℕ} → Accepted s n → next ≡ replicate 1024 0 → Inv s n next 0
unfolding firsts
start k e = record { sizes = accepted_sizes k; within = omega arith; laid = record { row = e } }

again : {s next : List ℕ} {n t x : ℕ} → Inv s n next t → t < n → x ≡ (table_of s).first t → Inv s n (set next t x) (t + 1)
again v h e = record { sizes = v.sizes; within = omega arith; laid = laid_more v.laid (omega arith) e }

done : {s next : List ℕ} {n t : ℕ} → Inv s n next t → n ≤ t → next ≡ filled 1024 (firsts (table_of s).first 0 n)
done {s} {next} {n} {t} v h =
    let e : t ≡ n = omega arith in
    v.laid.row ∙ ap (λ (k : ℕ). filled 1024 (firsts (table_of s).first 0 k)) e

pub loop-t-init : goal.loop-t-init
loop-t-init c = start c.requires.accepted c.requires.next_value

pub overflow_cast-next : goal.overflow_cast-next
overflow_cast-next c = omega arith

pub offset_bounds-next-t : goal.offset_bounds-next-t
offset_bounds-next-t c = omega arith

pub bounds-next-t : goal.bounds-next-t
bounds-next-t c = omega arith

pub loop-t-preserved : goal.loop-t-preserved
loop-t-preserved c = again c.loop-t.invariant c.loop-t-test.true c.first.ensures.value

pub returns : goal.returns
returns c = done c.loop-t.invariant c.loop-t-test.false
