use mathlib.Core.Path.{◌≡◌, refl, ap, ◌∙◌}
use Prim.Native.Nat.{ℕ, suc, ◌+◌, ◌-◌, ◌*◌, ◌^◌, ◌≤◌, ◌<◌}
use mathlib.Core.List.{List, [], ◌∷◌}
use mathlib.Core.Bool.{Bool, true, false}
use native.Mathlib.Nat.{two-pow-succ, pow-le-pow_right}
use native.Mathlib.Omega.{arith}
use borrow.Author.Rules.{rules}
use lib.ListN.{length, get_or, drop, length-drop, drop_of_length-le}
use lib.Seq.{drop-cons}
use Rattle.table.specs.Sum.{pick}
use Rattle.schedule.specs.declared.Worker.{Worker}
use Rattle.schedule.specs.Machine.{nobody}
use Rattle.schedule.specs.Record.{set_of}
use Rattle.soundness.proofs.holders.busy_right.Invariants.{Inv}
use Rattle.soundness.proofs.holders.busy_right.Goals as goal

bit_small : (t : Bool) → pick t 1 0 ≤ 1
bit_small true = omega arith
bit_small false = omega arith

set_small : (l : List Worker) → set_of l < 2 ^ length l
unfolding set_of
set_small [] = omega arith
set_small (x ∷ l) = omega (arith, bit_small x.holds, set_small l, two-pow-succ (length l))

start : (workers : List Worker) → length workers ≡ 16 → Inv workers 0 16
unfolding set_of
start workers e = record { size = e; within = omega arith; part = rw (drop_of_length-le workers {i = 16} (omega arith)) }

module _ (workers : List Worker) (set w : ℕ) (i : Inv workers set w) where
  small : set < 65536
  small =
      let s : set_of (drop w workers) < 2 ^ length (drop w workers) = set_small (drop w workers) in
      let n : length (drop w workers) ≤ 16 = simp length-drop (omega arith) in
      omega (arith, i.part, s, pow-le-pow_right {n = 2} (omega arith) n)

  again : 0 < w → (t : Bool) → (get_or workers (w - 1) nobody).holds ≡ t → (next : ℕ) → next ≡ pick t 1 0 + 2 * set → Inv workers next (w - 1)
  unfolding set_of
  again h t e next q =
      let z : suc (w - 1) ≡ w = omega arith in
      let k : drop (w - 1) workers ≡ get_or workers (w - 1) nobody ∷ drop w workers =
      drop-cons workers (w - 1) nobody (omega arith) ∙ ap (λ (j : ℕ). get_or workers (w - 1) nobody ∷ drop j workers) z in
      record { size = i.size; within = omega arith; part = rw (q, k, e, i.part) }

  whole : w ≤ 0 → set ≡ set_of workers
  whole h = let z : w ≡ 0 = omega arith in i.part ∙ ap (λ (j : ℕ). set_of (drop j workers)) z

pub loop-w-init : goal.loop-w-init
loop-w-init c = start c.args.workers (search rules)

pub overflow_mul-set : goal.overflow_mul-set
overflow_mul-set c = omega (arith, small _ _ _ c.loop-w.invariant)

pub overflow_add-set : goal.overflow_add-set
overflow_add-set c = omega (arith, small _ _ _ c.loop-w.invariant)

pub loop-w-preserved-then-workers-w : goal.loop-w-preserved-then-workers-w
loop-w-preserved-then-workers-w c =
    again c.args.workers _ _ c.loop-w.invariant c.loop-w-test.true true c.if-workers-w.true _ refl

pub overflow_mul-set-else-workers-w : goal.overflow_mul-set-else-workers-w
overflow_mul-set-else-workers-w c = omega (arith, small _ _ _ c.loop-w.invariant)

pub loop-w-preserved : goal.loop-w-preserved
loop-w-preserved c =
    again c.args.workers _ _ c.loop-w.invariant c.loop-w-test.true false c.if-workers-w.false _ (omega arith)

pub returns : goal.returns
returns c =
    rw (whole c.args.workers _ _ c.loop-w.invariant c.loop-w-test.false)
