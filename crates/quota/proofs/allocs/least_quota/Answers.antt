use mathlib.Core.Path.{◌≡◌, refl, ap, ◌∙◌}
use Prim.Native.Nat.{ℕ, ◌+◌, ◌≤◌, ◌<◌, max}
use native.Mathlib.Numerals.{add-one}
use mathlib.Core.List.{List}
use native.Mathlib.Omega.{arith}
use Rattle.table.specs.Sum.{greatest_to}
use Rattle.table.specs.Format.{kind_of, own_amount, threads_of, actions_of, bodies_from, code_at, argument_at, table_of}
use Rattle.table.specs.declared.kinds.Kind.TheVariants.{Alloc as alloc}
use Rattle.table.specs.Checks.{alloc_of}
use Rattle.quota.specs.Quota.{least_quota}
use Rattle.quota.proofs.allocs.least_quota.Invariants.{Inv}
use Rattle.quota.proofs.allocs.least_quota.Goals as goal

start : (s list : List ℕ) (n m : ℕ) → list ≡ bodies_from s n → n ≡ threads_of s → m ≡ actions_of s → m < 65536 → Inv s list m 1 0
unfolding greatest_to
start s list n m h e d l = record { here = rw e at h; actions = d; some = l; within = omega arith; greatest = refl }

-- an action's alloc, from its code and argument
alloc_is : (s : List ℕ) (a k x y : ℕ) → k ≡ code_at (bodies_from s (threads_of s)) a → x ≡ argument_at (bodies_from s (threads_of s)) a → y ≡ own_amount alloc (kind_of k) x → y ≡ alloc_of (table_of s) a
unfolding alloc_of table_of
alloc_is s a k x y e f h = h ∙ rw (e, f)

again : (s list : List ℕ) (m least a k x y next : ℕ) → Inv s list m least a → a < m → k ≡ code_at list a → x ≡ argument_at list a → y ≡ own_amount alloc (kind_of k) x → next ≡ max least y
    → Inv s list m next (a + 1)
unfolding greatest_to
again s list m least a k x y next i l e f h d =
    let g = alloc_is s a k x y (rw i.here at e) (rw i.here at f) h in
    record { here = i.here; actions = i.actions; some = i.some; within = omega arith; greatest = rw (add-one a) (omega (arith, i.greatest)) }

ends : (s list : List ℕ) (m least a : ℕ) → Inv s list m least a → m ≤ a → least ≡ least_quota (table_of s)
unfolding least_quota table_of
ends s list m least a i l =
    let e : a ≡ actions_of s = omega (arith, i.actions, i.within) in
    i.greatest ∙ ap (λ (k : ℕ). max 1 (greatest_to (alloc_of (table_of s)) k)) e

pub loop-a-init : goal.loop-a-init
loop-a-init c = start _ _ _ _ c.bodies-list.ensures c.threads.ensures.value c.actions-m.ensures.value c.actions-m.ensures.small

pub loop-a-preserved : goal.loop-a-preserved
loop-a-preserved c =
    again _ _ _ _ _ _ _ _ _ c.loop-a.invariant c.loop-a-test.true c.action_in.ensures.code_value c.action_in.ensures.read.value c.alloc.ensures c.max-least.ensures

pub returns : goal.returns
returns c = ends _ _ _ _ _ c.loop-a.invariant c.loop-a-test.false
