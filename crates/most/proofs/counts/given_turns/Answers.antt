use mathlib.Core.Path.{◌≡◌, refl, ap, ◌∙◌}
use Prim.Native.Nat.{ℕ, ◌+◌, ◌≤◌, ◌<◌}
use native.Mathlib.Numerals.{add-one}
use native.Mathlib.Omega.{arith}
use mathlib.Core.List.{List}
use Rattle.table.specs.Sum.{sum_to, Read}
use Rattle.table.specs.Format.{table_of}
use Rattle.order.specs.Turns.{turns_of}
use Rattle.most.specs.Code.Steps.{turns_at}
use Rattle.most.proofs.TurnCounts.{turns_sum}
use Rattle.most.proofs.counts.given_turns.Invariants.{Inv}
use Rattle.most.proofs.counts.given_turns.Goals as goal

start : (s : List ℕ) (n m : ℕ) → n ≡ (table_of s).threads → Read (table_of s).actions 65536 m → Inv s n m 0 0
unfolding sum_to
start s n m e r = record { threads = e; actions = r; within = omega arith; added = refl; few = omega arith }

again : (s : List ℕ) (n m turns a x : ℕ) → Inv s n m turns a → a < m → Read (turns_at (table_of s) a) 3 x → Inv s n m (turns + x) (a + 1)
unfolding sum_to
again s n m turns a x i h r =
    record { threads = i.threads; actions = i.actions; within = omega arith; added = rw (add-one a) (omega (arith, i.added, r.value)); few = omega (arith, i.few, r.small) }

ends : (s : List ℕ) (n m turns a : ℕ) → Inv s n m turns a → m ≤ a → Read (turns_of (table_of s)) 131072 turns
ends s n m turns a i h =
    let e : a ≡ (table_of s).actions = omega (arith, i.within, i.actions.value) in
    record { value = i.added ∙ ap (sum_to (turns_at (table_of s))) e ∙ turns_sum (table_of s); small = omega (arith, i.few, i.within, i.actions.small) }

pub loop-a-init : goal.loop-a-init
loop-a-init c = start _ _ _ c.requires.n_value c.requires.read

pub turns_at-turns-requires : goal.turns_at-turns-requires
turns_at-turns-requires c = c.loop-a.invariant.threads

pub overflow_add-turns : goal.overflow_add-turns
overflow_add-turns c = let i = c.loop-a.invariant in omega (arith, i.few, i.within, i.actions.small, c.turns_at-turns.ensures.small)

pub loop-a-preserved : goal.loop-a-preserved
loop-a-preserved c = again _ _ _ _ _ _ c.loop-a.invariant c.loop-a-test.true c.turns_at-turns.ensures

pub returns : goal.returns
returns c = ends _ _ _ _ _ c.loop-a.invariant c.loop-a-test.false
