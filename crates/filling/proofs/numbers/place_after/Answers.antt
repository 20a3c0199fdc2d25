-- `filling::numbers::place_after` meets its contract. In the same thread the root goes on; after an end it is the next thread's start.
use Prim.Native.Nat.{ℕ, ◌+◌, ◌≤◌, ◌<◌}
use mathlib.Core.List.{List}
use native.Mathlib.Omega.{arith}
use Rattle.table.specs.Format.{table_of}
use Rattle.table.specs.Checks.{owner}
use Rattle.filling.specs.Code.Steps.{Ready, At, Sums, Starts}
use Rattle.filling.proofs.Reading.{kind_read}
use Rattle.filling.proofs.Numbering.{sums_from, root_between, at_next, at_last, at_thread, l}
use mathlib.Core.Path.{sym, ◌∙◌}
use Rattle.table.specs.declared.kinds.Kind.TheVariants.{End as end}
use Rattle.table.proofs.Tests.{other_is}
use Rattle.table.proofs.Bodies.{owner_below_lem}
use Rattle.filling.proofs.numbers.place_after.Goals as goal

module _ (s : List ℕ) (n K a thread root : ℕ) (sums starts : List ℕ)
    (p : Ready s n K × ((a < (table_of s).actions) × (At (table_of s) K a thread root × (Sums (table_of s) K sums 0 × Starts (table_of s) K (a + 1) starts)))) where
  asks : Ready s n K × ((a < (table_of s).actions) × Sums (table_of s) K sums (owner (table_of s) a + 1))
  asks = (p.0, (p.1.0, sums_from s n K p.0 sums 0 (owner (table_of s) a + 1) (omega arith) p.1.1.1.0))

  low : (root ≤ 1024) × (thread < 1024)
  low = (
    omega (arith, p.1.1.0.root_is, (root_between s n K p.0 a p.1.0).1, p.0.few_threads),
    omega (arith, p.1.1.0.owner_is, owner_below_lem (table_of s) (l s n K p.0).contents a p.1.0, (l s n K p.0).few_threads),
  )

pub step-requires : goal.step-requires
step-requires c = let both = asks c.args.table.now _ _ _ _ _ c.args.sums.now c.args.starts.now (c.requires.ready, (c.requires.a_bound, (c.requires.at, (c.requires.sums, c.requires.starts)))) in record { ready = both.0; a_bound = both.1.0; sums = both.1.1 }

pub overflow_add-result : goal.overflow_add-result
overflow_add-result c =
    omega (arith, (low c.args.table.now _ _ _ _ _ c.args.sums.now c.args.starts.now (c.requires.ready, (c.requires.a_bound, (c.requires.at, (c.requires.sums, c.requires.starts))))).0, c.step.ensures.small)

pub returns-in_default : goal.returns-in_default
returns-in_default c =
    λ j. at_next c.args.table.now _ _ c.requires.ready _ _ _ c.requires.a_bound c.requires.at _ (other_is end _ (λ e. c.in_default.not-End ((kind_read c.args.table.now c.requires.ready.threads _ c.kind.ensures) ∙ e))) c.step.ensures.value

pub overflow_add-t : goal.overflow_add-t
overflow_add-t c =
    omega (arith, (low c.args.table.now _ _ _ _ _ c.args.sums.now c.args.starts.now (c.requires.ready, (c.requires.a_bound, (c.requires.at, (c.requires.sums, c.requires.starts))))).1)

pub returns-else-n-t : goal.returns-else-n-t
returns-else-n-t c =
    λ j. at_thread c.args.table.now _ _ c.requires.ready _ _ _ c.requires.a_bound c.requires.at c.args.starts.now c.requires.starts
    (sym (kind_read c.args.table.now c.requires.ready.threads _ c.kind.ensures) ∙ c.in-End.is) c.if-n-t.false

pub returns-then-n-t : goal.returns-then-n-t
returns-then-n-t c =
    λ j. absurd (at_last c.args.table.now _ _ c.requires.ready _ _ _ c.requires.a_bound c.requires.at
    (sym (kind_read c.args.table.now c.requires.ready.threads _ c.kind.ensures) ∙ c.in-End.is) c.if-n-t.true j)
