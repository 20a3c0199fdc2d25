-- `soundness::numbers::pass` meets its contract: after an action that forks nothing the number is one more; a fork leaves a place for each action of the child.
use mathlib.Core.Path.{◌≡◌, sym, ◌∙◌}
use Prim.Native.Nat.{ℕ, ◌+◌, ◌≤◌, ◌<◌}
use mathlib.Core.List.{List}
use native.Mathlib.Omega.{arith}
use lib.ListN.{get_or, set}
use Rattle.table.specs.Format.{kind, table_of}
use Rattle.table.specs.declared.kinds.Kind.{Kind}
use Rattle.table.specs.declared.kinds.Kind.TheVariants.{Fork as fork}
use Rattle.table.proofs.Tests.{other_is}
use Rattle.table.specs.Checks.{owner, end_of}
use Rattle.order.proofs.Lawful.{Lawful}
use Rattle.soundness.specs.Code.Checks.{Accepted}
use Rattle.soundness.specs.Code.Order.{Inside, NumbersTo}
use Rattle.soundness.proofs.Lookups.{accepted_lawful, kind_read, argument_read}
use Rattle.soundness.proofs.Spans.{inside_within, inside_fork, child_small}
use Rattle.soundness.proofs.Marks.{numbers_inside, numbers_small, numbers_step, numbers_fork}
use Rattle.soundness.proofs.numbers.pass.Goals.{After-argument-c}
use Rattle.soundness.proofs.numbers.pass.Goals as goal

-- what holds at a fork of thread x
record Forked (s : List ℕ) (a number x : ℕ) (numbers : List ℕ) : Type 0 where
  below : x < 1024
  small : number < 8192
  child : get_or numbers x 0 ≤ 8192
  over : NumbersTo (table_of s) (owner (table_of s) a) (a + 1) (number + 1 + get_or numbers x 0) numbers (set numbers x (number + 1))

module _ (s : List ℕ) (n a number : ℕ) (numbers : List ℕ)
    (p : Accepted s n × ((a < end_of (table_of s) (owner (table_of s) a)) × NumbersTo (table_of s) (owner (table_of s) a) a number numbers numbers)) where
  lawful : Lawful (table_of s)
  lawful = accepted_lawful p.0

  inside : Inside (table_of s) (owner (table_of s) a) a
  inside = numbers_inside p.1.1 p.1.0

  within : a < (table_of s).actions
  within = inside_within (table_of s) lawful _ a inside

  small : number < 8192
  small = numbers_small (table_of s) lawful _ a number numbers numbers p.1.1

  step : (k : Kind) → k ≡ kind (table_of s) a → (k ≡ fork → ⊥) → NumbersTo (table_of s) (owner (table_of s) a) (a + 1) (number + 1) numbers numbers
  step k e d = numbers_step (table_of s) lawful _ a number numbers numbers p.1.1 p.1.0 (rw e at (other_is fork k d))

  forked : (k : Kind) (x : ℕ) → k ≡ kind (table_of s) a → k ≡ fork → x ≡ (table_of s).argument a → Forked s a number x numbers
  forked k x e d r =
      let forks : kind (table_of s) a ≡ fork = sym e ∙ d in
      let (above, below) = inside_fork (table_of s) lawful _ a inside forks in
      rw r
      (record {
        below = omega (arith, lawful.few_threads);
        small = small;
        child = rw (p.1.1.marked.ahead a (omega arith) within forks above) (child_small (table_of s) lawful _ a inside forks);
        over = numbers_fork (table_of s) lawful _ a number numbers numbers p.1.1 p.1.0 forks;
      })

pub overflow_add-after : goal.overflow_add-after
overflow_add-after c = omega (arith, small c.args.table.now _ _ _ c.args.numbers.now (c.requires.accepted, (c.requires.a_bound, c.requires.numbers_to)))

pub returns-in_default : goal.returns-in_default
returns-in_default c =
    step c.args.table.now _ _ _ c.args.numbers.now (c.requires.accepted, (c.requires.a_bound, c.requires.numbers_to)) _ (kind_read c.requires.accepted _ c.kind.ensures) c.in_default.not-Fork

at_fork : (c : After-argument-c) → Forked c.args.table.now c.args.a
    c.args.number c.argument-c.result
    c.args.numbers.now
at_fork c =
    forked c.args.table.now _ _ _ c.args.numbers.now (c.requires.accepted, (c.requires.a_bound, c.requires.numbers_to)) _ _ (kind_read c.requires.accepted _ c.kind.ensures) c.in-Fork.is (argument_read c.requires.accepted _ c.argument-c.ensures).value

pub bounds-numbers-c : goal.bounds-numbers-c
bounds-numbers-c c = (at_fork (goal.at.bounds-numbers-c c).After-argument-c).below

pub overflow_cast-length : goal.overflow_cast-length
overflow_cast-length c = omega (arith, (at_fork (goal.at.overflow_cast-length c).After-argument-c).child)

pub overflow_cast-numbers : goal.overflow_cast-numbers
overflow_cast-numbers c = omega (arith, (at_fork (goal.at.overflow_cast-numbers c).After-argument-c).small)

pub bounds-numbers-c-2 : goal.bounds-numbers-c-2
bounds-numbers-c-2 c = (at_fork (goal.at.bounds-numbers-c-2 c).After-argument-c).below

pub overflow_add-result : goal.overflow_add-result
overflow_add-result c = omega (arith, at_fork (goal.at.overflow_add-result c).After-argument-c)

pub returns : goal.returns
returns c = (at_fork (goal.at.returns c).After-argument-c).over
