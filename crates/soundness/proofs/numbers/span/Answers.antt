-- `soundness::numbers::span` meets its contract: an action comes alone, or with the child that it forks, whose thread is above its own.
use mathlib.Core.Path.{◌≡◌, sym, ◌∙◌}
use Prim.Native.Nat.{ℕ, ◌+◌, ◌≤◌, ◌<◌}
use mathlib.Core.List.{List}
use native.Mathlib.Omega.{arith}
use lib.ListN.{length, get_or}
use Rattle.table.specs.Format.{kind, table_of}
use Rattle.table.specs.declared.kinds.Kind.{Kind}
use Rattle.table.specs.declared.kinds.Kind.TheVariants.{Fork as fork}
use Rattle.table.proofs.Tests.{other_is}
use Rattle.table.specs.Checks.{owner}
use Rattle.table.specs.Serial.{serial}
use Rattle.order.proofs.Lawful.{Lawful}
use Rattle.soundness.specs.Code.Checks.{Accepted, Lengths}
use Rattle.soundness.specs.Code.Order.{Inside}
use Rattle.soundness.proofs.Lookups.{accepted_lawful, kind_read, argument_read}
use Rattle.soundness.proofs.Spans.{inside_fork, span_step, span_fork, child_small}
use Rattle.soundness.proofs.numbers.span.Goals.{After-argument}
use Rattle.soundness.proofs.numbers.span.Goals as goal

-- what holds at a fork of thread x
record Forked (s : List ℕ) (a x : ℕ) (lengths : List ℕ) : Type 0 where
  below : x < 1024
  child : get_or lengths x 0 ≤ 8192
  both : length (serial (table_of s) a) ≡ 1 + get_or lengths x 0 + length (serial (table_of s) (a + 1))

module _ (s : List ℕ) (n a : ℕ) (lengths : List ℕ)
    (p : Accepted s n × (Inside (table_of s) (owner (table_of s) a) a × Lengths (table_of s) lengths (owner (table_of s) a + 1))) where
  lawful : Lawful (table_of s)
  lawful = accepted_lawful p.0

  alone : (k : Kind) → k ≡ kind (table_of s) a → (k ≡ fork → ⊥) → length (serial (table_of s) a) ≡ 1 + length (serial (table_of s) (a + 1))
  alone k e d = span_step (table_of s) lawful _ a p.1.0 (rw e at (other_is fork k d))

  forked : (k : Kind) (x : ℕ) → k ≡ kind (table_of s) a → k ≡ fork → x ≡ (table_of s).argument a → Forked s a x lengths
  forked k x e d r =
      let forks : kind (table_of s) a ≡ fork = sym e ∙ d in
      let (above, below) = inside_fork (table_of s) lawful _ a p.1.0 forks in
      let known = p.1.1.right ((table_of s).argument a) (omega arith) below in
      rw r
      (record {
        below = omega (arith, lawful.few_threads);
        child = rw known (child_small (table_of s) lawful _ a p.1.0 forks);
        both = rw known (span_fork (table_of s) lawful _ a p.1.0 forks);
      })

pub returns-in_default : goal.returns-in_default
returns-in_default c =
    alone c.args.table.now _ _ c.args.lengths.now (c.requires.accepted, (c.requires.inside, c.requires.lengths)) _ (kind_read c.requires.accepted _ c.kind.ensures) c.in_default.not-Fork

at_fork : (c : After-argument) → Forked c.args.table.now c.args.a c.argument.result
    c.args.lengths.now
at_fork c =
    forked c.args.table.now _ _ c.args.lengths.now (c.requires.accepted, (c.requires.inside, c.requires.lengths)) _ _ (kind_read c.requires.accepted _ c.kind.ensures) c.in-Fork.is (argument_read c.requires.accepted _ c.argument.ensures).value

pub bounds-lengths-argument : goal.bounds-lengths-argument
bounds-lengths-argument c = (at_fork (goal.at.bounds-lengths-argument c).After-argument).below

pub overflow_cast-result : goal.overflow_cast-result
overflow_cast-result c = omega (arith, (at_fork (goal.at.overflow_cast-result c).After-argument).child)

pub overflow_add-result : goal.overflow_add-result
overflow_add-result c = omega (arith, (at_fork (goal.at.overflow_add-result c).After-argument).child)

pub returns-in-Fork : goal.returns-in-Fork
returns-in-Fork c = (at_fork (goal.at.returns-in-Fork c).After-argument).both
