-- `filling::numbers::step` meets its contract. At a fork the child's sum, else what an alloc adds.
use mathlib.Core.Path.{◌≡◌, sym, ◌∙◌}
use Prim.Native.Nat.{ℕ, ◌+◌, ◌-◌, ◌*◌, ◌/◌, ◌<◌}
use mathlib.Core.List.{List}
use native.Mathlib.Omega.{arith}
use lib.ListN.{get_or}
use lib.Dec.{ltb}
use Rattle.table.specs.Sum.{pick, Read}
use Rattle.table.specs.Format.{Table, table_of, kind}
use Rattle.table.proofs.Tests.{other_is}
use Rattle.table.specs.declared.kinds.Kind.{Kind}
use Rattle.table.specs.declared.kinds.Kind.TheVariants.{Fork as fork}
use Rattle.table.specs.Checks.{owner, alloc_of}
use Rattle.filling.specs.Filled.{big, dummies, new_threads}
use Rattle.filling.specs.Code.Steps.{Ready, new_of, root_step, Sums}
use Rattle.filling.proofs.Reading.{kind_read, argument_read}
use Rattle.filling.proofs.Numbering.{step_fork, step_plain, child_in, new_small, new_few}
use Rattle.filling.proofs.numbers.step.Goals as goal

module _ (s : List ℕ) (n K a : ℕ) (sums : List ℕ) (p : Ready s n K × ((a < (table_of s).actions) × Sums (table_of s) K sums (owner (table_of s) a + 1))) (k : Kind) (e : k ≡ kind (table_of s) a) where
  abbrev T : Table
  T = table_of s

  module _ (x : ℕ) (q : k ≡ fork) (d : x ≡ T.argument a) where
    forks : kind T a ≡ fork
    forks = sym e ∙ q

    child : x < 1024
    child = omega (arith, (child_in s n K p.0 a p.1.0 forks).2)

    at_fork : Read (root_step T K a) 16777216 (get_or sums x 0)
    at_fork =
        let (above, below, few) = child_in s n K p.0 a p.1.0 forks in
        let z : get_or sums x 0 ≡ new_of T K (T.argument a) = rw d (p.1.1.right (T.argument a) (omega arith) below) in
        record { value = z ∙ sym (step_fork s n K p.0 a p.1.0 forks); small = omega (arith, z, new_small s n K p.0 (T.argument a) below) }

  at_plain : (k ≡ fork → ⊥) → (x y : ℕ) → x ≡ alloc_of T a → y ≡ pick (ltb K x) (2 * ((x + K - 1) / K) - 1) 0 → Read (root_step T K a) 16777216 y
  unfolding new_threads big dummies
  at_plain q x y d f =
      let z : y ≡ new_threads T K a = rw d at f in
      record { value = z ∙ sym (step_plain s n K p.0 a p.1.0 (other_is fork _ (λ d. q (e ∙ d)))); small = omega (arith, z, new_few s n K p.0 a p.1.0) }

pub bounds-sums-argument : goal.bounds-sums-argument
bounds-sums-argument c =
    child c.args.table.now _ _ _ c.args.sums.now (c.requires.ready, (c.requires.a_bound, c.requires.sums)) _ (kind_read c.args.table.now c.requires.ready.threads _ c.kind.ensures) _ c.in-Fork.is (argument_read c.args.table.now c.requires.ready.threads _ c.argument.ensures).value

pub returns-in-Fork : goal.returns-in-Fork
returns-in-Fork c =
    at_fork c.args.table.now _ _ _ c.args.sums.now (c.requires.ready, (c.requires.a_bound, c.requires.sums)) _ (kind_read c.args.table.now c.requires.ready.threads _ c.kind.ensures) _ c.in-Fork.is (argument_read c.args.table.now c.requires.ready.threads _ c.argument.ensures).value

pub returns-in_default : goal.returns-in_default
returns-in_default c =
    at_plain c.args.table.now _ _ _ c.args.sums.now (c.requires.ready, (c.requires.a_bound, c.requires.sums)) _ (kind_read c.args.table.now c.requires.ready.threads _ c.kind.ensures) c.in_default.not-Fork _ _ c.amount.ensures.value c.new_threads.ensures.value
