use Prim.Native.Nat.{ℕ, ◌+◌, ◌≤◌, ◌<◌}
use mathlib.Core.Path.{◌≡◌}
use mathlib.Core.List.{List}
use native.Mathlib.Omega.{arith}
use Rattle.table.specs.Format.{table_of}
use Rattle.table.specs.Checks.{owner, end_of}
use Rattle.soundness.specs.Code.Checks.{Accepted}
use Rattle.soundness.specs.Code.Order.{NumbersTo}
use Rattle.soundness.proofs.Lookups.{accepted_lawful}
use Rattle.soundness.proofs.Marks.{numbers_owner, numbers_here, numbers_on}
use Rattle.soundness.proofs.numbers.advance.Invariants.{Inv}
use Rattle.soundness.proofs.numbers.advance.Goals as goal

module _ (s : List ℕ) (n t to a number : ℕ) (before numbers : List ℕ) (k : Accepted s n) (i : Inv s t to a number before numbers) where
  own : owner (table_of s) a ≡ t
  own = numbers_owner (table_of s) (accepted_lawful k) t a number before numbers i.numbered

  ready : a < to → to ≤ end_of (table_of s) t
      → (a < end_of (table_of s) (owner (table_of s) a)) × NumbersTo (table_of s) (owner (table_of s) a) a number numbers numbers
  ready h e = rw own (omega arith, numbers_here i.numbered)

  again : a < to → (r : ℕ) (after : List ℕ) → NumbersTo (table_of s) (owner (table_of s) a) (a + 1) r numbers after → Inv s t to (a + 1) r before after
  again h r after w =
      let v : NumbersTo (table_of s) t (a + 1) r numbers after = rw own at w in
      record { within = omega arith; numbered = numbers_on i.numbered v }

  ended : to ≤ a → NumbersTo (table_of s) t to number before numbers
  ended h =
      let e : a ≡ to = omega (arith, i.within) in
      rw e at i.numbered

pub loop-a-init : goal.loop-a-init
loop-a-init c = record { within = c.requires.from_le_to.0; numbered = c.requires.numbers_to }

pub pass-number-requires : goal.pass-number-requires
pass-number-requires c =
    let both = ready c.args.table.now _ _ _ _ _ c.args.numbers.now _ c.requires.accepted c.loop-a.invariant c.loop-a-test.true c.requires.from_le_to.1 in
    record { accepted = c.requires.accepted; a_bound = both.0; numbers_to = both.1 }

pub loop-a-preserved : goal.loop-a-preserved
loop-a-preserved c =
    again c.args.table.now _ _ _ _ _ c.args.numbers.now _ c.requires.accepted c.loop-a.invariant c.loop-a-test.true _ _
    c.pass-number.ensures

pub returns : goal.returns
returns c =
    ended c.args.table.now _ _ _ _ _ c.args.numbers.now _ c.requires.accepted c.loop-a.invariant c.loop-a-test.false
