-- `filling::numbers::note_start` meets its contract.
use mathlib.Core.Path.{◌≡◌, sym, ◌∙◌}
use Prim.Native.Nat.{ℕ, ◌<◌}
use mathlib.Core.List.{List}
use mathlib.Core.Bool.{true, false}
use lib.ListN.{set}
use Rattle.table.specs.Sum.{pick}
use Rattle.table.specs.Format.{is, Table, table_of, kind}
use Rattle.table.proofs.Tests.{same_is, other_is}
use Rattle.table.specs.declared.kinds.Kind.{Kind}
use Rattle.table.specs.declared.kinds.Kind.TheVariants.{Fork as fork}
use Rattle.filling.proofs.Reading.{kind_read, argument_read}
use Rattle.filling.proofs.numbers.note_start.Goals as goal

module _ (T : Table) (a : ℕ) (k : Kind) (starts : List ℕ) (root : ℕ) (e : k ≡ kind T a) where
  forked : (x : ℕ) → k ≡ fork → x ≡ T.argument a → set starts x root ≡ pick (is fork (kind T a)) (set starts (T.argument a) root) starts
  forked x q d = let z : is fork (kind T a) ≡ true = same_is fork _ (sym e ∙ q) in rw (z, d)

  other : (k ≡ fork → ⊥) → starts ≡ pick (is fork (kind T a)) (set starts (T.argument a) root) starts
  other q = let z : is fork (kind T a) ≡ false = other_is fork _ (λ d. q (e ∙ d)) in rw z

child : (T : Table) (a : ℕ) (k : Kind) (x : ℕ) → (kind T a ≡ fork → T.argument a < 1024) → k ≡ kind T a → k ≡ fork → x ≡ T.argument a → x < 1024
child T a k x h e q d = rw d (h (sym e ∙ q))

pub bounds-starts-argument : goal.bounds-starts-argument
bounds-starts-argument c =
    child (table_of c.args.table.now) _ _ _ c.requires.a_bound (kind_read c.args.table.now c.requires.n_value _ c.kind.ensures) c.in-Fork.is (argument_read c.args.table.now c.requires.n_value _ c.argument.ensures).value

pub returns-in-Fork : goal.returns-in-Fork
returns-in-Fork c =
    forked (table_of c.args.table.now) _ _ c.args.starts.now _ (kind_read c.args.table.now c.requires.n_value _ c.kind.ensures) _ c.in-Fork.is (argument_read c.args.table.now c.requires.n_value _ c.argument.ensures).value

pub returns-in_default : goal.returns-in_default
returns-in_default c =
    other (table_of c.args.table.now) _ _ c.args.starts.now _ (kind_read c.args.table.now c.requires.n_value _ c.kind.ensures) c.in_default.not-Fork
