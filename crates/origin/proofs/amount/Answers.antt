-- `origin::amount` meets its contract: an alloc's argument, 0 of any other kind.
use mathlib.Core.Path.{◌≡◌, sym, ap, ◌∙◌}
use Prim.Native.Nat.{ℕ}
use native.Mathlib.Omega.{arith}
use Rattle.table.specs.Format.{kind_of, kind, Table, table_of}
use Rattle.table.specs.declared.kinds.Kind.{Kind}
use Rattle.table.specs.declared.kinds.Kind.TheVariants.{Alloc as alloc}
use Rattle.table.specs.Checks.{alloc_of}
use Rattle.table.proofs.Tests.{same_is, other_is}
use Rattle.table.proofs.Parts.{code_from, argument_from}
use Rattle.origin.proofs.amount.Goals as goal

module _ (T : Table) (a : ℕ) (k : Kind) (e : k ≡ kind T a) where
  others : (k ≡ alloc → ⊥) → 0 ≡ alloc_of T a
  unfolding alloc_of
  others d = rw (other_is alloc (kind T a) (λ q. d (e ∙ q)))

  alloc_is : (x : ℕ) → k ≡ alloc → x ≡ T.argument a → x ≡ alloc_of T a
  unfolding alloc_of
  alloc_is x q d = rw (same_is alloc (kind T a) (sym e ∙ q), d)

pub returns-in-Alloc : goal.returns-in-Alloc
returns-in-Alloc c =
    let e = c.kind.ensures ∙ ap kind_of (code_from c.args.table.now _ c.requires _) in
    let x = c.argument.ensures.value ∙ argument_from c.args.table.now _ c.requires _ in
    record { value = alloc_is (table_of c.args.table.now) _ _ e _ c.in-Alloc.is x; small = c.argument.ensures.small }

pub returns-in_default : goal.returns-in_default
returns-in_default c =
    let e = c.kind.ensures ∙ ap kind_of (code_from c.args.table.now _ c.requires _) in
    record { value = others (table_of c.args.table.now) _ _ e c.in_default.not-Alloc; small = omega arith }
