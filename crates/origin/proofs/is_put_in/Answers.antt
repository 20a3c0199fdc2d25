-- `origin::is_put_in` meets its contract.
use mathlib.Core.Path.{◌≡◌, ◌∙◌, sym, ap}
use Prim.Native.Nat.{ℕ, ◌≤◌, ◌<◌}
use mathlib.Core.Bool.{Bool, true, false, ◌||◌}
use lib.Dec.{leb}
use borrow.Author.Tests.{le-leb, lt-leb}
use Rattle.table.specs.Format.{is, kind, kind_of, Table, table_of}
use Rattle.table.specs.declared.kinds.Kind.{Kind}
use Rattle.table.specs.declared.kinds.Kind.TheVariants.{Fork as fork, Join as join}
use Rattle.table.proofs.Parts.{code_from, argument_from}
use Rattle.origin.specs.Origin.{bodies_to, put_in}
use Rattle.origin.proofs.is_put_in.Goals as goal

module _ (T : Table) (g a b : ℕ) (e : b ≡ bodies_to T g) where
  within : b ≤ a → true ≡ put_in T g a
  unfolding put_in
  within h = rw (← e, le-leb b a h)

  module _ (h : a < b) (k : Kind) (f : k ≡ kind T a) where
    named : (x : ℕ) (r : Bool) → (is fork k || is join k) ≡ true → x ≡ T.argument a → r ≡ leb g x → r ≡ put_in T g a
    unfolding put_in
    named x r p q o = rw (← e, lt-leb b a h, ← f, p, ← q) o

    other : (is fork k || is join k) ≡ false → false ≡ put_in T g a
    unfolding put_in
    other p = rw (← e, lt-leb b a h, ← f, p)

pub returns-then-bodies_to-a : goal.returns-then-bodies_to-a
returns-then-bodies_to-a c = within (table_of c.args.table.now) _ _ _ c.bodies_to.ensures c.if-bodies_to-a.true

pub returns-then-names_thread : goal.returns-then-names_thread
returns-then-names_thread c =
    let s = c.args.table.now in
    named (table_of s) _ _ _ c.bodies_to.ensures c.if-bodies_to-a.false _ (c.kind.ensures ∙ ap kind_of (code_from s _ c.requires _)) _ _
    (sym c.names_thread.ensures ∙ c.if-names_thread.true) (c.argument.ensures.value ∙ argument_from s _ c.requires _) c.at_least.ensures

pub returns : goal.returns
returns c =
    let s = c.args.table.now in
    other (table_of s) _ _ _ c.bodies_to.ensures c.if-bodies_to-a.false _ (c.kind.ensures ∙ ap kind_of (code_from s _ c.requires _))
    (sym c.names_thread.ensures ∙ c.if-names_thread.false)
