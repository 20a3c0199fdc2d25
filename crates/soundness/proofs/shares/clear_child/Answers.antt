-- `soundness::shares::clear_child` meets its contract: a join's store clears its child, and any other action has nothing to clear.
use mathlib.Core.Path.{◌≡◌, sym, ◌∙◌}
use Prim.Native.Nat.{ℕ, ◌+◌, ◌<◌}
use mathlib.Core.List.{List}
use mathlib.Core.Bool.{true}
use native.Mathlib.Omega.{arith}
use lib.ListN.{set}
use Rattle.table.specs.Format.{kind, table_of}
use Rattle.table.specs.declared.kinds.Kind.{Kind}
use Rattle.table.specs.declared.kinds.Kind.TheVariants.{Join as join}
use Rattle.table.proofs.Tests.{other_is}
use Rattle.table.proofs.Bodies.{join_below}
use Rattle.schedule.specs.Sound.{done_in}
use Rattle.order.proofs.Lawful.{Lawful}
use Rattle.soundness.specs.Code.Checks.{Accepted}
use Rattle.soundness.specs.Code.Balancing.{Cleared}
use Rattle.soundness.proofs.Lookups.{accepted_lawful, kind_read, argument_read}
use Rattle.soundness.proofs.Clearing.{cleared_join, cleared_other}
use Rattle.soundness.proofs.shares.clear_child.Goals as goal

module _ (s : List ℕ) (n a : ℕ) (k : Kind) (next status amounts : List ℕ) (r : Accepted s n) (h : (a < (table_of s).actions) × (done_in (table_of s) next status a ≡ true))
    (v : Cleared (table_of s) next status amounts a) (e : k ≡ kind (table_of s) a) where
  l : Lawful (table_of s)
  l = accepted_lawful r

  few : (x : ℕ) → x ≡ (table_of s).argument a → k ≡ join → x < 1024
  few x d f = omega (arith, join_below (table_of s) l.contents l.bodies a h.0 (sym e ∙ f), l.few_threads)

  clears : (x : ℕ) → x ≡ (table_of s).argument a → k ≡ join → Cleared (table_of s) next status (set amounts x 0) (a + 1)
  clears x d f = rw d (cleared_join (table_of s) l next status amounts a v h.0 (sym e ∙ f) h.1)

  same : (k ≡ join → ⊥) → Cleared (table_of s) next status amounts (a + 1)
  same f = cleared_other (table_of s) l next status amounts a v (other_is join (kind (table_of s) a) (λ d. f (e ∙ d)))

pub bounds-amounts-c : goal.bounds-amounts-c
bounds-amounts-c c =
    few c.args.table.now _ _ _ c.args.next.now c.args.status.now c.args.amounts.now c.requires.accepted c.requires.a_bound c.requires.cleared
    (kind_read c.requires.accepted _ c.kind.ensures) _ (argument_read c.requires.accepted _ c.argument-c.ensures).value c.in-Join.is

pub returns-in-Join : goal.returns-in-Join
returns-in-Join c =
    clears c.args.table.now _ _ _ c.args.next.now c.args.status.now c.args.amounts.now c.requires.accepted c.requires.a_bound c.requires.cleared
    (kind_read c.requires.accepted _ c.kind.ensures) _ (argument_read c.requires.accepted _ c.argument-c.ensures).value c.in-Join.is

pub returns-in_default : goal.returns-in_default
returns-in_default c =
    same c.args.table.now _ _ _ c.args.next.now c.args.status.now c.args.amounts.now c.requires.accepted c.requires.a_bound c.requires.cleared
    (kind_read c.requires.accepted _ c.kind.ensures) c.in_default.not-Join
