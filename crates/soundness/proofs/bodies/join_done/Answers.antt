-- `soundness::bodies::join_done` meets its contract: a child owns its end.
use mathlib.Core.Path.{◌≡◌, sym, ◌∙◌}
use Prim.Native.Nat.{ℕ, ◌<◌}
use mathlib.Core.List.{List}
use mathlib.Core.Bool.{Bool, true}
use Rattle.table.specs.Format.{kind, table_of}
use Rattle.table.specs.declared.kinds.Kind.{Kind}
use Rattle.table.specs.declared.kinds.Kind.TheVariants.{Join as join}
use Rattle.table.proofs.Tests.{same_is, other_is}
use Rattle.table.specs.Checks.{owner, end_of}
use Rattle.table.proofs.Bodies.{owner_of_end, join_below}
use Rattle.schedule.specs.Sound.{done_in}
use Rattle.soundness.specs.Code.Checks.{Accepted, done_at, join_done}
use Rattle.soundness.proofs.Lookups.{accepted_lawful, kind_read, argument_read, body}
use Rattle.soundness.proofs.bodies.join_done.Goals.{After-argument-c}
use Rattle.soundness.proofs.bodies.join_done.Goals as goal

module _ (s : List ℕ) (n a : ℕ) (k : Kind) (r : Accepted s n) (h : a < (table_of s).actions) (e : k ≡ kind (table_of s) a) where
  other : (next status : List ℕ) → (k ≡ join → ⊥) → true ≡ join_done (table_of s) next status a
  other next status f = rw (← e, other_is join k f)

  module _ (f : k ≡ join) (x : ℕ) (d : x ≡ (table_of s).argument a) where
    child : x < (table_of s).threads
    child = rw d (join_below (table_of s) r.rules.contents r.rules.bodies a h (sym e ∙ f))

    ended : (next status : List ℕ) (b : Bool) (end : ℕ) → end ≡ end_of (table_of s) x → b ≡ done_at next status x end
        → b ≡ join_done (table_of s) next status a
    unfolding done_in
    ended next status b end p q =
        let o : owner (table_of s) (end_of (table_of s) x) ≡ x = owner_of_end (table_of s) r.rules.contents x child in
        rw (← e, same_is join k f, ← d, o, ← p) q

pub returns-in_default : goal.returns-in_default
returns-in_default c =
    other _ _ _ _ c.requires.accepted c.requires.a_bound (kind_read c.requires.accepted _ c.kind.ensures) c.args.next.now c.args.status.now c.in_default.not-Join

the_child : (c : After-argument-c) → c.argument-c.result < (table_of c.args.table.now).threads
the_child c =
    child _ _ _ _ c.requires.accepted c.requires.a_bound (kind_read c.requires.accepted _ c.kind.ensures) c.in-Join.is _ (argument_read c.requires.accepted _ c.argument-c.ensures).value

pub end_of-requires : goal.end_of-requires
end_of-requires c = record { rules = c.requires.accepted.rules; t_bound = the_child (goal.at.end_of-requires c).After-argument-c }

pub is_done-requires : goal.is_done-requires
is_done-requires c = (body (accepted_lawful c.requires.accepted) (the_child (goal.at.is_done-requires c).After-argument-c)).few

pub returns : goal.returns
returns c =
    ended _ _ _ _ c.requires.accepted c.requires.a_bound (kind_read c.requires.accepted _ c.kind.ensures) c.in-Join.is _ (argument_read c.requires.accepted _ c.argument-c.ensures).value
    c.args.next.now c.args.status.now _ _ c.end_of.ensures c.is_done.ensures
