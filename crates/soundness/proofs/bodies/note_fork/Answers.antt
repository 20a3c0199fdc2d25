-- `soundness::bodies::note_fork` meets its contract: a fork's two stores note it, and any other action has nothing to note.
use mathlib.Core.Path.{◌≡◌, sym, ◌∙◌}
use Prim.Native.Nat.{ℕ, ◌+◌, ◌<◌}
use mathlib.Core.List.{List}
use native.Mathlib.Omega.{arith}
use lib.ListN.{set}
use Rattle.table.specs.Format.{kind, table_of}
use Rattle.table.specs.declared.kinds.Kind.{Kind}
use Rattle.table.specs.declared.kinds.Kind.TheVariants.{Fork as fork}
use Rattle.table.specs.Checks.{owner}
use Rattle.table.proofs.Bodies.{owner_below_lem, fork_below_lem}
use Rattle.order.proofs.Lawful.{Lawful}
use Rattle.soundness.specs.Code.Checks.{Accepted, Noted}
use Rattle.soundness.proofs.Lookups.{accepted_lawful, kind_read, argument_read}
use Rattle.soundness.proofs.Noting.{noted_other, noted_fork}
use Rattle.soundness.proofs.bodies.note_fork.Goals.{After-argument-c}
use Rattle.soundness.proofs.bodies.note_fork.Goals as goal

module _ (s : List ℕ) (n t a : ℕ) (k : Kind) (r : Accepted s n) (h : a < (table_of s).actions) (o : owner (table_of s) a ≡ t) (e : k ≡ kind (table_of s) a) where
  -- the numbers that a fork stores, and where
  small : (x : ℕ) → x ≡ (table_of s).argument a → k ≡ fork → (x < 1024) × (a < 65536) × (t < 65536)
  small x d f =
      let l : Lawful (table_of s) = accepted_lawful r in
      let j = fork_below_lem (table_of s) l.contents l.bodies a h (sym e ∙ f) in
      (omega (arith, j, l.few_threads), omega (arith, l.few_actions), omega (arith, owner_below_lem (table_of s) l.contents a h, l.few_threads))

  noted : (x : ℕ) → x ≡ (table_of s).argument a → k ≡ fork → (xs ys : List ℕ) → Noted (table_of s) xs ys a → Noted (table_of s) (set xs x a) (set ys x t) (a + 1)
  noted x d f xs ys w = rw (d, ← o) (noted_fork (table_of s) (accepted_lawful r) xs ys a w h (sym e ∙ f))

  same : (k ≡ fork → ⊥) → (xs ys : List ℕ) → Noted (table_of s) xs ys a → Noted (table_of s) xs ys (a + 1)
  same f xs ys w = noted_other (table_of s) (accepted_lawful r) xs ys a w h (λ d. f (e ∙ d))

-- at the stores
bounds : (c : After-argument-c) → (c.argument-c.result < 1024) × (c.args.a < 65536) × (c.args.t < 65536)
bounds c =
    small c.args.table.now _ _ _ _ c.requires.accepted c.requires.a_bound c.requires.a_value (kind_read c.requires.accepted _ c.kind.ensures) _ (argument_read c.requires.accepted _ c.argument-c.ensures).value c.in-Fork.is

pub overflow_cast-forks : goal.overflow_cast-forks
overflow_cast-forks c = omega (arith, bounds (goal.at.overflow_cast-forks c).After-argument-c)

pub offset_bounds-forks-c : goal.offset_bounds-forks-c
offset_bounds-forks-c c = omega (arith, bounds (goal.at.offset_bounds-forks-c c).After-argument-c)

pub bounds-forks-c : goal.bounds-forks-c
bounds-forks-c c = omega (arith, bounds (goal.at.bounds-forks-c c).After-argument-c)

pub overflow_cast-parents : goal.overflow_cast-parents
overflow_cast-parents c = omega (arith, bounds (goal.at.overflow_cast-parents c).After-argument-c)

pub offset_bounds-parents-c : goal.offset_bounds-parents-c
offset_bounds-parents-c c = omega (arith, bounds (goal.at.offset_bounds-parents-c c).After-argument-c)

pub bounds-parents-c : goal.bounds-parents-c
bounds-parents-c c = omega (arith, bounds (goal.at.bounds-parents-c c).After-argument-c)

pub returns-in-Fork : goal.returns-in-Fork
returns-in-Fork c =
    noted c.args.table.now _ _ _ _ c.requires.accepted c.requires.a_bound c.requires.a_value (kind_read c.requires.accepted _ c.kind.ensures) _ (argument_read c.requires.accepted _ c.argument-c.ensures).value c.in-Fork.is
    c.args.forks.now c.args.parents.now c.requires.noted

pub returns-in_default : goal.returns-in_default
returns-in_default c =
    same _ _ _ _ _ c.requires.accepted c.requires.a_bound c.requires.a_value (kind_read c.requires.accepted _ c.kind.ensures) c.in_default.not-Fork c.args.forks.now c.args.parents.now c.requires.noted
