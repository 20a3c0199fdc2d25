-- `soundness::bodies::waits_at_join` meets its contract: each way out is the definition's at the status and the kind found.
use mathlib.Core.Path.{◌≡◌, sym, ◌∙◌}
use Prim.Native.Nat.{ℕ, ◌<◌}
use mathlib.Core.List.{List}
use mathlib.Core.Bool.{true, false, not}
use native.Mathlib.Omega.{arith}
use borrow.Author.Tests.{eq-eqb, ne_eqb}
use lib.Dec.{eqb}
use lib.ListN.{get_or}
use Rattle.table.specs.Format.{kind, table_of}
use Rattle.table.specs.declared.kinds.Kind.{Kind}
use Rattle.table.specs.declared.kinds.Kind.TheVariants.{Join as join}
use Rattle.table.proofs.Tests.{same_is, other_is}
use Rattle.table.proofs.Bodies.{join_below}
use Rattle.schedule.specs.Machine.{waiting, ended}
use Rattle.schedule.specs.Sound.{waits_at_join}
use Rattle.soundness.specs.Code.Checks.{Accepted, Placed}
use Rattle.soundness.proofs.Lookups.{Body, accepted_lawful, accepted_body, kind_read, argument_read, placed}
use Rattle.soundness.proofs.bodies.waits_at_join.Goals as goal

-- the thread that is joined
child : {s : List ℕ} {n t : ℕ} (next : List ℕ) (k : Accepted s n) → t < n → Placed s n next → (a : ℕ) → a ≡ get_or next t 0 → kind (table_of s) a ≡ join → (table_of s).argument a < 1024
child {s} {n} {t} next k h p a v j =
    let b : Body (table_of s) t = accepted_body k h in
    let c = join_below (table_of s) k.rules.contents k.rules.bodies a (omega (arith, (placed k h next p).1)) j in
    omega (arith, c, (accepted_lawful k).few_threads)

module _ (s : List ℕ) (t : ℕ) (next status : List ℕ) where
  not_waiting : (get_or status t 0 ≡ waiting → ⊥) → true ≡ waits_at_join (table_of s) next status t
  unfolding waits_at_join
  not_waiting w = rw (ne_eqb (get_or status t 0) waiting w)

  module _ (w : get_or status t 0 ≡ waiting) (a : ℕ) (k : Kind) (v : a ≡ get_or next t 0) (e : k ≡ kind (table_of s) a) where
    no_join : (k ≡ join → ⊥) → false ≡ waits_at_join (table_of s) next status t
    unfolding waits_at_join
    no_join f = rw (eq-eqb (get_or status t 0) waiting w, ← v, ← e, other_is join k f)

    at_join : k ≡ join → (x : ℕ) → x ≡ (table_of s).argument a → not (eqb (get_or status x 0) ended) ≡ waits_at_join (table_of s) next status t
    unfolding waits_at_join
    at_join f x d = rw (eq-eqb (get_or status t 0) waiting w, ← v, ← e, same_is join k f, d)

pub bounds-status-t : goal.bounds-status-t
bounds-status-t c = (accepted_body c.requires.accepted c.requires.t_lt_n).few

pub returns-then-status-t-ne-WAITING : goal.returns-then-status-t-ne-WAITING
returns-then-status-t-ne-WAITING c =
    not_waiting _ _ c.args.next.now c.args.status.now c.if-status-t-ne-WAITING.true

pub offset_bounds-next-t : goal.offset_bounds-next-t
offset_bounds-next-t c = omega (arith, (accepted_body c.requires.accepted c.requires.t_lt_n).few)

pub bounds-next-t : goal.bounds-next-t
bounds-next-t c = (accepted_body c.requires.accepted c.requires.t_lt_n).few

pub returns-in_default : goal.returns-in_default
returns-in_default c =
    no_join c.args.table.now _ c.args.next.now c.args.status.now c.if-status-t-ne-WAITING.false _ _ c.wide-a.ensures.value (kind_read c.requires.accepted _ c.kind.ensures) c.in_default.not-Join

pub bounds-status-c : goal.bounds-status-c
bounds-status-c c =
    let j = sym (kind_read c.requires.accepted _ c.kind.ensures) ∙ c.in-Join.is in
    omega (arith, (argument_read c.requires.accepted _ c.argument-c.ensures).value, child c.args.next.now c.requires.accepted c.requires.t_lt_n c.requires.placed _ c.wide-a.ensures.value j)

pub returns : goal.returns
returns c =
    at_join c.args.table.now _ c.args.next.now c.args.status.now c.if-status-t-ne-WAITING.false _ _ c.wide-a.ensures.value
    (kind_read c.requires.accepted _ c.kind.ensures) c.in-Join.is _ (argument_read c.requires.accepted _ c.argument-c.ensures).value
