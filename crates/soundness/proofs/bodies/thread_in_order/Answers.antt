use mathlib.Core.Path.{◌≡◌, sym, ◌∙◌, ap}
use Prim.Native.Nat.{ℕ, ◌<◌}
use mathlib.Core.List.{List}
use mathlib.Core.Bool.{Bool, true, false, not}
use native.Mathlib.Omega.{arith}
use lib.Dec.{leb}
use Rattle.table.specs.Format.{table_of}
use Rattle.schedule.specs.Parents.{Parents}
use Rattle.soundness.specs.Code.Checks.{Accepted, Placed, Forks, done_to, unborn_in, unborn_at, body_in_order}
use Rattle.soundness.proofs.Lookups.{accepted_lawful, thread_below, accepted_body, placed}
use Rattle.soundness.proofs.Done.{stop_within, unborn_in_order}
use Rattle.soundness.proofs.Noting.{few, unborn_noted}
use Rattle.soundness.proofs.bodies.thread_in_order.Invariants.{Inv, asked, stopped, again, all}
use Rattle.soundness.proofs.bodies.thread_in_order.Goals as goal

-- what the calls before the loop say
module _ (s : List ℕ) (n t : ℕ) (forks parents next status : List ℕ) (first stop : ℕ) (unborn : Bool) (k : Accepted s n) (h : t < n)
    (f : Forks (table_of s) forks) (g : Parents (table_of s) parents) (ef : first ≡ (table_of s).first t) (es : stop ≡ done_to next status t)
    (eu : unborn ≡ unborn_at forks parents next status t) where
  is_unborn : unborn ≡ unborn_in (table_of s) next status t
  is_unborn = eu ∙ unborn_noted (table_of s) (accepted_lawful k) forks parents f g t (thread_below k h) next status

  stays : unborn ≡ true → leb stop first ≡ body_in_order (table_of s) next status t
  stays u = rw (es, ef) (unborn_in_order (table_of s) (accepted_lawful k) next status t (thread_below k h) (sym is_unborn ∙ u))

  start : Placed s n next → unborn ≡ false → Inv s n t next status stop first
  start p u =
      record {
        accepted = k;
        thread = h;
        born = sym is_unborn ∙ u;
        stops = es;
        within = omega (arith, (placed k h next p).1, (accepted_body k h).ends, stop_within next status t);
        room = accepted_body k h;
        from = omega arith;
        ordered = λ x j b. absurd (omega arith);
      }

pub done_to-stop-requires : goal.done_to-stop-requires
done_to-stop-requires c = (accepted_body c.requires.accepted c.requires.t_lt_n).few

pub is_unborn-requires : goal.is_unborn-requires
is_unborn-requires c =
    few _ (accepted_lawful c.requires.accepted) _ _ c.requires.forks c.requires.parents _ (thread_below c.requires.accepted c.requires.t_lt_n)

pub returns-then-is_unborn : goal.returns-then-is_unborn
returns-then-is_unborn c =
    stays c.args.table.now _ _ _ _ c.args.next.now c.args.status.now _ _ _ c.requires.accepted c.requires.t_lt_n c.requires.forks c.requires.parents
    c.first-first.ensures.value c.done_to-stop.ensures c.is_unborn.ensures c.if-is_unborn.true

pub loop-a-init : goal.loop-a-init
loop-a-init c =
    start c.args.table.now _ _ _ _ c.args.next.now c.args.status.now _ _ _ c.requires.accepted c.requires.t_lt_n c.requires.forks c.requires.parents
    c.first-first.ensures.value c.done_to-stop.ensures c.is_unborn.ensures c.requires.placed c.if-is_unborn.false

pub join_done-requires : goal.join_done-requires
join_done-requires c = let both = asked _ _ _ _ _ _ _ c.loop-a.invariant c.loop-a-test.true in record { accepted = both.0; a_bound = both.1 }

pub returns-then-not-join_done : goal.returns-then-not-join_done
returns-then-not-join_done c =
    stopped _ _ _ _ _ _ _ c.loop-a.invariant c.loop-a-test.true _ c.join_done.ensures (ap not c.if-not-join_done.true)

pub loop-a-preserved : goal.loop-a-preserved
loop-a-preserved c =
    again _ _ _ _ _ _ _ c.loop-a.invariant c.loop-a-test.true _ c.join_done.ensures (ap not c.if-not-join_done.false)

pub returns : goal.returns
returns c = all _ _ _ _ _ _ _ c.loop-a.invariant c.loop-a-test.false
