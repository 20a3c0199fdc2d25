-- `soundness::common::threads_sound` meets its contract: the tests are the clauses, in their order; where the last one is asked, the sizes are known.
use mathlib.Core.Bool.{not}
use mathlib.Core.Path.{ap, sym, ◌∙◌}
use Rattle.soundness.specs.Code.Checks.{Placed}
use Rattle.soundness.proofs.Chains.{on, cut, pass, never}
use borrow.Author.Rules.{rules}
use Rattle.soundness.proofs.common.threads_sound.Goals.{Else-not-next_in_bodies}
use Rattle.soundness.proofs.common.threads_sound.Goals as goal

placed : (c : Else-not-next_in_bodies) → Placed c.args.table.now c.args.n c.args.next.now
placed c = on c.next_in_bodies.ensures (ap not c.if-not-next_in_bodies.false)

pub returns-then-not-next_in_bodies : goal.returns-then-not-next_in_bodies
returns-then-not-next_in_bodies c = record { value = cut _ (sym c.next_in_bodies.ensures ∙ c.if-not-next_in_bodies.true); next_len = never }

pub in_order-requires : goal.in_order-requires
in_order-requires c = record { accepted = c.requires.accepted; placed = placed (goal.at.in_order-requires c).Else-not-next_in_bodies; forks = c.requires.forks; parents = c.requires.parents }

pub returns-then-not-in_order : goal.returns-then-not-in_order
returns-then-not-in_order c = record { value = pass (placed (goal.at.returns-then-not-in_order c).Else-not-next_in_bodies) (cut _ (sym c.in_order.ensures ∙ c.if-not-in_order.true)); next_len = never }

pub returns-then-not-statuses_follow : goal.returns-then-not-statuses_follow
returns-then-not-statuses_follow c = record { value = pass (placed (goal.at.returns-then-not-statuses_follow c).Else-not-next_in_bodies) (pass (sym c.in_order.ensures ∙ c.if-not-in_order.false) (cut _ (sym c.statuses_follow.ensures ∙ c.if-not-statuses_follow.true))); next_len = never }

pub waits_at_joins-requires : goal.waits_at_joins-requires
waits_at_joins-requires c = record { accepted = c.requires.accepted; placed = placed (goal.at.waits_at_joins-requires c).Else-not-next_in_bodies }

pub returns-then-not-waits_at_joins : goal.returns-then-not-waits_at_joins
returns-then-not-waits_at_joins c = record {
  value = pass (placed (goal.at.returns-then-not-waits_at_joins c).Else-not-next_in_bodies)
      (pass (sym c.in_order.ensures ∙ c.if-not-in_order.false)
      (pass (sym c.statuses_follow.ensures ∙ c.if-not-statuses_follow.false) (cut _ (sym c.waits_at_joins.ensures ∙ c.if-not-waits_at_joins.true))));
  next_len = never;
}

pub unused_right-requires : goal.unused_right-requires
unused_right-requires c = (search rules, search rules)

pub returns : goal.returns
returns c = record {
  value = pass (placed (goal.at.returns c).Else-not-next_in_bodies)
      (pass (sym c.in_order.ensures ∙ c.if-not-in_order.false)
      (pass (sym c.statuses_follow.ensures ∙ c.if-not-statuses_follow.false) (pass (sym c.waits_at_joins.ensures ∙ c.if-not-waits_at_joins.false) c.unused_right.ensures)));
  next_len = λ e. (search rules, search rules);
}
