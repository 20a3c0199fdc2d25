use Rattle.soundness.proofs.Lookups.{accepted_body}
use Rattle.soundness.proofs.Clearing.{clearing_starts, clearing_enters, clearing_asks, clearing_goes, clearing_leaves, clearing_ends}
use Rattle.soundness.proofs.shares.clear_joined.Goals as goal

pub loop-t-init : goal.loop-t-init
loop-t-init c =
    clearing_starts c.args.table.now _ c.args.next.now c.args.status.now c.args.amounts.now c.requires.accepted c.requires.status_value c.requires.balances

pub done_to-stop-requires : goal.done_to-stop-requires
done_to-stop-requires c = (accepted_body c.loop-t.invariant.accepted c.loop-t-test.true).few

pub loop-a-init : goal.loop-a-init
loop-a-init c =
    clearing_enters _ _ _ _ _ _ c.loop-t.invariant c.loop-t-test.true _ c.done_to-stop.ensures _ c.first-a.ensures.value

pub clear_child-requires : goal.clear_child-requires
clear_child-requires c = let i = c.loop-a.invariant in record { accepted = i.accepted; a_bound = clearing_asks _ _ _ _ _ _ _ _ i c.loop-a-test.true; cleared = i.cleared }

pub loop-a-preserved : goal.loop-a-preserved
loop-a-preserved c =
    clearing_goes _ _ _ _ _ _ _ _ c.loop-a.invariant c.loop-a-test.true _ c.clear_child.ensures

pub loop-t-preserved : goal.loop-t-preserved
loop-t-preserved c = clearing_leaves _ _ _ _ _ _ _ _ c.loop-a.invariant c.loop-a-test.false

pub returns : goal.returns
returns c = clearing_ends _ _ _ _ _ _ c.loop-t.invariant c.loop-t-test.false
