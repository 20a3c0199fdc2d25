use native.Mathlib.Omega.{arith}
use Rattle.soundness.proofs.Lookups.{accepted_lawful}
use Rattle.soundness.proofs.Marks.{numbering_starts, numbering_ends}
use Rattle.soundness.proofs.numbers.fill_numbers.Goals as goal

pub loop-t-init : goal.loop-t-init
loop-t-init c = numbering_starts _ (accepted_lawful c.requires.accepted) c.args.next.now c.args.numbers.now c.requires.lengths

pub number_thread-first-requires : goal.number_thread-first-requires
number_thread-first-requires c = record { accepted = c.requires.accepted; placed = c.requires.placed; t_lt_n = c.loop-t-test.true; numbering = c.loop-t.invariant }

pub loop-t-preserved : goal.loop-t-preserved
loop-t-preserved c = c.number_thread-first.ensures

pub returns : goal.returns
returns c =
    numbering_ends _ (accepted_lawful c.requires.accepted) c.args.next.now _ _ _ (omega (arith, c.requires.accepted.threads, c.loop-t-test.false)) c.loop-t.invariant
