-- `dfdeques::testing::is_blank` meets its contract: the table in the record first, then its length, then the parts.
use Rattle.std.proofs.Common.{not}
use mathlib.Core.Path.{◌≡◌, ap, sym, ◌∙◌}
use Prim.Native.Nat.{ℕ}
use mathlib.Core.Bool.{Bool, false}
use borrow.Author.Rules.{rules}
use borrow.Author.Tests.{eq-eqb, ne_eqb}
use lib.ListN.{length, take, replicate}
use Rattle.schedule.specs.Record.{links_in}
use Rattle.order.specs.Words.{filled, same_list}
use Rattle.soundness.proofs.Chains.{off, on, cut, pass}
use Rattle.soundness.proofs.Filled.{none_filled}
use Rattle.deques.specs.declared.DequeRun.{DequeRun}
use Rattle.deques.specs.DequeRecord.{bottoms_in}
use Rattle.deques.specs.DequeSound.{is_blank_deques}
use Rattle.dequetest.specs.DequeTested.{deque_blank_on}
use Rattle.dequetest.proofs.DequeOnParts.{deque_blank_is}
use Rattle.dfdeques.proofs.testing.is_blank.Goals.{After-bytes_rest}
use Rattle.dfdeques.proofs.testing.is_blank.Goals as goal

module _ (r : DequeRun) where
  abbrev parts : Bool
  parts =
      deque_blank_on r.run.workers r.run.quota r.run.next r.run.status r.run.amounts (links_in r.run) (bottoms_in r) r.run.worker r.run.busy r.run.held r.run.highest r.run.turns

  abbrev zero_table : Bool
  zero_table = same_list r.run.table (replicate 36868 0)

  sized : length r.run.table ≡ 36868 → {b : Bool} → b ≡ same_list r.run.table (filled (length r.run.table) (take 0 r.run.table)) → b ≡ zero_table
  sized z e = e ∙ ap (same_list r.run.table) (none_filled (length r.run.table) r.run.table ∙ ap (λ (k : ℕ). replicate k 0) z)

  no_table : zero_table ≡ false → false ≡ is_blank_deques r
  no_table e = cut _ e ∙ sym (deque_blank_is r)

zeros : (c : After-bytes_rest) → c.bytes_rest.result ≡ zero_table c.args.run
zeros c = sized c.args.run (search rules) c.bytes_rest.ensures

pub returns-then-not-bytes_rest : goal.returns-then-not-bytes_rest
returns-then-not-bytes_rest c =
    no_table c.args.run (off (zeros (goal.at.returns-then-not-bytes_rest c).After-bytes_rest) (ap not c.if-not-bytes_rest.true))

pub returns-then-record-ne0 : goal.returns-then-record-ne0
returns-then-record-ne0 c =
    pass (on (zeros (goal.at.returns-then-record-ne0 c).After-bytes_rest) (ap not c.if-not-bytes_rest.false)) (cut (parts c.args.run) (ne_eqb _ 0 c.if-record-ne0.true)) ∙ sym (deque_blank_is _)

pub returns : goal.returns
returns c =
    pass (on (zeros (goal.at.returns c).After-bytes_rest) (ap not c.if-not-bytes_rest.false)) (pass (eq-eqb _ 0 c.if-record-ne0.false) c.deque_blank_in.ensures) ∙ sym (deque_blank_is c.args.run)
