-- `soundness::blank::is_blank` meets its contract: the table in the record first, then its length, then the parts.
use mathlib.Core.Path.{◌≡◌, ap, sym, ◌∙◌}
use Prim.Native.Nat.{ℕ}
use mathlib.Core.Bool.{Bool, false, not}
use borrow.Author.Rules.{rules}
use borrow.Author.Tests.{eq-eqb, ne_eqb}
use lib.ListN.{length, take, replicate}
use Rattle.schedule.specs.declared.Run.{Run}
use Rattle.schedule.specs.Record.{links_in}
use Rattle.order.specs.Words.{filled, same_list}
use Rattle.schedule.specs.Turn.{is_blank}
use Rattle.soundness.specs.Tested.{blank_on}
use Rattle.soundness.proofs.Chains.{off, on, cut, pass}
use Rattle.soundness.proofs.Filled.{none_filled}
use Rattle.soundness.proofs.OnParts.{blank_is}
use Rattle.soundness.proofs.blank.is_blank.Goals.{After-bytes_rest, Start}
use Rattle.soundness.proofs.blank.is_blank.Goals as goal

module _ (r : Run) where
  abbrev parts : Bool
  parts = blank_on r.workers r.quota r.next r.status r.amounts (links_in r) r.worker r.busy r.held r.highest r.turns

  abbrev zero_table : Bool
  zero_table = same_list r.table (replicate 36868 0)

  sized : length r.table ≡ 36868 → {b : Bool} → b ≡ same_list r.table (filled (length r.table) (take 0 r.table)) → b ≡ zero_table
  sized z e = e ∙ ap (same_list r.table) (none_filled (length r.table) r.table ∙ ap (λ (k : ℕ). replicate k 0) z)

  no_table : zero_table ≡ false → false ≡ is_blank r
  no_table e = cut _ e ∙ sym (blank_is r)

table_size : (c : Start) → length c.args.run.table ≡ 36868
table_size c = search rules

pub slice_bounds-bytes_rest-end : goal.slice_bounds-bytes_rest-end
slice_bounds-bytes_rest-end c = sym (table_size (goal.at.slice_bounds-bytes_rest-end c).Start)

zeros : (c : After-bytes_rest) → c.bytes_rest.result ≡ zero_table c.args.run
zeros c =
    sized c.args.run (search rules) c.bytes_rest.ensures

pub returns-then-not-bytes_rest : goal.returns-then-not-bytes_rest
returns-then-not-bytes_rest c =
    no_table c.args.run (off (zeros (goal.at.returns-then-not-bytes_rest c).After-bytes_rest) (ap not c.if-not-bytes_rest.true))

pub returns-then-run-ne0 : goal.returns-then-run-ne0
returns-then-run-ne0 c =
    pass (on (zeros (goal.at.returns-then-run-ne0 c).After-bytes_rest) (ap not c.if-not-bytes_rest.false)) (cut (parts c.args.run) (ne_eqb _ 0 c.if-run-ne0.true)) ∙ sym (blank_is _)

pub returns : goal.returns
returns c =
    pass (on (zeros (goal.at.returns c).After-bytes_rest) (ap not c.if-not-bytes_rest.false)) (pass (eq-eqb _ 0 c.if-run-ne0.false) c.blank_in.ensures) ∙ sym (blank_is c.args.run)
