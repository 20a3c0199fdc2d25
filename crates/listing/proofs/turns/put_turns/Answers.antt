-- `listing::turns::put_turns` meets its contract: nothing is put of a run that has ended or of an empty order but its end, the blank record's turns are refused with 30, and else the turns are
-- taken on the blocks into which the record was copied.
use mathlib.Core.Path.{◌≡◌, refl, sym, ap, subst, ◌∙◌}
use Prim.Native.Nat.{ℕ, ◌+◌, ◌*◌, ◌^◌, ◌<◌}
use mathlib.Core.List.{List, [], ◌∷◌}
use mathlib.Core.Bool.{Bool, true, false}
use native.Mathlib.Omega.{arith}
use borrow.Author.Rules.{rules}
use lib.ListN.{length, get_or}
use lib.Seq.{length-take-le}
use Rattle.table.specs.Pass.{refusal}
use Rattle.text.specs.Text.{refused_line}
use Rattle.schedule.specs.declared.Run.{Run}
use Rattle.schedule.specs.Record.{bytes_of}
use Rattle.schedule.specs.Sound.{Steady}
use Rattle.schedule.specs.Turn.{unsound}
use Rattle.schedule.specs.Listing.{last_with}
use Rattle.text.specs.Puts.{Puts}
use Rattle.soundness.proofs.Passed.{has_workers}
use Rattle.run_memory.specs.Memory.{Memory, moved_in}
use Rattle.run_memory.specs.Stands.{run_in}
use Rattle.run_memory.specs.Packing.{memory_for}
use Rattle.listing.specs.Sheets.{turns_texts, widest, over_texts}
use Rattle.array_machine.proofs.Answers.{turned_none, root_over, root_open}
use Rattle.run_memory.proofs.Packed.{table_room, packed_record, packed_stands}
use Rattle.listing.proofs.Ordered.{texts_refused, start, ended, exhausted, refused}
use Rattle.listing.proofs.turns.put_turns.Goals.{Else-run-eq0, Start}
use Rattle.listing.proofs.turns.put_turns.Goals as goal

some : {x : ℕ} → (x ≡ 0 → ⊥) → 0 < x
some n = omega (arith, n)

module _ (chart : Bool) (run : Run) (order : List ℕ) {out o : List ℕ} {at r : ℕ} where
  finished : get_or run.status 0 0 ≡ 4 → Puts out at o r (over_texts chart (last_with true run.turns run.highest)) 64
      → Puts out at o r (turns_texts chart run order) (widest chart * (length order + 1))
  finished e p = ended (start chart order out at run) (root_over run e) p

  module _ (n : get_or run.status 0 0 ≡ 4 → ⊥) where
    no_turns : length order ≡ 0 → Puts out at o r (over_texts chart (last_with false run.turns run.highest)) 64
        → Puts out at o r (turns_texts chart run order) (widest chart * (length order + 1))
    no_turns z p = exhausted (start chart order out at run) (root_open run n) (omega arith) p

    no_workers : unsound run ≡ false → (length order ≡ 0 → ⊥) → run.workers ≡ 0 → Puts out at o r (refused_line (refusal 30 0) ∷ []) 64
        → Puts out at o r (turns_texts chart run order) (widest chart * (length order + 1))
    no_workers u k w p =
        refused (start chart order out at run) (some k) (refusal 30 0)
        (λ rest. texts_refused run (get_or order 0 0) (root_open run n) (turned_none run (get_or order 0 0) u (omega arith)) chart rest refl) p

  -- from the record itself
  puts : {size : ℕ} → Steady run → (parents : List ℕ) {M : Memory} → M ≡ memory_for run parents → Puts out at o r (turns_texts chart (run_in (bytes_of run) M) order) size
      → Puts out at o r (turns_texts chart run order) size
  puts {size} h parents e x = subst (λ (y : Run). Puts out at o r (turns_texts chart y order) size) (packed_record h parents e) x

turns_fit : (s : Start) → s.args.run.turns < 2 ^ 64
turns_fit s = search rules

-- there are workers, so that the record is sound
steady : (c : Else-run-eq0) → Steady c.args.run
steady c = (has_workers _ c.requires.run_value (some c.if-run-eq0.false)).steady

pub returns-then-status-eq-ENDED : goal.returns-then-status-eq-ENDED
returns-then-status-eq-ENDED c =
    let a = c.args in
    finished a.chart a.run a.order.now c.if-status-eq-ENDED.true c.put_over.ensures

pub returns-then-order-eq0 : goal.returns-then-order-eq0
returns-then-order-eq0 c =
    let a = c.args in
    no_turns a.chart a.run a.order.now c.if-status-eq-ENDED.false c.if-order-eq0.true c.put_over-then-order-eq0.ensures

pub returns-then-run-eq0 : goal.returns-then-run-eq0
returns-then-run-eq0 c =
    no_workers c.args.chart c.args.run c.args.order.now c.if-status-eq-ENDED.false c.requires.run_value c.if-order-eq0.false c.if-run-eq0.true c.put_refused.ensures

pub slice_bounds-table-end : goal.slice_bounds-table-end
slice_bounds-table-end c = table_room (steady (goal.at.slice_bounds-table-end c).Else-run-eq0)

pub slice_bounds-table-end-2 : goal.slice_bounds-table-end-2
slice_bounds-table-end-2 c =
    sym (length-take-le c.args.run.length c.args.run.table (table_room (steady (goal.at.slice_bounds-table-end-2 c).Else-run-eq0)))

pub put_each-requires : goal.put_each-requires
put_each-requires c =
    let m = c.pack.ensures in
    record {
      stands = packed_stands (steady (goal.at.put_each-requires c).Else-run-eq0) c.args.parents.now m (c.requires.parents (some c.if-run-eq0.false)) (turns_fit (goal.at.put_each-requires c).Start);
      going = λ z. c.if-status-eq-ENDED.false (sym (ap (λ (x : Memory). get_or x.arrays.status 0 0) m) ∙ z);
      workers = ap (λ (x : Memory). get_or x.settings 0 0) (sym m);
      room = λ x. omega (arith, ap (λ (y : Memory). (moved_in y).turns) m, c.requires.turns_le_most_turns x);
    }

pub returns : goal.returns
returns c =
    let a = c.args in
    puts a.chart a.run a.order.now (steady (goal.at.returns c).Else-run-eq0) a.parents.now c.pack.ensures c.put_each.ensures
