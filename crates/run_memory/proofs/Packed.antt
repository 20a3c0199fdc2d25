-- A record packed into the blocks stands there, and is read back as it was; so is a record that turns have moved.
use mathlib.Core.Path.{◌≡◌, refl, sym, ap, subst, ◌∙◌}
use Prim.Native.Nat.{ℕ, ◌^◌, ◌≤◌, ◌<◌}
use native.Mathlib.Omega.{arith}
use mathlib.Core.List.{List, [], ◌∷◌}
use lib.ListN.{length, get_or, length-take}
use Rattle.schedule.specs.declared.Worker.{Worker}
use Rattle.schedule.specs.declared.Run.{Run}
use Rattle.schedule.specs.Links.{LinkedAs}
use Rattle.schedule.specs.Actives.{actives}
use Rattle.schedule.specs.Record.{bytes_of, table_in, list_in, state_of}
use Rattle.schedule.specs.Sound.{Steady}
use Rattle.schedule.specs.Parents.{Parents}
use Rattle.schedule.proofs.Linked.Links.{laid_linked}
use Rattle.schedule.proofs.Linked.ActiveMoves.{list_once, list_small}
use Rattle.schedule.proofs.Linked.Fills.{fill_linked}
use Rattle.schedule.proofs.Stores.{steady_lawful, steady_facts}
use Rattle.array_machine.specs.Packed.{packed_of}
use Rattle.array_machine.proofs.Linking.{linked_as}
use Rattle.run_memory.specs.Memory.{Memory, moved_in}
use Rattle.run_memory.specs.Stands.{workers_in, run_in, Stands}
use Rattle.run_memory.specs.Packing.{second_for, memory_for, record_of}
use Rattle.run_memory.proofs.WorkerRecords.{of_length, workers_back, truths_back}

-- a record of sixteen workers, sound or not, is read back as it was
pub unmoved_back : (run : Run) (parents : List ℕ) → length run.worker ≡ 16 → record_of run (memory_for run parents) ≡ run
unmoved_back run parents e =
    let M : Memory = memory_for run parents in
    ap (λ (l : List Worker). packed_of run M.arrays l (moved_in M)) (workers_back run.worker e)

module _ {run : Run} (h : Steady run) where
  -- the table's bytes are inside its array
  pub table_room : run.length ≤ length run.table
  table_room = omega (arith, h.table_length, length-take run.length run.table)

  -- the record read back is the one that stands in the memory
  pub read_back : (M : Memory) → M.settings ≡ run.workers ∷ run.quota ∷ [] → record_of run M ≡ run_in (bytes_of run) M
  read_back M e =
      let n : run.length ≡ length (bytes_of run) = sym h.table_length in
      let p : run.workers ≡ get_or M.settings 0 0 = ap (λ (l : List ℕ). get_or l 0 0) (sym e) in
      let k : run.quota ≡ get_or M.settings 1 0 = ap (λ (l : List ℕ). get_or l 1 0) (sym e) in
      λ i.
      record {
        table = h.table_rest i;
        length = n i;
        workers = p i;
        quota = k i;
        next = M.arrays.next;
        status = M.arrays.status;
        amounts = M.arrays.amounts;
        left = M.arrays.left;
        right = M.arrays.right;
        leftmost = (moved_in M).totals.leftmost;
        worker = workers_in M;
        busy = (moved_in M).busy;
        held = (moved_in M).totals.held;
        highest = (moved_in M).totals.highest;
        turns = (moved_in M).turns;
      }

  sixteen : length run.worker ≡ 16
  sixteen = h.state.common.worker_size

  module _ (parents : List ℕ) where
    abbrev M₀ : Memory
    M₀ = memory_for run parents

    record_stands : run_in (bytes_of run) M₀ ≡ run
    record_stands = sym (read_back M₀ refl) ∙ unmoved_back run parents sixteen

    -- filled from the record's links, the second list is that of the record's list
    filled_second : LinkedAs (second_for run) (actives run.status (list_in run))
    filled_second =
        fill_linked run.left run.right run.leftmost (list_in run) run.status (linked_as _ _ (list_in run) h.links (laid_linked (list_in run)))
        (list_once (table_in run) (steady_lawful run h) run.workers run.quota (state_of run) (steady_facts run h))
        (list_small (table_in run) (steady_lawful run h) run.workers run.quota (state_of run) (steady_facts run h))

    memory_stands : Parents (table_in run) parents → run.turns < 2 ^ 64 → Stands (bytes_of run) M₀
    memory_stands a g =
        record {
          steady = subst (λ (x : Run). Steady x) (sym record_stands) h;
          parent = a;
          second = filled_second;
          truth_values = truths_back run.worker;
          holds_size = of_length _ run.worker ∙ sixteen;
          threads_size = of_length _ run.worker ∙ sixteen;
          quotas_size = of_length _ run.worker ∙ sixteen;
          turns_fit = g;
        }

    -- what is packed is the record, and stands
    module _ {M : Memory} (e : M ≡ M₀) where
      pub packed_record : run_in (bytes_of run) M ≡ run
      packed_record = ap (λ (x : Memory). run_in (bytes_of run) x) e ∙ record_stands

      pub packed_stands : Parents (table_in run) parents → run.turns < 2 ^ 64 → Stands (bytes_of run) M
      packed_stands a g = subst (λ (x : Memory). Stands (bytes_of run) x) (sym e) (memory_stands a g)
