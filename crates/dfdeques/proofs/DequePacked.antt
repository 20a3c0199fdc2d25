-- A record of DFDeques packed into the blocks stands there, and is read back as it was; so is a record that turns have moved.
use mathlib.Core.Path.{◌≡◌, refl, sym, ap, subst, ◌∙◌}
use Prim.Native.Nat.{ℕ, ◌^◌, ◌≤◌, ◌<◌}
use native.Mathlib.Omega.{arith}
use mathlib.Core.List.{List, [], ◌∷◌}
use lib.ListN.{length, get_or, length-take}
use Rattle.schedule.specs.declared.Worker.{Worker}
use Rattle.schedule.specs.Record.{bytes_of, table_in}
use Rattle.schedule.specs.Parents.{Parents}
use Rattle.array_machine.specs.Packed.{packed_of}
use Rattle.run_memory.specs.Memory.{Memory, moved_in}
use Rattle.run_memory.specs.Stands.{workers_in}
use Rattle.run_memory.proofs.WorkerRecords.{of_length, workers_back, truths_back}
use Rattle.deques.specs.declared.DequeRun.{DequeRun}
use Rattle.deques.specs.DequeSound.{SteadyDeques}
use Rattle.stealing.specs.StealingMemory.{deque_run_in, DequesStand}
use Rattle.dfdeques.specs.DequePacking.{deque_memory, deque_record_of}

-- a record of sixteen workers, sound or not, is read back as it was
pub deque_unmoved : (r : DequeRun) (parents : List ℕ) → length r.run.worker ≡ 16 → deque_record_of r (deque_memory r parents) ≡ r
deque_unmoved r parents e =
    let M : Memory = deque_memory r parents in
    ap (λ (l : List Worker). record { run = packed_of r.run M.arrays l (moved_in M); under = r.under; over = r.over; first = r.first }) (workers_back r.run.worker e)

module _ {r : DequeRun} (h : SteadyDeques r) where
  -- the table's bytes are inside its array
  pub deque_room : r.run.length ≤ length r.run.table
  deque_room = omega (arith, h.table_length, length-take r.run.length r.run.table)

  -- the record read back is the one that stands in the memory
  pub deque_back : (M : Memory) → M.settings ≡ r.run.workers ∷ r.run.quota ∷ [] → deque_record_of r M ≡ deque_run_in (bytes_of r.run) M
  deque_back M e =
      let n : r.run.length ≡ length (bytes_of r.run) = sym h.table_length in
      let p : r.run.workers ≡ get_or M.settings 0 0 = ap (λ (l : List ℕ). get_or l 0 0) (sym e) in
      let k : r.run.quota ≡ get_or M.settings 1 0 = ap (λ (l : List ℕ). get_or l 1 0) (sym e) in
      λ i.
      record {
        run =
            record {
              table = h.table_rest i;
              length = n i;
              workers = p i;
              quota = k i;
              next = M.arrays.next;
              status = M.arrays.status;
              amounts = M.arrays.amounts;
              left = M.arrays.left;
              right = M.arrays.right;
              leftmost = (moved_in M).totals.leftmost;
              worker = workers_in M;
              busy = (moved_in M).busy;
              held = (moved_in M).totals.held;
              highest = (moved_in M).totals.highest;
              turns = (moved_in M).turns;
            };
        under = M.arrays.under;
        over = M.arrays.over;
        first = (moved_in M).totals.first;
      }

  sixteen : length r.run.worker ≡ 16
  sixteen = h.common.worker_size

  module _ (parents : List ℕ) where
    abbrev M₀ : Memory
    M₀ = deque_memory r parents

    record_stands : deque_run_in (bytes_of r.run) M₀ ≡ r
    record_stands = sym (deque_back M₀ refl) ∙ deque_unmoved r parents sixteen

    memory_stands : Parents (table_in r.run) parents → r.run.turns < 2 ^ 64 → DequesStand (bytes_of r.run) M₀
    memory_stands a g =
        record {
          steady = subst (λ (x : DequeRun). SteadyDeques x) (sym record_stands) h;
          parent = a;
          truth_values = truths_back r.run.worker;
          holds_size = of_length _ r.run.worker ∙ sixteen;
          threads_size = of_length _ r.run.worker ∙ sixteen;
          quotas_size = of_length _ r.run.worker ∙ sixteen;
          turns_fit = g;
        }

    -- what is packed is the record, and stands
    module _ {M : Memory} (e : M ≡ M₀) where
      pub deque_packed : deque_run_in (bytes_of r.run) M ≡ r
      deque_packed = ap (λ (x : Memory). deque_run_in (bytes_of r.run) x) e ∙ record_stands

      pub deque_stands : Parents (table_in r.run) parents → r.run.turns < 2 ^ 64 → DequesStand (bytes_of r.run) M
      deque_stands a g = subst (λ (x : Memory). DequesStand (bytes_of r.run) x) (sym e) (memory_stands a g)
