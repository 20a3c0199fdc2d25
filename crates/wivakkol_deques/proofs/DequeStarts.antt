-- Beginning is AsyncDF's: the memory that it leaves has the record of DFDeques' start, and that record stands there.
use Rattle.std.specs.Prelude.{Ok}
use mathlib.Core.Path.{◌≡◌, refl, sym, ◌∙◌}
use Prim.Native.Nat.{ℕ}
use native.Mathlib.Omega.{arith}
use mathlib.Core.List.{List, [], ◌∷◌}
use Rattle.table.specs.Format.{table_of}
use Rattle.order.specs.Words.{all_below}
use Rattle.schedule.specs.Begin.{start_run}
use Rattle.schedule.proofs.Linked.Links.{linked_laid}
use Rattle.filling.specs.Filled.{filled_out}
use Rattle.soundness.specs.Tested.{begin_found}
use Rattle.soundness.proofs.Noting.{parents_right}
use Rattle.array_machine.proofs.Starts.{alone, alone_linked, is_start}
use Rattle.run_memory.specs.Stands.{truths, workers_from, run_in}
use Rattle.wivakkol.specs.Lent.{start_memory}
use Rattle.deques.specs.DequeBegin.{start_deque_run, deque_begin}
use Rattle.deques.proofs.DequeHistories.{start_record, deque_begin_sound}
use Rattle.stealing.specs.StealingMemory.{deque_run_in, DequesStand}

start_run_lem : (s : List ℕ) (p K : ℕ) → run_in s (start_memory s p K) ≡ start_run s p K
unfolding workers_from
start_run_lem s p K = is_start s p K refl refl

-- "At the start the root lies in one deque that nobody owns": the second list, which has the root alone, is the bottoms
pub start_deque_run_lem : (s : List ℕ) (p K : ℕ) → deque_run_in s (start_memory s p K) ≡ start_deque_run s p K
start_deque_run_lem s p K =
    let r = start_run_lem s p K in
    let l = linked_laid alone (0 ∷ []) alone_linked in
    (λ i. record { run = r i; under = (l i).left; over = (l i).right; first = (l i).head }) ∙ sym (start_record s p K)

module _ (s : List ℕ) (p K : ℕ) (e : begin_found s p K ≡ Ok tt) where
  -- a beginning that no check refuses is DFDeques' beginning
  pub deque_begun_so : deque_begin s p K ≡ record { answer = Ok tt; run = deque_run_in (filled_out s K) (start_memory (filled_out s K) p K) }
  unfolding deque_begin
  deque_begun_so = rw (e, start_deque_run_lem (filled_out s K) p K)

  -- and its record stands in the memory
  pub start_deques_stand : DequesStand (filled_out s K) (start_memory (filled_out s K) p K)
  unfolding truths all_below
  start_deques_stand =
      record {
        steady = (deque_begin_sound s p K (deque_run_in (filled_out s K) (start_memory (filled_out s K) p K)) deque_begun_so).steady;
        parent = parents_right (table_of (filled_out s K)) refl;
        truth_values = refl;
        holds_size = refl;
        threads_size = refl;
        quotas_size = refl;
        turns_fit = omega arith;
      }
