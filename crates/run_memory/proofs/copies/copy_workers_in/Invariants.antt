-- `run_memory::copies::copy_workers_in` meets its contract. The invariant: of w workers the records are copied.
use mathlib.Core.Path.{◌≡◌}
use Prim.Native.Nat.{ℕ}
use mathlib.Core.List.{List}
use lib.ListN.{length}
use Rattle.table.specs.Sum.{pick}
use Rattle.schedule.specs.declared.Worker.{Worker}
use Rattle.run_memory.specs.Places.{of_workers}
use Rattle.run_memory.proofs.Copied.{Copying}
use Rattle.run_memory.proofs.copies.copy_workers_in.Given as goal

pub record Inv (bytes₀ words₀ numbers₀ : List ℕ) (workers : List Worker) (bytes words numbers : List ℕ) (w : ℕ) : Type 0 where
  pub sixteen : length workers ≡ 16
  pub holds : Copying bytes₀ 1024 (of_workers (λ x. pick x.holds 1 0) workers) 16 bytes w
  pub threads : Copying words₀ 6144 (of_workers (λ x. x.thread) workers) 16 words w
  pub quotas : Copying numbers₀ 2 (of_workers (λ x. x.quota) workers) 16 numbers w

abbrev pub invariant-loop-w : goal.invariant-loop-w
invariant-loop-w l = Inv l.initial.bytes l.initial.words l.initial.numbers l.workers l.bytes l.words l.numbers l.w
