-- `assembly::listing::put_threads` meets its contract. The invariant: the lines of the first t threads are put.
use Prim.Native.Nat.{ℕ, ◌+◌, ◌*◌, ◌≤◌}
use mathlib.Core.Path.{◌≡◌}
use mathlib.Core.List.{List}
use lib.ListN.{length}
use Rattle.table.specs.Sum.{sum_to}
use Rattle.table.specs.Format.{table_of}
use Rattle.text.specs.Puts.{Puts}
use Rattle.assembly.specs.Disassembly.{threads_texts}
use Rattle.assembly.proofs.listing.put_threads.Given as goal

pub record Inv (out₀ table : List ℕ) (n : ℕ) (out : List ℕ) (at t : ℕ) : Type 0 where
  pub within : t ≤ n
  pub long : length out ≡ length out₀
  pub put : Puts out₀ 0 out at (threads_texts (table_of table) t) (12 * t + 31 * sum_to (table_of table).count t)

abbrev pub invariant-loop-t : goal.invariant-loop-t
invariant-loop-t l = Inv l.initial.out l.table l.n l.out l.at l.t
