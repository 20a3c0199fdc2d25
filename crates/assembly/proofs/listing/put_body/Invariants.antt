-- `assembly::listing::put_body` meets its contract. The invariant: the lines of the first i actions are put.
use Prim.Native.Nat.{ℕ, ◌*◌, ◌≤◌}
use mathlib.Core.Path.{◌≡◌}
use mathlib.Core.List.{List}
use lib.ListN.{length}
use Rattle.table.specs.Format.{table_of}
use Rattle.text.specs.Puts.{Puts}
use Rattle.assembly.specs.Disassembly.{body_texts}
use Rattle.assembly.proofs.listing.put_body.Given as goal

pub record Inv (out₀ : List ℕ) (at₀ : ℕ) (table : List ℕ) (from count : ℕ) (out : List ℕ) (at i : ℕ) : Type 0 where
  pub within : i ≤ count
  pub long : length out ≡ length out₀
  pub put : Puts out₀ at₀ out at (body_texts (table_of table) from i) (31 * i)

abbrev pub invariant-loop-i : goal.invariant-loop-i
invariant-loop-i l = Inv l.initial.out l.initial.at l.table l.from l.count l.out l.at l.i
