-- What is written lies within the buffer.
use Rattle.std.specs.Prelude.{Err, Ok, Result}
use Rattle.table.specs.declared.Facts.{Facts}
use Rattle.table.specs.declared.Refusal.{Refusal}
use Prim.Native.Nat.{ℕ, ◌≤◌}
use native.Mathlib.Omega.{arith}
use mathlib.Core.Path.{◌≡◌, ap, ◌∙◌}
use mathlib.Core.List.{List}
use borrow.Author.Tests.{le-ltb}
use lib.ListN.{length, drop, length-append}
use Rattle.table.specs.Format.{table_of}
use Rattle.table.specs.Load.{loaded}
use Rattle.assembly.specs.Said.{saids}
use Rattle.assembly.specs.Assembly.{table_bytes, over, longest_text, assembled, assembled_in}
use Rattle.assembly.specs.Disassembly.{text_of, listed_as, listed_in, disassembled, disassembled_in}
use Rattle.assembly.proofs.SameWords.{assembles}

over_within : (front out o : List ℕ) → o ≡ over front out → length front ≤ length o
over_within front out o e = omega (arith, ap length e, length-append front (drop (length front) out))

pub written_within : (s out o : List ℕ) (k : ℕ) → assembled s ≡ Ok k → o ≡ assembled_in s out → k ≤ length o
unfolding assembled_in
written_within s out o k q e =
    let a = assembles s k q in
    let w : o ≡ over (table_bytes (saids s)) out = e ∙ rw (le-ltb longest_text (length s) a.short, a.well_formed, a.sized) in
    omega (arith, a.long, over_within (table_bytes (saids s)) out o w)

pub listed_within : (s out o : List ℕ) (k : ℕ) → disassembled s ≡ Ok k → o ≡ disassembled_in s out → k ≤ length o
unfolding disassembled disassembled_in
listed_within s out o k q e = go (loaded s) q e
  where
    go : (y : Result Facts Refusal) → listed_as y (table_of s) ≡ Ok k → o ≡ listed_in y (table_of s) out → k ≤ length o
    go (Ok f) r w =
        let x : k ≡ length (text_of (table_of s)) = cc in
        omega (arith, x, over_within (text_of (table_of s)) out o w)
    go (Err x) r w = absurd (let z : ◌≡◌ {A = ℕ} 0 1 = cc in omega arith)
