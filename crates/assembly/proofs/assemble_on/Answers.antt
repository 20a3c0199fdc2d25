-- `assembly::assemble_on` meets its contract: a text that is too long, the first line that is not as it should be, or the table.
use Prim.Native.Nat.{ℕ, ◌≤◌, ◌<◌}
use native.Mathlib.Omega.{arith}
use mathlib.Core.Path.{◌≡◌, refl, sym, ap, ◌∙◌}
use mathlib.Core.List.{List}
use borrow.Author.Tests.{lt-ltb, le-ltb}
use lib.ListN.{length}
use Rattle.assembly.specs.Said.{saids}
use Rattle.assembly.specs.Assembly.{checked, longest_text, answered, written_in, assembled, assembled_in, bytes_by, bytes_needed, or_short, kept_if_short, assembling, assembling_in}
use Rattle.assembly.specs.declared.Expected.{Expected}
use Rattle.assembly.proofs.Rooms.{fits, put_in_lem}
use Rattle.assembly.proofs.assemble_on.Goals as goal
use Rattle.assembly.specs.declared.AssemblyError.{AssemblyError}
use Rattle.assembly.specs.declared.AssemblyError.TheVariants.{TooLong, Malformed}
use Rattle.assembly.specs.declared.Short.{Short}
use Rattle.std.specs.Prelude.{Err, Ok, Result}
use Rattle.assembly.specs.declared.check.Counts.{Counts}
use Rattle.assembly.specs.declared.check.Fault.{Fault}
use Rattle.assembly.specs.Assembly.{fault_at}

module _ (s out : List ℕ) where
  long : longest_text < length s → (Ok (Err TooLong) ≡ assembling (length out) s) × (out ≡ assembling_in s out)
  unfolding assembling assembling_in bytes_needed assembled assembled_in
  long h =
      let t = lt-ltb longest_text (length s) h in
      (rw t (fits (length out) 0 (omega arith) refl), rw t (put_in_lem 0 out (omega arith) refl))

  short : {x : Result (Result ℕ AssemblyError) Short} {o : List ℕ} {y : Result Counts Fault} → length s ≤ longest_text → y ≡ checked (saids s)
      → x ≡ or_short (length out) (bytes_by y) (answered y (saids s)) → o ≡ kept_if_short (bytes_by y) out (written_in y (saids s) out)
      → (x ≡ assembling (length out) s) × (o ≡ assembling_in s out)
  unfolding assembling assembling_in bytes_needed assembled assembled_in
  short h e a w = (
    rw (le-ltb longest_text (length s) h) (a ∙ ap (λ (z : Result Counts Fault). or_short (length out) (bytes_by z) (answered z (saids s))) e),
    rw (le-ltb longest_text (length s) h) (w ∙ ap (λ (z : Result Counts Fault). kept_if_short (bytes_by z) out (written_in z (saids s) out)) e),
  )

  fault : {line : ℕ} {e : Expected} → length s ≤ longest_text → Err (fault_at line e) ≡ checked (saids s)
      → (Ok (Err (Malformed line e)) ≡ assembling (length out) s) × (out ≡ assembling_in s out)
  fault h q = short h q (fits (length out) 0 (omega arith) refl) (put_in_lem 0 out (omega arith) refl)

pub returns-then-text-gt-LONGEST : goal.returns-then-text-gt-LONGEST
returns-then-text-gt-LONGEST c = let both = long _ _ c.if-text-gt-LONGEST.true in record { value = both.0; out_after = both.1 }

pub check-checked-requires : goal.check-checked-requires
check-checked-requires c = c.if-text-gt-LONGEST.false

pub write_table-requires : goal.write_table-requires
write_table-requires c = record { short = c.if-text-gt-LONGEST.false; counts = sym c.check-checked.ensures ∙ c.in-Ok.is }

pub returns-in-Err : goal.returns-in-Err
returns-in-Err c = let both = fault _ _ c.if-text-gt-LONGEST.false (sym c.in-Err.is ∙ c.check-checked.ensures) in record { value = both.0; out_after = both.1 }

pub returns-in-Ok : goal.returns-in-Ok
returns-in-Ok c = let both = short _ _ c.if-text-gt-LONGEST.false (sym c.in-Ok.is ∙ c.check-checked.ensures) c.write_table.ensures.value c.write_table.ensures.out_after in record { value = both.0; out_after = both.1 }
