-- `assembly::disassemble_in` meets its contract: the table's refusal, or its text where there is room.
use Rattle.std.specs.Prelude.{Err, Result}
use Rattle.table.specs.declared.Facts.{Facts}
use Prim.Native.Nat.{ℕ}
use native.Mathlib.Omega.{arith}
use mathlib.Core.Path.{◌≡◌, refl, sym, ap, ◌∙◌}
use mathlib.Core.List.{List}
use lib.ListN.{length}
use Rattle.table.specs.Format.{table_of}
use Rattle.table.specs.Load.{loaded}
use Rattle.table.specs.declared.Refusal.{Refusal}
use Rattle.assembly.specs.Assembly.{or_short, kept_if_short}
use Rattle.assembly.specs.Disassembly.{listed_as, listed_in, disassembled, disassembled_in, most_of, disassembling, disassembling_in}
use Rattle.assembly.proofs.Accepted.{shape}
use Rattle.assembly.proofs.Rooms.{fits, put_in_lem}
use Rattle.assembly.proofs.disassemble_in.Goals as goal
use Rattle.assembly.specs.declared.Short.{Short}
use Rattle.std.specs.Prelude.{Ok}

module _ (s out : List ℕ) where
  answers : {x : Result (Result ℕ Refusal) Short} {o : List ℕ} {y : Result Facts Refusal} → y ≡ loaded s → x ≡ or_short (length out) (most_of y (table_of s)) (listed_as y (table_of s))
      → o ≡ kept_if_short (most_of y (table_of s)) out (listed_in y (table_of s) out) → (x ≡ disassembling (length out) s) × (o ≡ disassembling_in s out)
  unfolding disassembling disassembling_in disassembled disassembled_in
  answers e a w = (
    a ∙ ap (λ (z : Result Facts Refusal). or_short (length out) (most_of z (table_of s)) (listed_as z (table_of s))) e,
    w ∙ ap (λ (z : Result Facts Refusal). kept_if_short (most_of z (table_of s)) out (listed_in z (table_of s) out)) e,
  )

  refused : {r : Refusal} → Err r ≡ loaded s → (Ok (Err r) ≡ disassembling (length out) s) × (out ≡ disassembling_in s out)
  refused e = answers e (fits (length out) 0 (omega arith) refl) (put_in_lem 0 out (omega arith) refl)

pub write_text-requires : goal.write_text-requires
write_text-requires c =
    let h = shape _ _ (sym c.load_in-loaded.ensures.value ∙ c.in-Ok.is) in
    record { threads = h.threads; actions = h.actions; counts = h.counts }

pub returns-in-Err : goal.returns-in-Err
returns-in-Err c = let v = refused _ _ (sym c.in-Err.is ∙ c.load_in-loaded.ensures.value) in record { value = v.0; out_after = v.1; rises_after = c.load_in-loaded.ensures.rises_after }

pub returns-in-Ok : goal.returns-in-Ok
returns-in-Ok c = let v = answers _ _ (sym c.in-Ok.is ∙ c.load_in-loaded.ensures.value) c.write_text.ensures.value c.write_text.ensures.out_after in record { value = v.0; out_after = v.1; rises_after = c.load_in-loaded.ensures.rises_after }
