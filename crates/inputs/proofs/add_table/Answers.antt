-- `inputs::add_table` meets its contract, by what is answered to the text of the table.
use native.Mathlib.Omega.{arith}
use Prim.Native.Nat.{ℕ, ◌≤◌}
use mathlib.Core.Path.{◌≡◌, refl, sym, ap, ◌∙◌}
use mathlib.Core.List.{List, ◌∷◌, [], ◌++◌}
use lib.ListN.{length, take}
use lib.Seq.{length-take-le}
use Rattle.text.specs.Puts.{Puts}
use Rattle.assembly.specs.Assembly.{longest_text, assembled, assembled_in}
use Rattle.assembly.specs.declared.Expected.{Expected}
use Rattle.assembly.specs.declared.AssemblyError.TheVariants.{Malformed, Refused}
use Rattle.std.specs.Prelude.{Err, Ok, Result}
use Rattle.assembly.proofs.FaultLines.{line_of, line_small}
use Rattle.assembly.proofs.Within.{written_within}
use Rattle.table.specs.declared.Refusal.{Refusal}
use Rattle.inputs.specs.Front.{Front}
use Rattle.inputs.specs.Input.{front_texts, with_table, filled_with}
use Rattle.inputs.specs.Code.Steps.{Passed}
use Rattle.inputs.specs.declared.InputError.{InputError}
use Rattle.inputs.proofs.Tables.{table_written, table_small, input_put}
use Rattle.inputs.proofs.add_table.Goals as goal

small : (o : List ℕ) (k : ℕ) → k ≤ length o → k ≤ 36868 → length (take k o) ≤ 36868
small o k h l = omega (arith, length-take-le k o h)

-- the lines that an answer names are near
module _ (s : List ℕ) (lines : ℕ) (h : lines ≤ longest_text) where
  near_fault : {line : ℕ} {e : Expected} → assembled s ≡ Err (Malformed line e) → Passed lines line
  unfolding line_of
  near_fault q = record { front = h; back = rw q at (line_small s) }

  near_refusal : {r : Refusal} {line : ℕ} → assembled s ≡ Err (Refused r line) → Passed lines line
  unfolding line_of
  near_refusal q = record { front = h; back = rw q at (line_small s) }

module _ (f : Front) (lines : ℕ) (s out : List ℕ) where
  abbrev Answers : Result ℕ InputError → List ℕ → Type 0
  Answers r o = (r ≡ with_table f lines s (assembled s)) × (o ≡ filled_with (assembled s) f s out)

  written : (table₀ table o : List ℕ) (k r : ℕ) → assembled s ≡ Ok k → table ≡ assembled_in s table₀ → 40970 ≤ length out
      → Puts out 0 o r (front_texts f ++ (take k table ∷ [])) 40970 → Answers (Ok r) o
  written table₀ table o k r q e h p =
      let x = input_put f s out o (take k table) r (table_written s table₀ table k q e) h p in
      (rw q (ap Ok x.0), rw q x.1)

pub slice_bounds-table-end : goal.slice_bounds-table-end
slice_bounds-table-end c = written_within _ _ _ _ (sym c.assemble-answer.ensures.value ∙ c.in-Ok.is) c.assemble-answer.ensures.out_after

pub slice_bounds-put_input-end : goal.slice_bounds-put_input-end
slice_bounds-put_input-end c = sym (length-take-le _ _ (written_within _ _ _ _ (sym c.assemble-answer.ensures.value ∙ c.in-Ok.is) c.assemble-answer.ensures.out_after))

pub put_input-requires : goal.put_input-requires
put_input-requires c = (c.requires.room, small _ _ (written_within _ _ _ _ (sym c.assemble-answer.ensures.value ∙ c.in-Ok.is) c.assemble-answer.ensures.out_after) (table_small _ _ (sym c.assemble-answer.ensures.value ∙ c.in-Ok.is)))

pub later-requires : goal.later-requires
later-requires c = near_fault _ _ c.requires.passed (sym c.assemble-answer.ensures.value ∙ c.in-Err.is ∙ ap Err c.in-Malformed.is)

pub later-requires-in-Refused : goal.later-requires-in-Refused
later-requires-in-Refused c = near_refusal _ _ c.requires.passed (sym c.assemble-answer.ensures.value ∙ c.in-Err.is ∙ ap Err c.in-Refused.is)

pub returns-in-Ok : goal.returns-in-Ok
returns-in-Ok c = let both = written _ _ _ _ _ _ _ _ _ (sym c.assemble-answer.ensures.value ∙ c.in-Ok.is) c.assemble-answer.ensures.out_after c.requires.wide c.put_input.ensures in record { value = both.0; out_after = both.1 }

pub returns-in-TooLong : goal.returns-in-TooLong
returns-in-TooLong c = let e = sym c.assemble-answer.ensures.value ∙ c.in-Err.is ∙ ap Err c.in-TooLong.is in record { value = rw e refl; out_after = rw e refl }

pub returns-in-Malformed : goal.returns-in-Malformed
returns-in-Malformed c = let e = sym c.assemble-answer.ensures.value ∙ c.in-Err.is ∙ ap Err c.in-Malformed.is in record { value = rw (e, c.later.ensures) refl; out_after = rw e refl }

pub returns-in-Refused : goal.returns-in-Refused
returns-in-Refused c = let e = sym c.assemble-answer.ensures.value ∙ c.in-Err.is ∙ ap Err c.in-Refused.is in record { value = rw (e, c.later-in-Refused.ensures) refl; out_after = rw e refl }
