-- The front and an assembled table, put one after the other, are the input.
use Prim.Native.Nat.{ℕ, ◌≤◌}
use native.Mathlib.Omega.{arith}
use mathlib.Core.Path.{◌≡◌, sym, ap, ◌∙◌}
use mathlib.Core.List.{List, [], ◌∷◌, ◌++◌, append-nil, flatten}
use borrow.Author.Tests.{le-ltb}
use lib.ListN.{length, take, drop}
use lib.Seq.{take_at}
use Rattle.text.specs.Puts.{Puts}
use Rattle.text.proofs.Putting.{flatten_append, puts_whole}
use Rattle.assembly.specs.Said.{saids}
use Rattle.assembly.specs.Assembly.{table_bytes, over, longest_text, assembled, assembled_in}
use Rattle.std.specs.Prelude.{Ok}
use Rattle.assembly.proofs.Counts.{totals}
use Rattle.assembly.proofs.TableRows.{table_length, in_range}
use Rattle.assembly.proofs.SameWords.{assembles}
use Rattle.inputs.specs.Front.{Front}
use Rattle.inputs.specs.Input.{front_texts, input_bytes}

-- the table that was written
pub table_written : (s out o : List ℕ) (k : ℕ) → assembled s ≡ Ok k → o ≡ assembled_in s out → take k o ≡ table_bytes (saids s)
unfolding assembled_in
table_written s out o k q e =
    let a = assembles s k q in
    let w : o ≡ over (table_bytes (saids s)) out = e ∙ rw (le-ltb longest_text (length s) a.short, a.well_formed, a.sized) in
    rw w (take_at (table_bytes (saids s)) (drop (length (table_bytes (saids s))) out) k (sym a.long))

-- no table is longer than 1,024 threads and 8,192 actions make it
pub table_small : (s : List ℕ) (k : ℕ) → assembled s ≡ Ok k → k ≤ 36868
table_small s k q =
    let a = assembles s k q in
    let c = totals (saids s) 1 0 0 a.threads a.actions a.well_formed in
    let r = in_range a.threads a.actions a.sized in
    omega (arith, a.long, table_length (saids s), c.threads, c.actions, r.0, r.1)

pub input_put : (f : Front) (s out o t : List ℕ) (r : ℕ) → t ≡ table_bytes (saids s) → 40970 ≤ length out → Puts out 0 o r (front_texts f ++ (t ∷ [])) 40970
    → (r ≡ length (input_bytes f s)) × (o ≡ over (input_bytes f s) out)
unfolding flatten
input_put f s out o t r e h p =
    let b : flatten (front_texts f ++ (t ∷ [])) ≡ input_bytes f s = flatten_append (front_texts f) (t ∷ []) ∙ ap (λ (x : List ℕ). flatten (front_texts f) ++ x) (append-nil t ∙ e) in
    let q = puts_whole h p in
    let l : r ≡ length (input_bytes f s) = q.0 ∙ ap length b in
    (l, q.1 ∙ rw (b, l))
