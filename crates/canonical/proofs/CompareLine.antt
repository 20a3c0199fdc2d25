-- The lines that tell how two tables compare fit their buffer, and the input's two tables are those that the code takes.
use mathlib.Core.Path.{◌≡◌, sym, ap, ◌∙◌}
use Prim.Native.Nat.{ℕ, ◌≤◌, ◌<◌, min}
use mathlib.Core.List.{List, [], ◌++◌}
use native.Mathlib.Omega.{arith}
use native.Mathlib.Decide.{dec_le}
use borrow.Author.Tests.{lt-ltb, le-ltb}
use lib.ListN.{length, take, drop, drop_of_length-le}
use lib.Seq.{take_all, drop-length}
use Rattle.table.specs.Pass.{refusal}
use Rattle.text.specs.Text.{refused_line, buffer_at, placed}
use Rattle.text.proofs.Placing.{line_put}
use Rattle.rows.specs.Rows.{over}
use Rattle.canonical.specs.Answers.{compared}
use Rattle.canonical.specs.Lines.{compared_line, first_table, second_table, compare_line}
use Rattle.std.specs.Prelude.{Result}
use Rattle.std.specs.declared.cmp.Ordering.{Ordering}
use Rattle.canonical.specs.declared.RefusedTable.{RefusedTable}

module _ (s : List ℕ) (long : length s ≡ 80) where
  -- one word that fits
  pub word_told : (w : List ℕ) → length w ≤ 80 → (o : List ℕ) (r : ℕ) → buffer_at o r ≡ placed s 0 w → (r ≡ length w) × (o ≡ over w s)
  word_told w h o r e =
      let p = line_put s o r w [] (omega arith) e in
      (p.0, p.1 ∙ ap (λ (k : ℕ). w ++ drop k s) p.0)

-- a length past the end takes what is there
pub take_what_is : (n : ℕ) (l : List ℕ) → take (min n (length l)) l ≡ take n l
take_what_is n l = go (dec_le n (length l))
  where
    go : Dec (n ≤ length l) → take (min n (length l)) l ≡ take n l
    go (yes p) = let z : min n (length l) ≡ n = omega arith in rw z
    go (no p) = let z : min n (length l) ≡ length l = omega (arith, p) in rw z (take_all (length l) l (omega arith) ∙ sym (take_all n l (omega (arith, p))))

pub drop_what_is : (n : ℕ) (l : List ℕ) → drop (min n (length l)) l ≡ drop n l
drop_what_is n l = go (dec_le n (length l))
  where
    go : Dec (n ≤ length l) → drop (min n (length l)) l ≡ drop n l
    go (yes p) = let z : min n (length l) ≡ n = omega arith in rw z
    go (no p) = let z : min n (length l) ≡ length l = omega (arith, p) in rw z (drop-length l ∙ sym (drop_of_length-le l {i = n} (omega (arith, p))))

-- ---- the answer to an input

pub short_told : (input s o : List ℕ) (r : ℕ) → length input < 4 → r ≡ length (refused_line (refusal 33 0)) → o ≡ refused_line (refusal 33 0) ++ drop r s
    → (r ≡ length (compare_line input)) × (o ≡ over (compare_line input) s)
unfolding compare_line
short_told input s o r h e p = rw (lt-ltb (length input) 4 h) (e, p ∙ ap (λ (k : ℕ). refused_line (refusal 33 0) ++ drop k s) e)

pub tables_told : (input first second s o : List ℕ) (r : ℕ) → 4 ≤ length input → first ≡ first_table input → second ≡ second_table input → (x : Result Ordering RefusedTable) → x ≡ compared first second
    → r ≡ length (compared_line x) → o ≡ over (compared_line x) s → (r ≡ length (compare_line input)) × (o ≡ over (compare_line input) s)
unfolding compare_line
tables_told input first second s o r h e f x g p q =
    let z : x ≡ compared (first_table input) (second_table input) = g ∙ rw (e, f) in
    rw (le-ltb (length input) 4 h, ← z) (p, q)
