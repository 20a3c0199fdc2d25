-- An answer's number and row, where the answer is known.
use Rattle.std.specs.Prelude.{Err, Ok, Result}
use Rattle.table.specs.declared.Refusal.{Refusal}
use mathlib.Core.Path.{◌≡◌, sym, ap, ◌∙◌}
use Prim.Native.Nat.{ℕ}
use mathlib.Core.List.{List, [], ◌∷◌}
use Rattle.assembly.specs.Unseen.{unseen_at}
use Rattle.assembly.specs.declared.Expected.{Expected}
use Rattle.assembly.specs.declared.unseen.Unseen.{Unseen}
use Rattle.assembly.specs.declared.AssemblyError.{AssemblyError}
use Rattle.assembly.specs.declared.AssemblyError.TheVariants.{Malformed}
use Rattle.assembly.specs.declared.Short.{Short}
use Rattle.wivakkol_desk.specs.Rows.{expected_code, expected_thread, unseen_code, number_of, row_of, assemble_number, assemble_row, listed_number, listed_row, disassemble_number, disassemble_row}

-- of a text's answer x that is y
pub same_row : (s : List ℕ) (x y : Result ℕ AssemblyError) → x ≡ y → (number_of y ≡ number_of x) × (row_of s y ≡ row_of s x)
same_row s x y e = (ap number_of (sym e), ap (λ (z : Result ℕ AssemblyError). row_of s z) (sym e))

pub fault_row : (s : List ℕ) (x : Result ℕ AssemblyError) (line : ℕ) (e : Expected) (c t v : ℕ) (u : Unseen) → x ≡ Err (Malformed line e) → u ≡ unseen_at s line → c ≡ expected_code e → t ≡ expected_thread e → v ≡ unseen_code u
    → (number_of (Err (Malformed line e)) ≡ number_of x) × (0 ∷ 0 ∷ line ∷ c ∷ t ∷ v ∷ [] ≡ row_of s x)
fault_row s x line e c t v u g q a b w =
    let r = same_row s x (Err (Malformed line e)) g in
    let l : 0 ∷ 0 ∷ line ∷ c ∷ t ∷ v ∷ [] ≡ row_of s (Err (Malformed line e)) = rw (a, b, w, q) in
    (r.0, l ∙ r.1)

-- of an answer x that is y, in a buffer that has room or has not
pub answered_row : (s : List ℕ) (x y : Result (Result ℕ AssemblyError) Short) (a : Result ℕ AssemblyError) (n : ℕ) (l : List ℕ) → x ≡ Ok a → x ≡ y → n ≡ number_of a → l ≡ row_of s a
    → (n ≡ assemble_number y) × (l ≡ assemble_row s y)
answered_row s x y a n l g q e w =
    let z : Ok a ≡ y = sym g ∙ q in
    (e ∙ ap assemble_number z, w ∙ ap (λ (v : Result (Result ℕ AssemblyError) Short). assemble_row s v) z)

pub short_row : (s : List ℕ) (x y : Result (Result ℕ AssemblyError) Short) (k : Short) → x ≡ Err k → x ≡ y → (assemble_number (Err k) ≡ assemble_number y) × (assemble_row s (Err k) ≡ assemble_row s y)
short_row s x y k g q =
    let z : Err k ≡ y = sym g ∙ q in
    (ap assemble_number z, ap (λ (v : Result (Result ℕ AssemblyError) Short). assemble_row s v) z)

-- and of a table
pub told_row : (x y : Result (Result ℕ Refusal) Short) (a : Result ℕ Refusal) (n : ℕ) (l : List ℕ) → x ≡ Ok a → x ≡ y → n ≡ listed_number a → l ≡ listed_row a
    → (n ≡ disassemble_number y) × (l ≡ disassemble_row y)
told_row x y a n l g q e w =
    let z : Ok a ≡ y = sym g ∙ q in
    (e ∙ ap disassemble_number z, w ∙ ap disassemble_row z)

pub lacks_row : (x y : Result (Result ℕ Refusal) Short) (k : Short) → x ≡ Err k → x ≡ y → (disassemble_number (Err k) ≡ disassemble_number y) × (disassemble_row (Err k) ≡ disassemble_row y)
lacks_row x y k g q =
    let z : Err k ≡ y = sym g ∙ q in
    (ap disassemble_number z, ap disassemble_row z)
