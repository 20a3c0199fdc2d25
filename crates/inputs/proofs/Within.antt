-- What is written lies within the buffer.
use Prim.Native.Nat.{ℕ, ◌≤◌}
use native.Mathlib.Omega.{arith}
use mathlib.Core.Path.{◌≡◌, refl, ap, ◌∙◌}
use mathlib.Core.List.{List}
use mathlib.Core.Bool.{Bool, true, false}
use lib.Dec.{ltb}
use lib.ListN.{length, drop, length-append}
use Rattle.assembly.specs.Assembly.{over, longest_text, assembled}
use Rattle.assembly.specs.declared.AssemblyError.{AssemblyError}
use Rattle.assembly.specs.declared.AssemblyError.TheVariants.{TooLong, Malformed, Refused}
use Rattle.std.specs.Prelude.{Err, Ok, Result}
use Rattle.assembly.specs.Unseen.{after_lines}
use Rattle.inputs.specs.Front.{Front, Fronted, whole, fault, front_of}
use Rattle.inputs.specs.Input.{input_bytes, with_table, made_by, made, made_in}
use Rattle.inputs.specs.declared.InputError.{InputError}

no_input : {e : InputError} {k : ℕ} → Err e ≡ Ok k → ⊥
no_input q = let z : ◌≡◌ {A = ℕ} 0 1 = cc in omega arith

-- a text that gives an input of k bytes: its front, and a table
pub record Makes (s : List ℕ) (k : ℕ) : Type 0 where
  pub front : Front
  pub lines : ℕ
  pub size : ℕ
  pub short : ltb longest_text (length s) ≡ false
  pub fronted : front_of s ≡ whole front lines
  pub tabled : assembled (after_lines lines s) ≡ Ok size
  pub long : k ≡ length (input_bytes front (after_lines lines s))

pub makes : (s : List ℕ) (k : ℕ) → made s ≡ Ok k → Makes s k
unfolding made
makes s k q = by_length (ltb longest_text (length s)) refl
  where
    by_table : (f : Front) (n : ℕ) (a : Result ℕ AssemblyError) → assembled (after_lines n s) ≡ a → ltb longest_text (length s) ≡ false → front_of s ≡ whole f n
        → with_table f n (after_lines n s) a ≡ Ok k → Makes s k
    by_table f n (Ok j) d e h r = record { front = f; lines = n; size = j; short = e; fronted = h; tabled = d; long = cc }
    by_table f n (Err TooLong) d e h r = absurd (no_input r)
    by_table f n (Err (Malformed line x)) d e h r = absurd (no_input r)
    by_table f n (Err (Refused x line)) d e h r = absurd (no_input r)

    by_front : (x : Fronted) → front_of s ≡ x → ltb longest_text (length s) ≡ false → made_by x s ≡ Ok k → Makes s k
    by_front (whole f n) h e r = by_table f n (assembled (after_lines n s)) refl e h r
    by_front (fault line w) h e r = absurd (let z : ◌≡◌ {A = ℕ} 0 1 = cc in omega arith)

    by_length : (b : Bool) → ltb longest_text (length s) ≡ b → Makes s k
    by_length true e = absurd (no_input (rw e at q))
    by_length false e = by_front (front_of s) refl e (rw e at q)

-- what the buffer then has
pub made_over : (s out : List ℕ) (k : ℕ) (m : Makes s k) → made_in s out ≡ over (input_bytes m.front (after_lines m.lines s)) out
unfolding made_in
made_over s out k m = rw (m.short, m.fronted, m.tabled)

pub made_within : (s out o : List ℕ) (k : ℕ) → made s ≡ Ok k → o ≡ made_in s out → k ≤ length o
made_within s out o k q e =
    let m = makes s k q in
    let front : List ℕ = input_bytes m.front (after_lines m.lines s) in
    let w : o ≡ over front out = e ∙ made_over s out k m in
    omega (arith, m.long, ap length w, length-append front (drop (length front) out))
