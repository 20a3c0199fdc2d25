-- What fits a buffer of some length; the longest table fits 36,868 bytes, the longest text 266,240.
use Rattle.std.specs.Prelude.{Err, Ok, Result}
use Rattle.table.specs.declared.Facts.{Facts}
use Rattle.table.specs.declared.Refusal.{Refusal}
use Prim.Native.Nat.{ℕ, ◌+◌, ◌*◌, ◌≤◌, ◌<◌}
use native.Mathlib.Omega.{arith}
use mathlib.Core.Path.{◌≡◌, refl, sym, ap, ◌∙◌}
use mathlib.Core.List.{List}
use mathlib.Core.Bool.{Bool, true, false}
use borrow.Author.Tests.{lt-ltb, le-ltb}
use lib.Dec.{ltb}
use lib.ListN.{length}
use Rattle.table.specs.Sum.{pick}
use Rattle.table.specs.Format.{table_of}
use Rattle.table.specs.Load.{loaded}
use Rattle.assembly.specs.Said.{saids}
use Rattle.assembly.specs.Assembly.{needing, checked, longest_text, sizes_outside, bytes_by, bytes_needed, or_short, kept_if_short, assembled, assembling, assembled_in, assembling_in}
use Rattle.assembly.specs.Disassembly.{most_of, disassembled, disassembling, disassembled_in, disassembling_in}
use Rattle.assembly.proofs.TableRows.{in_range}
use Rattle.assembly.proofs.Accepted.{shape}
use Rattle.assembly.specs.declared.AssemblyError.{AssemblyError}
use Rattle.assembly.specs.declared.Short.{Short}
use Rattle.assembly.specs.declared.check.Counts.{Counts}
use Rattle.assembly.specs.declared.check.Fault.{Fault}

-- ---- an answer, or the bytes that are lacking

pub fits : {E : Type 0} (room k : ℕ) {x a : Result ℕ E} → k ≤ room → x ≡ a → Ok x ≡ or_short room k a
fits room k h d = rw (le-ltb room k h) (ap Ok d)

pub lacks : {E : Type 0} (room k : ℕ) {j : ℕ} (a : Result ℕ E) → room < k → j ≡ k → Err (needing j) ≡ or_short room k a
lacks room k a h e = rw (lt-ltb room k h) (ap (λ (i : ℕ). Err (needing i)) e)

pub put_in_lem : (k : ℕ) (out : List ℕ) {o w : List ℕ} → k ≤ length out → o ≡ w → o ≡ kept_if_short k out w
put_in_lem k out h d = rw (le-ltb (length out) k h) d

pub kept : (k : ℕ) (out w : List ℕ) → length out < k → out ≡ kept_if_short k out w
kept k out w h = rw (lt-ltb (length out) k h)

-- ---- the longest table

bytes_by_most : (y : Result Counts Fault) → bytes_by y ≤ 36868
bytes_by_most (Err e) = omega arith
bytes_by_most (Ok c) = go (sizes_outside c.threads c.actions) refl
  where
    go : (t : Bool) → sizes_outside c.threads c.actions ≡ t → pick t 0 (4 + 4 * c.threads + 4 * c.actions) ≤ 36868
    go true e = omega arith
    go false e = let r = in_range c.threads c.actions e in omega (arith, r.0, r.1)

bytes_most : (s : List ℕ) → bytes_needed s ≤ 36868
unfolding bytes_needed
bytes_most s = go (ltb longest_text (length s))
  where
    go : (t : Bool) → pick t 0 (bytes_by (checked (saids s))) ≤ 36868
    go true = omega arith
    go false = bytes_by_most (checked (saids s))

-- in such a buffer the table is never too long
module _ (s out : List ℕ) (room : 36868 ≤ length out) where
  enough : bytes_needed s ≤ length out
  enough = omega (arith, bytes_most s, room)

  ample : assembling (length out) s ≡ Ok (assembled s)
  unfolding assembling
  ample = sym (fits (length out) (bytes_needed s) enough refl)

  ample_in : assembling_in s out ≡ assembled_in s out
  unfolding assembling_in
  ample_in = sym (put_in_lem (bytes_needed s) out enough refl)

  pub answered_whole : (x : Result (Result ℕ AssemblyError) Short) (a : Result ℕ AssemblyError) (o : List ℕ) → x ≡ Ok a → x ≡ assembling (length out) s → o ≡ assembling_in s out → (a ≡ assembled s) × (o ≡ assembled_in s out)
  answered_whole x a o e q w =
      let p : Ok a ≡ Ok (assembled s) = sym e ∙ q ∙ ample in
      let v : a ≡ assembled s = cc in
      (v, w ∙ ample_in)

  pub never_short : (x : Result (Result ℕ AssemblyError) Short) (k : ℕ) → x ≡ Err (needing k) → x ≡ assembling (length out) s → ◌≡◌ {A = ℕ} 0 1
  never_short x k e q =
      let p : Err (needing k) ≡ Ok (assembled s) = sym e ∙ q ∙ ample in
      cc

-- ---- the longest text

most_text_lem : (s : List ℕ) → most_of (loaded s) (table_of s) ≤ 266240
unfolding table_of
most_text_lem s = go (loaded s) refl
  where
    go : (y : Result Facts Refusal) → loaded s ≡ y → most_of y (table_of s) ≤ 266240
    go (Ok f) e = let h = shape s f e in omega (arith, h.threads, h.actions)
    go (Err r) e = omega arith

module _ (s out : List ℕ) (room : 266240 ≤ length out) where
  enough_text : most_of (loaded s) (table_of s) ≤ length out
  enough_text = omega (arith, most_text_lem s, room)

  ample_text : disassembling (length out) s ≡ Ok (disassembled s)
  unfolding disassembling
  ample_text = sym (fits (length out) (most_of (loaded s) (table_of s)) enough_text refl)

  ample_text_in : disassembling_in s out ≡ disassembled_in s out
  unfolding disassembling_in
  ample_text_in = sym (put_in_lem (most_of (loaded s) (table_of s)) out enough_text refl)

  pub told_whole : (x : Result (Result ℕ Refusal) Short) (a : Result ℕ Refusal) (o : List ℕ) → x ≡ Ok a → x ≡ disassembling (length out) s → o ≡ disassembling_in s out → (a ≡ disassembled s) × (o ≡ disassembled_in s out)
  told_whole x a o e q w =
      let p : Ok a ≡ Ok (disassembled s) = sym e ∙ q ∙ ample_text in
      let v : a ≡ disassembled s = cc in
      (v, w ∙ ample_text_in)

  pub text_never_short : (x : Result (Result ℕ Refusal) Short) (k : ℕ) → x ≡ Err (needing k) → x ≡ disassembling (length out) s → ◌≡◌ {A = ℕ} 0 1
  text_never_short x k e q =
      let p : Err (needing k) ≡ Ok (disassembled s) = sym e ∙ q ∙ ample_text in
      cc
