-- No line of a text is far: neither that of a fault nor that of a refusal.
use Rattle.std.specs.Prelude.{Err, Ok, Result}
use Rattle.table.specs.declared.Facts.{Facts}
use Prim.Native.Nat.{ℕ, suc, ◌+◌, ◌≤◌}
use native.Mathlib.Omega.{arith}
use mathlib.Core.Path.{◌≡◌, refl}
use mathlib.Core.List.{List, [], ◌∷◌}
use mathlib.Core.Bool.{Bool, true, false, ◌&&◌}
use borrow.Author.Tests.{ltb-false}
use lib.Dec.{eqb, ltb}
use lib.ListN.{length, length-map}
use Rattle.table.specs.Sum.{pick}
use Rattle.table.specs.Load.{loaded}
use Rattle.table.specs.declared.Refusal.{Refusal}
use Rattle.assembly.specs.Words.{onto, parts, is_newline, lines_of}
use Rattle.assembly.specs.Said.{line_said, saids}
use Rattle.assembly.specs.Assembly.{counted_by, onward, checked_from, checked, table_bytes, longest_text, left_after, line_that, names_thread, is_thread, is_action, refused_at, judged, sizes_outside, answered, assembled}
use Rattle.assembly.specs.declared.Said.{Said}
use Rattle.assembly.specs.declared.AssemblyError.{AssemblyError}
use Rattle.assembly.specs.declared.AssemblyError.TheVariants.{TooLong, Malformed, Refused}
use Rattle.assembly.specs.declared.check.Counts.{Counts}
use Rattle.assembly.specs.declared.check.Fault.{Fault}
use Rattle.assembly.specs.declared.Expected.{Expected}

parts_length : (p : ℕ → Bool) (s : List ℕ) → length (parts p s) ≤ length s
unfolding parts
parts_length p [] = omega arith
parts_length p (b ∷ s) = go (p b) (parts p s) (parts_length p s)
  where
    go : (t : Bool) (ls : List (List ℕ)) → length ls ≤ length s → length (pick t ([] ∷ ls) (onto b ls)) ≤ suc (length s)
    go true ls h = omega arith
    go false [] h = omega arith
    go false (l ∷ ls) h = omega arith

saids_length : (s : List ℕ) → length (saids s) ≤ length s
saids_length s = rw (length-map (lines_of s) line_said) (parts_length is_newline s)

-- the line of a check's fault, 0 where there is none
abbrev fault_line : Result Counts Fault → ℕ
fault_line (Err e) = e.line
fault_line (Ok c) = 0

fault_near : (l : List Said) (line n m : ℕ) → fault_line (checked_from line n m l) ≤ line + length l
unfolding checked_from
fault_near [] line n m = omega arith
fault_near (x ∷ l) line n m = go (counted_by x n m) (λ (a b : ℕ). fault_near l (suc line) a b)
  where
    go : (c : Result Counts Expected) → ((a b : ℕ) → fault_line (checked_from (suc line) a b l) ≤ suc line + length l)
        → fault_line (onward c line (λ (a b : ℕ). checked_from (suc line) a b l)) ≤ line + suc (length l)
    go (Ok c) h = omega (arith, h c.threads c.actions)
    go (Err e) h = omega arith

line_near : (p : Said → Bool) (l : List Said) (line k : ℕ) → line_that p line k l ≤ line + length l
unfolding line_that
line_near p [] line k = omega arith
line_near p (x ∷ l) line k = go (p x && eqb k 0) (line_near p l (suc line) (left_after (p x) k))
  where
    go : (t : Bool) → line_that p (suc line) (left_after (p x) k) l ≤ suc line + length l
        → pick t line (line_that p (suc line) (left_after (p x) k) l) ≤ line + suc (length l)
    go true h = omega arith
    go false h = omega arith

refused_near : (r : Refusal) (l : List Said) → refused_at r l ≤ 1 + length l
unfolding refused_at
refused_near r l = go (names_thread r.number)
  where
    go : (t : Bool) → pick t (line_that is_thread 1 r.place l) (line_that is_action 1 r.place l) ≤ 1 + length l
    go true = line_near is_thread l 1 r.place
    go false = line_near is_action l 1 r.place

-- the line that an answer names, 0 where it names none
unfoldable pub line_of : Result ℕ AssemblyError → ℕ
line_of (Ok k) = 0
line_of (Err TooLong) = 0
line_of (Err (Malformed line e)) = line
line_of (Err (Refused r line)) = line

judged_near : (y : Result Facts Refusal) (l : List Said) → line_of (judged y l) ≤ 1 + length l
unfolding line_of
judged_near (Ok f) l = omega arith
judged_near (Err r) l = refused_near r l

answered_near : (c : Result Counts Fault) (l : List Said) → fault_line c ≤ 1 + length l → line_of (answered c l) ≤ 1 + length l
unfolding line_of
answered_near (Err e) l h = h
answered_near (Ok c) l h = go (sizes_outside c.threads c.actions)
  where
    go : (t : Bool) → line_of (pick t (Err (Refused (record { number = 2; place = 0 }) 0)) (judged (loaded (table_bytes l)) l)) ≤ 1 + length l
    go true = omega arith
    go false = judged_near (loaded (table_bytes l)) l

pub line_small : (s : List ℕ) → line_of (assembled s) ≤ suc longest_text
unfolding assembled line_of
line_small s = go (ltb longest_text (length s)) refl
  where
    go : (t : Bool) → ltb longest_text (length s) ≡ t → line_of (pick t (Err TooLong) (answered (checked (saids s)) (saids s))) ≤ suc longest_text
    go true e = omega arith
    go false e =
        omega (arith, answered_near (checked (saids s)) (saids s) (fault_near (saids s) 1 0 0), saids_length s, ltb-false longest_text (length s) e)
