-- The input of `jointables` taken apart, and what is written for it.
use mathlib.Core.Path.{◌≡◌, refl, sym, ap, ◌∙◌}
use Prim.Native.Nat.{ℕ, zero, suc, ◌+◌, ◌*◌, ◌≤◌, ◌<◌}
use mathlib.Core.List.{List, [], ◌∷◌}
use mathlib.Core.Bool.{Bool, true, false}
use native.Mathlib.Omega.{arith}
use native.Mathlib.Decide.{dec_lt}
use borrow.Author.Tests.{lt-ltb, le-ltb, ne_eqb}
use lib.ListN.{length, take, drop, length-append}
use lib.Seq.{take_at}
use Rattle.io.specs.Counts.{IsPrefixLen}
use Rattle.table.specs.Sum.{pick}
use Rattle.table.specs.Format.{u16_at}
use Rattle.table.specs.Pass.{refusal}
use Rattle.table.specs.declared.Facts.{Facts}
use Rattle.table.proofs.Tests.{no_way}
use Rattle.text.proofs.Placing.{counts}
use Rattle.rows.specs.Rows.{over}
use Rattle.joining.specs.Joining.{joined_bytes}
use Rattle.joining.specs.Answers.{parts_of, parts_wrong, joined, joined_in, left_by, join_values, join_values_of}
use Rattle.joining.specs.Given.{count_in, length_in, lengths_to, lengths_in, tables_in, input_short, joined_given, given_in, given_values, joined_size}
use Rattle.joining.proofs.JoinAnswers.{wrong_is, values_are}
use Rattle.joining.proofs.JoinedExactly.{joined_size_lem}
use Rattle.joining.specs.declared.JoinError.{JoinError}
use Rattle.joining.specs.declared.JoinError.TheVariants.{Whole}
use Rattle.std.specs.Prelude.{Err, Ok, Result}

-- ---- the input

-- 32 bits, in two halves
pub length_is : (input : List ℕ) (i low high : ℕ) → low ≡ u16_at input (4 * i + 1) → high ≡ u16_at input (4 * i + 3) → low + 65536 * high ≡ length_in input i
length_is input i low high e f =
    let a : 4 * i + 1 ≡ 1 + 4 * i = omega arith in
    let b : 4 * i + 3 ≡ 1 + 4 * i + 2 = omega arith in
    let d : 1 + 4 * i + 2 + 1 ≡ 1 + 4 * i + 3 = omega arith in
    rw (e, f, a, b, d) (omega arith)

lengths_length : (input : List ℕ) (k : ℕ) → length (lengths_to input k) ≡ k
unfolding lengths_to
lengths_length input zero = refl
lengths_length input (suc k) = omega (arith, length-append (lengths_to input k) (length_in input k ∷ []), lengths_length input k)

-- ---- the answer

pub record Says (input out : List ℕ) (x : Result Facts JoinError) (o : List ℕ) : Type 0 where
  pub answer : x ≡ joined_given input
  pub values : join_values_of x ≡ given_values input
  pub left : o ≡ given_in input out

module _ (input out : List ℕ) where
  pub short_said : length input < 1 + 4 * count_in input → Says input out (Err (Whole (refusal 47 0))) out
  unfolding joined_given given_values given_in
  short_said h =
      let z : input_short input ≡ true = lt-ltb (length input) (1 + 4 * count_in input) h in
      record { answer = rw z; values = rw z; left = rw z }

  pub whole_said : (x : Result Facts JoinError) (o : List ℕ) → 1 + 4 * count_in input ≤ length input → x ≡ joined (lengths_in input) (tables_in input)
      → join_values_of x ≡ join_values (lengths_in input) (tables_in input) → o ≡ joined_in (lengths_in input) (tables_in input) out → Says input out x o
  unfolding joined_given given_values given_in
  whole_said x o h e v p =
      let z : input_short input ≡ false = le-ltb (length input) (1 + 4 * count_in input) h in
      record { answer = rw z e; values = rw z v; left = rw z p }

  too_many : 16 < count_in input → parts_wrong (lengths_in input) (tables_in input) ≡ true
  unfolding parts_wrong
  too_many h =
      let n : length (lengths_in input) ≡ count_in input = lengths_length input (count_in input) in
      rw (ne_eqb (length (lengths_in input)) 0 (λ e. absurd (omega (arith, e, n))), lt-ltb 16 (length (lengths_in input)) (omega (arith, n)))

  -- more than sixteen
  pub many_said : 16 < count_in input → Says input out (Err (Whole (refusal 47 0))) out
  unfolding joined_in
  many_said h = go (dec_lt (length input) (1 + 4 * count_in input))
    where
      w : Err (Whole (refusal 47 0)) ≡ joined (lengths_in input) (tables_in input)
      w = wrong_is (lengths_in input) (tables_in input) (too_many h)

      go : Dec (length input < 1 + 4 * count_in input) → Says input out (Err (Whole (refusal 47 0))) out
      go (yes s) = short_said s
      go (no s) = whole_said (Err (Whole (refusal 47 0))) out (omega (arith, s)) w (ap join_values_of w ∙ values_are (lengths_in input) (tables_in input)) (rw (← w))

-- ---- what is written

-- what lies at a buffer's start
over_front : (front out : List ℕ) (k : ℕ) → k ≡ length front → (take k (over front out) ≡ front) × (k ≤ length (over front out))
over_front front out k e = (take_at front (drop (length front) out) k (sym e), omega (arith, length-append front (drop (length front) out)))

module _ (input out : List ℕ) where
  abbrev table : List ℕ
  table = joined_bytes (parts_of (lengths_in input) (tables_in input))

  front : (f : Facts) → joined_given input ≡ Ok f → (joined_size (Ok f) ≡ length table) × (given_in input out ≡ over table out)
  unfolding joined_given given_in joined_in
  front f h = go (input_short input) refl h
    where
      go : (b : Bool) → input_short input ≡ b → pick {A = Result Facts JoinError} b (Err (Whole (refusal 47 0))) (joined (lengths_in input) (tables_in input)) ≡ Ok f
          → (joined_size (Ok f) ≡ length table) × (pick b out (left_by (joined (lengths_in input) (tables_in input)) table out) ≡ over table out)
      go true e d = absurd (no_way (cc))
      go false e d = (sym (joined_size_lem (lengths_in input) (tables_in input) f d), rw d)

  -- a program that writes so many bytes of the buffer writes the joined table
  pub given_table : (f : Facts) → joined_given input ≡ Ok f → take (joined_size (Ok f)) (given_in input out) ≡ joined_bytes (parts_of (lengths_in input) (tables_in input))
  given_table f h = let p = front f h in rw p.1 (over_front table out (joined_size (Ok f)) p.0).0

  -- which the buffer has
  pub given_within : (x : Result Facts JoinError) (o : List ℕ) (k : ℕ) → x ≡ joined_given input → o ≡ given_in input out → k ≡ joined_size x → IsPrefixLen k o
  given_within x o k h p e = counts o k (go x (sym h) e)
    where
      go : (y : Result Facts JoinError) → joined_given input ≡ y → k ≡ joined_size y → k ≤ length o
      go (Ok f) g e = let w = front f g in rw (p ∙ w.1) (over_front table out k (e ∙ w.0)).1
      go (Err x) g e = omega arith
