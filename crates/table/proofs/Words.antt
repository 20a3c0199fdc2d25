-- An entry or an action is read as one number of 32 bits: what its bytes and words are.
use mathlib.Core.Path.{◌≡◌}
use Prim.Native.Nat.{ℕ, ◌+◌, ◌*◌, ◌/◌, ◌%◌, ◌≤◌}
use mathlib.Core.List.{List}
use native.Mathlib.Omega.{arith}
use lib.ListN.{length, get_or, get_or-eq_default}
use lib.Seq.{get_or-drop}
use Rattle.table.specs.Format.{u16_at, u24_at, bodies_from, table_of}
use Rattle.table.specs.Sum.{Read}
use Rattle.table.specs.Code.Steps.{DoubleWord}

-- past the end there are zeros
pub past_end : (s : List ℕ) (i : ℕ) → length s ≤ i → get_or s i 0 ≡ 0
past_end s i h = get_or-eq_default s 0 h

pub word_past_end : (s : List ℕ) (i : ℕ) → length s ≤ i → Read (u16_at s i) 65536 0
word_past_end s i h =
    record { value = omega (arith, past_end s i h, past_end s (i + 1) (omega arith)); small = omega arith }

-- and so in the last byte of what is cut off
pub double_word_cut : (s : List ℕ) (i x y z : ℕ) → length s ≤ i + 3 → Read (get_or s i 0) 256 x → Read (get_or s (i + 1) 0) 256 y → Read (get_or s (i + 2) 0) 256 z
    → DoubleWord s i (x + 256 * y + 65536 * z)
double_word_cut s i x y z h a b c =
    let e : get_or s (i + 3) 0 ≡ 0 = past_end s (i + 3) h in
    record { value = omega arith; byte0 = omega arith; byte1 = omega arith; byte2 = omega arith; byte3 = omega arith }

pub double_word_past_end : (s : List ℕ) (i : ℕ) → length s ≤ i → DoubleWord s i 0
double_word_past_end s i h =
    let zero : (j : ℕ) → length s ≤ j → Read (get_or s j 0) 256 0 = λ j k. record { value = omega (arith, past_end s j k); small = omega arith } in
    double_word_cut s i 0 0 0 (omega arith) (zero i h) (zero (i + 1) (omega arith)) (zero (i + 2) (omega arith))

-- the parts of the number
module _ {s : List ℕ} {i r : ℕ} (d : DoubleWord s i r) where
  pub low_byte : r % 256 ≡ get_or s i 0
  low_byte = omega (arith, d.value)

  pub high_bytes : Read (u24_at s (i + 1) % 16777216) 16777216 (r / 256)
  high_bytes =
      let e : i + 1 + 1 ≡ i + 2 = omega arith in
      let f : i + 1 + 2 ≡ i + 3 = omega arith in
      record { value = rw (e, f) (omega (arith, d.value)); small = omega (arith, d.value) }

  pub low_word : Read (u16_at s i) 65536 (r % 65536)
  low_word = record { value = omega (arith, d.value); small = omega arith }

  pub high_word : Read (u16_at s (i + 2)) 65536 (r / 65536)
  high_word =
      let e : i + 2 + 1 ≡ i + 3 = omega arith in
      record { value = rw e (omega (arith, d.value)); small = omega (arith, d.value) }

-- thread t's entry stands after the head
module _ (s : List ℕ) (t r : ℕ) (d : DoubleWord (bodies_from s 0) (4 * t) r) where
  entry_byte : (j : ℕ) → get_or (bodies_from s 0) (4 * t + j) 0 ≡ get_or s (4 + 4 * t + j) 0
  entry_byte j =
      let e : 4 + (4 * t + j) ≡ 4 + 4 * t + j = omega arith in
      rw (get_or-drop, e)

  entry : DoubleWord s (4 + 4 * t) r
  entry =
      let e : get_or (bodies_from s 0) (4 * t) 0 ≡ get_or s (4 + 4 * t) 0 = get_or-drop 4 s (4 * t) 0 in
      record {
        value = omega (arith, d.value, e, entry_byte 1, entry_byte 2, entry_byte 3);
        byte0 = omega (arith, d.byte0, e);
        byte1 = omega (arith, d.byte1, entry_byte 1);
        byte2 = omega (arith, d.byte2, entry_byte 2);
        byte3 = omega (arith, d.byte3, entry_byte 3);
      }

  pub first_read : Read ((table_of s).first t) 65536 (r % 65536)
  unfolding table_of
  first_read = low_word entry

  pub count_read : Read ((table_of s).count t) 65536 (r / 65536)
  unfolding table_of
  count_read =
      let e : 4 + 4 * t + 2 ≡ 6 + 4 * t = omega arith in
      rw e at (high_word entry)
