-- The loops of the calls, one step at a time.
use mathlib.Core.Path.{◌≡◌}
use Prim.Native.Nat.{ℕ, suc, ◌+◌, ◌*◌, ◌-◌, ◌<◌, ◌≤◌, max}
use native.Mathlib.Omega.{arith}
use mathlib.Core.List.{List}
use mathlib.Core.Logic.{◌⊎◌, inl, inr}
use mathlib.Core.Bool.{Bool}
use lib.ListN.{get_or, set}
use Rattle.table.specs.Sum.{pick}
use borrow.Author.Tests.{lt-ltb, le-ltb, le-leb, lt-leb, eq-eqb, ne_eqb}
use Rattle.pace.specs.Pace.{most_from, counted, renewed, one_more, paced, blank, start_pace, asked, may, may_number, took, took_number, next_in}

pub one_less : (x : ℕ) → x < 16 → 16 - x ≡ suc (16 - (x + 1))
one_less x h = omega arith

module _ (x : ℕ) (h : x < 16) (l : List ℕ) (base : ℕ) where
  pub most_step : (g : ℕ) → max (max g (get_or l (base + x) 0)) (most_from (16 - (x + 1)) (base + (x + 1)) l) ≡ max g (most_from (16 - x) (base + x) l)
  unfolding most_from
  most_step g =
      let e : base + (x + 1) ≡ suc (base + x) = omega arith in
      rw (one_less x h, e) (omega arith)

  pub count_step : counted (16 - (x + 1)) (base + (x + 1)) (set l (base + x) (one_more (get_or l (base + x) 0))) ≡ counted (16 - x) (base + x) l
  unfolding counted
  count_step =
      let e : base + (x + 1) ≡ suc (base + x) = omega arith in
      rw (one_less x h, e)

  pub renew_step : renewed (16 - (x + 1)) (16 * (x + 1) + base) (set l (16 * x + base) 1) ≡ renewed (16 - x) (16 * x + base) l
  unfolding renewed
  renew_step =
      let e : 16 * (x + 1) + base ≡ 16 * x + base + 16 = omega arith in
      rw (one_less x h, e)

pub most_end : (x i : ℕ) (l : List ℕ) → 16 ≤ x → most_from (16 - x) i l ≡ 0
unfolding most_from
most_end x i l h = let e : 16 - x ≡ 0 = omega arith in rw e

pub count_end : (x i : ℕ) (l : List ℕ) → 16 ≤ x → counted (16 - x) i l ≡ l
unfolding counted
count_end x i l h = let e : 16 - x ≡ 0 = omega arith in rw e

pub renew_end : (x i : ℕ) (l : List ℕ) → 16 ≤ x → renewed (16 - x) i l ≡ l
unfolding renewed
renew_end x i l h = let e : 16 - x ≡ 0 = omega arith in rw e

-- ---- the tests

module _ (p b : ℕ) (l : List ℕ) where
  pub start_20 : (p ≡ 0) ⊎ (16 < p) → start_pace p b l ≡ paced 20 l
  unfolding start_pace
  start_20 (inl e) = rw (le-ltb 0 p (omega arith))
  start_20 (inr h) = rw (lt-ltb 0 p (omega arith), lt-leb p 16 h)

  module _ (some : p ≡ 0 → ⊥) (few : p ≤ 16) where
    pub start_41 : (b ≡ 0) ⊎ (65535 < b) → start_pace p b l ≡ paced 41 l
    unfolding start_pace
    start_41 (inl e) = rw (lt-ltb 0 p (omega arith), le-leb p 16 few, le-ltb 0 b (omega arith))
    start_41 (inr h) = rw (lt-ltb 0 p (omega arith), le-leb p 16 few, lt-ltb 0 b (omega arith), lt-leb b 65535 h)

    pub start_0 : (b ≡ 0 → ⊥) → b ≤ 65535 → start_pace p b l ≡ paced 0 (blank p b)
    unfolding start_pace
    start_0 d h = rw (lt-ltb 0 p (omega arith), le-leb p 16 few, lt-ltb 0 b (omega arith), le-leb b 65535 h)

pub one_more_stays : (n : ℕ) → (n ≡ 0) ⊎ (n ≡ 4294967295) → one_more n ≡ n
one_more_stays n (inl e) = rw (eq-eqb n 0 e)
one_more_stays n (inr e) = rw (ne_eqb n 0 (λ z. omega arith), eq-eqb n 4294967295 e)

pub one_more_counts : (n : ℕ) → (n ≡ 0 → ⊥) → (n ≡ 4294967295 → ⊥) → one_more n ≡ n + 1
one_more_counts n d e = rw (ne_eqb n 0 d, ne_eqb n 4294967295 e)

pub asked_in : (l : List ℕ) (w : ℕ) → w < 16 → asked l w ≡ most_from 16 (16 * w) l
unfolding asked
asked_in l w h = rw (lt-ltb w 16 h)

pub asked_past : (l : List ℕ) (w : ℕ) → 16 ≤ w → asked l w ≡ 0
unfolding asked
asked_past l w h = rw (le-ltb w 16 h)

pub took_in : (l : List ℕ) (w : ℕ) → w < 16
    → took l w ≡ set (renewed 16 w (counted 16 (16 * w) (set (set l 258 (max (get_or l 258 0) (most_from 16 (16 * w) l))) 259 (w + 1)))) (17 * w) 0
unfolding took
took_in l w h = rw (lt-ltb w 16 h, asked_in l w h)

pub took_past : (l : List ℕ) (w : ℕ) → 16 ≤ w → took l w ≡ l
unfolding took
took_past l w h = rw (le-ltb w 16 h)

module _ (l : List ℕ) (w : ℕ) where
  pub number_30 : get_or l 257 0 ≤ w → may_number l w ≡ 30
  unfolding may_number
  number_30 h = rw (le-ltb w (get_or l 257 0) h)

  pub number_may : {q : Bool} → w < get_or l 257 0 → q ≡ may l w → may_number l w ≡ pick q 0 60
  unfolding may_number
  number_may h e = rw (lt-ltb w (get_or l 257 0) h, ← e)

  pub note_30 : get_or l 257 0 ≤ w → took_number l w ≡ paced 30 l
  unfolding took_number
  note_30 h = rw (le-ltb w (get_or l 257 0) h)

  pub note_0 : w < get_or l 257 0 → took_number l w ≡ paced 0 (took l w)
  unfolding took_number
  note_0 h = rw (lt-ltb w (get_or l 257 0) h)

pub next_after : (l : List ℕ) → get_or l 259 0 < get_or l 257 0 → next_in l ≡ get_or l 259 0
unfolding next_in
next_after l h = rw (lt-ltb (get_or l 259 0) (get_or l 257 0) h)

pub next_first : (l : List ℕ) → get_or l 257 0 ≤ get_or l 259 0 → next_in l ≡ 0
unfolding next_in
next_first l h = rw (le-ltb (get_or l 259 0) (get_or l 257 0) h)
