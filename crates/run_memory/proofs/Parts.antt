-- A part of a block, and numbers that stand alone in it: what is read there, and what a write does inside and outside. All of it is for any list whatever.
use mathlib.Core.Path.{◌≡◌, refl, sym, ap, ◌∙◌}
use Prim.Native.Nat.{ℕ, zero, suc, ◌+◌, ◌-◌, ◌≤◌, ◌<◌}
use native.Mathlib.Nat.{min-le_left, min-eq_left, zero-add}
use native.Mathlib.Omega.{arith}
use mathlib.Core.List.{List}
use mathlib.Core.Bool.{Bool, true, false}
use lib.ListN.{length, get_or, set, take, drop, length-take, length-drop, get_or-eq_default}
use lib.Seq.{get_or-take, get_or-drop, drop-set-add, drop-set-lt, take-set-lt, take-set-le, set_out, get_or-set_same, get_or-set_other}
use lib.Dec.{eqb}
use borrow.Author.Tests.{eqb-true, eqb-false, ne_eqb}
use Rattle.table.specs.Sum.{pick}
use Rattle.run_memory.specs.Blocks.{part}

module _ (at n : ℕ) (l : List ℕ) where
  short : length (part at n l) ≤ n
  unfolding part
  short = rw length-take (min-le_left _ _)

  -- where there is so much
  pub part_length : at + n ≤ length l → length (part at n l) ≡ n
  unfolding part
  part_length h = rw (length-take, length-drop) (min-eq_left (omega (arith, h)))

  pub part_get : (i d : ℕ) → i < n → get_or (part at n l) i d ≡ get_or l (at + i) d
  unfolding part
  part_get i d h = get_or-take n (drop at l) i d h ∙ get_or-drop at l i d

  pub part_past : (i d : ℕ) → n ≤ i → get_or (part at n l) i d ≡ d
  part_past i d h = get_or-eq_default (part at n l) d (omega (arith, short))

  pub part_set : (i x : ℕ) → i < n → part at n (set l (at + i) x) ≡ set (part at n l) i x
  unfolding part
  part_set i x h = ap (take n) (drop-set-add at l i x) ∙ take-set-lt n (drop at l) i x h

  pub part_set_past : (i x : ℕ) → n ≤ i → set (part at n l) i x ≡ part at n l
  part_set_past i x h = set_out (part at n l) i x (omega (arith, short))

  pub part_right : (j x : ℕ) → j < at → part at n (set l j x) ≡ part at n l
  unfolding part
  part_right j x h = ap (take n) (drop-set-lt at l j x h)

  pub part_left : (j x : ℕ) → at + n ≤ j → part at n (set l j x) ≡ part at n l
  unfolding part
  part_left j x h =
      let e : j ≡ at + (j - at) = omega arith in
      ap (λ (p : ℕ). take n (drop at (set l p x))) e ∙ ap (take n) (drop-set-add at l (j - at) x) ∙ take-set-le n (drop at l) (j - at) x (omega arith)

-- a part from the front on, whose places are the list's own
module _ (n : ℕ) (l : List ℕ) where
  pub front_get : (i d : ℕ) → i < n → get_or (part 0 n l) i d ≡ get_or l i d
  front_get i d h = part_get 0 n l i d h ∙ ap (λ (p : ℕ). get_or l p d) (zero-add i)

  pub front_set : (i x : ℕ) → i < n → part 0 n (set l i x) ≡ set (part 0 n l) i x
  front_set i x h = ap (λ (p : ℕ). part 0 n (set l p x)) (sym (zero-add i)) ∙ part_set 0 n l i x h

-- ---- numbers that stand alone, by their place from some place on

pub cell_set : (l : List ℕ) (at i h x : ℕ) → at + i < length l → get_or (set l (at + h) x) (at + i) 0 ≡ pick (eqb h i) x (get_or l (at + i) 0)
cell_set l at i h x b = go (eqb h i) refl
  where
    go : (t : Bool) → eqb h i ≡ t → get_or (set l (at + h) x) (at + i) 0 ≡ pick t x (get_or l (at + i) 0)
    go true e = rw (eqb-true h i e) (get_or-set_same l (at + i) x 0 b)
    go false e = get_or-set_other l (at + h) (at + i) x 0 (λ q. eqb-false h i e (omega arith))

-- one of three
pub three_get : (l : List ℕ) (at h : ℕ) → h < 3
    → get_or l (at + h) 0 ≡ pick (eqb h 0) (get_or l (at + 0) 0) (pick (eqb h 1) (get_or l (at + 1) 0) (pick (eqb h 2) (get_or l (at + 2) 0) 0))
three_get l at zero b = refl
three_get l at (suc zero) b = refl
three_get l at (suc (suc zero)) b = refl
three_get l at (suc (suc (suc h))) b = absurd (omega (arith, b))

pub three_past : (a b c h : ℕ) → 3 ≤ h → pick (eqb h 0) a (pick (eqb h 1) b (pick (eqb h 2) c 0)) ≡ 0
three_past a b c h p = rw (ne_eqb h 0 (λ e. omega arith), ne_eqb h 1 (λ e. omega arith), ne_eqb h 2 (λ e. omega arith))

-- a write of another of three
pub other_kept : (x a h i : ℕ) → 3 ≤ h → i < 3 → pick (eqb h i) x a ≡ a
other_kept x a h i p q = rw (ne_eqb h i (λ e. omega arith))
