-- Texts that are put one after another: where all of them fit, they are put as one text.
use Prim.Native.Nat.{ℕ, ◌+◌, ◌≤◌, ◌<◌}
use native.Mathlib.Nat.{zero-add, add_assoc}
use native.Mathlib.Omega.{arith}
use native.Mathlib.Decide.{dec_lt}
use mathlib.Core.Path.{◌≡◌, refl, sym, ap, ◌∙◌}
use mathlib.Core.List.{List, [], ◌∷◌, ◌++◌, append_assoc, foldl}
use borrow.Author.Tests.{le-leb, lt-leb}
use lib.ListN.{length, take, drop, length-append, length-drop}
use lib.Seq.{length-take-le, take_at, drop_at, drop-drop}
use Rattle.io.specs.Counts.{IsPrefixLen}
use Rattle.text.specs.Text.{Buffer, buffer_at, placed, placed_next}

pub placed_fits : (s : List ℕ) (at : ℕ) (t : List ℕ) → at + length t ≤ length s → placed s at t ≡ buffer_at (take at s ++ t ++ drop (at + length t) s) (at + length t)
unfolding placed
placed_fits s at t h = rw (le-leb (at + length t) (length s) h)

pub placed_over : (s : List ℕ) (at : ℕ) (t : List ℕ) → length s < at + length t → placed s at t ≡ buffer_at s at
unfolding placed
placed_over s at t h = rw (lt-leb (at + length t) (length s) h)

-- a buffer keeps its length
pub placed_length : (s : List ℕ) (at : ℕ) (t : List ℕ) → length (placed s at t).bytes ≡ length s
placed_length s at t = go (dec_lt (length s) (at + length t))
  where
    go : Dec (length s < at + length t) → length (placed s at t).bytes ≡ length s
    go (yes h) = rw (placed_over s at t h)
    go (no h) =
        rw (placed_fits s at t (omega (arith, h)))
        (simp (length-append, length-take-le at s (omega (arith, h)), length-drop) (omega (arith, h)))

module _ (s : List ℕ) (at : ℕ) where
  -- a text after a text
  pub placed_more : (t w : List ℕ) → at + length (t ++ w) ≤ length s → placed_next (placed s at t) w ≡ placed s at (t ++ w)
  placed_more t w h =
      let l : length (t ++ w) ≡ length t + length w = length-append t w in
      let n : length (take at s ++ t) ≡ at + length t = simp (length-append, length-take-le at s (omega arith)) in
      let m : length (take at s ++ t ++ drop (at + length t) s) ≡ length s = rw (length-append, n, length-drop) (omega arith) in
      rw (
        placed_fits s at t (omega arith),
        placed_fits (take at s ++ t ++ drop (at + length t) s) (at + length t) w (omega arith),
        placed_fits s at (t ++ w) h,
        take_at (take at s ++ t) (drop (at + length t) s) (at + length t) n,
        ← drop-drop (length w) (at + length t) (take at s ++ t ++ drop (at + length t) s),
        drop_at (take at s ++ t) (drop (at + length t) s) (at + length t) n,
      )
      (simp (drop-drop, append_assoc, length-append, add_assoc))

  longer : (ws : List (List ℕ)) (t : List ℕ) → length t ≤ length (foldl ◌++◌ t ws)
  longer [] t = omega arith
  longer (w ∷ ws) t = omega (arith, longer ws (t ++ w), length-append t w)

  -- texts after a text
  pub placed_all : (ws : List (List ℕ)) (t : List ℕ) → at + length (foldl ◌++◌ t ws) ≤ length s → foldl placed_next (placed s at t) ws ≡ placed s at (foldl ◌++◌ t ws)
  placed_all [] t h = refl
  placed_all (w ∷ ws) t h = rw (placed_more t w (omega (arith, longer ws (t ++ w)))) (placed_all ws (t ++ w) h)

-- a line that fits at the start of a buffer, put text by text: its length, and the buffer after it
pub line_put : (s o : List ℕ) (r : ℕ) (t : List ℕ) (ws : List (List ℕ)) → length (foldl ◌++◌ t ws) ≤ length s → buffer_at o r ≡ foldl placed_next (placed s 0 t) ws
    → (r ≡ length (foldl ◌++◌ t ws)) × (o ≡ foldl ◌++◌ t ws ++ drop r s)
line_put s o r t ws h e =
    let line : List ℕ = foldl ◌++◌ t ws in
    let f : buffer_at o r ≡ buffer_at (line ++ drop (length line) s) (length line) =
    e ∙ placed_all s 0 ws t (omega arith) ∙ placed_fits s 0 line (omega arith) ∙ simp zero-add in
    let n : r ≡ length line = ap (λ (b : Buffer). b.next) f in
    (n, rw n (ap (λ (b : Buffer). b.bytes) f))

-- a length that `io` may write
pub counts : (o : List ℕ) (r : ℕ) → r ≤ length o → IsPrefixLen r o
counts o r h = (h, sym (length-take-le r o h))
