-- The first line of a text and the first word of a line, by the bytes of a class that stand first.
use Prim.Native.Nat.{ℕ, suc, ◌+◌, ◌-◌, ◌≤◌, ◌<◌}
use native.Mathlib.Omega.{arith}
use mathlib.Core.Path.{◌≡◌, refl, sym, ap, ◌∙◌}
use mathlib.Core.List.{List, [], ◌∷◌}
use mathlib.Core.Bool.{Bool, true, false, not}
use lib.ListN.{length, take, drop}
use lib.Seq.{drop-drop}
use Rattle.assembly.specs.Words.{span_of, onto, parts, nonempty, is_blank, words_in, FirstWord}

-- ---- a span, a byte at a time

module _ (p : ℕ → Bool) where
  pub span_here : (b : ℕ) (s : List ℕ) → p b ≡ true → span_of p (b ∷ s) ≡ suc (span_of p s)
  unfolding span_of
  span_here b s e = rw e

  pub span_stops : (b : ℕ) (s : List ℕ) → p b ≡ false → span_of p (b ∷ s) ≡ 0
  unfolding span_of
  span_stops b s e = rw e

  -- no longer than the list
  pub span_within : (s : List ℕ) → span_of p s ≤ length s
  unfolding span_of
  span_within [] = omega arith
  span_within (b ∷ s) = go (p b) refl (span_within s)
    where
      go : (t : Bool) → p b ≡ t → span_of p s ≤ length s → span_of p (b ∷ s) ≤ length (b ∷ s)
      go true e h = rw (span_here b s e) (omega arith)
      go false e h = rw (span_stops b s e) (omega arith)

  -- what follows does not go on with it
  pub span_over : (s : List ℕ) → span_of p (drop (span_of p s) s) ≡ 0
  unfolding span_of
  span_over [] = refl
  span_over (b ∷ s) = go (p b) refl (span_over s)
    where
      go : (t : Bool) → p b ≡ t → span_of p (drop (span_of p s) s) ≡ 0 → span_of p (drop (span_of p (b ∷ s)) (b ∷ s)) ≡ 0
      go true e h = rw (span_here b s e) h
      go false e h = rw (span_stops b s e) (span_stops b s e)

-- ---- parts

-- the bytes that end no part
abbrev pub inside : (ℕ → Bool) → ℕ → Bool
inside p b = not (p b)

module _ (p : ℕ → Bool) where
  parts_onto : (s : List ℕ) (b : ℕ) → onto b (parts p s) ≡ (b ∷ take (span_of (inside p) s) s) ∷ parts p (drop (suc (span_of (inside p) s)) s)
  unfolding parts span_of
  parts_onto [] b = refl
  parts_onto (c ∷ s) b = go (p c) refl (parts_onto s c)
    where
      go : (t : Bool) → p c ≡ t → onto c (parts p s) ≡ (c ∷ take (span_of (inside p) s) s) ∷ parts p (drop (suc (span_of (inside p) s)) s)
          → onto b (parts p (c ∷ s)) ≡ (b ∷ take (span_of (inside p) (c ∷ s)) (c ∷ s)) ∷ parts p (drop (suc (span_of (inside p) (c ∷ s))) (c ∷ s))
      go true e h = rw (span_stops (inside p) c s (ap not e), e)
      go false e h = rw (span_here (inside p) c s (ap not e), e, h)

  pub parts_first : (b : ℕ) (s : List ℕ)
      → parts p (b ∷ s) ≡ take (span_of (inside p) (b ∷ s)) (b ∷ s) ∷ parts p (drop (suc (span_of (inside p) (b ∷ s))) (b ∷ s))
  unfolding parts
  parts_first b s = go (p b) refl
    where
      go : (t : Bool) → p b ≡ t → parts p (b ∷ s) ≡ take (span_of (inside p) (b ∷ s)) (b ∷ s) ∷ parts p (drop (suc (span_of (inside p) (b ∷ s))) (b ∷ s))
      go true e = rw (span_stops (inside p) b s (ap not e), e)
      go false e = rw (span_here (inside p) b s (ap not e), e) (parts_onto s b)

-- ---- words

abbrev is_in_word : ℕ → Bool
is_in_word = inside is_blank

words_skip : (b : ℕ) (s : List ℕ) → is_blank b ≡ true → words_in (b ∷ s) ≡ words_in s
unfolding parts nonempty
words_skip b s e = rw e

words_blanks : (s : List ℕ) → words_in (drop (span_of is_blank s) s) ≡ words_in s
unfolding span_of
words_blanks [] = refl
words_blanks (b ∷ s) = go (is_blank b) refl (words_blanks s)
  where
    go : (t : Bool) → is_blank b ≡ t → words_in (drop (span_of is_blank s) s) ≡ words_in s → words_in (drop (span_of is_blank (b ∷ s)) (b ∷ s)) ≡ words_in (b ∷ s)
    go true e h = rw (span_here is_blank b s e, words_skip b s e) h
    go false e h = rw (span_stops is_blank b s e)

-- the blank that ends a word says nothing
words_ended : (s : List ℕ) → words_in (drop (suc (span_of is_in_word s)) s) ≡ words_in (drop (span_of is_in_word s) s)
unfolding span_of
words_ended [] = refl
words_ended (b ∷ s) = go (is_blank b) refl (words_ended s)
  where
    go : (t : Bool) → is_blank b ≡ t → words_in (drop (suc (span_of is_in_word s)) s) ≡ words_in (drop (span_of is_in_word s) s)
        → words_in (drop (suc (span_of is_in_word (b ∷ s))) (b ∷ s)) ≡ words_in (drop (span_of is_in_word (b ∷ s)) (b ∷ s))
    go true e h = rw (span_stops is_in_word b s (ap not e)) (sym (words_skip b s e))
    go false e h = rw (span_here is_in_word b s (ap not e)) h

-- a word that stands first
pub words_first : (s : List ℕ) → 0 < span_of is_in_word s → words_in s ≡ take (span_of is_in_word s) s ∷ words_in (drop (span_of is_in_word s) s)
unfolding span_of nonempty
words_first [] h = absurd (omega arith)
words_first (b ∷ s) h = go (is_blank b) refl
  where
    go : (t : Bool) → is_blank b ≡ t → words_in (b ∷ s) ≡ take (span_of is_in_word (b ∷ s)) (b ∷ s) ∷ words_in (drop (span_of is_in_word (b ∷ s)) (b ∷ s))
    go true e = absurd (omega (arith, h, span_stops is_in_word b s (ap not e)))
    go false e = rw (← words_ended (b ∷ s), parts_first is_blank b s, span_here is_in_word b s (ap not e))

-- nothing but blanks
pub words_none : (s : List ℕ) → span_of is_blank s ≡ 0 → span_of is_in_word s ≡ 0 → words_in s ≡ []
unfolding parts nonempty
words_none [] g h = refl
words_none (b ∷ s) g h = go (is_blank b) refl
  where
    go : (t : Bool) → is_blank b ≡ t → words_in (b ∷ s) ≡ []
    go true e = absurd (omega (arith, g, span_here is_blank b s e))
    go false e = absurd (omega (arith, h, span_here is_in_word b s (ap not e)))

-- the first word by the two spans
pub word_first : (s : List ℕ) (start k : ℕ) → start ≡ span_of is_blank s → k ≡ span_of is_in_word (drop start s) → k ≤ length s - start → FirstWord s start (start + k)
word_first s start k e d h =
    let w : words_in (drop start s) ≡ words_in s = rw e (words_blanks s) in
    let within : start ≤ length s = rw e (span_within is_blank s) in
    record {
      order = omega arith;
      within = omega arith;
      starts = e;
      ends = ap (λ (x : ℕ). start + x) d;
      none = λ q. sym w ∙ words_none (drop start s) (rw e (span_over is_blank s)) (omega (arith, q, d));
      some =
          λ q.
          let n : start + k - start ≡ k = omega arith in
          sym w ∙ words_first (drop start s) (omega (arith, q, d)) ∙ rw (n, ← d, drop-drop);
    }
