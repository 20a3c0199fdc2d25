-- Texts that are put by several calls, one after another, are put as one row.
use Prim.Native.Nat.{ℕ, suc, ◌+◌, ◌^◌, ◌≤◌, ◌<◌}
use native.Mathlib.Omega.{arith}
use mathlib.Core.Path.{◌≡◌, refl, sym, ap, ◌∙◌}
use mathlib.Core.List.{List, [], ◌∷◌, ◌++◌, append-nil, append_assoc, foldl, foldl-append, flatten}
use lib.ListN.{length, drop, length-append}
use Rattle.text.specs.Text.{decimal, Buffer, buffer_at, placed, placed_next}
use Rattle.text.proofs.Decimal.{decimal_length}
use Rattle.text.proofs.Placing.{placed_fits, line_put}
use Rattle.text.specs.Puts.{put_all, Puts}

pub flatten_append : (ts us : List (List ℕ)) → flatten (ts ++ us) ≡ flatten ts ++ flatten us
unfolding flatten
flatten_append [] us = refl
flatten_append (t ∷ ts) us = rw (flatten_append ts us) (sym (append_assoc t (flatten ts) (flatten us)))

-- no text
pub puts_none : {s : List ℕ} {at : ℕ} (n : ℕ) → Puts s at s at [] n
unfolding flatten
puts_none n = record { put = refl; short = omega arith }

module _ {s o : List ℕ} {at r : ℕ} where
  -- a word
  pub puts_word : (w : List ℕ) → buffer_at o r ≡ placed s at w → Puts s at o r (w ∷ []) (length w)
  unfolding flatten
  puts_word w e = record { put = e; short = rw (append-nil w) (omega arith) }

  -- a number that suc k digits hold
  pub puts_number : (v k : ℕ) → v < 10 ^ suc k → buffer_at o r ≡ placed s at (decimal v) → Puts s at o r (decimal v ∷ []) (suc k)
  unfolding flatten
  puts_number v k h e = record { put = e; short = rw (append-nil (decimal v)) (decimal_length k v h) }

  -- such a number after a word
  pub puts_labelled : (w : List ℕ) (v k : ℕ) → v < 10 ^ suc k → buffer_at o r ≡ placed_next (placed s at w) (decimal v) → Puts s at o r (w ∷ decimal v ∷ []) (length w + suc k)
  unfolding flatten
  puts_labelled w v k h e = record { put = e; short = rw (append-nil (decimal v), length-append w (decimal v)) (omega (arith, decimal_length k v h)) }

  pub puts_within : {ts : List (List ℕ)} {m n : ℕ} → m ≤ n → Puts s at o r ts m → Puts s at o r ts n
  puts_within h p = record { put = p.put; short = omega (arith, p.short) }

  -- texts, and more of them after
  pub puts_more : {q : List ℕ} {k : ℕ} {ts us : List (List ℕ)} {m n : ℕ} → Puts s at o r ts m → Puts o r q k us n → Puts s at q k (ts ++ us) (m + n)
  puts_more {ts = ts} {us = us} p u =
      record {
        put = u.put ∙ ap (λ (b : Buffer). put_all b us) p.put ∙ sym (foldl-append placed_next (buffer_at s at) ts us);
        short = rw (flatten_append ts us, length-append (flatten ts) (flatten us)) (omega (arith, p.short, u.short));
      }

-- ---- texts put from a buffer's start on

joined : (ts : List (List ℕ)) (t : List ℕ) → foldl ◌++◌ t ts ≡ t ++ flatten ts
unfolding flatten
joined [] t = sym (append-nil t)
joined (u ∷ ts) t = joined ts (t ++ u) ∙ append_assoc t u (flatten ts)

-- where they fit they are there whole, and nothing after them has changed
pub puts_whole : {s o : List ℕ} {r : ℕ} {ts : List (List ℕ)} {m : ℕ} → m ≤ length s → Puts s 0 o r ts m → (r ≡ length (flatten ts)) × (o ≡ flatten ts ++ drop r s)
puts_whole {s} {o} {r} {ts} {m} h p =
    let j : foldl ◌++◌ [] ts ≡ flatten ts = joined ts [] in
    let z : placed s 0 [] ≡ buffer_at s 0 = placed_fits s 0 [] (omega arith) in
    let q = line_put s o r [] ts (rw j (omega (arith, p.short))) (rw z p.put) in
    (rw j at q.0, rw j at q.1)
