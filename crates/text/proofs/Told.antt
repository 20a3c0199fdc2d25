-- A line that is told in a buffer of 80 bytes: that of a refusal fits, lies at the buffer's start, and within it.
use mathlib.Core.Path.{◌≡◌, ap, ◌∙◌}
use Prim.Native.Nat.{ℕ, ◌^◌, ◌≤◌, ◌<◌}
use mathlib.Core.List.{List, ◌++◌, flatten}
use native.Mathlib.Omega.{arith}
use lib.ListN.{length, drop, length-append}
use Rattle.io.specs.Counts.{IsPrefixLen}
use Rattle.table.specs.declared.Refusal.{Refusal}
use Rattle.text.specs.Text.{refused_of, buffer_at}
use Rattle.text.specs.Puts.{put_all}
use Rattle.text.proofs.Decimal.{decimal_length}
use Rattle.text.proofs.Placing.{counts}
use Rattle.text.proofs.Putting.{puts_whole}

module _ (s : List ℕ) (long : length s ≡ 80) (q : Refusal) (number : q.number < 2 ^ 8) (place : q.place < 2 ^ 16) (label : List ℕ) (short : length label ≤ 30) (t : ℕ) (small : t < 2 ^ 64) where
  abbrev pub line : List ℕ
  line = flatten (refused_of q label t)

  fits : length line ≤ 80
  unfolding flatten
  fits = simp length-append (omega (arith, decimal_length 2 q.number (omega arith), decimal_length 4 q.place (omega arith), decimal_length 19 t (omega arith)))

  -- the line of a refusal of one of several
  pub refused_told : (o : List ℕ) (r : ℕ) → buffer_at o r ≡ put_all (buffer_at s 0) (refused_of q label t) → (r ≡ length line) × (o ≡ line ++ drop (length line) s)
  refused_told o r e =
      let z = puts_whole {s = s} {o = o} {r = r} {ts = refused_of q label t} {m = 80} (omega arith) (record { put = e; short = fits }) in
      (z.0, z.1 ∙ ap (λ (k : ℕ). line ++ drop k s) z.0)

pub told_within : (line s o : List ℕ) (r : ℕ) → r ≡ length line → o ≡ line ++ drop (length line) s → IsPrefixLen r o
told_within line s o r e p = counts o r (omega (arith, e, ap length p, length-append line (drop (length line) s)))
