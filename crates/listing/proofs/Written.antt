-- Texts put from a buffer's start on are written whole, where they fit.
use Prim.Native.Nat.{ℕ, ◌≤◌}
use native.Mathlib.Omega.{arith}
use mathlib.Core.Path.{◌≡◌, sym, ap, ◌∙◌}
use mathlib.Core.List.{List, [], ◌∷◌, ◌++◌, append-nil, append_assoc, foldl, flatten}
use lib.ListN.{length, drop, length-append}
use Rattle.io.specs.Counts.{IsPrefixLen}
use Rattle.text.specs.Text.{buffer_at, placed}
use Rattle.text.proofs.Placing.{placed_fits, line_put, counts}
use Rattle.text.specs.Puts.{Puts}

joined : (ts : List (List ℕ)) (t : List ℕ) → foldl ◌++◌ t ts ≡ t ++ flatten ts
unfolding flatten
joined [] t = sym (append-nil t)
joined (u ∷ ts) t = joined ts (t ++ u) ∙ append_assoc t u (flatten ts)

-- what a program may write: the text's length, the buffer with the text at its start, and that the length counts bytes of it
abbrev pub Written : List ℕ → List ℕ → ℕ → List ℕ → Type 0
Written s o r text = (r ≡ length text) × ((o ≡ text ++ drop r s) × IsPrefixLen r o)

pub written : {s o : List ℕ} {r : ℕ} {ts : List (List ℕ)} {m : ℕ} → m ≤ length s → Puts s 0 o r ts m → Written s o r (flatten ts)
written {s} {o} {r} {ts} {m} h p =
    let j : foldl ◌++◌ [] ts ≡ flatten ts = joined ts [] in
    let z : placed s 0 [] ≡ buffer_at s 0 = placed_fits s 0 [] (omega arith) in
    let q = line_put s o r [] ts (rw j (omega (arith, p.short))) (rw z p.put) in
    let size : r ≡ length (flatten ts) = rw j at q.0 in
    let bytes : o ≡ flatten ts ++ drop r s = rw j at q.1 in
    (size, (bytes, counts o r (omega (arith, size, simp length-append at (ap length bytes)))))
