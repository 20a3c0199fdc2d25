-- Texts that are put one after another, and a row of blanks.
use Prim.Native.Nat.{ℕ, ◌+◌, ◌-◌, ◌≤◌}
use native.Mathlib.Omega.{arith}
use mathlib.Core.Path.{◌≡◌, sym, ap, ◌∙◌}
use mathlib.Core.List.{List, ◌++◌, foldl-append}
use lib.ListN.{take, replicate, length-replicate, replicate-append-replicate}
use lib.Seq.{take_at}
use Rattle.text.specs.Text.{Buffer, buffer_at, placed_next}
use Rattle.text.specs.Puts.{put_all}

-- texts, and more of them after
pub put_more : (b : Buffer) {o q : List ℕ} {r k : ℕ} (ts us : List (List ℕ)) → buffer_at o r ≡ put_all b ts → buffer_at q k ≡ put_all (buffer_at o r) us → buffer_at q k ≡ put_all b (ts ++ us)
put_more b ts us e f = f ∙ ap (λ (x : Buffer). put_all x us) e ∙ sym (foldl-append placed_next b ts us)

-- the first of some blanks
pub blanks_take : (k n x : ℕ) → k ≤ n → take k (replicate n x) ≡ replicate k x
blanks_take k n x h =
    let m : k + (n - k) ≡ n = omega arith in
    rw (← m, ← replicate-append-replicate k (n - k) x) (take_at (replicate k x) (replicate (n - k) x) k (length-replicate k x))
