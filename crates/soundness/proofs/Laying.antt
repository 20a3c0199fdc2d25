-- Laying the values of a function into an array of zeros, from its first place on; the sizes of an accepted table, which fit the record.
use mathlib.Core.Path.{◌≡◌, refl, ap, sym, ◌∙◌}
use Prim.Native.Nat.{ℕ, zero, suc, ◌+◌, ◌-◌, ◌<◌}
use native.Mathlib.Numerals.{add-one}
use native.Mathlib.Omega.{arith}
use mathlib.Core.List.{List, [], ◌∷◌, ◌++◌}
use lib.ListN.{length, set, replicate, length-append}
use lib.Seq.{set_at, append_snoc}
use Rattle.table.specs.Format.{actions_of, table_of}
use Rattle.table.proofs.Sizes.{Sizes, sizes}
use Rattle.order.specs.Words.{filled}
use Rattle.order.specs.Firsts.{firsts}
use Rattle.order.proofs.Lists.{firsts_length}
use Rattle.soundness.specs.Code.Checks.{Accepted}

pub accepted_sizes : {s : List ℕ} {n : ℕ} → Accepted s n → Sizes s n (actions_of s)
unfolding table_of
accepted_sizes k = sizes (record { head = k.rules.head; threads = k.threads; actions = refl })

-- one value more, at the row's end
firsts_more : (f : ℕ → ℕ) (a k : ℕ) → firsts f a (suc k) ≡ firsts f a k ++ (f (a + k) ∷ [])
unfolding firsts
firsts_more f a zero = let e : a + 0 ≡ a = omega arith in rw e
firsts_more f a (suc k) = let e : a + suc k ≡ suc a + k = omega arith in rw e (ap (λ (l : List ℕ). f a ∷ l) (firsts_more f (suc a) k))

-- a store right after what is filled up
filled_more : (size : ℕ) (l : List ℕ) (i x : ℕ) → length l ≡ i → i < size → set (filled size l) i x ≡ filled size (l ++ (x ∷ []))
filled_more size l i x n h =
    let k : ℕ = size - length (l ++ (x ∷ [])) in
    let e : size - length l ≡ suc k = simp length-append (omega arith) in
    rw e (set_at l 0 (replicate k 0) x i n ∙ sym (append_snoc l x (replicate k 0)))

-- the first i places have the values, and the others 0
pub record Laid (size : ℕ) (f : ℕ → ℕ) (l : List ℕ) (i : ℕ) : Type 0 where
  pub row : l ≡ filled size (firsts f 0 i)

pub laid_more : {size : ℕ} {f : ℕ → ℕ} {l : List ℕ} {i x : ℕ} → Laid size f l i → i < size → x ≡ f i → Laid size f (set l i x) (i + 1)
laid_more {size} {f} {l} {i} {x} h b e =
    let z : 0 + i ≡ i = omega arith in
    let m : firsts f 0 (suc i) ≡ firsts f 0 i ++ (x ∷ []) = rw (firsts_more f 0 i, z, e) in
    record { row = rw (add-one, h.row, m) (filled_more size (firsts f 0 i) i x (firsts_length f 0 i) b) }
