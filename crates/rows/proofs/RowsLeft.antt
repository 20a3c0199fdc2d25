-- The actions of a body that are put one after another, threads renamed by f: the rows of the actions that are left are what is left.
use mathlib.Core.Path.{◌≡◌, ◌∙◌}
use Prim.Native.Nat.{ℕ, suc, ◌+◌, ◌-◌, ◌≤◌, ◌<◌}
use mathlib.Core.List.{List, ◌∷◌}
use native.Mathlib.Omega.{arith}
use lib.ListN.{length}
use Rattle.table.specs.Format.{kind_of, code_at, argument_at}
use Rattle.text.specs.Text.{buffer_at, placed}
use Rattle.text.specs.Puts.{put_all}
use Rattle.parts.specs.Copies.{renamed}
use Rattle.rows.specs.Rows.{cut_action, renamed_rows}
use Rattle.rows.proofs.Rest.{Rest, rest_all, rest_row}

pub record Inv (out₀ : List ℕ) (at₀ : ℕ) (l : List ℕ) (first count : ℕ) (f : ℕ → ℕ) (out : List ℕ) (at i : ℕ) : Type 0 where
  pub within : i ≤ count
  pub left : Rest out₀ at₀ (renamed_rows l f first count) out at (renamed_rows l f (first + i) (count - i))

pub start : (out : List ℕ) (at : ℕ) (l : List ℕ) (first count : ℕ) (f : ℕ → ℕ) → Inv out at l first count f out at 0
start out at l first count f =
    let q : count - 0 ≡ count = omega arith in
    let p : first + 0 ≡ first = omega arith in
    record { within = omega arith; left = rw (q, p) (rest_all out at (renamed_rows l f first count)) }

module _ (out₀ : List ℕ) (at₀ : ℕ) (l : List ℕ) (first count : ℕ) (f : ℕ → ℕ) (out : List ℕ) (at i : ℕ) (v : Inv out₀ at₀ l first count f out at i) where
  split : i < count → (k x : ℕ) → k ≡ code_at l (first + i) → x ≡ renamed f (kind_of (code_at l (first + i))) (argument_at l (first + i))
      → renamed_rows l f (first + i) (count - i) ≡ cut_action k x ∷ renamed_rows l f (first + (i + 1)) (count - (i + 1))
  unfolding renamed_rows
  split h k x e g =
      let q : count - i ≡ suc (count - (i + 1)) = omega arith in
      let n : first + (i + 1) ≡ suc (first + i) = omega arith in
      rw (q, n, e, g)

  pub again : i < count → (k a x : ℕ) → k ≡ code_at l (first + i) → a ≡ argument_at l (first + i) → x ≡ renamed f (kind_of k) a → (out' : List ℕ) (at' : ℕ) → length out' ≡ length out
      → buffer_at out' at' ≡ placed out at (cut_action k x) → Inv out₀ at₀ l first count f out' at' (i + 1)
  again h k a x e j g out' at' s p =
      record { within = omega arith; left = rest_row (rw (split h k x e (g ∙ rw (e, j))) at v.left) s p }

  pub ends : count ≤ i → buffer_at out at ≡ put_all (buffer_at out₀ at₀) (renamed_rows l f first count)
  unfolding renamed_rows
  ends h = let q : count - i ≡ 0 = omega arith in rw q at v.left.same
