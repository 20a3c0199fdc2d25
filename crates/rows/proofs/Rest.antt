-- Rows that a loop puts one after another: whoever puts the rows that are left puts all of them.
use mathlib.Core.Path.{◌≡◌, refl, sym, ap, ◌∙◌}
use Prim.Native.Nat.{ℕ}
use mathlib.Core.List.{List, ◌∷◌, ◌++◌, foldl-append}
use lib.ListN.{length}
use Rattle.text.specs.Text.{Buffer, buffer_at, placed, placed_next}
use Rattle.text.specs.Puts.{put_all}

pub record Rest (out₀ : List ℕ) (at₀ : ℕ) (all : List (List ℕ)) (out : List ℕ) (at : ℕ) (rest : List (List ℕ)) : Type 0 where
  pub long : length out ≡ length out₀
  pub same : put_all (buffer_at out at) rest ≡ put_all (buffer_at out₀ at₀) all

pub rest_all : (out : List ℕ) (at : ℕ) (all : List (List ℕ)) → Rest out at all out at all
rest_all out at all = record { long = refl; same = refl }

module _ {out₀ : List ℕ} {at₀ : ℕ} {all : List (List ℕ)} {out : List ℕ} {at : ℕ} where
  -- the next row is put
  pub rest_row : {row : List ℕ} {rest : List (List ℕ)} {out' : List ℕ} {at' : ℕ} → Rest out₀ at₀ all out at (row ∷ rest) → length out' ≡ length out
      → buffer_at out' at' ≡ placed out at row → Rest out₀ at₀ all out' at' rest
  rest_row {rest = rest} v l p = record { long = l ∙ v.long; same = ap (λ (b : Buffer). put_all b rest) p ∙ v.same }

  -- the next rows are put
  pub rest_rows : (rows : List (List ℕ)) {rest : List (List ℕ)} {out' : List ℕ} {at' : ℕ} → Rest out₀ at₀ all out at (rows ++ rest) → length out' ≡ length out
      → buffer_at out' at' ≡ put_all (buffer_at out at) rows → Rest out₀ at₀ all out' at' rest
  rest_rows rows {rest = rest} v l p =
      record { long = l ∙ v.long; same = ap (λ (b : Buffer). put_all b rest) p ∙ sym (foldl-append placed_next (buffer_at out at) rows rest) ∙ v.same }
