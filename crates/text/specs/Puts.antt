-- What a function that puts texts into a lent buffer promises.
use Rattle.std.specs.Prelude.{ℕ, ◌≤◌, ◌≡◌, length}
use mathlib.Core.List.{List, foldl, flatten}
use Rattle.text.specs.Text.{Buffer, buffer_at, placed_next}

-- texts put one after another
abbrev pub put_all : Buffer → List (List ℕ) → Buffer
put_all b texts = foldl placed_next b texts

-- the texts are put one after another from a position on, and all of them together are at most so long
pub record Puts (before : List ℕ) (at : ℕ) (after : List ℕ) (next : ℕ) (texts : List (List ℕ)) (most : ℕ) : Type 0 where
  pub put : buffer_at after next ≡ put_all (buffer_at before at) texts
  pub short : length (flatten texts) ≤ most
