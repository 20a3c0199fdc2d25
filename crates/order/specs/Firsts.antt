-- A function's values as a row.
use Rattle.std.specs.Prelude.{ℕ, zero, suc, List, [], ◌∷◌}

-- the values of a function at k numbers, from t on
unfoldable pub firsts : (ℕ → ℕ) → ℕ → ℕ → List ℕ
firsts first t zero = []
firsts first t (suc k) = first t ∷ firsts first (suc t) k
