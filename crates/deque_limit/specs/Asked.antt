-- What the inner functions of the code require.
use Rattle.std.specs.Prelude.{ℕ, ◌≤◌}

-- K and c in range
pub record Asked (K c : ℕ) : Type 0 where
  pub some_quota : 1 ≤ K
  pub few_quota : K ≤ 16777215
  pub few_choices : c ≤ 16

-- S1 + K · (N − 1) fits
pub record Small (serial quota nested : ℕ) : Type 0 where
  pub low : serial ≤ 137438945280
  pub few_quota : quota ≤ 16777215
  pub some_level : 1 ≤ nested
