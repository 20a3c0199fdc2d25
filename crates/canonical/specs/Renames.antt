-- "one becomes the other by renaming threads", said of two tables without a word of the canonical form.
use Rattle.std.specs.Prelude.{◌≡◌, ℕ}
use Rattle.table.specs.Format.{Table}
use Rattle.parts.specs.Copies.{Copies}

-- a one-to-one map of thread numbers, "the root staying 0", under which the bodies are the same action for action
pub record Renames (T U : Table) : Type 0 where
  pub to : ℕ → ℕ
  pub root : to 0 ≡ 0
  pub threads : U.threads ≡ T.threads
  pub copies : Copies T U to
