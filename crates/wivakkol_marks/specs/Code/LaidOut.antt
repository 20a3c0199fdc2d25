-- The parts of a run's blocks that are tested as arrays of their own.
use Rattle.std.specs.Prelude.{◌≡◌, ℕ, List}
use Rattle.run_memory.specs.Blocks.{bytes_in, words_in, sums_in}

pub record LaidOut (bytes words sums nexts statuses amounts lefts rights : List ℕ) : Type 0 where
  pub next : nexts ≡ (words_in words).rows 1
  pub left : lefts ≡ (words_in words).rows 2
  pub right : rights ≡ (words_in words).rows 3
  pub status : statuses ≡ (bytes_in bytes).status
  pub amount : amounts ≡ (sums_in sums).amounts
