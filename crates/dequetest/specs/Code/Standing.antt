-- What the code's tests of the deques say: the clauses of `deques_stand`, over a row of threads.
use Rattle.std.specs.Prelude.{◌≡◌, ℕ, ◌<◌, ◌≤◌, List, Bool, true, ◌&&◌, ◌||◌, ltb, eqb, length, get_or}
use Rattle.schedule.specs.Links.{no_thread}
use Rattle.order.specs.Words.{all_below, member, agree}
use Rattle.deques.specs.Lines.{is_held}
use Rattle.deques.specs.DequeWalk.{is_ready, once_in, in_lines}

-- the first len places of a row are threads
pub record Threads (row : List ℕ) (len : ℕ) : Type 0 where
  pub size : length row ≡ 1024
  pub fits : len ≤ 1024
  pub small : (i : ℕ) → i < len → get_or row i 0 < 1024

-- thread t is in the second list, by its left links and its leftmost thread
abbrev pub bottom_at : List ℕ → ℕ → ℕ → Bool
bottom_at under first t = ltb (get_or under t 0) no_thread || eqb first t

-- the clauses that one walk along a row tests
abbrev pub walk_right : ℕ → List ℕ → (ℕ → Bool) → List ℕ → Bool
walk_right n status isBottom row =
    once_in row
    && (in_lines isBottom status true row
    && all_below (λ t. agree (member t row) (is_ready status t || is_held status t)) n)
