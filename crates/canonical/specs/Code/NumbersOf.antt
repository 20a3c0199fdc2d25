-- What the walks for the new numbers answer to any bytes.
use Rattle.std.specs.Prelude.{ℕ, zero, suc, ◌+◌, ◌≤◌, ◌<◌, ◌≡◌, List, ltb, get_or, set, replicate}
use Rattle.table.specs.Sum.{pick}
use Rattle.table.specs.Format.{threads_of, bodies_from, table_of}
use Rattle.table.specs.declared.kinds.Kind.{Kind}
use Rattle.canonical.specs.Code.NumberWalk.{cut16}
use Rattle.canonical.specs.Code.NumberWalk.{Numbered, step_number, numbers_in}

-- zeros where there are too many threads
unfoldable pub numbers_of : List ℕ → List ℕ
numbers_of s = pick (ltb 1024 (threads_of s)) (replicate 1024 0) (numbers_in cut16 (table_of s) (replicate 1024 0) (replicate 1024 0))

-- the first n threads, each at its new number
unfoldable pub order_of : List ℕ → ℕ → List ℕ
order_of names zero = replicate 1024 0
order_of names (suc t) = set (order_of names t) (get_or names t 0) (cut16 t)

-- a table's threads and actions, with room for a number of each thread
pub record Roomy (s : List ℕ) (n : ℕ) (actions : List ℕ) : Type 0 where
  pub counted : n ≡ threads_of s
  pub few : n ≤ 1024
  pub part : actions ≡ bodies_from s n

-- a body in a list of actions, with arrays of that length
pub record BodyIn (first count : ℕ) : Type 0 where
  pub first_small : first < 65536
  pub count_small : count < 65536

-- an action walked, and how far the next number can rise with it
pub record NumberStepped (sizes : List ℕ) (k : Kind) (x : ℕ) (before after : Numbered) : Type 0 where
  pub value : after ≡ step_number cut16 sizes k x before
  pub small : after.next ≤ before.next + 65535
