-- The memory of a run as it is lent to a turn: four blocks, one for each width of numbers. What stands at which place.
use Rattle.std.specs.Prelude.{ℕ, ◌*◌, List, [], ◌∷◌, get_or, take, drop, ltb}
use Rattle.table.specs.Sum.{pick}
use Rattle.array_machine.specs.Arrays.{arrays}
use Rattle.run_memory.specs.Memory.{Memory, memory}

-- n numbers from a place on
unfoldable pub part : ℕ → ℕ → List ℕ → List ℕ
part at n l = take n (drop at l)

-- the bytes: each thread's status, and of each worker whether it holds a thread
pub record Bytes : Type 0 where
  pub status : List ℕ
  pub holds : List ℕ

abbrev pub bytes_in : List ℕ → Bytes
bytes_in l = record { status = part 0 1024 l; holds = part 1024 16 l }

-- the 16-bit words: six rows with a number for each thread (its parent, next action, left and right neighbour, and its neighbours in the second list), of each worker its thread, the leftmost
-- thread of the list and of the second list, and the set of workers that hold one
pub record Words : Type 0 where
  pub rows : ℕ → List ℕ
  pub threads : List ℕ
  pub leftmost : ℕ
  pub first : ℕ
  pub busy : ℕ

unfoldable pub row_in : List ℕ → ℕ → List ℕ
row_in l k = pick (ltb k 6) (part (1024 * k) 1024 l) []

abbrev pub words_in : List ℕ → Words
words_in l = record { rows = row_in l; threads = part 6144 16 l; leftmost = get_or l 6160 0; first = get_or l 6161 0; busy = get_or l 6162 0 }

-- the 32-bit numbers: p, K, and each worker's quota left
pub record Numbers : Type 0 where
  pub workers : ℕ
  pub quota : ℕ
  pub quotas : List ℕ

abbrev pub numbers_in : List ℕ → Numbers
numbers_in l = record { workers = get_or l 0 0; quota = get_or l 1 0; quotas = part 2 16 l }

-- the 64-bit sums: each thread's amount, memory held, its highest, and turns taken
pub record Sums : Type 0 where
  pub amounts : List ℕ
  pub held : ℕ
  pub highest : ℕ
  pub turns : ℕ

abbrev pub sums_in : List ℕ → Sums
sums_in l = record { amounts = part 0 1024 l; held = get_or l 1024 0; highest = get_or l 1025 0; turns = get_or l 1026 0 }

-- the memory of a run
abbrev pub gathered : Bytes → Words → Numbers → Sums → Memory
gathered B W N S =
    memory (N.workers ∷ N.quota ∷ []) (W.rows 0) (arrays (W.rows 1) B.status S.amounts (W.rows 2) (W.rows 3) (W.rows 4) (W.rows 5)) B.holds W.threads N.quotas
    (W.leftmost ∷ W.first ∷ W.busy ∷ []) (S.held ∷ S.highest ∷ S.turns ∷ [])

abbrev pub memory_of : List ℕ → List ℕ → List ℕ → List ℕ → Memory
memory_of bytes words numbers sums = gathered (bytes_in bytes) (words_in words) (numbers_in numbers) (sums_in sums)
