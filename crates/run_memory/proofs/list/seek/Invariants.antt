-- `run_memory::list::seek` meets its contract. The invariant: the whole search finds what the search from t finds, with the threads passed so far.
use Prim.Native.Nat.{ℕ}
use mathlib.Core.List.{List}
use Rattle.run_memory.proofs.Searching.{SoFar}
use Rattle.run_memory.specs.Blocks.{bytes_in, words_in}
use Rattle.run_memory.specs.Places.{head_at}
use Rattle.run_memory.proofs.list.seek.Given as goal

-- the search in the blocks, at a thread that was read there
abbrev pub Searched : List ℕ → List ℕ → ℕ → ℕ → ℕ → ℕ → Type 0
Searched bytes words k h t passed = SoFar (bytes_in bytes).status ((words_in words).rows k) (head_at h (words_in words)) t passed

abbrev pub invariant-loop-passed : goal.invariant-loop-passed
invariant-loop-passed l = Searched l.bytes l.words l.k l.h l.t l.passed
