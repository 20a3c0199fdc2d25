-- The walks' answer to an accepted table are the numbers of its canonical form.
use mathlib.Core.Path.{◌≡◌, ◌∙◌}
use Prim.Native.Nat.{ℕ, ◌≤◌, ◌<◌}
use mathlib.Core.List.{List}
use native.Mathlib.Omega.{arith}
use mathlib.Core.Bool.{Bool, true, false}
use lib.Dec.{ltb}
use lib.ListN.{length, get_or, set, replicate, length-set, length-replicate}
use Rattle.table.specs.Sum.{pick}
use borrow.Author.Tests.{le-ltb}
use Rattle.table.specs.Format.{threads_of, table_of}
use Rattle.order.proofs.Lawful.{Lawful}
use Rattle.canonical.specs.Canonical.{new_number}
use Rattle.canonical.specs.Code.NumberWalk.{cut16, sizes_down, numbers_in}
use Rattle.canonical.specs.Code.NumbersOf.{numbers_of}
use Rattle.canonical.proofs.NumberWalk.{numbers_right, numbers_length}

pub numbers_of_lem : (s : List ℕ) → Lawful (table_of s) → (t : ℕ) → t < (table_of s).threads → get_or (numbers_of s) t 0 ≡ new_number (table_of s) t
unfolding numbers_of table_of
numbers_of_lem s l t i =
    let long : (table_of s).threads ≤ 1024 = l.few_threads in
    rw (le-ltb 1024 (threads_of s) l.few_threads)
    (numbers_right cut16 (table_of s) l (λ v b. omega (arith, l.few_actions)) (replicate 1024 0) (replicate 1024 0) (omega (arith, long, length-replicate {A = ℕ} 1024 0)) (omega (arith, long, length-replicate {A = ℕ} 1024 0)) t i)

pub numbers_sized : (s : List ℕ) → length (numbers_of s) ≡ 1024
unfolding numbers_of
numbers_sized s = go (ltb 1024 (threads_of s))
  where
    go : (t : Bool) → length (pick t (replicate 1024 0) (numbers_in cut16 (table_of s) (replicate 1024 0) (replicate 1024 0))) ≡ 1024
    go true = length-replicate {A = ℕ} 1024 0
    go false =
        numbers_length cut16 (table_of s) (sizes_down cut16 (table_of s) (table_of s).threads (replicate 1024 0)) (table_of s).threads 0 (set (replicate 1024 0) 0 0)
        ∙ length-set {A = ℕ} (replicate 1024 0) 0 0
        ∙ length-replicate {A = ℕ} 1024 0
