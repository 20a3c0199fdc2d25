-- The row that is read off the links: its front is the list.
use mathlib.Core.Path.{◌≡◌, sym}
use Prim.Native.Nat.{ℕ, zero, suc, ◌≤◌}
use native.Mathlib.Omega.{arith}
use mathlib.Core.List.{List, [], ◌∷◌, ◌++◌}
use mathlib.Core.Bool.{Bool, true, false}
use lib.ListN.{length, get_or, take, drop, replicate, length-append, length-drop, length-replicate}
use lib.Seq.{take_at}
use lib.Dec.{ltb}
use Rattle.table.specs.Sum.{pick}
use Rattle.schedule.specs.Links.{no_thread, walk}

walk_short : (k : ℕ) (right : List ℕ) (t : ℕ) → length (walk k right t) ≤ k
unfolding walk
walk_short zero right t = omega arith
walk_short (suc k) right t = go (ltb t no_thread) (walk_short k right (get_or right t 0))
  where
    go : (q : Bool) → length (walk k right (get_or right t 0)) ≤ k → length (pick q (t ∷ walk k right (get_or right t 0)) []) ≤ suc k
    go true m = omega (arith, m)
    go false m = omega arith

module _ (right : List ℕ) (t : ℕ) {len : ℕ} {row : List ℕ} (e : len ≡ length (walk 1024 right t)) (h : row ≡ walk 1024 right t ++ drop len (replicate 1024 0)) where
  pub row_fits : len ≤ 1024
  row_fits = rw e (walk_short 1024 right t)

  pub row_size : length row ≡ 1024
  row_size = rw h (simp (length-append, length-drop, length-replicate) (omega (arith, e, row_fits)))

  pub row_front : take len row ≡ walk 1024 right t
  row_front = rw h (take_at (walk 1024 right t) (drop len (replicate 1024 0)) len (sym e))
