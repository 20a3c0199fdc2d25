-- How far a step moves the depth, and that it keeps the rows' length.
use Rattle.std.proofs.Common.{◌≡◌, ℕ, zero, suc, ◌+◌, ◌-◌, ◌≤◌, Bool, true, false, List, length, refl, ◌∙◌, arith}
use Rattle.table.specs.Sum.{pick}
use Rattle.table.specs.Format.{is, kind_of}
use Rattle.table.specs.declared.kinds.Kind.{Kind}
use Rattle.table.specs.declared.kinds.Kind.TheVariants.{Fork as fork, Join as join}
use Rattle.peak_walk.specs.Code.Walk.{depth_after, rows_after, pushed, stepped, walked}
use Rattle.peak_walk.proofs.OpenRows.{pushed_length}

pub depth_rises : (k : Kind) (d : ℕ) → depth_after k d ≤ suc d
unfolding depth_after
depth_rises k d = go (is fork k) (is join k)
  where
    go : (p q : Bool) → pick p (suc d) (pick q (d - 1) d) ≤ suc d
    go true q = omega arith
    go false true = omega arith
    go false false = omega arith

pub rows_length : (peaks finals : List ℕ) (r : ℕ) (k : Kind) (x d : ℕ) (rows : List ℕ) → length (rows_after peaks finals r k x d rows) ≡ length rows
unfolding rows_after
rows_length peaks finals r k x d rows = go (is fork k)
  where
    go : (q : Bool) → length (pick q (pushed peaks finals r x d rows (suc r)) rows) ≡ length rows
    go true = pushed_length peaks finals r x d rows (suc r)
    go false = refl

module _ (code argument : ℕ → ℕ) (resting : Bool) (peaks finals : List ℕ) (r first : ℕ) (rows : List ℕ) where
  pub walked_depth : (k : ℕ) → (walked code argument resting peaks finals r first rows k).depth ≤ k
  unfolding walked stepped
  walked_depth zero = omega arith
  walked_depth (suc k) =
      omega (arith, depth_rises (kind_of (code (first + k))) (walked code argument resting peaks finals r first rows k).depth, walked_depth k)

  pub walked_length : (k : ℕ) → length (walked code argument resting peaks finals r first rows k).rows ≡ length rows
  unfolding walked stepped
  walked_length zero = refl
  walked_length (suc k) = rows_length peaks finals r (kind_of (code (first + k))) (argument (first + k)) _ _ ∙ walked_length k
