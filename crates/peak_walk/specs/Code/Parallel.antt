-- What the walks for the parallel peak promise: a number of 64 bits for each thread, the best that it and those below it may hold. `pass_right` (proofs/Passed) ties them to `best`.
use Rattle.std.specs.Prelude.{◌≡◌, ℕ, zero, suc, ◌+◌, ◌-◌, ◌<◌, ◌≤◌, max, List, length, slice_index}
use Rattle.table.specs.Sum.{pick}
use Rattle.table.specs.Format.{is, kind_of, Table}
use Rattle.table.specs.declared.kinds.Kind.{Kind}
use Rattle.table.specs.declared.kinds.Kind.TheVariants.{Fork as fork, Join as join}
use Rattle.peaks.specs.Peak.{final}
use Rattle.peaks.specs.Rests.{best}
use Rattle.peak_walk.specs.Code.Walk.{cut, balance_after}

-- what the open children hold at their best, after an action
unfoldable pub children_after : List ℕ → Kind → ℕ → ℕ → ℕ
children_after bests k x c = pick (is fork k) (cut (c + slice_index bests x)) (pick (is join k) (c - slice_index bests x) c)

-- the thread's balance so far, its open children at their best, and the most of its places so far
pub record Passed : Type 0 where
  pub balance : ℕ
  pub children : ℕ
  pub most : ℕ

abbrev pub pass : ℕ → ℕ → ℕ → Passed
pass b c m = record { balance = b; children = c; most = m }

-- one action
unfoldable pub passed_on : List ℕ → List ℕ → Kind → ℕ → Passed → Passed
passed_on bests finals k x w =
    pass (balance_after finals k x w.balance) (children_after bests k x w.children)
    (max w.most (cut (balance_after finals k x w.balance + children_after bests k x w.children)))

-- k actions from `first` on
unfoldable pub passed : (ℕ → ℕ) → (ℕ → ℕ) → List ℕ → List ℕ → ℕ → ℕ → Passed
passed code argument bests finals first zero = pass 0 0 0
passed code argument bests finals first (suc k) =
    passed_on bests finals (kind_of (code (first + k))) (argument (first + k)) (passed code argument bests finals first k)

-- the lists have the bests and the final balances of the threads from t on
pub record Bests (T : Table) (bests finals : List ℕ) (t : ℕ) : Type 0 where
  pub here : (d : ℕ) → t ≤ d → d < T.threads → slice_index bests d ≡ best T d
  pub balances : (d : ℕ) → t ≤ d → d < T.threads → slice_index finals d ≡ final T d
  pub bests_size : length bests ≡ 1024
  pub finals_size : length finals ≡ 1024
