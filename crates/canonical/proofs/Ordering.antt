-- The threads by their new numbers stand in the order of their forks, so the rows that are put are those of the form.
use mathlib.Core.Path.{◌≡◌, sym, ◌∙◌}
use Prim.Native.Nat.{ℕ, zero, suc, ◌≤◌, ◌<◌}
use mathlib.Core.List.{List}
use native.Mathlib.Omega.{arith}
use native.Mathlib.Decide.{ℕ_discrete}
use lib.ListN.{length, get_or, set, take, length-set, length-replicate}
use lib.Seq.{get_or-set_same, get_or-set_other, get_or-take, length-take-le, ext_get_or}
use Rattle.table.specs.Format.{Table}
use Rattle.order.proofs.Lawful.{Lawful}
use Rattle.canonical.specs.Canonical.{thread_order, new_number}
use Rattle.canonical.specs.Code.NumberWalk.{cut16}
use Rattle.canonical.specs.Code.NumbersOf.{order_of}
use Rattle.canonical.proofs.Order.{order_length_lem, new_below, new_once, new_at, thread_at}

pub order_sized : (names : List ℕ) (n : ℕ) → length (order_of names n) ≡ 1024
unfolding order_of
order_sized names zero = length-replicate {A = ℕ} 1024 0
order_sized names (suc t) = length-set (order_of names t) (get_or names t 0) (cut16 t) ∙ order_sized names t

module _ (T : Table) (l : Lawful T) (names : List ℕ) (named : (t : ℕ) → t < T.threads → get_or names t 0 ≡ new_number T t) where
  -- a thread that was passed is at its number
  order_there : (k t : ℕ) → k ≤ T.threads → t < k → get_or (order_of names k) (new_number T t) 0 ≡ t
  unfolding order_of
  order_there zero t h i = absurd (omega arith)
  order_there (suc k) t h i = go (ℕ_discrete t k) (order_there k t (omega arith))
    where
      go : Dec (t ≡ k) → (t < k → get_or (order_of names k) (new_number T t) 0 ≡ t) → get_or (set (order_of names k) (get_or names k 0) (cut16 k)) (new_number T t) 0 ≡ t
      go (yes p) ih =
          let q : new_number T k < length (order_of names k) = omega (arith, new_below T l k (omega arith), l.few_threads, order_sized names k) in
          rw (named k (omega arith), p) (get_or-set_same (order_of names k) (new_number T k) (cut16 k) 0 q ∙ omega (arith, l.few_threads))
      go (no p) ih =
          let d : new_number T t ≡ new_number T k → ⊥ = λ e. p (new_once T l t k (omega arith) (omega arith) e) in
          rw (named k (omega arith)) (get_or-set_other (order_of names k) (new_number T k) (new_number T t) (cut16 k) 0 d ∙ ih (omega (arith, p)))

  pub ordered : take T.threads (order_of names T.threads) ≡ thread_order T
  ordered =
      let s : length (take T.threads (order_of names T.threads)) ≡ T.threads = length-take-le T.threads (order_of names T.threads) (omega (arith, order_sized names T.threads, l.few_threads)) in
      ext_get_or 0 _ _ (s ∙ sym (order_length_lem T l)) (λ i h.
      let k : i < T.threads = omega (arith, s) in
      get_or-take T.threads (order_of names T.threads) i 0 k
      ∙ rw (new_at T l i k) at (order_there T.threads (get_or (thread_order T) i 0) (omega arith) (thread_at T l i k)))
