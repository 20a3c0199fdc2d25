-- A sum over a front part of serial order is a sum over the actions of lower numbers.
use mathlib.Core.Path.{◌≡◌, sym}
use Prim.Native.Nat.{ℕ, zero, suc, ◌≤◌, ◌<◌}
use native.Mathlib.Omega.{arith}
use lib.ListN.{length, get_or, take}
use lib.Seq.{take-suc}
use lib.Dec.{ltb}
use borrow.Author.Tests.{lt-ltb, le-ltb}
use Rattle.table.specs.Sum.{pick, sum_to, sum_over}
use Rattle.table.specs.Format.{Table}
use Rattle.table.specs.Serial.{serial_order}
use Rattle.table.proofs.Sums.{sum_to_zero, sum_to_one, sum_over_append}
use Rattle.table.proofs.Serial.{serial_length}
use Rattle.order.specs.Order.{number_of}
use Rattle.order.proofs.Lawful.{Lawful}
use Rattle.order.proofs.Words.{ltb_next}
use Rattle.order.proofs.Numbers.{number_place, place_number}

-- what an action comes to where its number is below k
abbrev pub lower : Table → (ℕ → ℕ) → ℕ → ℕ → ℕ
lower T own k a = pick (ltb (number_of T a) k) (own a) 0

lower_same : (T : Table) (own : ℕ → ℕ) (k a : ℕ) → (number_of T a ≡ k → ⊥) → lower T own (suc k) a ≡ lower T own k a
lower_same T own k a d = rw (ltb_next (number_of T a) k d)

module _ (T : Table) (l : Lawful T) (own : ℕ → ℕ) where
  pub front_sum : (k : ℕ) → k ≤ T.actions → sum_over own (take k (serial_order T)) ≡ sum_to (lower T own k) T.actions
  unfolding sum_over
  front_sum zero h = sym (sum_to_zero (lower T own 0) T.actions (λ a i. rw (le-ltb (number_of T a) 0 (omega arith))))
  front_sum (suc k) h =
      let a : ℕ = get_or (serial_order T) k 0 in
      let (i, e) = place_number T l k h in
      let other : (d : ℕ) → d < T.actions → (d ≡ a → ⊥) → lower T own (suc k) d ≡ lower T own k d = λ d j x.
      lower_same T own k d (λ y. x (cc (number_place T l d j))) in
      let g : k < length (serial_order T) = omega (arith, serial_length T l.contents l.bodies l.nesting l.forking l.some_thread) in
      let before : lower T own k a ≡ 0 = rw (le-ltb (number_of T a) k (omega arith)) in
      let now : lower T own (suc k) a ≡ own a = rw (lt-ltb (number_of T a) (suc k) (omega arith)) in
      rw (take-suc (serial_order T) k 0 g, sum_over_append)
      (omega (arith, front_sum k (omega arith), sum_to_one (lower T own (suc k)) (lower T own k) a T.actions i other))
