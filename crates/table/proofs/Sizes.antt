-- What the head's three checks say in numbers.
use mathlib.Core.Path.{◌≡◌}
use Prim.Native.Nat.{ℕ, ◌+◌, ◌*◌, ◌≤◌}
use mathlib.Core.List.{List}
use mathlib.Core.Bool.{false}
use native.Mathlib.Omega.{arith}
use borrow.Author.Tests.{ltb-false, eqb-true, not-false}
use lib.Dec.{ltb, eqb}
use lib.ListN.{length}
use Rattle.table.specs.Format.{threads_of, actions_of}
use Rattle.table.specs.Checks.{outside}
use Rattle.table.specs.Code.Steps.{Headed}
use Rattle.table.proofs.Tests.{or_neither}

pub record Sizes (s : List ℕ) (n m : ℕ) : Type 0 where
  pub threads_low : 1 ≤ n
  pub threads_high : n ≤ 1024
  pub actions_low : 1 ≤ m
  pub actions_high : m ≤ 8192
  pub total : length s ≡ 4 + 4 * n + 4 * m

pub inside : (low high x : ℕ) → outside low high x ≡ false → (low ≤ x) × (x ≤ high)
inside low high x e =
    let b = or_neither (ltb x low) (ltb high x) e in
    (ltb-false x low b.0, ltb-false high x b.1)

pub sizes : {s : List ℕ} {n m : ℕ} → Headed s n m → Sizes s n m
sizes {s} {n} {m} h =
    let b = or_neither (outside 1 1024 (threads_of s)) (outside 1 8192 (actions_of s)) h.head.ranged in
    let t = inside 1 1024 (threads_of s) b.0 in
    let a = inside 1 8192 (actions_of s) b.1 in
    let w : ℕ = 4 + 4 * threads_of s + 4 * actions_of s in
    let e = eqb-true (length s) w (not-false (eqb (length s) w) h.head.sized) in
    record {
      threads_low = omega arith;
      threads_high = omega arith;
      actions_low = omega arith;
      actions_high = omega arith;
      total = omega arith;
    }
