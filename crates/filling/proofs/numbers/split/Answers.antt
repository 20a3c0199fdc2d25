-- `filling::numbers::split` meets its contract.
use mathlib.Core.Path.{◌≡◌}
use Prim.Native.Nat.{ℕ, ◌+◌, ◌-◌, ◌*◌, ◌/◌, ◌≤◌, ◌<◌}
use mathlib.Core.List.{List}
use native.Mathlib.Numerals.{add-one}
use native.Mathlib.Omega.{arith}
use lib.ListN.{set}
use borrow.Author.Tests.{le-leb, lt-leb}
use Rattle.filling.specs.Code.Steps.{split_at}
use Rattle.filling.proofs.numbers.split.Goals as goal

none : (l : List ℕ) (c d : ℕ) → d ≤ 1 → l ≡ split_at c d l
none l c d h = rw (le-leb d 1 h)

two : (l : List ℕ) (c d : ℕ) → 1 < d → set (set l (c + 1) ((d + 1) / 2)) (c + 2 * ((d + 1) / 2)) (d - (d + 1) / 2) ≡ split_at c d l
two l c d h = rw (lt-leb d 1 h, add-one c)

pub returns-then-d-le1 : goal.returns-then-d-le1
returns-then-d-le1 c = none c.args.sums.now c.args.c _ c.if-d-le1.true

pub bounds-sums-c-2 : goal.bounds-sums-c-2
bounds-sums-c-2 c = omega (arith, c.requires.c_bound_2 c.if-d-le1.false, c.if-d-le1.false)

pub bounds-sums-c-3 : goal.bounds-sums-c-3
bounds-sums-c-3 c = c.requires.c_bound_2 c.if-d-le1.false

pub returns : goal.returns
returns c = two c.args.sums.now c.args.c _ c.if-d-le1.false
