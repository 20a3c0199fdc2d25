-- `joining::split::parts_wrong` meets its contract.
use mathlib.Core.Path.{◌≡◌}
use Prim.Native.Nat.{ℕ, ◌≤◌, ◌<◌}
use mathlib.Core.List.{List}
use mathlib.Core.Bool.{true, not}
use lib.Dec.{eqb}
use lib.ListN.{length, take}
use lib.Seq.{take-length}
use borrow.Author.Tests.{eq-eqb, ne_eqb, lt-ltb, le-ltb}
use Rattle.joining.specs.Answers.{sum_of, parts_wrong}
use Rattle.joining.proofs.split.parts_wrong.Goals as goal

module _ (ls s : List ℕ) where
  none : length ls ≡ 0 → true ≡ parts_wrong ls s
  unfolding parts_wrong
  none e = rw (eq-eqb (length ls) 0 e)

  module _ (some : length ls ≡ 0 → ⊥) where
    many : 16 < length ls → true ≡ parts_wrong ls s
    unfolding parts_wrong
    many h = rw (ne_eqb (length ls) 0 some, lt-ltb 16 (length ls) h)

    sums : length ls ≤ 16 → (k : ℕ) → k ≡ sum_of (take (length ls) ls) → not (eqb k (length s)) ≡ parts_wrong ls s
    unfolding parts_wrong
    sums h k e = rw (ne_eqb (length ls) 0 some, le-ltb 16 (length ls) h, e, take-length ls)

pub returns-then-k-eq0 : goal.returns-then-k-eq0
returns-then-k-eq0 c = none _ _ c.if-k-eq0.true

pub returns-then-k-gt16 : goal.returns-then-k-gt16
returns-then-k-gt16 c = many _ _ c.if-k-eq0.false c.if-k-gt16.true

pub returns : goal.returns
returns c = sums _ _ c.if-k-eq0.false c.if-k-gt16.false _ c.sum_to.ensures
