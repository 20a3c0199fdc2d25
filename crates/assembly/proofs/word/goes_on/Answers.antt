-- `assembly::word::goes_on` meets its contract: a byte below 0, a byte above 9, and a digit, whose sum is compared by a division.
use native.Mathlib.Omega.{arith}
use Prim.Native.Nat.{ℕ, ◌+◌, ◌-◌, ◌*◌, ◌/◌, ◌≤◌}
use mathlib.Core.Path.{◌≡◌, refl, sym}
use mathlib.Core.Bool.{Bool, true, false}
use borrow.Author.Tests.{leb-true, leb-false, le-leb, lt-leb}
use lib.Dec.{leb}
use Rattle.assembly.proofs.word.goes_on.Goals as goal

divided : (v d most : ℕ) → d ≤ most → leb v ((most - d) / 10) ≡ leb (10 * v + d) most
divided v d most h = go (leb v ((most - d) / 10)) refl
  where
    go : (t : Bool) → leb v ((most - d) / 10) ≡ t → t ≡ leb (10 * v + d) most
    go true e = sym (le-leb (10 * v + d) most (omega (arith, leb-true v ((most - d) / 10) e)))
    go false e = sym (lt-leb (10 * v + d) most (omega (arith, leb-false v ((most - d) / 10) e)))

pub returns-then-b-lt48 : goal.returns-then-b-lt48
returns-then-b-lt48 c = rw (lt-leb 48 c.args.b c.if-b-lt48.true)

pub returns-then-b-gt57 : goal.returns-then-b-gt57
returns-then-b-gt57 c = rw (le-leb 48 c.args.b c.if-b-lt48.false, lt-leb c.args.b 57 c.if-b-gt57.true)

pub returns-then-most-d : goal.returns-then-most-d
returns-then-most-d c = rw (le-leb 48 c.args.b c.if-b-lt48.false, le-leb c.args.b 57 c.if-b-gt57.false, lt-leb (10 * c.args.v + (c.args.b - 48)) c.args.most (omega (arith, c.if-most-d.true)))

pub returns : goal.returns
returns c = rw (le-leb 48 c.args.b c.if-b-lt48.false, le-leb c.args.b 57 c.if-b-gt57.false) (divided _ _ _ c.if-most-d.false)
