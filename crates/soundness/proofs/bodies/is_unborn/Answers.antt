-- `soundness::bodies::is_unborn` meets its contract: `&&` is the definition's.
use borrow.Author.Tests.{lt-ltb, le-ltb}
use native.Mathlib.Omega.{arith}
use Rattle.soundness.proofs.bodies.is_unborn.Goals as goal

pub is_done-requires : goal.is_done-requires
is_done-requires c = omega arith

pub returns-then-t-gt0 : goal.returns-then-t-gt0
returns-then-t-gt0 c =
    rw (c.is_done.ensures, lt-ltb _ _ c.if-t-gt0.true, c.wide-fork.ensures.value, c.wide-u.ensures.value)

pub returns-else-t-gt0 : goal.returns-else-t-gt0
returns-else-t-gt0 c = simp (le-ltb _ _ c.if-t-gt0.false)
