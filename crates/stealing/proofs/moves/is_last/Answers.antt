-- `stealing::moves::is_last` meets its contract.
use mathlib.Core.Path.{◌≡◌}
use Prim.Native.Nat.{ℕ, ◌≤◌}
use mathlib.Core.Bool.{Bool, true, false, not, ◌||◌}
use native.Mathlib.Omega.{arith}
use native.Mathlib.Decide.{dec_le}
use lib.Dec.{leb, ltb}
use borrow.Author.Tests.{le-leb, lt-leb, lt-ltb, le-ltb}
use Rattle.stealing.proofs.moves.is_last.Goals as goal

last_here : {q : Bool} (l r : Bool) → q ≡ l → q ≡ true → q ≡ (l || r)
last_here l r e f = rw (← e, f)

last_none : {q : Bool} (l : Bool) (n : ℕ) → q ≡ l → q ≡ false → leb 1024 n ≡ (l || not (ltb n 1024))
last_none l n e f = rw (← e, f) (go (dec_le 1024 n))
  where
    go : Dec (1024 ≤ n) → leb 1024 n ≡ not (ltb n 1024)
    go (yes h) = rw (le-leb 1024 n h, le-ltb n 1024 h)
    go (no h) = rw (lt-leb 1024 n (omega (arith, h)), lt-ltb n 1024 (omega (arith, h)))

pub returns-then-is_bottom : goal.returns-then-is_bottom
returns-then-is_bottom c = last_here _ _ c.is_bottom.ensures c.if-is_bottom.true

pub returns-else-is_bottom : goal.returns-else-is_bottom
returns-else-is_bottom c = last_none _ c.args.next c.is_bottom.ensures c.if-is_bottom.false
