-- `run_memory::rounds::following` meets its contract: the next number, or 0 at the last.
use mathlib.Core.Path.{◌≡◌}
use Prim.Native.Nat.{ℕ, ◌+◌, ◌≤◌, ◌<◌}
use native.Mathlib.Omega.{arith}
use borrow.Author.Tests.{lt-ltb, le-ltb}
use lib.Dec.{ltb}
use Rattle.table.specs.Sum.{pick}
use Rattle.run_memory.proofs.rounds.following.Goals as goal

module _ (p w : ℕ) where
  on : w + 1 < p → w + 1 ≡ pick (ltb (w + 1) p) (w + 1) 0
  on h = rw (lt-ltb (w + 1) p h)

  round : p ≤ w + 1 → ◌≡◌ {A = ℕ} 0 (pick (ltb (w + 1) p) (w + 1) 0)
  round h = rw (le-ltb (w + 1) p h)

pub returns-then-p-w : goal.returns-then-p-w
returns-then-p-w c =
    round c.args.p c.args.w (omega (arith, c.if-p-w.true))

pub returns-then-next-p : goal.returns-then-next-p
returns-then-next-p c =
    on c.args.p c.args.w c.if-next-p.true

pub returns-else-next-p : goal.returns-else-next-p
returns-else-next-p c =
    round c.args.p c.args.w c.if-next-p.false
