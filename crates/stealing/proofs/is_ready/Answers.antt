-- `stealing::is_ready` meets its contract.
use mathlib.Core.Path.{◌≡◌}
use Prim.Native.Nat.{ℕ, ◌≤◌, ◌<◌}
use mathlib.Core.List.{List}
use mathlib.Core.Bool.{◌&&◌}
use borrow.Author.Tests.{lt-ltb, le-ltb}
use lib.ListN.{get_or}
use lib.Dec.{ltb, eqb}
use Rattle.schedule.specs.Machine.{ready}
use Rattle.run_memory.specs.Blocks.{bytes_in}
use Rattle.stealing.proofs.is_ready.Goals as goal

module _ (status : List ℕ) (b : ℕ) where
  outside : 1024 ≤ b → ltb b 1024 ≡ (ltb b 1024 && eqb (get_or status b 0) ready)
  outside h = rw (le-ltb b 1024 h)

  inside : {y : ℕ} → b < 1024 → y ≡ get_or status b 0 → eqb y ready ≡ (ltb b 1024 && eqb (get_or status b 0) ready)
  inside h e = rw (lt-ltb b 1024 h, e)

pub returns-then-b-lt-NO_THREAD : goal.returns-then-b-lt-NO_THREAD
returns-then-b-lt-NO_THREAD c =
    let d = c.args in
    inside (bytes_in d.bytes.now).status d.b c.if-b-lt-NO_THREAD.true c.status_at.ensures

pub returns-else-b-lt-NO_THREAD : goal.returns-else-b-lt-NO_THREAD
returns-else-b-lt-NO_THREAD c =
    let d = c.args in
    outside (bytes_in d.bytes.now).status d.b c.if-b-lt-NO_THREAD.false
