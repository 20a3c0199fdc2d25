-- `stealing::runs_on` meets its contract.
use mathlib.Core.Path.{◌≡◌}
use Prim.Native.Nat.{ℕ, ◌≤◌, ◌<◌}
use mathlib.Core.List.{List}
use mathlib.Core.Bool.{false, not, ◌&&◌}
use borrow.Author.Tests.{lt-ltb, le-ltb}
use lib.ListN.{get_or}
use lib.Dec.{ltb, eqb}
use Rattle.schedule.specs.Machine.{ended}
use Rattle.run_memory.specs.Blocks.{bytes_in}
use Rattle.stealing.proofs.runs_on.Goals as goal

module _ (status : List ℕ) (x : ℕ) where
  outside : 1024 ≤ x → false ≡ (ltb x 1024 && not (eqb (get_or status x 0) ended))
  outside h = rw (le-ltb x 1024 h)

  inside : {y : ℕ} → x < 1024 → y ≡ get_or status x 0 → not (eqb y ended) ≡ (ltb x 1024 && not (eqb (get_or status x 0) ended))
  inside h e = rw (lt-ltb x 1024 h, e)

pub returns-then-x-ge1024 : goal.returns-then-x-ge1024
returns-then-x-ge1024 c =
    let d = c.args in
    outside (bytes_in d.bytes.now).status d.x c.if-x-ge1024.true

pub returns : goal.returns
returns c =
    let d = c.args in
    inside (bytes_in d.bytes.now).status d.x c.if-x-ge1024.false c.status_at.ensures
