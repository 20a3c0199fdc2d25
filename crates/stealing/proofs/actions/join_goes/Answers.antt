-- `stealing::actions::join_goes` meets its contract.
use mathlib.Core.Path.{◌≡◌, ◌∙◌}
use Prim.Native.Nat.{ℕ, ◌+◌, ◌≤◌, ◌<◌}
use mathlib.Core.List.{List}
use mathlib.Core.Bool.{Bool, true, false, not, ◌&&◌, ◌||◌}
use borrow.Author.Tests.{lt-ltb, le-ltb, ne_eqb}
use lib.ListN.{get_or}
use lib.Dec.{ltb, eqb}
use Rattle.schedule.specs.Machine.{ended}
use Rattle.array_machine.specs.Turn.{next_fits, amount_fits}
use Rattle.run_memory.specs.Blocks.{bytes_in, sums_in}
use Rattle.stealing.proofs.actions.join_goes.Goals as goal

module _ (status amounts : List ℕ) (a x own : ℕ) where
  abbrev goes : Bool
  goes = ltb x 1024 && (not (eqb (get_or status x 0) ended) || (next_fits a && amount_fits (own + get_or amounts x 0)))

  outside : 1024 ≤ x → false ≡ goes
  outside h = rw (le-ltb x 1024 h)

  waits : {y : ℕ} → x < 1024 → y ≡ get_or status x 0 → (y ≡ ended → ⊥) → true ≡ goes
  waits {y} h e d = rw (lt-ltb x 1024 h, ← e, ne_eqb y ended d)

  joins : {y z : ℕ} {f : Bool} → x < 1024 → y ≡ get_or status x 0 → y ≡ ended → z ≡ get_or amounts x 0 → f ≡ (next_fits a && amount_fits (own + z)) → f ≡ goes
  joins {y} {z} h e d q v = v ∙ rw (lt-ltb x 1024 h, ← e, d, ← q)

pub returns-then-x-ge1024 : goal.returns-then-x-ge1024
returns-then-x-ge1024 c =
    outside (bytes_in c.args.bytes.now).status (sums_in c.args.sums.now).amounts c.args.a c.args.x c.args.own c.if-x-ge1024.true

pub returns-then-status_at-ne-ENDED : goal.returns-then-status_at-ne-ENDED
returns-then-status_at-ne-ENDED c =
    waits (bytes_in c.args.bytes.now).status (sums_in c.args.sums.now).amounts c.args.a c.args.x c.args.own c.if-x-ge1024.false c.status_at.ensures c.if-status_at-ne-ENDED.true

pub returns : goal.returns
returns c =
    joins (bytes_in c.args.bytes.now).status (sums_in c.args.sums.now).amounts c.args.a c.args.x c.args.own c.if-x-ge1024.false c.status_at.ensures c.if-status_at-ne-ENDED.false c.amount_at.ensures
    c.join_fits.ensures
