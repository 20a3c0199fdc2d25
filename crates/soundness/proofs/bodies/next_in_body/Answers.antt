-- `soundness::bodies::next_in_body` meets its contract: `&&` is the definition's.
use mathlib.Core.Path.{◌≡◌}
use Prim.Native.Nat.{ℕ, ◌≤◌, ◌<◌}
use mathlib.Core.List.{List}
use native.Mathlib.Omega.{arith}
use borrow.Author.Tests.{le-leb, lt-leb}
use lib.Dec.{leb}
use lib.ListN.{get_or}
use Rattle.table.specs.Format.{table_of}
use Rattle.table.specs.Checks.{end_of}
use Rattle.schedule.specs.Sound.{next_in_body}
use Rattle.order.proofs.Lawful.{lawful}
use Rattle.soundness.proofs.Lookups.{body}
use Rattle.soundness.proofs.bodies.next_in_body.Goals as goal

module _ (s : List ℕ) (t first a : ℕ) (next : List ℕ) (e : first ≡ (table_of s).first t) (v : a ≡ get_or next t 0) where
  from : first ≤ a → (end : ℕ) → end ≡ end_of (table_of s) t → leb a end ≡ next_in_body (table_of s) next t
  unfolding next_in_body
  from p end q = rw (q, v, le-leb ((table_of s).first t) (get_or next t 0) (omega arith))

  before : a < first → leb first a ≡ next_in_body (table_of s) next t
  unfolding next_in_body
  before p = rw (lt-leb first a p, lt-leb ((table_of s).first t) (get_or next t 0) (omega arith))

pub offset_bounds-next-t : goal.offset_bounds-next-t
offset_bounds-next-t c = omega (arith, (body (lawful _ c.requires.rules) c.requires.t_bound).few)

pub bounds-next-t : goal.bounds-next-t
bounds-next-t c = omega (arith, (body (lawful _ c.requires.rules) c.requires.t_bound).few)

pub end_of-requires : goal.end_of-requires
end_of-requires c = record { rules = c.requires.rules; t_bound = c.requires.t_bound }

pub returns-then-first-a : goal.returns-then-first-a
returns-then-first-a c =
    from c.args.table.now _ _ _ c.args.next.now c.first-first.ensures.value c.wide-a.ensures.value c.if-first-a.true _ c.end_of.ensures

pub returns-else-first-a : goal.returns-else-first-a
returns-else-first-a c =
    before c.args.table.now _ _ _ c.args.next.now c.first-first.ensures.value c.wide-a.ensures.value c.if-first-a.false
