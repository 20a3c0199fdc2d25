-- `inputs::order::add_worker` meets its contract: the order is full, the word is no number, or the worker is put after the others.
use Rattle.std.specs.Prelude.{Err, None, Ok, Some}
use native.Mathlib.Omega.{arith}
use Prim.Native.Nat.{ℕ, ◌+◌, ◌<◌}
use native.Mathlib.Numerals.{add-one}
use mathlib.Core.Path.{◌≡◌, sym, ◌∙◌}
use mathlib.Core.List.{List}
use borrow.Author.Tests.{lt-ltb, le-ltb}
use lib.ListN.{length, take, set}
use lib.Seq.{length-take-le, take-suc-set}
use Rattle.assembly.specs.Upto.{number_in}
use Rattle.inputs.specs.Front.{most8, max_order, added}
use Rattle.inputs.specs.Code.Steps.{Room, Ordering}
use Rattle.inputs.specs.declared.Wanted.TheVariants.{Number as NumberTo, FewerWorkers}
use Rattle.inputs.proofs.order.add_worker.Goals as goal

module _ (buf w : List ℕ) (n : ℕ) (h : Room buf n) where
  count : length (take n buf) ≡ n
  count = length-take-le n buf (omega (arith, h.full, h.few))

  too_many : n ≡ max_order → Ordering (Err FewerWorkers) buf (added (take n buf) w)
  unfolding added
  too_many e = record { value = rw (le-ltb (length (take n buf)) max_order (omega (arith, count, e))); few = omega arith }

  module _ (l : n ≡ max_order → ⊥) where
    few : n < max_order
    few = omega (arith, l, h.few)

    wrong : number_in most8 w ≡ None → Ordering (Err (NumberTo most8)) buf (added (take n buf) w)
    unfolding added
    wrong e = record { value = rw (lt-ltb (length (take n buf)) max_order (omega (arith, count, few)), e); few = omega arith }

    right : {x : ℕ} → number_in most8 w ≡ Some x → Ordering (Ok (n + 1)) (set buf n x) (added (take n buf) w)
    unfolding added
    right {x} e =
        record {
          value = rw (lt-ltb (length (take n buf)) max_order (omega (arith, count, few)), e, add-one, take-suc-set buf n x (omega (arith, h.full, few)));
          few = omega (arith, few);
        }

pub returns-then-n-eq4096 : goal.returns-then-n-eq4096
returns-then-n-eq4096 c = too_many _ _ _ c.requires c.if-n-eq4096.true

pub overflow_cast-order : goal.overflow_cast-order
overflow_cast-order c = omega (arith, c.read_number-worker.ensures.small _ c.in-Some.is)

pub bounds-order-n : goal.bounds-order-n
bounds-order-n c = omega (arith, c.requires.full, c.requires.few, c.if-n-eq4096.false)

pub overflow_add-result : goal.overflow_add-result
overflow_add-result c = omega (arith, c.requires.few)

pub returns-in-None : goal.returns-in-None
returns-in-None c = wrong _ _ _ c.requires c.if-n-eq4096.false (sym c.read_number-worker.ensures.value ∙ c.in-None.is)

pub returns-in-Some : goal.returns-in-Some
returns-in-Some c = right _ _ _ c.requires c.if-n-eq4096.false (sym c.read_number-worker.ensures.value ∙ c.in-Some.is)
