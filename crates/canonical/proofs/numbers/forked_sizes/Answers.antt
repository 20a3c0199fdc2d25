use mathlib.Core.Path.{◌≡◌, refl, sym, ap, ◌∙◌}
use Prim.Native.Nat.{ℕ, suc, ◌+◌, ◌≤◌, ◌<◌}
use mathlib.Core.List.{List}
use native.Mathlib.Omega.{arith}
use lib.ListN.{length}
use Rattle.table.specs.Sum.{sum_to, Read}
use Rattle.table.specs.Format.{kind_of, code_at, argument_at}
use Rattle.canonical.specs.Code.NumberWalk.{fork_size, forked_sizes}
use Rattle.canonical.specs.Code.NumbersOf.{BodyIn}
use Rattle.canonical.proofs.numbers.forked_sizes.Invariants.{Inv}
use Rattle.canonical.proofs.numbers.forked_sizes.Goals as goal

begin : (l : List ℕ) (first count : ℕ) (sizes : List ℕ) → length sizes ≡ 1024 → BodyIn first count → Inv l first count sizes 0 0
unfolding sum_to
begin l first count sizes s b = record { body = b; sized = s; within = omega arith; value = refl; low = omega arith }

again : (l : List ℕ) (first count : ℕ) (sizes : List ℕ) (total i : ℕ) → Inv l first count sizes total i → i < count → (k x r : ℕ) → k ≡ code_at l (first + i) → x ≡ argument_at l (first + i)
    → Read (fork_size sizes (kind_of k) x) 65536 r → Inv l first count sizes (total + r) (i + 1)
unfolding sum_to
again l first count sizes total i v h k x r e f s =
    let z : r ≡ fork_size sizes (kind_of (code_at l (first + i))) (argument_at l (first + i)) = s.value ∙ rw (e, f) in
    let n : i + 1 ≡ suc i = omega arith in
    let y : total + r ≡ forked_sizes (code_at l) (argument_at l) sizes first (suc i) = omega (arith, v.value, z) in
    record { body = v.body; sized = v.sized; within = omega arith; value = y ∙ ap (λ (j : ℕ). forked_sizes (code_at l) (argument_at l) sizes first j) (sym n); low = omega (arith, v.low, s.small) }

done : (l : List ℕ) (first count : ℕ) (sizes : List ℕ) (total i : ℕ) → Inv l first count sizes total i → count ≤ i → Read (forked_sizes (code_at l) (argument_at l) sizes first count) 4294967296 total
done l first count sizes total i v h =
    let z : i ≡ count = omega (arith, v.within) in
    record { value = rw z at v.value; small = omega (arith, v.low, v.body) }

pub loop-i-init : goal.loop-i-init
loop-i-init c = begin c.args.actions.now c.args.first c.args.count c.args.sizes.now c.requires.0 c.requires.1

pub overflow_add-first : goal.overflow_add-first
overflow_add-first c = omega (arith, c.loop-i.invariant.body, c.loop-i.invariant.within)

pub fork_size-total-requires : goal.fork_size-total-requires
fork_size-total-requires c = c.loop-i.invariant.sized

pub overflow_add-total : goal.overflow_add-total
overflow_add-total c = omega (arith, c.fork_size-total.ensures.small, c.loop-i.invariant.low, c.loop-i.invariant.within, c.loop-i.invariant.body)

pub loop-i-preserved : goal.loop-i-preserved
loop-i-preserved c =
    let d = c.args in
    again d.actions.now d.first d.count d.sizes.now c.loop-i.total c.loop-i.i c.loop-i.invariant c.loop-i-test.true
    c.action_in-action.result.code c.action_in-action.result.argument c.fork_size-total.result c.action_in-action.ensures.code_value c.action_in-action.ensures.read.value (rw c.kind.ensures at c.fork_size-total.ensures)

pub returns : goal.returns
returns c =
    let d = c.args in
    done d.actions.now d.first d.count d.sizes.now c.loop-i.total c.loop-i.i c.loop-i.invariant c.loop-i-test.false
