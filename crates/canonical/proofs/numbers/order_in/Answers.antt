use mathlib.Core.Path.{◌≡◌, refl, ap, ◌∙◌}
use Prim.Native.Nat.{ℕ, suc, ◌+◌, ◌≤◌, ◌<◌}
use mathlib.Core.List.{List}
use native.Mathlib.Omega.{arith}
use lib.ListN.{length, get_or, set}
use Rattle.canonical.specs.Code.NumberWalk.{cut16}
use Rattle.canonical.specs.Code.NumbersOf.{order_of}
use Rattle.canonical.proofs.Ordering.{order_sized}
use Rattle.canonical.proofs.numbers.order_in.Invariants.{Inv}
use Rattle.canonical.proofs.numbers.order_in.Goals as goal

begin : (names : List ℕ) (n : ℕ) → Inv names n (order_of names 0) 0
begin names n = record { within = omega arith; same = refl }

again : (names : List ℕ) (n : ℕ) (order : List ℕ) (t : ℕ) → Inv names n order t → t < n → (at : ℕ) → at ≡ get_or names t 0 → (order' : List ℕ) → order' ≡ set order at (cut16 t)
    → Inv names n order' (t + 1)
unfolding order_of
again names n order t v h at e order' p =
    let z : t + 1 ≡ suc t = omega arith in
    record { within = omega arith; same = rw z (p ∙ rw (e, v.same)) }

ends : (names : List ℕ) (n : ℕ) (order : List ℕ) (t : ℕ) → Inv names n order t → n ≤ t → order ≡ order_of names n
ends names n order t v h = let z : n ≡ t = omega (arith, v.within) in rw z v.same

pub loop-t-init : goal.loop-t-init
unfolding order_of
loop-t-init c = begin c.args.names.now c.args.n

pub number_at-at-requires : goal.number_at-at-requires
number_at-at-requires c = c.requires.0

pub put_number-requires : goal.put_number-requires
put_number-requires c = ap length c.loop-t.invariant.same ∙ order_sized c.args.names.now c.loop-t.t

pub loop-t-preserved : goal.loop-t-preserved
loop-t-preserved c =
    again c.args.names.now c.args.n c.loop-t.order c.loop-t.t c.loop-t.invariant c.loop-t-test.true c.number_at-at.result c.number_at-at.ensures.value _
    c.put_number.ensures

pub returns : goal.returns
returns c =
    ends c.args.names.now c.args.n c.loop-t.order c.loop-t.t c.loop-t.invariant c.loop-t-test.false
