use mathlib.Core.Path.{◌≡◌, refl, sym, ◌∙◌}
use Prim.Native.Nat.{ℕ, zero, suc, ◌+◌, ◌-◌, ◌≤◌, ◌<◌}
use mathlib.Core.List.{List, [], ◌∷◌}
use mathlib.Core.Bool.{true, false, ◌&&◌}
use native.Mathlib.Numerals.{add-one}
use native.Mathlib.Omega.{arith}
use borrow.Author.Tests.{lt-ltb, le-ltb}
use lib.Dec.{ltb}
use lib.ListN.{length, get_or, take, drop}
use lib.Seq.{drop-cons, drop-nil, get_or-take, length-take-le}
use Rattle.order.specs.Words.{rises}
use Rattle.soundness.proofs.numbers.rising.Invariants.{Inv}
use Rattle.soundness.proofs.numbers.rising.Goals as goal

rises_next : (f : ℕ → ℕ) (l : List ℕ) (i : ℕ) → i + 1 < length l
    → rises f (drop i l) ≡ (ltb (f (get_or l i 0)) (f (get_or l (i + 1) 0)) && rises f (drop (i + 1) l))
unfolding rises
rises_next f l i h =
    rw (drop-cons l i 0 (omega arith), add-one i, drop-cons l (suc i) 0 (omega arith))

rises_last : (f : ℕ → ℕ) (l : List ℕ) (i : ℕ) → length l ≤ i + 1 → rises f (drop i l) ≡ true
unfolding rises
rises_last f [] i h = rw drop-nil
rises_last f (x ∷ []) zero h = refl
rises_last f (x ∷ y ∷ l) zero h = absurd (omega arith)
rises_last f (x ∷ l) (suc i) h = rises_last f l i (omega arith)

start : (numbers list : List ℕ) (len : ℕ) → len ≤ 1024 → length list ≡ 1024 → Inv numbers list len 1
start numbers list len h e = record { few = h; size = length-take-le len list (omega arith); some = omega arith; remains = refl }

ended : (numbers list : List ℕ) (len i : ℕ) → Inv numbers list len i → len ≤ i → true ≡ rises (λ t. get_or numbers t 0) (take len list)
ended numbers list len i v h = sym (rises_last (λ t. get_or numbers t 0) (take len list) (i - 1) (omega (arith, v.size, v.some))) ∙ v.remains

module _ (numbers list : List ℕ) (len i left right : ℕ) (v : Inv numbers list len i) (h : i < len)
    (p : left ≡ get_or numbers (get_or list (i - 1) 0) 0) (q : right ≡ get_or numbers (get_or list i 0) 0) where
  here : (ltb left right && rises (λ t. get_or numbers t 0) (drop i (take len list))) ≡ rises (λ t. get_or numbers t 0) (take len list)
  here =
      let e : i - 1 + 1 ≡ i = omega (arith, v.some) in
      rw (p, q, ← get_or-take len list (i - 1) 0 (omega arith), ← get_or-take len list i 0 h)
      (sym (rw e at (rises_next (λ t. get_or numbers t 0) (take len list) (i - 1) (omega (arith, v.size, v.some)))) ∙ v.remains)

  stops : right ≤ left → false ≡ rises (λ t. get_or numbers t 0) (take len list)
  stops g = rw (le-ltb left right g) at here

  again : left < right → Inv numbers list len (i + 1)
  again g =
      let z : i + 1 - 1 ≡ i = omega arith in
      record { few = v.few; size = v.size; some = omega arith; remains = rw z (rw (lt-ltb left right g) at here) }

pub loop-i-init : goal.loop-i-init
loop-i-init c = start c.args.numbers.now c.args.list.now _ c.requires.len_bound.0 c.requires.len_bound.1

pub number_at-requires : goal.number_at-requires
number_at-requires c = (omega arith, c.requires.by_index _ c.loop-i-test.true)

pub number_at-requires-in-loop-i : goal.number_at-requires-in-loop-i
number_at-requires-in-loop-i c = (omega arith, c.requires.by_index _ (omega (arith, c.loop-i-test.true)))

pub returns-then-number_at : goal.returns-then-number_at
returns-then-number_at c =
    stops c.args.numbers.now c.args.list.now _ _ _ _ c.loop-i.invariant c.loop-i-test.true
    c.number_at-in-loop-i.ensures c.number_at.ensures c.if-number_at.true

pub loop-i-preserved : goal.loop-i-preserved
loop-i-preserved c =
    again c.args.numbers.now c.args.list.now _ _ _ _ c.loop-i.invariant c.loop-i-test.true
    c.number_at-in-loop-i.ensures c.number_at.ensures c.if-number_at.false

pub returns : goal.returns
returns c = ended c.args.numbers.now c.args.list.now _ _ c.loop-i.invariant c.loop-i-test.false
