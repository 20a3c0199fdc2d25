use mathlib.Core.Path.{◌≡◌, ap, ◌∙◌}
use Prim.Native.Nat.{ℕ, suc, ◌+◌, ◌≤◌, ◌<◌}
use mathlib.Core.List.{List, [], ◌∷◌, ◌++◌}
use native.Mathlib.Omega.{arith}
use lib.ListN.{length, get_or, drop}
use lib.Seq.{drop-cons, drop-length}
use Rattle.table.specs.Format.{bodies_of, first_of, count_of}
use Rattle.text.specs.Text.{buffer_at}
use Rattle.text.specs.Puts.{put_all}
use Rattle.rows.specs.Rows.{renamed_rows, named_by, ordered_rows}
use Rattle.rows.proofs.Rest.{rest_all, rest_rows}
use Rattle.rows.proofs.put_bodies.Invariants.{Inv}
use Rattle.rows.proofs.put_bodies.Goals as goal

start : (out : List ℕ) (at : ℕ) (s order names : List ℕ) → Inv out at s order names out at 0
start out at s order names = record { within = omega arith; left = rest_all out at (ordered_rows s (named_by names) order) }

module _ (out₀ : List ℕ) (at₀ : ℕ) (s order names out : List ℕ) (at i : ℕ) (v : Inv out₀ at₀ s order names out at i) where
  split : i < length order → (t : ℕ) → t ≡ get_or order i 0
      → ordered_rows s (named_by names) (drop i order) ≡ renamed_rows (bodies_of s) (named_by names) (first_of s t) (count_of s t) ++ ordered_rows s (named_by names) (drop (i + 1) order)
  unfolding ordered_rows
  split h t e =
      let q : drop i order ≡ get_or order i 0 ∷ drop (suc i) order = drop-cons order i 0 h in
      let z : i + 1 ≡ suc i = omega arith in
      rw (q, z, e)

  again : i < length order → (t : ℕ) → t ≡ get_or order i 0 → (out' : List ℕ) (at' : ℕ) → length out' ≡ length out
      → buffer_at out' at' ≡ put_all (buffer_at out at) (renamed_rows (bodies_of s) (named_by names) (first_of s t) (count_of s t)) → Inv out₀ at₀ s order names out' at' (i + 1)
  again h t e out' at' l p =
      record { within = omega arith; left = rest_rows (renamed_rows (bodies_of s) (named_by names) (first_of s t) (count_of s t)) (rw (split h t e) at v.left) l p }

  ends : length order ≤ i → buffer_at out at ≡ put_all (buffer_at out₀ at₀) (ordered_rows s (named_by names) order)
  unfolding ordered_rows
  ends h =
      let z : i ≡ length order = omega (arith, v.within) in
      let q : drop i order ≡ [] = ap (λ (j : ℕ). drop j order) z ∙ drop-length order in
      rw q at v.left.same

pub loop-t-init : goal.loop-t-init
loop-t-init c =
    let d = c.args in
    start d.out.now d.at d.table.now d.order.now d.names.now

pub loop-t-preserved : goal.loop-t-preserved
loop-t-preserved c =
    let d = c.args in
    again d.out.now d.at d.table.now d.order.now d.names.now c.loop-t.out c.loop-t.at c.loop-t.t-index c.loop-t.invariant c.loop-t-test.true
    c.wide.result c.wide.ensures.value _ _ (omega arith) c.put_named-at.ensures

pub shape_of-out : goal.shape_of-out
shape_of-out c = omega (arith, c.loop-t.invariant.left.long)

pub returns : goal.returns
returns c =
    let d = c.args in
    ends d.out.now d.at d.table.now d.order.now d.names.now c.loop-t.out c.loop-t.at c.loop-t.t-index c.loop-t.invariant c.loop-t-test.false
