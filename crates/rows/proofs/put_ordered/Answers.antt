use mathlib.Core.Path.{◌≡◌, ap, ◌∙◌}
use Prim.Native.Nat.{ℕ, suc, ◌+◌, ◌%◌, ◌≤◌, ◌<◌}
use mathlib.Core.List.{List, [], ◌∷◌}
use native.Mathlib.Omega.{arith}
use lib.ListN.{length, get_or, drop}
use lib.Seq.{drop-cons, drop-length}
use Rattle.table.specs.Format.{count_of, table_of}
use Rattle.text.specs.Text.{buffer_at, placed}
use Rattle.text.specs.Puts.{put_all}
use Rattle.rows.specs.Rows.{cut_pair, ordered_entries}
use Rattle.rows.proofs.Rest.{rest_all, rest_row}
use Rattle.rows.proofs.put_ordered.Invariants.{Inv}
use Rattle.rows.proofs.put_ordered.Goals as goal

start : (out : List ℕ) (at : ℕ) (s order : List ℕ) → Inv out at s order out at 0 0
start out at s order = record { within = omega arith; small = omega arith; left = rest_all out at (ordered_entries s 0 order) }

module _ (out₀ : List ℕ) (at₀ : ℕ) (s order out : List ℕ) (at before i : ℕ) (v : Inv out₀ at₀ s order out at before i) where
  split : i < length order → (t n : ℕ) → t ≡ get_or order i 0 → n ≡ (table_of s).count t
      → ordered_entries s before (drop i order) ≡ cut_pair before n ∷ ordered_entries s ((before + n) % 65536) (drop (i + 1) order)
  unfolding ordered_entries table_of
  split h t n e f =
      let q : drop i order ≡ get_or order i 0 ∷ drop (suc i) order = drop-cons order i 0 h in
      let z : i + 1 ≡ suc i = omega arith in
      let w : n ≡ count_of s (get_or order i 0) = f ∙ ap (count_of s) e in
      rw (q, z, w)

  again : i < length order → (t n : ℕ) → t ≡ get_or order i 0 → n ≡ (table_of s).count t → (out' : List ℕ) (at' : ℕ) → length out' ≡ length out
      → buffer_at out' at' ≡ placed out at (cut_pair before n) → Inv out₀ at₀ s order out' at' ((before + n) % 65536) (i + 1)
  again h t n e f out' at' l p =
      record { within = omega arith; small = omega arith; left = rest_row (rw (split h t n e f) at v.left) l p }

  ends : length order ≤ i → buffer_at out at ≡ put_all (buffer_at out₀ at₀) (ordered_entries s 0 order)
  unfolding ordered_entries
  ends h =
      let z : i ≡ length order = omega (arith, v.within) in
      let q : drop i order ≡ [] = ap (λ (j : ℕ). drop j order) z ∙ drop-length order in
      rw q at v.left.same

pub loop-t-init : goal.loop-t-init
loop-t-init c =
    let d = c.args in
    start d.out.now d.at d.table.now d.order.now

pub overflow_add-before : goal.overflow_add-before
overflow_add-before c =
    omega (arith, c.count-size.ensures.small, c.loop-t.invariant.small)

pub loop-t-preserved : goal.loop-t-preserved
loop-t-preserved c =
    let d = c.args in
    again d.out.now d.at d.table.now d.order.now c.loop-t.out c.loop-t.at c.loop-t.before c.loop-t.t-index c.loop-t.invariant c.loop-t-test.true
    c.wide.result c.count-size.result c.wide.ensures.value c.count-size.ensures.value _ _
    (omega arith) c.put_pair-at.ensures

pub shape_of-out : goal.shape_of-out
shape_of-out c = omega (arith, c.loop-t.invariant.left.long)

pub returns : goal.returns
returns c =
    let d = c.args in
    ends d.out.now d.at d.table.now d.order.now c.loop-t.out c.loop-t.at c.loop-t.before c.loop-t.t-index c.loop-t.invariant c.loop-t-test.false
