use mathlib.Core.Path.{◌≡◌, ap, ◌∙◌}
use Prim.Native.Nat.{ℕ, suc, ◌+◌, ◌-◌, ◌≤◌, ◌<◌}
use mathlib.Core.List.{List, ◌∷◌}
use native.Mathlib.Omega.{arith}
use lib.ListN.{length}
use Rattle.table.specs.Format.{threads_of, table_of}
use Rattle.text.specs.Text.{buffer_at, placed}
use Rattle.text.specs.Puts.{put_all}
use Rattle.rows.specs.Rows.{cut_pair, shifted_entries}
use Rattle.rows.proofs.Rest.{rest_all, rest_row}
use Rattle.rows.proofs.put_entries.Invariants.{Inv}
use Rattle.rows.proofs.put_entries.Goals as goal

start : (out : List ℕ) (at : ℕ) (s : List ℕ) (o n : ℕ) → Inv out at s o n out at 0
start out at s o n = let q : n - 0 ≡ n = omega arith in record { within = omega arith; left = rw q (rest_all out at (shifted_entries s o 0 n)) }

module _ (out₀ : List ℕ) (at₀ : ℕ) (s : List ℕ) (o n : ℕ) (out : List ℕ) (at t : ℕ) (v : Inv out₀ at₀ s o n out at t) where
  split : t < n → (b f c : ℕ) → b ≡ o → f ≡ (table_of s).first t → c ≡ (table_of s).count t → shifted_entries s o t (n - t) ≡ cut_pair (b + f) c ∷ shifted_entries s o (t + 1) (n - (t + 1))
  unfolding shifted_entries table_of
  split h b f c d e g =
      let q : n - t ≡ suc (n - (t + 1)) = omega arith in
      let m : t + 1 ≡ suc t = omega arith in
      rw (q, m, d, e, g)

  again : t < n → (b f c : ℕ) → b ≡ o → f ≡ (table_of s).first t → c ≡ (table_of s).count t → (out' : List ℕ) (at' : ℕ) → length out' ≡ length out
      → buffer_at out' at' ≡ placed out at (cut_pair (b + f) c) → Inv out₀ at₀ s o n out' at' (t + 1)
  again h b f c d e g out' at' l p = record { within = omega arith; left = rest_row (rw (split h b f c d e g) at v.left) l p }

  ends : n ≤ t → n ≡ threads_of s → buffer_at out at ≡ put_all (buffer_at out₀ at₀) (shifted_entries s o 0 (threads_of s))
  unfolding shifted_entries
  ends h e = let q : n - t ≡ 0 = omega arith in (rw q at v.left.same) ∙ ap (λ (k : ℕ). put_all (buffer_at out₀ at₀) (shifted_entries s o 0 k)) e

pub loop-t-init : goal.loop-t-init
loop-t-init c =
    let d = c.args in
    start d.out.now d.at d.table.now d.o c.threads-n.result

pub overflow_add-before : goal.overflow_add-before
overflow_add-before c = omega (arith, c.first.ensures.small, c.wide-before.ensures.small)

pub loop-t-preserved : goal.loop-t-preserved
loop-t-preserved c =
    let d = c.args in
    again d.out.now d.at d.table.now d.o c.threads-n.result c.loop-t.out c.loop-t.at c.loop-t.t c.loop-t.invariant c.loop-t-test.true c.wide-before.result
    c.first.result c.count.result c.wide-before.ensures.value c.first.ensures.value c.count.ensures.value _ _ (omega arith) c.put_pair-at.ensures

pub shape_of-out : goal.shape_of-out
shape_of-out c = omega (arith, c.loop-t.invariant.left.long)

pub returns : goal.returns
returns c =
    let d = c.args in
    ends d.out.now d.at d.table.now d.o c.threads-n.result c.loop-t.out c.loop-t.at c.loop-t.t c.loop-t.invariant c.loop-t-test.false c.threads-n.ensures.value
