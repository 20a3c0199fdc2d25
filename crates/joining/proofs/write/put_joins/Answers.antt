use mathlib.Core.Path.{◌≡◌, refl, sym, ap, ◌∙◌}
use Prim.Native.Nat.{ℕ, suc, ◌+◌, ◌-◌, ◌≤◌}
use mathlib.Core.List.{List, [], ◌∷◌, ◌++◌}
use native.Mathlib.Omega.{arith}
use lib.ListN.{length, get_or, take}
use lib.Seq.{take-suc, take-length}
use Rattle.table.specs.Format.{code_of, threads_of}
use Rattle.text.specs.Text.{buffer_at, placed}
use Rattle.text.specs.Puts.{put_all}
use Rattle.rows.specs.Rows.{cut_action}
use Rattle.rows.proofs.Rest.{rest_all, rest_row}
use Rattle.joining.specs.Answers.{parts_of}
use Rattle.joining.specs.Code.Rows.{starts_over, join_rows, threads_over}
use Rattle.joining.proofs.Splits.{parts_length}
use Rattle.joining.proofs.write.put_joins.Invariants.{Inv}
use Rattle.joining.proofs.write.put_joins.Goals as goal

threads_last : (l : List (List ℕ)) (s : List ℕ) → threads_over (l ++ (s ∷ [])) ≡ threads_over l + threads_of s
unfolding threads_over
threads_last [] s = omega arith
threads_last (x ∷ l) s = omega (arith, threads_last l s)

starts_last : (l : List (List ℕ)) (s : List ℕ) (o : ℕ) → starts_over o (l ++ (s ∷ [])) ≡ starts_over o l ++ ((o + threads_over l) ∷ [])
unfolding starts_over threads_over
starts_last [] s o = let z : o + 0 ≡ o = omega arith in rw z
starts_last (x ∷ l) s o =
    let z : o + (threads_of x + threads_over l) ≡ o + threads_of x + threads_over l = omega arith in
    rw (z, starts_last l s (o + threads_of x))

join_last : (l : List ℕ) (x : ℕ) → join_rows (l ++ (x ∷ [])) ≡ cut_action 5 x ∷ join_rows l
unfolding join_rows
join_last [] x = refl
join_last (o ∷ l) x = rw (join_last l x)

begin : (out : List ℕ) (at : ℕ) (ps : List (List ℕ)) (n k : ℕ) → n ≡ suc (threads_over ps) → k ≡ length ps → Inv out at ps out at n k
begin out at ps n k e f =
    record { within = omega (arith, f); counted = rw (f, take-length ps) e; left = rw (f, take-length ps) (rest_all out at (join_rows (starts_over 1 ps))) }

module _ (out₀ : List ℕ) (at₀ : ℕ) (ps : List (List ℕ)) (out : List ℕ) (at root i : ℕ) (v : Inv out₀ at₀ ps out at root i) (u : ℕ) (n : suc u ≡ i) (part : List ℕ) (e : part ≡ get_or ps u []) where
  last : take i ps ≡ take u ps ++ (part ∷ [])
  last = ap (λ (j : ℕ). take j ps) (sym n) ∙ take-suc ps u [] (omega (arith, v.within)) ∙ rw e

  counts : root ≡ suc (threads_over (take u ps)) + threads_of part
  counts = let q : root ≡ suc (threads_over (take u ps ++ (part ∷ []))) = rw last at v.counted in omega (arith, q, threads_last (take u ps) part)

  again : (x : ℕ) → x ≡ threads_of part → (out' : List ℕ) (at' : ℕ) → length out' ≡ length out → buffer_at out' at' ≡ placed out at (cut_action 5 (root - x)) → Inv out₀ at₀ ps out' at' (root - x) u
  again x f out' at' l p =
      let c : root - x ≡ suc (threads_over (take u ps)) = omega (arith, counts, f) in
      let o : 1 + threads_over (take u ps) ≡ root - x = omega (arith, c) in
      let q : join_rows (starts_over 1 (take i ps)) ≡ cut_action 5 (root - x) ∷ join_rows (starts_over 1 (take u ps)) =
      ap (λ (k : List (List ℕ)). join_rows (starts_over 1 k)) last
      ∙ ap join_rows (starts_last (take u ps) part 1)
      ∙ join_last (starts_over 1 (take u ps)) (1 + threads_over (take u ps))
      ∙ ap (λ (k : ℕ). cut_action 5 k ∷ join_rows (starts_over 1 (take u ps))) o in
      record { within = omega (arith, v.within); counted = c; left = rest_row (rw q at v.left) l p }

ends : (out₀ : List ℕ) (at₀ : ℕ) (ps : List (List ℕ)) (out : List ℕ) (at root i : ℕ) → Inv out₀ at₀ ps out at root i → i ≤ 0 → buffer_at out at ≡ put_all (buffer_at out₀ at₀) (join_rows (starts_over 1 ps))
unfolding join_rows starts_over
ends out₀ at₀ ps out at root i v h =
    let z : i ≡ 0 = omega arith in
    rw z at v.left.same

pub loop-i-init : goal.loop-i-init
loop-i-init c =
    let d = c.args in
    begin d.out.now d.at (parts_of d.lengths.now d.tables.now) d.n _ c.requires.1 (sym (parts_length d.lengths.now d.tables.now))

pub part_at-requires : goal.part_at-requires
part_at-requires c =
    (c.requires.0.lent, omega (arith, c.loop-i-test.true, c.loop-i.invariant.within, parts_length c.args.lengths.now c.args.tables.now))

pub overflow_sub-root : goal.overflow_sub-root
overflow_sub-root c =
    let d = c.args in
    let q = counts d.out.now d.at (parts_of d.lengths.now d.tables.now) _ _ _ _ c.loop-i.invariant (c.loop-i.i - 1) (omega (arith, c.loop-i-test.true)) _ c.part_at.ensures in
    omega (arith, q, c.threads-root.ensures.value)

pub loop-i-smaller : goal.loop-i-smaller
loop-i-smaller c = omega (arith, c.loop-i-test.true)

pub loop-i-preserved : goal.loop-i-preserved
unfolding code_of
loop-i-preserved c =
    let d = c.args in
    again d.out.now d.at (parts_of d.lengths.now d.tables.now) _ _ _ _ c.loop-i.invariant (c.loop-i.i - 1) (omega (arith, c.loop-i-test.true)) _ c.part_at.ensures c.threads-root.result c.threads-root.ensures.value _ _
    (omega arith) (rw c.code.ensures at c.put_action-at.ensures)

pub shape_of-out : goal.shape_of-out
shape_of-out c = omega (arith, c.loop-i.invariant.left.long)

pub returns : goal.returns
returns c =
    let d = c.args in
    ends d.out.now d.at (parts_of d.lengths.now d.tables.now) _ _ _ _ c.loop-i.invariant c.loop-i-test.false
