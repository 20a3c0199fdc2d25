-- `canonical::line::compare_line` meets its contract.
use mathlib.Core.Path.{◌≡◌, sym, ap, ◌∙◌}
use Prim.Native.Nat.{ℕ, ◌-◌, min}
use mathlib.Core.List.{List}
use native.Mathlib.Omega.{arith}
use lib.ListN.{length, take, drop, length-drop}
use lib.Seq.{length-take-le, take_all}
use Rattle.table.specs.Format.{u32_at}
use Rattle.canonical.specs.Answers.{compared}
use Rattle.canonical.specs.Lines.{compare_line, first_table, second_table}
use Rattle.text.proofs.Told.{told_within}
use Rattle.canonical.proofs.CompareLine.{take_what_is, drop_what_is, short_told, tables_told}
use Rattle.canonical.proofs.line.compare_line.Goals as goal

-- what lies from k on
part_all : (l : List ℕ) (k : ℕ) → take (length l - k) (drop k l) ≡ drop k l
part_all l k = take_all (length l - k) (drop k l) (omega (arith, length-drop k l))

first_is : (L n k : ℕ) (r : List ℕ) → n ≡ L → k ≡ min n (length r) → take k r ≡ take L r
first_is L n k r e f = rw (f, e) (take_what_is L r)

second_is : (L n k : ℕ) (r : List ℕ) → n ≡ L → k ≡ min n (length r) → drop k r ≡ drop L r
second_is L n k r e f = rw (f, e) (drop_what_is L r)

pub returns-then-input-lt4 : goal.returns-then-input-lt4
returns-then-input-lt4 c = let d = c.args in
    let p = short_told d.input.now d.out.now _ _ c.if-input-lt4.true c.table_line.ensures.value c.table_line.ensures.out_after in record { value = p.0; out_after = p.1; prefix_len = c.table_line.ensures.prefix_len }

pub slice_bounds-compare-end : goal.slice_bounds-compare-end
slice_bounds-compare-end c = sym (length-take-le _ _ (omega (arith, c.min-k.ensures)))

pub returns : goal.returns
returns c = let d = c.args in
    let s : List ℕ = d.input.now in
    let k : ℕ = c.min-k.result in
    let n : ℕ = c.double_word.result in
    let v : n ≡ u32_at s 0 = c.double_word.ensures.value in
    let r : List ℕ = take (length s - 4) (drop 4 s) in
    let z : r ≡ drop 4 s = part_all s 4 in
    let m : k ≡ min n (length r) = c.min-k.ensures in
    let x : c.compare-answer.result ≡ compared (take k r) (take (length r - k) (drop k r)) = c.compare-answer.ensures.value in
    let first : take k r ≡ first_table s = first_is (u32_at s 0) n k r v m ∙ ap (take (u32_at s 0)) z in
    let second : take (length r - k) (drop k r) ≡ second_table s = part_all r k ∙ second_is (u32_at s 0) n k r v m ∙ ap (drop (u32_at s 0)) z in
    let p = tables_told s (take k r) (take (length r - k) (drop k r)) d.out.now _ _ c.if-input-lt4.false first second c.compare-answer.result x c.compared_line.ensures.value c.compared_line.ensures.out_after in record { value = p.0; out_after = p.1; prefix_len = told_within (compare_line s) d.out.now _ _ p.0 p.1 }
