-- `joining::given::join_given` meets its contract: 47, or what joining the tables of the input gives.
use mathlib.Core.Path.{◌≡◌, sym, ap, ◌∙◌}
use Prim.Native.Nat.{ℕ, ◌+◌, ◌-◌, ◌*◌, ◌≤◌}
use mathlib.Core.List.{List}
use native.Mathlib.Omega.{arith}
use lib.ListN.{length, take, drop}
use lib.Seq.{length-take-le}
use Rattle.table.proofs.Parts.{rest_part}
use Rattle.joining.specs.Answers.{joined, joined_in, join_values, join_values_of}
use Rattle.joining.specs.Given.{count_in, lengths_to, lengths_in, tables_in}
use Rattle.joining.proofs.JoinGiven.{Says, short_said, many_said, whole_said}
use Rattle.joining.proofs.given.join_given.Goals as goal
use Rattle.joining.specs.declared.JoinError.{JoinError}
use Rattle.std.specs.Prelude.{Result}
use Rattle.table.specs.declared.Facts.{Facts}

module _ (input : List ℕ) (k : ℕ) (count : k ≡ count_in input) (lengths : List ℕ) (read : take k lengths ≡ lengths_to input k) where
  lengths_are : take k lengths ≡ lengths_in input
  lengths_are = read ∙ ap (lengths_to input) count

  tables_are : take (length input - (4 * k + 1)) (drop (4 * k + 1) input) ≡ tables_in input
  tables_are =
      let z : 4 * k + 1 ≡ 1 + 4 * count_in input = omega (arith, count) in
      rest_part input (4 * k + 1) ∙ ap (λ (n : ℕ). drop n input) z

  said : (out : List ℕ) (x : Result Facts JoinError) (o : List ℕ) → 4 * k + 1 ≤ length input → x ≡ joined (take k lengths) (take (length input - (4 * k + 1)) (drop (4 * k + 1) input))
      → join_values_of x ≡ join_values (take k lengths) (take (length input - (4 * k + 1)) (drop (4 * k + 1) input))
      → o ≡ joined_in (take k lengths) (take (length input - (4 * k + 1)) (drop (4 * k + 1) input)) out → Says input out x o
  said out x o h e v p = whole_said input out x o (omega (arith, count)) (rw (lengths_are, tables_are) at e) (rw (lengths_are, tables_are) at v) (rw (lengths_are, tables_are) at p)

pub returns-then-count-gt16 : goal.returns-then-count-gt16
returns-then-count-gt16 c = let d = c.args in
    let v = many_said d.input.now d.out.now (omega (arith, c.if-count-gt16.true, c.wide-count.ensures.value ∙ c.byte.ensures)) in record { value = v.answer; result_value = v.values; out_after = v.left }

pub returns-then-input-start : goal.returns-then-input-start
returns-then-input-start c = let d = c.args in
    let v = short_said d.input.now d.out.now (omega (arith, c.if-input-start.true, c.wide-count.ensures.value ∙ c.byte.ensures)) in record { value = v.answer; result_value = v.values; out_after = v.left }

pub slice_bounds-join-end-2 : goal.slice_bounds-join-end-2
slice_bounds-join-end-2 c = sym (length-take-le _ _ (omega (arith, c.if-count-gt16.false, c.lengths_to-lengths.ensures.result_len)))

pub returns : goal.returns
returns c = let d = c.args in
    let v = said d.input.now c.wide-count.result (c.wide-count.ensures.value ∙ c.byte.ensures) c.lengths_to-lengths.result c.lengths_to-lengths.ensures.result_value d.out.now _ _ c.if-input-start.false c.join.ensures.value c.join.ensures.result_value c.join.ensures.out_after in record { value = v.answer; result_value = v.values; out_after = v.left }
