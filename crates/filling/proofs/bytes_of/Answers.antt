-- `filling::bytes_of` meets its contract.
use mathlib.Core.Path.{◌≡◌, sym, ◌∙◌}
use Prim.Native.Nat.{ℕ}
use mathlib.Core.List.{List}
use native.Mathlib.Omega.{arith}
use Rattle.table.specs.Format.{threads_of, table_of}
use Rattle.filling.proofs.Measured.{total_few, in_place_filling, whole_filling}
use Rattle.filling.proofs.bytes_of.Goals as goal

threads_is : (s : List ℕ) (x n : ℕ) → x ≡ n → n ≡ threads_of s → x ≡ (table_of s).threads
unfolding table_of
threads_is s x n e f = e ∙ f

threads_not : (s : List ℕ) (x n : ℕ) → (x ≡ n → ⊥) → n ≡ threads_of s → x ≡ (table_of s).threads → ⊥
unfolding table_of
threads_not s x n e f g = e (g ∙ sym f)

pub returns-then-total-threads : goal.returns-then-total-threads
returns-then-total-threads c =
    let s = c.args.table.now in
    in_place_filling s c.args.quota c.requires (threads_is s _ _ c.if-total-threads.true c.threads.ensures.value)

pub overflow_mul-result : goal.overflow_mul-result
overflow_mul-result c = omega (arith, total_few c.args.table.now c.args.quota c.requires)

pub overflow_add-result : goal.overflow_add-result
overflow_add-result c = omega (arith, total_few c.args.table.now c.args.quota c.requires)

pub overflow_mul-result-2 : goal.overflow_mul-result-2
overflow_mul-result-2 c = omega (arith, total_few c.args.table.now c.args.quota c.requires)

pub overflow_add-result-2 : goal.overflow_add-result-2
overflow_add-result-2 c = omega (arith, total_few c.args.table.now c.args.quota c.requires)

pub returns : goal.returns
returns c =
    let s = c.args.table.now in
    whole_filling s c.args.quota c.requires (threads_not s _ _ c.if-total-threads.false c.threads.ensures.value)
