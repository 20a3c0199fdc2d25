-- `assembly::line::said_after` meets its contract: no word, or a first one that is a number.
use Prim.Native.Nat.{ℕ, ◌-◌, ◌≤◌, ◌<◌}
use native.Mathlib.Omega.{arith}
use mathlib.Core.Path.{◌≡◌, sym, ◌∙◌}
use mathlib.Core.List.{List}
use borrow.Author.Tests.{lt-ltb, le-ltb}
use lib.ListN.{length, take, drop}
use Rattle.table.proofs.Parts.{rest_part}
use Rattle.std.specs.Prelude.{None, Option, Some}
use Rattle.assembly.specs.Words.{words_in, number_in, FirstWord}
use Rattle.assembly.proofs.Upto.{given, given_none, given_some, number_given}
use Rattle.assembly.specs.Said.{said_after, said_last}
use Rattle.assembly.specs.Code.Steps.{Numbered}
use Rattle.assembly.specs.declared.Expected.TheVariants.{Number, LineEnd}
use Rattle.assembly.specs.declared.Said.TheVariants.{Action, Expects}
use Rattle.assembly.proofs.line.said_after.Goals as goal

module _ (k : ℕ) (s : List ℕ) (a b : ℕ) (f : FirstWord s a b) where
  bare : a ≡ b → k < 2 → Action k 0 ≡ said_after k (words_in s)
  bare e h = rw (f.none e, lt-ltb k 2 h)

  missing : a ≡ b → 2 ≤ k → Expects Number ≡ said_after k (words_in s)
  missing e h = rw (f.none e, le-ltb k 2 h)

  module _ (n : a ≡ b → ⊥) where
    some : a < b
    some = omega (arith, n, f.order)

    over : k < 2 → Expects LineEnd ≡ said_after k (words_in s)
    over h = rw (f.some some, lt-ltb k 2 h)

    module _ (h : 2 ≤ k) {r : Option ℕ} (v : Numbered 16777215 (take (b - a) (drop a s)) r) where
      is_given : given (number_in (take (b - a) (drop a s))) ≡ r
      is_given = sym (v.value ∙ number_given (take (b - a) (drop a s)))

      wrong : r ≡ None → Expects Number ≡ said_after k (words_in s)
      wrong e = rw (f.some some, le-ltb k 2 h, given_none (number_in (take (b - a) (drop a s))) (is_given ∙ e))

      right : {x : ℕ} → r ≡ Some x → said_last k x (words_in (take (length s - b) (drop b s))) ≡ said_after k (words_in s)
      right {x} e =
          let p = given_some (number_in (take (b - a) (drop a s))) x (is_given ∙ e) in
          rw (f.some some, le-ltb k 2 h, p.0, rest_part s b, p.1)

pub returns-then-k-lt2 : goal.returns-then-k-lt2
returns-then-k-lt2 c = bare _ _ _ _ c.first_word-operand.ensures c.if-start-end.true c.if-k-lt2.true

pub returns-then-start-end : goal.returns-then-start-end
returns-then-start-end c = missing _ _ _ _ c.first_word-operand.ensures c.if-start-end.true c.if-k-lt2.false

pub returns-then-k-lt2-2 : goal.returns-then-k-lt2-2
returns-then-k-lt2-2 c = over _ _ _ _ c.first_word-operand.ensures c.if-start-end.false c.if-k-lt2-2.true

pub slice_bounds-read_number-count : goal.slice_bounds-read_number-count
slice_bounds-read_number-count c = omega (arith, c.first_word-operand.ensures.order)

pub slice_bounds-read_number-start : goal.slice_bounds-read_number-start
slice_bounds-read_number-start c = omega (arith, c.first_word-operand.ensures.order, c.first_word-operand.ensures.within)

pub slice_bounds-read_number-end : goal.slice_bounds-read_number-end
slice_bounds-read_number-end c = omega (arith, c.first_word-operand.ensures.within)

pub returns-in-None : goal.returns-in-None
returns-in-None c = wrong _ _ _ _ c.first_word-operand.ensures c.if-start-end.false c.if-k-lt2-2.false c.read_number-x.ensures c.in-None.is

pub slice_bounds-said_last-count : goal.slice_bounds-said_last-count
slice_bounds-said_last-count c = omega (arith, c.first_word-operand.ensures.within)

pub slice_bounds-said_last-start : goal.slice_bounds-said_last-start
slice_bounds-said_last-start c = omega (arith, c.first_word-operand.ensures.within)

pub slice_bounds-said_last-end : goal.slice_bounds-said_last-end
slice_bounds-said_last-end c = omega (arith, c.first_word-operand.ensures.within)

pub returns-in-Some : goal.returns-in-Some
returns-in-Some c = c.said_last.ensures ∙ right _ _ _ _ c.first_word-operand.ensures c.if-start-end.false c.if-k-lt2-2.false c.read_number-x.ensures c.in-Some.is
