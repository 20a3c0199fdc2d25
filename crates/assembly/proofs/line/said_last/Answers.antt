-- `assembly::line::said_last` meets its contract: another word, or none.
use Prim.Native.Nat.{ℕ}
use native.Mathlib.Omega.{arith}
use mathlib.Core.Path.{◌≡◌}
use mathlib.Core.List.{List}
use borrow.Author.Tests.{eq-eqb, ne_eqb}
use Rattle.assembly.specs.Words.{words_in, FirstWord}
use Rattle.assembly.specs.Said.{said_last}
use Rattle.assembly.specs.declared.Expected.TheVariants.{LineEnd}
use Rattle.assembly.specs.declared.Said.TheVariants.{Thread, Action, Expects}
use Rattle.assembly.proofs.line.said_last.Goals as goal

module _ (k x : ℕ) (s : List ℕ) (a b : ℕ) (f : FirstWord s a b) where
  more : (a ≡ b → ⊥) → Expects LineEnd ≡ said_last k x (words_in s)
  more h = rw (f.some (omega (arith, h, f.order)))

  thread : a ≡ b → k ≡ 6 → Thread x ≡ said_last k x (words_in s)
  thread e h = rw (f.none e, eq-eqb k 6 h)

  action : a ≡ b → (k ≡ 6 → ⊥) → Action k x ≡ said_last k x (words_in s)
  action e h = rw (f.none e, ne_eqb k 6 h)

pub returns-then-more : goal.returns-then-more
returns-then-more c = more _ _ _ _ _ c.first_word-more.ensures c.if-more.true

pub returns-then-k-eq6 : goal.returns-then-k-eq6
returns-then-k-eq6 c = thread _ _ _ _ _ c.first_word-more.ensures c.if-more.false c.if-k-eq6.true

pub returns-else-k-eq6 : goal.returns-else-k-eq6
returns-else-k-eq6 c = action _ _ _ _ _ c.first_word-more.ensures c.if-more.false c.if-k-eq6.false
