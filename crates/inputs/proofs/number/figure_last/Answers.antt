-- `inputs::number::figure_last` meets its contract: another word, or none.
use Rattle.std.specs.Prelude.{Err, Ok}
use native.Mathlib.Omega.{arith}
use Prim.Native.Nat.{ℕ}
use mathlib.Core.Path.{◌≡◌}
use mathlib.Core.List.{List}
use Rattle.assembly.specs.Words.{words_in, FirstWord}
use Rattle.inputs.specs.Number.{figure_last}
use Rattle.inputs.specs.declared.Wanted.TheVariants.{LineEnd}
use Rattle.inputs.proofs.number.figure_last.Goals as goal

module _ (x : ℕ) (s : List ℕ) (a b : ℕ) (f : FirstWord s a b) where
  more : (a ≡ b → ⊥) → Err LineEnd ≡ figure_last x (words_in s)
  more h = rw (f.some (omega (arith, h, f.order)))

  last : a ≡ b → Ok x ≡ figure_last x (words_in s)
  last e = rw (f.none e)

pub returns-then-more : goal.returns-then-more
returns-then-more c = more _ _ _ _ c.first_word-more.ensures c.if-more.true

pub returns : goal.returns
returns c = last _ _ _ _ c.first_word-more.ensures c.if-more.false
