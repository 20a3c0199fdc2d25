-- What is read of an action of a table of n threads.
use mathlib.Core.Path.{◌≡◌, ap, ◌∙◌}
use Prim.Native.Nat.{ℕ}
use mathlib.Core.List.{List}
use Rattle.table.specs.Format.{kind, kind_of, code_at, argument_at, bodies_from, table_of}
use Rattle.table.specs.declared.kinds.Kind.{Kind}
use Rattle.table.specs.Sum.{Read}
use Rattle.table.proofs.Parts.{code_from, argument_from}

module _ (s : List ℕ) {n : ℕ} (k : n ≡ (table_of s).threads) (a : ℕ) where
  pub code_read : {r : ℕ} → r ≡ code_at (bodies_from s n) a → r ≡ (table_of s).code a
  code_read e = e ∙ code_from s n k a

  pub argument_read : {r : ℕ} → Read (argument_at (bodies_from s n) a) 16777216 r → Read ((table_of s).argument a) 16777216 r
  argument_read e = record { value = e.value ∙ argument_from s n k a; small = e.small }

  pub kind_read : {r : Kind} → r ≡ kind_of (code_at (bodies_from s n) a) → r ≡ kind (table_of s) a
  kind_read e = e ∙ ap kind_of (code_from s n k a)
