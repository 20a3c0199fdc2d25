-- An argument of an action where threads are renamed: forks and joins name threads, and no other kind does.
use mathlib.Core.Path.{◌≡◌, refl, ◌∙◌}
use Prim.Native.Nat.{ℕ}
use mathlib.Core.Logic.{◌⊎◌, inl, inr}
use Rattle.table.specs.declared.kinds.Kind.{Kind}
use Rattle.table.specs.declared.kinds.Kind.TheVariants.{End as end, Work as work, Alloc as alloc, Free as free, Fork as fork, Join as join, Unknown as unknown}
use Rattle.parts.specs.Copies.{renamed}

pub named_thread : (k : Kind) (f : ℕ → ℕ) (x r : ℕ) → (k ≡ fork) ⊎ (k ≡ join) → r ≡ f x → r ≡ renamed f k x
named_thread k f x r (inl e) p = p ∙ rw e
named_thread k f x r (inr e) p = p ∙ rw e

pub unnamed : (k : Kind) (f : ℕ → ℕ) (x : ℕ) → (k ≡ fork → ⊥) → (k ≡ join → ⊥) → x ≡ renamed f k x
unnamed end f x p q = refl
unnamed work f x p q = refl
unnamed alloc f x p q = refl
unnamed free f x p q = refl
unnamed fork f x p q = absurd (p refl)
unnamed join f x p q = absurd (q refl)
unnamed unknown f x p q = refl
