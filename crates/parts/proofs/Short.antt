-- Arguments of 24 bits stay so where threads get other numbers, so that what is written is read back.
use Prim.Native.Nat.{ℕ, zero, suc, ◌+◌, ◌≤◌, ◌<◌}
use native.Mathlib.Omega.{arith}
use mathlib.Core.Path.{◌≡◌, refl}
use mathlib.Core.List.{List, [], ◌∷◌, ◌++◌, map}
use lib.ListN.{length, get_or}
use Rattle.table.specs.Format.{Table, kind}
use Rattle.table.specs.declared.kinds.Kind.{Kind}
use Rattle.table.specs.declared.kinds.Kind.TheVariants.{End as end, Work as work, Alloc as alloc, Free as free, Fork as fork, Join as join, Unknown as unknown}
use Rattle.table.specs.Rules.{ContentRules, BodyRules}
use Rattle.table.specs.Written.{Action, actions_from, body_in}
use Rattle.table.proofs.Bodies.{body_within, fork_below_lem, join_below}
use Rattle.table.proofs.ReadBack.{none}
use Rattle.parts.specs.Copies.{renamed, renamed_action}

-- of a table, which all tables that are read are (`argument_short`, table/proofs/ReadBack), and of actions
abbrev pub Short : Table → Type 0
Short T = (a : ℕ) → T.argument a < 16777216

unfoldable pub ShortActions : List Action → Type 0
ShortActions [] = Unit {0}
ShortActions (x ∷ l) = (x.argument < 16777216) × ShortActions l

pub short_append : (l r : List Action) → ShortActions l → ShortActions r → ShortActions (l ++ r)
unfolding ShortActions
short_append [] r p q = q
short_append (x ∷ l) r p q = (p.0, short_append l r p.1 q)

-- what `read_back` asks
pub short_at : (l : List Action) → ShortActions l → (i : ℕ) → i < length l → (get_or l i none).argument < 16777216
unfolding ShortActions
short_at [] p i h = absurd (omega arith)
short_at (x ∷ l) p zero h = p.0
short_at (x ∷ l) p (suc i) h = short_at l p.1 i (omega arith)

module _ (T : Table) (c : ContentRules T) (b : BodyRules T) (s : Short T) (f : ℕ → ℕ) (g : (t : ℕ) → t < T.threads → f t < 16777216) where
  kind_short : (a : ℕ) → a < T.actions → (k : Kind) → kind T a ≡ k → renamed f k (T.argument a) < 16777216
  kind_short a l end e = s a
  kind_short a l work e = s a
  kind_short a l alloc e = s a
  kind_short a l free e = s a
  kind_short a l fork e = g (T.argument a) (fork_below_lem T c b a l e)
  kind_short a l join e = g (T.argument a) (join_below T c b a l e)
  kind_short a l unknown e = s a

  pub renamed_short : (a : ℕ) → a < T.actions → renamed f (kind T a) (T.argument a) < 16777216
  renamed_short a l = kind_short a l (kind T a) refl

  from_short : (k a : ℕ) → a + k ≤ T.actions → ShortActions (map (renamed_action f) (actions_from T a k))
  unfolding ShortActions actions_from
  from_short zero a h = tt
  from_short (suc k) a h = (renamed_short a (omega arith), from_short k (suc a) (omega arith))

  pub body_short : (t : ℕ) → t < T.threads → ShortActions (map (renamed_action f) (body_in T t))
  body_short t h = from_short (T.count t) (T.first t) (body_within T c t h)
