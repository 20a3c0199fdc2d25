-- Forks and joins that are well bracketed, each around those of the parts after it: the levels.
use Prim.Native.Nat.{ℕ, suc, ◌+◌, ◌*◌, ◌<◌, max}
use native.Mathlib.Omega.{arith}
use mathlib.Core.Path.{◌≡◌}
use mathlib.Core.List.{List, [], ◌∷◌}
use mathlib.Core.Bool.{false}
use lib.ListN.{length}
use Rattle.table.specs.Format.{is, code_of, Table, kind}
use Rattle.table.specs.declared.kinds.Kind.TheVariants.{End as end, Fork as fork, Join as join}
use Rattle.table.specs.Checks.{end_of}
use Rattle.table.specs.Rules.{ContentRules, BodyRules, NestRules, ForkRules}
use Rattle.table.specs.Level.{level}
use Rattle.table.proofs.Tests.{fork_no_end}
use Rattle.table.proofs.Levels.{level_child, level_step, level_join}
use Rattle.parts.specs.Joined.{deepest}

-- the level of the last join, where the action before the first fork has level k and the parts have these depths
unfoldable pub level_after : ℕ → List ℕ → ℕ
level_after k [] = k
level_after k (d ∷ l) = suc (max (level_after (suc k) l) (suc k + d))

pub after_deepest : (l : List ℕ) (d k i : ℕ) → level_after k (d ∷ l) + 2 * i ≡ suc (suc (k + deepest i (d ∷ l)))
unfolding level_after deepest
after_deepest [] d k i = omega arith
after_deepest (e ∷ l) d k i = omega (arith, after_deepest l e (suc k) (suc i))

module _ (U : Table) (c : ContentRules U) (b : BodyRules U) (n : NestRules U) (f : ForkRules U) where
  -- action x comes after one of level k in its thread, or is the root's first and k is 0
  pub record After (k x : ℕ) : Type 0 where
    pub within : x < U.actions
    pub goes : is join (kind U x) ≡ false → level U x ≡ suc k
    pub joins : kind U x ≡ join → level U x ≡ suc (max k (level U (end_of U (U.argument x))))

  -- fork, the brackets of the other parts, join
  unfoldable pub Brackets : ℕ → List ℕ → Type 0
  Brackets p [] = Unit {0}
  Brackets p (d ∷ l) =
      (kind U p ≡ fork) × (p < U.actions) × (level U (end_of U (U.argument p)) + 1 ≡ level U (U.first (U.argument p)) + d)
      × Brackets (suc p) l × (kind U (suc p + 2 * length l) ≡ join) × (U.argument (suc p + 2 * length l) ≡ U.argument p)

  after_next : (a : ℕ) → a < U.actions → is end (kind U a) ≡ false → suc a < U.actions → After (level U a) (suc a)
  after_next a h e w = record { within = w; goes = λ j. level_step U c b n f a h e j; joins = λ j. level_join U c b n f a h e j }

  pub bracket_levels : (l : List ℕ) (p k : ℕ) → Brackets p l → p + 2 * length l < U.actions → After k p → After (level_after k l) (p + 2 * length l)
  unfolding Brackets level_after is code_of
  bracket_levels [] p k q w z = let e : p + 2 * 0 ≡ p = omega arith in rw e z
  bracket_levels (d ∷ l) p k (fk, i, deep, inner, jn, same) w z =
      let own : level U p ≡ suc k = z.goes (rw fk) in
      let z' : After (suc k) (suc p) = rw own at (after_next p i (fork_no_end fk) (omega arith)) in
      let x : ℕ = suc p + 2 * length l in
      let y : After (level_after (suc k) l) x = bracket_levels l (suc p) (suc k) inner (omega arith) z' in
      let child : level U (U.first (U.argument p)) ≡ suc (level U p) = level_child U c b n f p i fk in
      let j : level U x ≡ suc (max (level_after (suc k) l) (level U (end_of U (U.argument p)))) = rw same at (y.joins jn) in
      let v : level U x ≡ level_after k (d ∷ l) = omega (arith, j, child, own, deep) in
      let e : p + 2 * suc (length l) ≡ suc x = omega arith in
      rw e (rw v at (after_next x y.within (rw jn) (omega arith)))
