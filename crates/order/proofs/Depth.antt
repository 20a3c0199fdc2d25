-- Levels rise along a thread and over what an action depends on, and no action's level is above the depth D.
use mathlib.Core.Path.{◌≡◌, refl, sym}
use Prim.Native.Nat.{ℕ, zero, suc, ◌+◌, ◌-◌, ◌≤◌, ◌<◌, max}
use native.Mathlib.Omega.{arith}
use mathlib.Core.List.Memᴰ
use mathlib.Core.List.{List, [], ◌∷◌, Memᴰ}
use mathlib.Core.Bool.{Bool, true, false}
use mathlib.Core.Logic.{◌⊎◌, inl, inr}
use Rattle.table.specs.Sum.{greatest}
use Rattle.table.specs.Format.{is, Table, kind}
use Rattle.table.specs.declared.kinds.Kind.TheVariants.{End as end, Join as join}
use Rattle.table.specs.Checks.{owner, end_of}
use Rattle.table.specs.Rules.{ContentRules, BodyRules, NestRules, ForkRules}
use Rattle.table.specs.Level.{depends_on, level, D}
use Rattle.table.proofs.Tests.{is_true}
use Rattle.table.proofs.Bodies.{after_end, owner_below_lem, owner_end, owner_of_end, end_within, next_owner}
use Rattle.table.proofs.Rank.{no_end}
use Rattle.table.proofs.Levels.{level_is, level_step, level_join}
use Rattle.order.proofs.Joins.{join_depends, by_joins}

-- an element's value is at most the greatest
pub greatest_member {ℓ} : {A : Type ℓ} (f : A → ℕ) (x : A) (l : List A) → Memᴰ x l → f x ≤ greatest f l
unfolding greatest
greatest_member f x [] m = absurd (Memᴰ.not-nil m)
greatest_member f x (y ∷ l) m = go (greatest_member f x l) (Memᴰ.cases_cons m)
  where
    go : (Memᴰ x l → f x ≤ greatest f l) → (x ≡ y) ⊎ Memᴰ x l → f x ≤ max (f y) (greatest f l)
    go ih (inl e) = rw e (omega arith)
    go ih (inr i) = omega (arith, ih i)

module _ (T : Table) (c : ContentRules T) (b : BodyRules T) (n : NestRules T) (f : ForkRules T) where
  -- whatever an action depends on has a lower level
  pub level_depends : (a d : ℕ) → a < T.actions → Memᴰ d (depends_on T a) → level T d < level T a
  level_depends a d h m = omega (arith, level_is T c b n f a h, greatest_member (level T) d (depends_on T a) m)

  level_next : (a : ℕ) → a < T.actions → is end (kind T a) ≡ false → level T a < level T (suc a)
  level_next a h e = go (is join (kind T (suc a))) refl
    where
      go : (t : Bool) → is join (kind T (suc a)) ≡ t → level T a < level T (suc a)
      go true j = omega (arith, level_join T c b n f a h e (is_true join (kind T (suc a)) j))
      go false j = omega (arith, level_step T c b n f a h e j)

  -- levels rise along a thread
  pub level_along : (k a d : ℕ) → a + k ≡ d → d < T.actions → owner T a ≡ owner T d → level T a + k ≤ level T d
  level_along zero a d h j o =
      let e : a ≡ d = omega arith in
      rw e (omega arith)
  level_along (suc k) a d h j o =
      let e : is end (kind T a) ≡ false = no_end T c b a d (omega arith) j o in
      let p : owner T (suc a) ≡ owner T d = cc (next_owner T c b a (omega arith) e) in
      omega (arith, level_along k (suc a) d (omega arith) j p, level_next a (omega arith) e)

  level_end : (a : ℕ) → a < T.actions → level T a ≤ level T (end_of T (owner T a))
  level_end a h =
      let t : ℕ = owner T a in
      let l : t < T.threads = owner_below_lem T c a h in
      let e : a + (end_of T t - a) ≡ end_of T t = omega (arith, after_end T c t l, owner_end T c a h) in
      omega (arith, level_along (end_of T t - a) a (end_of T t) e (end_within T c t l) (sym (owner_of_end T c t l)))

  -- no level is above the root's end's
  pub level_depth : (a : ℕ) → a < T.actions → level T a ≤ D T
  unfolding D
  level_depth a h =
      let all : (t : ℕ) → t < T.threads → level T (end_of T t) ≤ level T (end_of T 0) =
      by_joins T c b n f (λ t. level T (end_of T t) ≤ level T (end_of T 0)) (omega arith)
      (λ j l k p. omega (arith, p, level_depends j (end_of T (T.argument j)) l (join_depends T j k), level_end j l)) in
      omega (arith, level_end a h, all (owner T a) (owner_below_lem T c a h))
