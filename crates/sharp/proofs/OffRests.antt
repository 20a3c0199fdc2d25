-- Resting places under K: which there are, against those whatever K is, and against those where K covers every stretch; they grow fewer as K grows.
use mathlib.Core.Path.{◌≡◌, refl}
use Prim.Native.Nat.{ℕ, zero, suc, ◌+◌, ◌≤◌, ◌<◌}
use native.Mathlib.Omega.{arith}
use mathlib.Core.Bool.{Bool, true, false, ◌&&◌, ◌||◌}
use lib.Dec.{ltb}
use borrow.Author.Tests.{lt-ltb, le-ltb, ltb-true}
use Rattle.table.specs.Sum.{pick}
use Rattle.table.specs.Format.{code_of, is, Table, kind}
use Rattle.table.specs.declared.kinds.Kind.TheVariants.{End as end, Alloc as alloc, Fork as fork, Join as join}
use Rattle.table.specs.Checks.{end_of, alloc_of}
use Rattle.table.proofs.Tests.{and_both}
use Rattle.table.proofs.Bodies.{after_end, end_kind}
use Rattle.order.proofs.Lawful.{Lawful}
use Rattle.peaks.specs.Rests.{drawn_at, drawn_before, stretch, rests}
use Rattle.peaks.proofs.Unpreempted.{rests_join, rests_fork, rests_end, rests_first, stretch_covers}
use Rattle.sharp.specs.Off.{overdraws, rests_under, rests_any}
use Rattle.std.proofs.lemmas.Bool.{or_left, or_right}

-- a resting place is one under every K
pub under_rests : (T : Table) (K a : ℕ) → rests T a ≡ true → rests_under T K a ≡ true
unfolding rests_under
under_rests T K a e = or_left (rests T a) (overdraws T K a) e

pub under_join : (T : Table) (K a : ℕ) → kind T a ≡ join → rests_under T K a ≡ true
under_join T K a k = under_rests T K a (rests_join T a k)

pub under_fork : (T : Table) (K a : ℕ) → kind T a ≡ fork → rests_under T K (suc a) ≡ true
under_fork T K a k = under_rests T K (suc a) (rests_fork T a k)

pub under_end : (T : Table) (K a : ℕ) → kind T a ≡ end → rests_under T K (suc a) ≡ true
under_end T K a k = under_rests T K (suc a) (rests_end T a k)

pub under_first : (T : Table) (K : ℕ) → Lawful T → (t : ℕ) → t < T.threads → rests_under T K (T.first t) ≡ true
under_first T K l t h = under_rests T K (T.first t) (rests_first T l t h)

-- past its end
pub rests_over : (T : Table) → Lawful T → (t : ℕ) → t < T.threads → rests T (T.first t + T.count t) ≡ true
rests_over T l t h = rw (← after_end T l.contents t h) (rests_end T (end_of T t) (end_kind T l.contents l.bodies t h))

-- where the quota that is left does not cover what an action draws
pub under_drawn : (T : Table) (K a q : ℕ) → K ≤ q + drawn_before T K a → q < drawn_at T K a → rests_under T K a ≡ true
unfolding rests_under overdraws
under_drawn T K a q h i =
    or_right (rests T a) _ (rw (lt-ltb 0 (drawn_at T K a) (omega arith), lt-ltb K (drawn_before T K a + drawn_at T K a) (omega arith)))

-- whatever K is
none_drawn : (T : Table) (K a : ℕ) → is alloc (kind T a) ≡ false → drawn_at T K a ≡ 0
unfolding alloc_of
none_drawn T K a e = rw e (go (ltb K 0))
  where
    go : (q : Bool) → ◌≡◌ {A = ℕ} (pick q 0 0) 0
    go true = refl
    go false = refl

pub under_any : (T : Table) (K a : ℕ) → rests_under T K a ≡ true → rests_any T a ≡ true
unfolding rests_under overdraws rests_any
under_any T K a = go (rests T a) (is alloc (kind T a)) refl
  where
    go : (s q : Bool) → is alloc (kind T a) ≡ q → (s || (ltb 0 (drawn_at T K a) && ltb K (drawn_before T K a + drawn_at T K a))) ≡ true → (s || q) ≡ true
    go true q i e = refl
    go false true i e = refl
    go false false i e =
        let (x, y) = and_both (ltb 0 (drawn_at T K a)) _ e in
        absurd (omega (arith, ltb-true 0 (drawn_at T K a) x, none_drawn T K a i))

pub any_alloc : (T : Table) (a : ℕ) → kind T a ≡ alloc → rests_any T a ≡ true
unfolding rests_any is code_of
any_alloc T a k = or_right (rests T a) (is alloc (kind T a)) (rw k)

-- where K covers every stretch: the resting places alone
pub under_covered : (T : Table) (K a : ℕ) → stretch T K ≤ K → a < T.actions → rests_under T K a ≡ true → rests T a ≡ true
unfolding rests_under overdraws
under_covered T K a h i = go (rests T a)
  where
    go : (s : Bool) → (s || (ltb 0 (drawn_at T K a) && ltb K (drawn_before T K a + drawn_at T K a))) ≡ true → s ≡ true
    go true e = refl
    go false e =
        let (x, y) = and_both (ltb 0 (drawn_at T K a)) _ e in
        absurd (omega (arith, h, stretch_covers T K a i, ltb-true K (drawn_before T K a + drawn_at T K a) y))

-- ---- from the largest alloc on

module _ (T : Table) (K K' : ℕ) (more : K ≤ K') (allocs : (a : ℕ) → a < T.actions → alloc_of T a ≤ K) where
  drawn_all : (a : ℕ) → a < T.actions → drawn_at T K' a ≡ drawn_at T K a
  drawn_all a h = rw (le-ltb K (alloc_of T a) (allocs a h), le-ltb K' (alloc_of T a) (omega (arith, allocs a h)))

  before_all : (a : ℕ) → a < T.actions → drawn_before T K' a ≡ drawn_before T K a
  unfolding drawn_before
  before_all zero h = refl
  before_all (suc a) h = rw (before_all a (omega arith), drawn_all a (omega arith))

  -- those under the larger are among those under the smaller
  pub under_falls : (a : ℕ) → a < T.actions → rests_under T K' a ≡ true → rests_under T K a ≡ true
  unfolding rests_under overdraws
  under_falls a h = rw (before_all a h, drawn_all a h) (go (rests T a))
    where
      go : (s : Bool) → (s || (ltb 0 (drawn_at T K a) && ltb K' (drawn_before T K a + drawn_at T K a))) ≡ true → (s || (ltb 0 (drawn_at T K a) && ltb K (drawn_before T K a + drawn_at T K a))) ≡ true
      go true e = refl
      go false e =
          let (x, y) = and_both (ltb 0 (drawn_at T K a)) _ e in
          rw (x, lt-ltb K (drawn_before T K a + drawn_at T K a) (omega (arith, ltb-true K' (drawn_before T K a + drawn_at T K a) y)))
