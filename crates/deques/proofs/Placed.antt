-- What each move of the deques does to how often a thread stands in them, to who owns how many, and to the lines.
use mathlib.Core.Path.{◌≡◌, refl, sym, ap, ap₂, ◌∙◌}
use Prim.Native.Nat.{ℕ, zero, suc, ◌+◌, ◌≤◌, ◌<◌}
use mathlib.Core.List.{List, [], ◌∷◌, ◌++◌, append_assoc}
use mathlib.Core.Bool.{Bool, true, false, ◌&&◌}
use mathlib.Core.Logic.{inl, inr}
use native.Mathlib.Omega.{arith}
use lib.ListN.{get_or}
use lib.Dec.{ltb, eqb}
use borrow.Author.Tests.{eqb-true, eqb-false, ne_eqb, lt-ltb}
use Rattle.table.specs.Sum.{pick}
use Rattle.table.proofs.Tests.{no_way}
use Rattle.schedule.specs.Memory.{count_in}
use Rattle.order.proofs.Words.{and_exactly}
use Rattle.deques.specs.Deques.{Deque, deque, nothing, is_empty, bottom, above, kept, place_of, own, robbed}
use Rattle.deques.specs.Lines.{line, lines_of}
use Rattle.deques.specs.Partition.{occurs, owns, owned_by, InUse, AllInUse}
pub use Rattle.table.proofs.Nesting.{is_empty_true as empty_is}

-- ---- a deque that is kept or leaves

module _ (d : Deque) (ds : List Deque) where
  kept_occurs : (t : ℕ) → occurs t (kept d ds) ≡ count_in t d.threads + occurs t ds
  unfolding occurs count_in
  kept_occurs t = go (eqb d.owner 16 && is_empty d.threads) refl
    where
      go : (q : Bool) → (eqb d.owner 16 && is_empty d.threads) ≡ q → occurs t (pick q ds (d ∷ ds)) ≡ count_in t d.threads + occurs t ds
      go true e = rw (empty_is d.threads ((and_exactly (eqb d.owner 16) (is_empty d.threads)).0 e).1) (omega arith)
      go false e = refl

  kept_owned : (w : ℕ) → w < 16 → owned_by w (kept d ds) ≡ owns w d + owned_by w ds
  unfolding owned_by
  kept_owned w h = go (eqb d.owner 16 && is_empty d.threads) refl
    where
      go : (q : Bool) → (eqb d.owner 16 && is_empty d.threads) ≡ q → owned_by w (pick q ds (d ∷ ds)) ≡ owns w d + owned_by w ds
      go true e =
          let o : d.owner ≡ 16 = eqb-true d.owner 16 ((and_exactly (eqb d.owner 16) (is_empty d.threads)).0 e).0 in
          rw (ne_eqb d.owner w (λ z. omega arith)) (omega arith)
      go false e = refl

  kept_in_use : d.owner ≤ 16 → AllInUse ds → AllInUse (kept d ds)
  unfolding AllInUse
  kept_in_use h m = go (eqb d.owner 16) (is_empty d.threads) refl refl
    where
      go : (p q : Bool) → eqb d.owner 16 ≡ p → is_empty d.threads ≡ q → AllInUse (pick (p && q) ds (d ∷ ds))
      go true true e f = m
      go true false e f = (inr (eqb-true d.owner 16 e, f), m)
      go false q e f = (inl (omega (arith, eqb-false d.owner 16 e)), m)

-- ---- the worker's own deque

module _ (w : ℕ) (f : Deque → Deque) where
  abbrev mine : List Deque → Deque
  mine ds = get_or ds (place_of w ds) nothing

  -- the worker has one
  pub own_occurs : (t : ℕ) (ds : List Deque) → (owned_by w ds ≡ 0 → ⊥) → occurs t (own w f ds) + count_in t (mine ds).threads ≡ count_in t (f (mine ds)).threads + occurs t ds
  unfolding own place_of occurs owned_by
  own_occurs t [] n = absurd (n refl)
  own_occurs t (d ∷ ds) n = go (eqb d.owner w) refl (own_occurs t ds)
    where
      go : (q : Bool) → eqb d.owner w ≡ q → ((owned_by w ds ≡ 0 → ⊥) → occurs t (own w f ds) + count_in t (mine ds).threads ≡ count_in t (f (mine ds)).threads + occurs t ds)
          → occurs t (pick q (kept (f d) ds) (d ∷ own w f ds)) + count_in t (get_or (d ∷ ds) (pick q 0 (suc (place_of w ds))) nothing).threads
          ≡ count_in t (f (get_or (d ∷ ds) (pick q 0 (suc (place_of w ds))) nothing)).threads + (count_in t d.threads + occurs t ds)
      go true e ih = omega (arith, kept_occurs (f d) ds t)
      go false e ih = omega (arith, ih (λ z. n (rw (e, z))))

  pub own_owned : (v : ℕ) → v < 16 → (ds : List Deque) → (owned_by w ds ≡ 0 → ⊥) → owned_by v (own w f ds) + owns v (mine ds) ≡ owns v (f (mine ds)) + owned_by v ds
  unfolding own place_of owned_by
  own_owned v h [] n = absurd (n refl)
  own_owned v h (d ∷ ds) n = go (eqb d.owner w) refl (own_owned v h ds)
    where
      go : (q : Bool) → eqb d.owner w ≡ q → ((owned_by w ds ≡ 0 → ⊥) → owned_by v (own w f ds) + owns v (mine ds) ≡ owns v (f (mine ds)) + owned_by v ds)
          → owned_by v (pick q (kept (f d) ds) (d ∷ own w f ds)) + owns v (get_or (d ∷ ds) (pick q 0 (suc (place_of w ds))) nothing)
          ≡ owns v (f (get_or (d ∷ ds) (pick q 0 (suc (place_of w ds))) nothing)) + (owns v d + owned_by v ds)
      go true e ih = omega (arith, kept_owned (f d) ds v h)
      go false e ih = omega (arith, ih (λ z. n (rw (e, z))))

  pub own_in_use : ((d : Deque) → d.owner ≤ 16 → (f d).owner ≤ 16) → (ds : List Deque) → AllInUse ds → AllInUse (own w f ds)
  unfolding own AllInUse
  own_in_use g [] m = tt
  own_in_use g (d ∷ ds) m = go (eqb d.owner w) (own_in_use g ds m.1)
    where
      few : InUse d → d.owner ≤ 16
      few (inl a) = omega arith
      few (inr a) = omega (arith, a.0)

      go : (q : Bool) → AllInUse (own w f ds) → AllInUse (pick q (kept (f d) ds) (d ∷ own w f ds))
      go true ih = kept_in_use (f d) ds (g d (few m.0)) m.1
      go false ih = (m.0, ih)

-- ---- a steal

pub bottom_counts : (t : ℕ) (l : List ℕ) → is_empty l ≡ false → count_in t l ≡ count_in t (above l) + pick (eqb (bottom l) t) 1 0
unfolding bottom above count_in
bottom_counts t [] e = no_way cc
bottom_counts t (x ∷ []) e = omega arith
bottom_counts t (x ∷ y ∷ l) e = omega (arith, bottom_counts t (y ∷ l) refl)

pub above_bottom : (l : List ℕ) → is_empty l ≡ false → above l ++ bottom l ∷ [] ≡ l
unfolding bottom above
above_bottom [] e = no_way cc
above_bottom (x ∷ []) e = refl
above_bottom (x ∷ y ∷ l) e = ap (x ∷◌) (above_bottom (y ∷ l) refl)

module _ (w : ℕ) where
  abbrev at : ℕ → List Deque → Deque
  at c ds = get_or ds c nothing

  pub robbed_occurs : (t c : ℕ) (ds : List Deque) → is_empty (at c ds).threads ≡ false → occurs t (robbed w c ds) + pick (eqb (bottom (at c ds).threads) t) 1 0 ≡ occurs t ds
  unfolding robbed occurs count_in
  robbed_occurs t c [] e = no_way cc
  robbed_occurs t zero (d ∷ ds) e =
      omega (arith, kept_occurs (deque d.owner (above d.threads)) (deque w [] ∷ ds) t, bottom_counts t d.threads e)
  robbed_occurs t (suc c) (d ∷ ds) e = omega (arith, robbed_occurs t c ds e)

  pub robbed_owned : (v : ℕ) → v < 16 → (c : ℕ) (ds : List Deque) → is_empty (at c ds).threads ≡ false → owned_by v (robbed w c ds) ≡ pick (eqb w v) 1 0 + owned_by v ds
  unfolding robbed owned_by
  robbed_owned v h c [] e = no_way cc
  robbed_owned v h zero (d ∷ ds) e = omega (arith, kept_owned (deque d.owner (above d.threads)) (deque w [] ∷ ds) v h)
  robbed_owned v h (suc c) (d ∷ ds) e = omega (arith, robbed_owned v h c ds e)

  pub robbed_in_use : w < 16 → (c : ℕ) (ds : List Deque) → AllInUse ds → AllInUse (robbed w c ds)
  unfolding robbed AllInUse
  robbed_in_use h c [] m = tt
  robbed_in_use h zero (d ∷ ds) m = kept_in_use (deque d.owner (above d.threads)) (deque w [] ∷ ds) (few m.0) (inl h, m.1)
    where
      few : InUse d → d.owner ≤ 16
      few (inl a) = omega arith
      few (inr a) = omega (arith, a.0)
  robbed_in_use h (suc c) (d ∷ ds) m = (m.0, robbed_in_use h c ds m.1)

-- a steal leaves the lines as they are
module _ (w : ℕ) (few : w < 16) (held held' : ℕ → ℕ) (same : (v : ℕ) → (v ≡ w → ⊥) → held' v ≡ held v) where
  pub line_same : (d : Deque) → eqb d.owner w ≡ false → line held' d ≡ line held d
  line_same d e = rw (same d.owner (eqb-false d.owner w e))

  pub lines_same : (ds : List Deque) → owned_by w ds ≡ 0 → lines_of held' ds ≡ lines_of held ds
  unfolding lines_of owned_by
  lines_same [] n = refl
  lines_same (d ∷ ds) n = go (eqb d.owner w) refl (lines_same ds)
    where
      go : (q : Bool) → eqb d.owner w ≡ q → (owned_by w ds ≡ 0 → lines_of held' ds ≡ lines_of held ds) → line held' d ++ lines_of held' ds ≡ line held d ++ lines_of held ds
      go true e ih = absurd (let z : 1 + owned_by w ds ≡ 0 = rw e at n in omega (arith, z))
      go false e ih = ap₂ ◌++◌ (line_same d e) (ih (let z : 0 + owned_by w ds ≡ 0 = rw e at n in omega (arith, z)))

  pub robbed_lines : (c : ℕ) (ds : List Deque) → owned_by w ds ≡ 0 → AllInUse ds → is_empty (get_or ds c nothing).threads ≡ false → held' w ≡ bottom (get_or ds c nothing).threads
      → lines_of held' (robbed w c ds) ≡ lines_of held ds
  unfolding robbed lines_of owned_by AllInUse
  robbed_lines c [] n m e g = no_way cc
  robbed_lines zero (d ∷ ds) n m e g = go (eqb d.owner w) refl
    where
      x : Deque
      x = deque d.owner (above d.threads)

      tail : eqb d.owner w ≡ false → lines_of held' (deque w [] ∷ ds) ≡ bottom d.threads ∷ lines_of held ds
      tail o = rw (lt-ltb w 16 few) (ap₂ ◌∷◌ g (lines_same ds (let z : 0 + owned_by w ds ≡ 0 = rw o at n in omega (arith, z))))

      joins : (l r : List ℕ) → is_empty l ≡ false → above l ++ bottom l ∷ r ≡ l ++ r
      joins l r h = sym (append_assoc (above l) (bottom l ∷ []) r) ∙ ap (◌++ r) (above_bottom l h)

      cut : (q : Bool) → pick q (held d.owner ∷ above d.threads) (above d.threads) ++ bottom d.threads ∷ lines_of held ds
          ≡ pick q (held d.owner ∷ d.threads) d.threads ++ lines_of held ds
      cut true = ap (held d.owner ∷◌) (joins d.threads (lines_of held ds) e)
      cut false = joins d.threads (lines_of held ds) e

      kept_line : eqb d.owner w ≡ false → line held' x ++ lines_of held' (deque w [] ∷ ds) ≡ line held d ++ lines_of held ds
      kept_line o = rw (tail o, same d.owner (eqb-false d.owner w o)) (cut (ltb d.owner 16))

      keep : (p q : Bool) → eqb d.owner w ≡ false → eqb d.owner 16 ≡ p → is_empty (above d.threads) ≡ q
          → lines_of held' (pick (p && q) (deque w [] ∷ ds) (x ∷ deque w [] ∷ ds)) ≡ line held d ++ lines_of held ds
      keep true true o i j =
          tail o
          ∙ rw (eqb-true d.owner 16 i) (ap (λ (k : List ℕ). k ++ bottom d.threads ∷ lines_of held ds) (sym (empty_is (above d.threads) j)) ∙ joins d.threads (lines_of held ds) e)
      keep true false o i j = kept_line o
      keep false q o i j = kept_line o

      go : (q : Bool) → eqb d.owner w ≡ q → lines_of held' (kept x (deque w [] ∷ ds)) ≡ line held d ++ lines_of held ds
      go true o = absurd (let z : 1 + owned_by w ds ≡ 0 = rw o at n in omega (arith, z))
      go false o = keep (eqb d.owner 16) (is_empty (above d.threads)) o refl refl
  robbed_lines (suc c) (d ∷ ds) n m e g = go (eqb d.owner w) refl (robbed_lines c ds)
    where
      go : (q : Bool) → eqb d.owner w ≡ q
          → (owned_by w ds ≡ 0 → AllInUse ds → is_empty (get_or ds c nothing).threads ≡ false → held' w ≡ bottom (get_or ds c nothing).threads → lines_of held' (robbed w c ds) ≡ lines_of held ds)
          → line held' d ++ lines_of held' (robbed w c ds) ≡ line held d ++ lines_of held ds
      go true o ih = absurd (let z : 1 + owned_by w ds ≡ 0 = rw o at n in omega (arith, z))
      go false o ih = ap₂ ◌++◌ (line_same d o) (ih (let z : 0 + owned_by w ds ≡ 0 = rw o at n in omega (arith, z)) m.1 e g)
