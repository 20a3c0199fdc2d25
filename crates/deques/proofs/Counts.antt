-- How often a thread stands in a list, in the deques, in the lines and among the bottoms.
use mathlib.Core.Path.{◌≡◌, refl, sym}
use Prim.Native.Nat.{ℕ, ◌+◌, ◌≤◌, ◌<◌}
use mathlib.Core.List.Memᴰ
use mathlib.Core.List.{List, [], ◌∷◌, ◌++◌, Memᴰ}
use mathlib.Core.Bool.{Bool, true, false, ◌&&◌}
use mathlib.Core.Logic.{◌⊎◌, inl, inr}
use native.Mathlib.Omega.{arith}
use native.Mathlib.Decide.{ℕ_discrete}
use lib.Dec.{ltb, eqb}
use borrow.Author.Tests.{eqb-true, eq-eqb, lt-ltb, le-ltb, ltb-true}
use Rattle.table.specs.Sum.{pick}
use Rattle.schedule.specs.Memory.{count_in}
use Rattle.schedule.proofs.Linked.Once.{Once}
use Rattle.deques.specs.Deques.{Deque, is_empty}
use Rattle.deques.specs.Lines.{line, lines_of, bottoms_of}
use Rattle.deques.specs.Partition.{occurs, owns, owned_by, InUse, AllInUse}
use Rattle.deques.proofs.Placed.{bottom_counts}
pub use Rattle.schedule.proofs.Occurrences.{count_in_append as count_append, count_in_own as count_self}

-- ---- in a list

pub counted_in : (v : ℕ) (l : List ℕ) → Memᴰ v l → 1 ≤ count_in v l
unfolding count_in
counted_in v [] m = absurd (Memᴰ.not-nil m)
counted_in v (x ∷ l) m = go (Memᴰ.cases_cons m) (counted_in v l)
  where
    go : (v ≡ x) ⊎ Memᴰ v l → (Memᴰ v l → 1 ≤ count_in v l) → 1 ≤ pick (eqb x v) 1 0 + count_in v l
    go (inl e) ih = rw (eq-eqb x v (sym e)) (omega arith)
    go (inr i) ih = omega (arith, ih i)

pub in_counted : (v : ℕ) (l : List ℕ) → 1 ≤ count_in v l → Memᴰ v l
unfolding count_in
in_counted v [] h = absurd (omega arith)
in_counted v (x ∷ l) h = go (eqb x v) refl (in_counted v l) h
  where
    go : (q : Bool) → eqb x v ≡ q → (1 ≤ count_in v l → Memᴰ v l) → 1 ≤ pick q 1 0 + count_in v l → Memᴰ v (x ∷ l)
    go true e ih i = Memᴰ.head (sym (eqb-true x v e))
    go false e ih i = Memᴰ.tail (ih (omega arith))

pub counts_once : (l : List ℕ) → ((t : ℕ) → count_in t l ≤ 1) → Once l
unfolding Once count_in
counts_once [] h = tt
counts_once (x ∷ l) h = (
  (λ m. let z : 1 + count_in x l ≤ 1 = rw (eq-eqb x x refl) at (h x) in omega (arith, z, counted_in x l m)),
  counts_once l (λ t. omega (arith, h t)),
)

pub once_counts : (l : List ℕ) → Once l → (t : ℕ) → count_in t l ≤ 1
unfolding Once count_in
once_counts [] o t = omega arith
once_counts (x ∷ l) o t = go (eqb x t) refl (once_counts l o.1 t)
  where
    go : (q : Bool) → eqb x t ≡ q → count_in t l ≤ 1 → pick q 1 0 + count_in t l ≤ 1
    go true e ih = at (ℕ_discrete (count_in t l) 0)
      where
        at : Dec (count_in t l ≡ 0) → 1 + count_in t l ≤ 1
        at (yes z) = omega arith
        at (no z) = absurd (o.0 (rw (eqb-true x t e) (in_counted t l (omega arith))))
    go false e ih = omega arith

-- ---- in the deques

pub occurs_append : (v : ℕ) (A B : List Deque) → occurs v (A ++ B) ≡ occurs v A + occurs v B
unfolding occurs
occurs_append v [] B = omega arith
occurs_append v (d ∷ A) B = omega (arith, occurs_append v A B)

pub owned_append : (v : ℕ) (A B : List Deque) → owned_by v (A ++ B) ≡ owned_by v A + owned_by v B
unfolding owned_by
owned_append v [] B = omega arith
owned_append v (d ∷ A) B = omega (arith, owned_append v A B)

pub in_use_front : (front rest : List Deque) → AllInUse (front ++ rest) → AllInUse front
unfolding AllInUse
in_use_front [] rest m = tt
in_use_front (d ∷ front) rest m = (m.0, in_use_front front rest m.1)

pub in_use_rest : (front rest : List Deque) → AllInUse (front ++ rest) → AllInUse rest
unfolding AllInUse
in_use_rest [] rest m = m
in_use_rest (d ∷ front) rest m = in_use_rest front rest m.1

-- ---- in the lines

module _ (hold : ℕ → ℕ) (v : ℕ) where
  abbrev pub Stands : List Deque → Type 0
  Stands ds = (1 ≤ occurs v ds) ⊎ ((o : ℕ) × (o < 16) × (1 ≤ owned_by o ds) × (hold o ≡ v))

  pub stands : (ds : List Deque) → Memᴰ v (lines_of hold ds) → Stands ds
  unfolding lines_of occurs owned_by
  stands [] m = absurd (Memᴰ.not-nil m)
  stands (d ∷ ds) m = go (Memᴰ.append_cases (line hold d) m) (stands ds)
    where
      later : Stands ds → Stands (d ∷ ds)
      later (inl i) = inl (omega (arith, i))
      later (inr (o, i, j, e)) = inr (o, i, omega (arith, j), e)

      here : (q : Bool) → ltb d.owner 16 ≡ q → Memᴰ v (pick q (hold d.owner ∷ d.threads) d.threads) → Stands (d ∷ ds)
      here true i n = at (Memᴰ.cases_cons n)
        where
          at : (v ≡ hold d.owner) ⊎ Memᴰ v d.threads → Stands (d ∷ ds)
          at (inl e) = inr (d.owner, ltb-true d.owner 16 i, rw (eq-eqb d.owner d.owner refl) (omega arith), sym e)
          at (inr n) = inl (omega (arith, counted_in v d.threads n))
      here false i n = inl (omega (arith, counted_in v d.threads n))

      go : Memᴰ v (line hold d) ⊎ Memᴰ v (lines_of hold ds) → (Memᴰ v (lines_of hold ds) → Stands ds) → Stands (d ∷ ds)
      go (inl n) ih = here (ltb d.owner 16) refl n
      go (inr n) ih = later (ih n)

-- how often thread t is held by the owner of one of the deques
unfoldable pub held_among : (ℕ → ℕ) → ℕ → List Deque → ℕ
held_among hold t [] = 0
held_among hold t (d ∷ ds) = pick (ltb d.owner 16 && eqb (hold d.owner) t) 1 0 + held_among hold t ds

module _ (hold : ℕ → ℕ) (t : ℕ) where
  line_count : (d : Deque) → count_in t (line hold d) ≡ pick (ltb d.owner 16 && eqb (hold d.owner) t) 1 0 + count_in t d.threads
  unfolding count_in
  line_count d = go (ltb d.owner 16)
    where
      go : (q : Bool) → count_in t (pick q (hold d.owner ∷ d.threads) d.threads) ≡ pick (q && eqb (hold d.owner) t) 1 0 + count_in t d.threads
      go true = refl
      go false = omega arith

  pub lines_count : (ds : List Deque) → count_in t (lines_of hold ds) ≡ held_among hold t ds + occurs t ds
  unfolding lines_of held_among occurs count_in
  lines_count [] = refl
  lines_count (d ∷ ds) = omega (arith, count_append t (line hold d) (lines_of hold ds), line_count d, lines_count ds)

  -- a holder of t that owns a deque
  abbrev pub Holder : List Deque → Type 0
  Holder ds = (v : ℕ) × (v < 16) × (hold v ≡ t) × (1 ≤ owned_by v ds)

  pub held_some : (ds : List Deque) → (held_among hold t ds ≡ 0) ⊎ Holder ds
  unfolding held_among owned_by
  held_some [] = inl refl
  held_some (d ∷ ds) = go (ltb d.owner 16) (eqb (hold d.owner) t) refl refl (held_some ds)
    where
      later : (b : ℕ) → b ≡ 0 → (held_among hold t ds ≡ 0) ⊎ Holder ds → (b + held_among hold t ds ≡ 0) ⊎ Holder (d ∷ ds)
      later b z (inl e) = inl (omega arith)
      later b z (inr (v, i, e, n)) = inr (v, i, e, omega (arith, n))

      go : (q r : Bool) → ltb d.owner 16 ≡ q → eqb (hold d.owner) t ≡ r → (held_among hold t ds ≡ 0) ⊎ Holder ds
          → (pick (q && r) 1 0 + held_among hold t ds ≡ 0) ⊎ Holder (d ∷ ds)
      go true true i j ih = inr (d.owner, ltb-true d.owner 16 i, eqb-true (hold d.owner) t j, rw (eq-eqb d.owner d.owner refl) (omega arith))
      go true false i j ih = later 0 refl ih
      go false r i j ih = later 0 refl ih

  pub held_few : (w : ℕ) (ds : List Deque) → ((v : ℕ) → v < 16 → hold v ≡ t → 1 ≤ owned_by v ds → v ≡ w) → held_among hold t ds ≤ owned_by w ds
  unfolding held_among owned_by
  held_few w [] h = omega arith
  held_few w (d ∷ ds) h = go (ltb d.owner 16) (eqb (hold d.owner) t) refl refl (held_few w ds (λ v i e n. h v i e (omega (arith, n))))
    where
      go : (q r : Bool) → ltb d.owner 16 ≡ q → eqb (hold d.owner) t ≡ r → held_among hold t ds ≤ owned_by w ds → pick (q && r) 1 0 + held_among hold t ds ≤ owns w d + owned_by w ds
      go true true i j ih =
          let e : d.owner ≡ w = h d.owner (ltb-true d.owner 16 i) (eqb-true (hold d.owner) t j) (rw (eq-eqb d.owner d.owner refl) (omega arith)) in
          rw (eq-eqb d.owner w e) (omega arith)
      go true false i j ih = omega arith
      go false r i j ih = omega arith

-- ---- among the bottoms

pub line_some : (hold : ℕ → ℕ) (d : Deque) → InUse d → is_empty (line hold d) ≡ false
line_some hold d (inl h) = rw (lt-ltb d.owner 16 h)
line_some hold d (inr (e, n)) = rw (le-ltb d.owner 16 (omega (arith, e))) n

pub bottoms_count : (hold : ℕ → ℕ) (t : ℕ) (ds : List Deque) → AllInUse ds → count_in t (bottoms_of hold ds) ≤ count_in t (lines_of hold ds)
unfolding bottoms_of lines_of AllInUse count_in
bottoms_count hold t [] m = omega arith
bottoms_count hold t (d ∷ ds) m =
    omega (arith, bottoms_count hold t ds m.1, count_append t (line hold d) (lines_of hold ds), bottom_counts t (line hold d) (line_some hold d m.0))
