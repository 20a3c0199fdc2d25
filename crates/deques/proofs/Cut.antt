-- The deques are read off the lines and the bottoms: cut after each bottom, the lines come back one by one, and each is that of its deque.
use mathlib.Core.Path.{◌≡◌, refl, sym, ap, ap₂, ◌∙◌}
use Prim.Native.Nat.{ℕ, ◌<◌}
use mathlib.Core.List.{List, [], ◌∷◌, ◌++◌, map}
use mathlib.Core.Bool.{Bool, true, false}
use mathlib.Core.Logic.{inl, inr}
use native.Mathlib.Omega.{arith}
use borrow.Author.Tests.{lt-ltb, le-ltb}
use Rattle.table.proofs.Tests.{no_way}
use Rattle.schedule.specs.Machine.{held}
use Rattle.deques.specs.Deques.{Deque, deque}
use Rattle.deques.specs.Lines.{prepend, cut_after, deque_of, line, lines_of}
use Rattle.deques.specs.Partition.{InUse, AllInUse}

-- the last alone passes
abbrev pub LastPasses : (ℕ → Bool) → List ℕ → Type 0
LastPasses f [] = ⊥
LastPasses f (t ∷ []) = f t ≡ true
LastPasses f (t ∷ u ∷ l) = (f t ≡ false) × LastPasses f (u ∷ l)

cut_line : (f : ℕ → Bool) (k l : List ℕ) → LastPasses f k → cut_after f (k ++ l) ≡ k ∷ cut_after f l
unfolding cut_after
cut_line f [] l p = absurd p
cut_line f (t ∷ []) l p = rw p
cut_line f (t ∷ u ∷ k) l p = rw p.0 (ap (prepend t) (cut_line f (u ∷ k) l p.1))

-- of a deque: its last thread alone is a bottom, and its owner is found again
pub record Seen (f is_held : ℕ → Bool) (holder held : ℕ → ℕ) (d : Deque) : Type 0 where
  pub last : LastPasses f (line held d)
  pub owner : d.owner < 16 → (is_held (held d.owner) ≡ true) × (holder (held d.owner) ≡ d.owner)
  pub top : (t : ℕ) (l : List ℕ) → d.threads ≡ t ∷ l → is_held t ≡ false

unfoldable pub AllSeen : (f is_held : ℕ → Bool) (holder held : ℕ → ℕ) → List Deque → Type 0
AllSeen f is_held holder held [] = Unit {0}
AllSeen f is_held holder held (d ∷ ds) = Seen f is_held holder held d × AllSeen f is_held holder held ds

module _ (f is_held : ℕ → Bool) (holder held : ℕ → ℕ) where
  line_back : (d : Deque) → InUse d → Seen f is_held holder held d → deque_of is_held holder (line held d) ≡ d
  line_back d (inl h) s = rw (lt-ltb d.owner 16 h, (s.owner h).0) (ap (λ (o : ℕ). deque o d.threads) (s.owner h).1)
  line_back d (inr (e, n)) s = rw (le-ltb d.owner 16 (omega (arith, e))) (go d.threads refl)
    where
      go : (k : List ℕ) → d.threads ≡ k → deque_of is_held holder k ≡ deque d.owner d.threads
      go [] i = no_way (cc)
      go (t ∷ k) i = rw (s.top t k i) (ap₂ deque (sym e) (sym i))

  pub deques_back : (ds : List Deque) → AllInUse ds → AllSeen f is_held holder held ds → map (deque_of is_held holder) (cut_after f (lines_of held ds)) ≡ ds
  unfolding lines_of AllInUse AllSeen cut_after
  deques_back [] m s = refl
  deques_back (d ∷ ds) m s =
      ap (map (deque_of is_held holder)) (cut_line f (line held d) (lines_of held ds) s.0.last) ∙ ap₂ ◌∷◌ (line_back d m.0 s.0) (deques_back ds m.1 s.1)
