-- What the moves of the deques do to the bottoms.
use mathlib.Core.Path.{◌≡◌, refl, sym, ap, ap₂, ◌∙◌}
use Prim.Native.Nat.{ℕ, ◌+◌, ◌≤◌, ◌<◌}
use mathlib.Core.List.{List, [], ◌∷◌, ◌++◌, append_assoc, Memᴰ}
use mathlib.Core.Bool.{Bool, true, false, ◌&&◌}
use native.Mathlib.Omega.{arith}
use lib.Dec.{ltb, eqb}
use borrow.Author.Tests.{eqb-false, ne_eqb, lt-ltb}
use Rattle.table.specs.Sum.{pick}
use Rattle.table.proofs.Tests.{no_way}
use Rattle.schedule.specs.Machine.{left_of, without}
use Rattle.deques.specs.Deques.{Deque, deque, is_empty, bottom, above, kept, own, push, disown}
use Rattle.deques.specs.Lines.{bottoms_of, line}
use Rattle.deques.specs.Partition.{owned_by}
use Rattle.deques.proofs.Flat.{own_at, left_of_at, without_at}

bottoms_append : (held : ℕ → ℕ) (front ds : List Deque) → bottoms_of held (front ++ ds) ≡ bottoms_of held front ++ bottoms_of held ds
unfolding bottoms_of
bottoms_append held [] ds = refl
bottoms_append held (d ∷ front) ds = ap (bottom (line held d) ∷◌) (bottoms_append held front ds)

pub bottom_top : (t u : ℕ) (l : List ℕ) → bottom (t ∷ u ∷ l) ≡ bottom (u ∷ l)
unfolding bottom
bottom_top t u l = refl

-- a line's bottom is its deque's
pub line_bottom : (q : Bool) (h : ℕ) (k : List ℕ) → is_empty k ≡ false → bottom (pick q (h ∷ k) k) ≡ bottom k
line_bottom true h [] e = no_way cc
line_bottom true h (x ∷ k) e = bottom_top h x k
line_bottom false h k e = refl

module _ (w : ℕ) (few : w < 16) (held held' : ℕ → ℕ) (same : (v : ℕ) → (v ≡ w → ⊥) → held' v ≡ held v) where
  pub bottoms_same : (ds : List Deque) → owned_by w ds ≡ 0 → bottoms_of held' ds ≡ bottoms_of held ds
  unfolding bottoms_of owned_by
  bottoms_same [] n = refl
  bottoms_same (d ∷ ds) n = go (eqb d.owner w) refl (bottoms_same ds)
    where
      go : (q : Bool) → eqb d.owner w ≡ q → (owned_by w ds ≡ 0 → bottoms_of held' ds ≡ bottoms_of held ds)
          → bottom (line held' d) ∷ bottoms_of held' ds ≡ bottom (line held d) ∷ bottoms_of held ds
      go true e ih = absurd (let z : 1 + owned_by w ds ≡ 0 = rw e at n in omega (arith, z))
      go false e ih = rw (same d.owner (eqb-false d.owner w e)) (ap (◌∷◌ (bottom (line held d))) (ih (let z : 0 + owned_by w ds ≡ 0 = rw e at n in omega (arith, z))))

  module _ (front rest : List Deque) (k : List ℕ) (clear : owned_by w front ≡ 0) (alone : owned_by w rest ≡ 0) where
    abbrev t : ℕ
    t = held w

    abbrev ds : List Deque
    ds = front ++ deque w k ∷ rest

    abbrev A : List ℕ
    A = bottoms_of held front

    abbrev B : List ℕ
    B = bottoms_of held rest

    pub bottoms_are : bottoms_of held ds ≡ A ++ (bottom (t ∷ k) ∷ B)
    unfolding bottoms_of
    bottoms_are = bottoms_append held front (deque w k ∷ rest) ∙ rw (lt-ltb w 16 few) refl

    become : (f : Deque → Deque) → bottoms_of held' (own w f ds) ≡ A ++ bottoms_of held' (kept (f (deque w k)) rest)
    become f =
        ap (bottoms_of held') (own_at w f k front rest clear) ∙ bottoms_append held' front (kept (f (deque w k)) rest)
        ∙ ap (◌++ bottoms_of held' (kept (f (deque w k)) rest)) (bottoms_same front clear)

    kept_bottom : (l : List ℕ) → bottoms_of held' (kept (deque w l) rest) ≡ bottom (held' w ∷ l) ∷ B
    unfolding bottoms_of
    kept_bottom l = rw (ne_eqb w 16 (λ z. omega (arith, z)), lt-ltb w 16 few) (ap (◌∷◌ (bottom (held' w ∷ l))) (bottoms_same rest alone))

    pub fork_bottoms : bottoms_of held' (own w (push t) ds) ≡ bottoms_of held ds
    fork_bottoms = become (push t) ∙ ap (A ++◌) (kept_bottom (t ∷ k) ∙ ap (◌∷ B) (bottom_top (held' w) t k)) ∙ sym bottoms_are

    pub pop_bottoms : (t2 : ℕ) (l : List ℕ) → k ≡ t2 ∷ l → held' w ≡ t2 → bottoms_of held' (own w (λ d. deque w l) ds) ≡ bottoms_of held ds
    pop_bottoms t2 l i e =
        become (λ d. deque w l)
        ∙ ap (A ++◌) (kept_bottom l ∙ ap (λ (z : ℕ). bottom (z ∷ l) ∷ B) e ∙ ap (◌∷ B) (sym (bottom_top t t2 l) ∙ ap (λ (z : List ℕ). bottom (t ∷ z)) (sym i))) ∙ sym bottoms_are

    pub leave_bottoms : k ≡ [] → (Memᴰ t A → ⊥) → bottoms_of held' (own w disown ds) ≡ without t (bottoms_of held ds)
    unfolding bottoms_of bottom
    leave_bottoms i n =
        become disown ∙ ap (A ++◌) (gone k i) ∙ sym (ap (without t) (bottoms_are ∙ ap (λ (z : List ℕ). A ++ (bottom (t ∷ z) ∷ B)) i) ∙ without_at t A B n)
      where
        gone : (k : List ℕ) → k ≡ [] → bottoms_of held' (kept (disown (deque w k)) rest) ≡ B
        gone k i = rw i (bottoms_same rest alone)

    -- the parent that it woke comes in its place
    pub wake_bottoms : (u : ℕ) → held' w ≡ u → k ≡ [] → (Memᴰ t A → ⊥) → (Memᴰ t (A ++ u ∷ []) → ⊥) → bottoms_of held' ds ≡ without t (left_of u t (bottoms_of held ds))
    unfolding bottoms_of bottom
    wake_bottoms u e i n m =
        ap (bottoms_of held') (ap (λ (z : List ℕ). front ++ deque w z ∷ rest) i) ∙ bottoms_append held' front (deque w [] ∷ rest)
        ∙ ap₂ ◌++◌ (bottoms_same front clear) (rw (lt-ltb w 16 few) (ap₂ ◌∷◌ e (bottoms_same rest alone)))
        ∙ sym (ap (λ (z : List ℕ). without t (left_of u t z)) (bottoms_are ∙ ap (λ (z : List ℕ). A ++ (bottom (t ∷ z) ∷ B)) i)
        ∙ ap (without t) (left_of_at u t A B n ∙ sym (append_assoc A (u ∷ []) (t ∷ B))) ∙ without_at t (A ++ u ∷ []) B m ∙ append_assoc A (u ∷ []) B)

    -- above a deque that is not empty (hand-made records alone have it) the bottoms stay
    pub wake_above : (t2 : ℕ) (l : List ℕ) → k ≡ t2 ∷ l → bottoms_of held' ds ≡ bottoms_of held ds
    unfolding bottoms_of bottom
    wake_above t2 l i =
        ap (bottoms_of held') (ap (λ (z : List ℕ). front ++ deque w z ∷ rest) i) ∙ bottoms_append held' front (deque w (t2 ∷ l) ∷ rest)
        ∙ ap₂ ◌++◌ (bottoms_same front clear) (rw (lt-ltb w 16 few) (ap (◌∷◌ (bottom (t2 ∷ l))) (bottoms_same rest alone)))
        ∙ sym (bottoms_are ∙ ap (λ (z : List ℕ). A ++ (bottom (t ∷ z) ∷ B)) i)

    pub stop_bottoms : bottoms_of held' (own w (λ d. disown (push t d)) ds) ≡ bottoms_of held ds
    unfolding bottoms_of
    stop_bottoms = become (λ d. disown (push t d)) ∙ ap (λ (r : List ℕ). A ++ (bottom (t ∷ k) ∷ r)) (bottoms_same rest alone) ∙ sym bottoms_are

  -- a steal from deque d, whose bottom is b: its next thread up, if its line has one, becomes a bottom
  module _ (front rest : List Deque) (o : ℕ) (l : List ℕ) (clear : owned_by w front ≡ 0) (alone : owned_by w rest ≡ 0) (other : o ≡ w → ⊥) (small : o ≤ 16)
      (some : is_empty l ≡ false) (robs : held' w ≡ bottom l) where
    abbrev Af : List ℕ
    Af = bottoms_of held front

    abbrev Bf : List ℕ
    Bf = bottoms_of held rest

    abbrev robbed_to : List Deque
    robbed_to = front ++ kept (deque o (above l)) (deque w [] ∷ rest)

    thief : bottoms_of held' (deque w [] ∷ rest) ≡ bottom l ∷ Bf
    unfolding bottoms_of bottom
    thief = rw (lt-ltb w 16 few) (ap₂ ◌∷◌ robs (bottoms_same rest alone))

    pub robbed_whole : bottoms_of held (front ++ deque o l ∷ rest) ≡ Af ++ (bottom l ∷ Bf)
    unfolding bottoms_of
    robbed_whole = bottoms_append held front (deque o l ∷ rest) ∙ ap (λ (z : ℕ). Af ++ (z ∷ Bf)) (line_bottom (ltb o 16) (held o) l some)

    -- the deque leaves
    pub last_bottoms : o ≡ 16 → above l ≡ [] → bottoms_of held' robbed_to ≡ bottoms_of held (front ++ deque o l ∷ rest)
    last_bottoms e i = bottoms_append held' front _ ∙ ap₂ ◌++◌ (bottoms_same front clear) (gone ∙ thief) ∙ sym robbed_whole
      where
        gone : bottoms_of held' (kept (deque o (above l)) (deque w [] ∷ rest)) ≡ bottoms_of held' (deque w [] ∷ rest)
        gone = rw (e, i) refl

    -- it stays
    pub steal_bottoms : (eqb o 16 && is_empty (above l)) ≡ false → (Memᴰ (bottom l) Af → ⊥)
        → bottoms_of held' robbed_to ≡ left_of (bottom (line held (deque o (above l)))) (bottom l) (bottoms_of held (front ++ deque o l ∷ rest))
    unfolding bottoms_of
    steal_bottoms e n =
        bottoms_append held' front _
        ∙ ap₂ ◌++◌ (bottoms_same front clear) (stay ∙ ap (◌∷◌ (bottom (line held (deque o (above l))))) thief)
        ∙ sym (ap (left_of (bottom (line held (deque o (above l)))) (bottom l)) robbed_whole ∙ left_of_at (bottom (line held (deque o (above l)))) (bottom l) Af Bf n)
      where
        stay : bottoms_of held' (kept (deque o (above l)) (deque w [] ∷ rest)) ≡ bottom (line held (deque o (above l))) ∷ bottoms_of held' (deque w [] ∷ rest)
        stay = rw (e, same o other) refl
