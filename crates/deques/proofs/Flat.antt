-- What the moves of the deques do to the lines: they are `left_of` and `without`, the moves that links can make.
use mathlib.Core.Path.{◌≡◌, refl, sym, ap, ◌∙◌}
use Prim.Native.Nat.{ℕ, suc, ◌+◌, ◌<◌}
use mathlib.Core.List.{List, [], ◌∷◌, ◌++◌, append_assoc, Memᴰ}
use mathlib.Core.Bool.{Bool, true, false}
use native.Mathlib.Omega.{arith}
use lib.Dec.{eqb}
use lib.ListN.{get_or}
use borrow.Author.Tests.{eqb-true, ne_eqb, eq-eqb, lt-ltb}
use Rattle.table.specs.Sum.{pick}
use Rattle.schedule.specs.Machine.{left_of, without}
use Rattle.deques.specs.Deques.{Deque, deque, nothing, kept, place_of, own, push, disown}
use Rattle.deques.specs.Lines.{line, lines_of}
use Rattle.deques.specs.Partition.{owned_by}
use Rattle.deques.proofs.Placed.{lines_same}
pub use Rattle.schedule.proofs.Linked.Actives.{left_of_after as left_of_at, without_after as without_at}

-- worker w's deque among the others
pub record Mine (w : ℕ) (ds : List Deque) : Type 0 where
  pub front : List Deque
  pub threads : List ℕ
  pub rest : List Deque
  pub whole : ds ≡ front ++ deque w threads ∷ rest
  pub clear : owned_by w front ≡ 0
  pub alone : owned_by w rest ≡ 0

-- its threads, looked up by its place
pub mine_at : (w : ℕ) (front : List Deque) (k : List ℕ) (rest : List Deque) → owned_by w front ≡ 0 → (get_or (front ++ deque w k ∷ rest) (place_of w (front ++ deque w k ∷ rest)) nothing).threads ≡ k
unfolding place_of owned_by
mine_at w [] k rest e = rw (eq-eqb w w refl)
mine_at w (d ∷ front) k rest e = go (eqb d.owner w) refl (mine_at w front k rest)
  where
    go : (q : Bool) → eqb d.owner w ≡ q → (owned_by w front ≡ 0 → (get_or (front ++ deque w k ∷ rest) (place_of w (front ++ deque w k ∷ rest)) nothing).threads ≡ k)
        → (get_or (d ∷ (front ++ deque w k ∷ rest)) (pick q 0 (suc (place_of w (front ++ deque w k ∷ rest)))) nothing).threads ≡ k
    go true i ih = absurd (let z : 1 + owned_by w front ≡ 0 = rw i at e in omega (arith, z))
    go false i ih = ih (let z : 0 + owned_by w front ≡ 0 = rw i at e in omega (arith, z))

later : (w : ℕ) (d : Deque) (ds : List Deque) → eqb d.owner w ≡ false → Mine w ds → Mine w (d ∷ ds)
unfolding owned_by
later w d ds i m =
    record { front = d ∷ m.front; threads = m.threads; rest = m.rest; whole = ap (d ∷◌) m.whole; clear = rw i (omega (arith, m.clear)); alone = m.alone }

pub mine : (w : ℕ) (ds : List Deque) → owned_by w ds ≡ 1 → Mine w ds
unfolding owned_by
mine w [] e = absurd (omega (arith, e))
mine w (d ∷ ds) e = go (eqb d.owner w) refl (mine w ds)
  where
    go : (q : Bool) → eqb d.owner w ≡ q → (owned_by w ds ≡ 1 → Mine w ds) → Mine w (d ∷ ds)
    go true i ih =
        let z : 1 + owned_by w ds ≡ 1 = rw i at e in
        record {
          front = [];
          threads = d.threads;
          rest = ds;
          whole = ap (λ (o : ℕ). deque o d.threads ∷ ds) (eqb-true d.owner w i);
          clear = refl;
          alone = omega (arith, z);
        }
    go false i ih =
        let z : 0 + owned_by w ds ≡ 1 = rw i at e in
        later w d ds i (ih (omega (arith, z)))

pub own_at : (w : ℕ) (f : Deque → Deque) (k : List ℕ) (front rest : List Deque) → owned_by w front ≡ 0 → own w f (front ++ deque w k ∷ rest) ≡ front ++ kept (f (deque w k)) rest
unfolding own owned_by
own_at w f k [] rest e = rw (eq-eqb w w refl)
own_at w f k (d ∷ front) rest e = go (eqb d.owner w) refl (own_at w f k front rest)
  where
    go : (q : Bool) → eqb d.owner w ≡ q → (owned_by w front ≡ 0 → own w f (front ++ deque w k ∷ rest) ≡ front ++ kept (f (deque w k)) rest)
        → pick q (kept (f d) (front ++ deque w k ∷ rest)) (d ∷ own w f (front ++ deque w k ∷ rest)) ≡ d ∷ front ++ kept (f (deque w k)) rest
    go true i ih = absurd (let z : 1 + owned_by w front ≡ 0 = rw i at e in omega (arith, z))
    go false i ih = ap (d ∷◌) (ih (let z : 0 + owned_by w front ≡ 0 = rw i at e in omega (arith, z)))

pub lines_append : (held : ℕ → ℕ) (front ds : List Deque) → lines_of held (front ++ ds) ≡ lines_of held front ++ lines_of held ds
unfolding lines_of
lines_append held [] ds = refl
lines_append held (d ∷ front) ds = ap (line held d ++◌) (lines_append held front ds) ∙ sym (append_assoc (line held d) (lines_of held front) (lines_of held ds))

module _ (w : ℕ) (few : w < 16) (held held' : ℕ → ℕ) (same : (v : ℕ) → (v ≡ w → ⊥) → held' v ≡ held v) (front rest : List Deque) (k : List ℕ)
    (clear : owned_by w front ≡ 0) (alone : owned_by w rest ≡ 0) where
  abbrev t : ℕ
  t = held w

  abbrev ds : List Deque
  ds = front ++ deque w k ∷ rest

  abbrev A : List ℕ
  A = lines_of held front

  abbrev B : List ℕ
  B = lines_of held rest

  pub lines_are : lines_of held ds ≡ A ++ (t ∷ (k ++ B))
  unfolding lines_of
  lines_are = lines_append held front (deque w k ∷ rest) ∙ rw (lt-ltb w 16 few) refl

  -- whatever comes in the deque's place
  lines_become : (f : Deque → Deque) → lines_of held' (own w f ds) ≡ A ++ lines_of held' (kept (f (deque w k)) rest)
  lines_become f =
      ap (lines_of held') (own_at w f k front rest clear) ∙ lines_append held' front (kept (f (deque w k)) rest)
      ∙ ap (◌++ lines_of held' (kept (f (deque w k)) rest)) (lines_same w few held held' same front clear)

  owned_kept : (l : List ℕ) → lines_of held' (kept (deque w l) rest) ≡ held' w ∷ (l ++ B)
  unfolding lines_of
  owned_kept l = rw (ne_eqb w 16 (λ z. omega (arith, z)), lt-ltb w 16 few) (ap (λ (r : List ℕ). held' w ∷ (l ++ r)) (lines_same w few held held' same rest alone))

  module _ (once : Memᴰ t A → ⊥) where
    pub fork_lines : (c : ℕ) → held' w ≡ c → lines_of held' (own w (push t) ds) ≡ left_of c t (lines_of held ds)
    fork_lines c e =
        lines_become (push t) ∙ ap (A ++◌) (owned_kept (t ∷ k) ∙ ap (λ (z : ℕ). z ∷ (t ∷ (k ++ B))) e)
        ∙ sym (ap (left_of c t) lines_are ∙ left_of_at c t A (k ++ B) once)

    pub pop_lines : (t2 : ℕ) (l : List ℕ) → k ≡ t2 ∷ l → held' w ≡ t2 → lines_of held' (own w (λ d. deque w l) ds) ≡ without t (lines_of held ds)
    pop_lines t2 l i e =
        lines_become (λ d. deque w l) ∙ ap (A ++◌) (owned_kept l ∙ ap (λ (z : ℕ). z ∷ (l ++ B)) e ∙ ap (λ (z : List ℕ). z ++ B) (sym i))
        ∙ sym (ap (without t) lines_are ∙ without_at t A (k ++ B) once)

    pub leave_lines : k ≡ [] → lines_of held' (own w disown ds) ≡ without t (lines_of held ds)
    unfolding lines_of
    leave_lines i =
        lines_become disown ∙ ap (A ++◌) (gone k i ∙ ap (λ (z : List ℕ). z ++ B) (sym i))
        ∙ sym (ap (without t) lines_are ∙ without_at t A (k ++ B) once)
      where
        gone : (k : List ℕ) → k ≡ [] → lines_of held' (kept (disown (deque w k)) rest) ≡ B
        gone k i = rw i (lines_same w few held held' same rest alone)

    pub wake_lines : (u : ℕ) → held' w ≡ u → (u ≡ t → ⊥) → (Memᴰ t (A ++ u ∷ []) → ⊥) → lines_of held' ds ≡ without t (left_of u t (lines_of held ds))
    unfolding lines_of
    wake_lines u e n m =
        lines_append held' front (deque w k ∷ rest) ∙ ap (◌++ lines_of held' (deque w k ∷ rest)) (lines_same w few held held' same front clear)
        ∙ ap (A ++◌) (place ∙ ap (λ (z : ℕ). z ∷ (k ++ B)) e)
        ∙ sym (ap (λ (z : List ℕ). without t (left_of u t z)) lines_are ∙ ap (without t) (left_of_at u t A (k ++ B) once) ∙ out)
      where
        place : lines_of held' (deque w k ∷ rest) ≡ held' w ∷ (k ++ B)
        place = rw (lt-ltb w 16 few) (ap (λ (r : List ℕ). held' w ∷ (k ++ r)) (lines_same w few held held' same rest alone))

        out : without t (A ++ (u ∷ (t ∷ (k ++ B)))) ≡ A ++ (u ∷ (k ++ B))
        out =
            ap (without t) (sym (append_assoc A (u ∷ []) (t ∷ (k ++ B)))) ∙ without_at t (A ++ u ∷ []) (k ++ B) m ∙ append_assoc A (u ∷ []) (k ++ B)

  -- a quota stop
  pub stop_lines : lines_of held' (own w (λ d. disown (push t d)) ds) ≡ lines_of held ds
  unfolding lines_of
  stop_lines = lines_become (λ d. disown (push t d)) ∙ ap (λ (r : List ℕ). A ++ (t ∷ (k ++ r))) (lines_same w few held held' same rest alone) ∙ sym lines_are
