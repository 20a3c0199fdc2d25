-- What a run of DFDeques keeps from its beginning: its lines, their order, and what parts a child from its parent. An action keeps it.
use mathlib.Core.Path.{◌≡◌, refl, sym, ap, subst}
use Prim.Native.Nat.{ℕ, ◌+◌, ◌≤◌, ◌<◌}
use mathlib.Core.List.Memᴰ
use mathlib.Core.List.{List, [], ◌∷◌, ◌++◌, Memᴰ}
use mathlib.Core.Bool.{Bool, true, false}
use mathlib.Core.Logic.{◌⊎◌, inl, inr}
use native.Mathlib.Omega.{arith}
use lib.Dec.{eqb}
use borrow.Author.Tests.{eqb-false}
use Rattle.table.specs.Format.{Table}
use Rattle.table.specs.Checks.{owner}
use Rattle.schedule.specs.declared.Worker.{Worker}
use Rattle.schedule.specs.Machine.{State, ready, held, waiting, next_of, status_of, worker_of}
use Rattle.order.specs.Order.{number_of}
use Rattle.order.proofs.Lawful.{Lawful}
use Rattle.order.proofs.Words.{Ascends}
use Rattle.deques.specs.Deques.{Deque, Deques}
use Rattle.deques.specs.Partition.{owned_by}
use Rattle.deques.specs.Lines.{line, lines_of}
use Rattle.deques.proofs.DequeTurns.{Kept}
use Rattle.deques.proofs.Standing.{standing}
use Rattle.deque_bounds.proofs.Lines.{Live, Parted, Chained, Light, Falls, Moved, chained_keeps, light_keeps}
use Rattle.schedule.proofs.Preservation.ListMoves.{ascends_same}

abbrev pub held_by : State → ℕ → ℕ
held_by st v = (worker_of st v).thread

unfoldable pub AllLines : Table → ℕ → (ℕ → ℕ) → State → List Deque → Type 0
AllLines T far J st [] = Unit {0}
AllLines T far J st (d ∷ ds) = Chained T J st 0 (line (held_by st) d) × Light T far J st (line (held_by st) d) × AllLines T far J st ds

pub record SerialLines (T : Table) (p K far : ℕ) (J : ℕ → ℕ) (D : Deques) : Type 0 where
  pub kept : Kept T p K D
  pub falls : Falls T J
  pub lines : AllLines T far J D.state D.deques
  -- the next actions rise along the lines
  pub order : Ascends (λ t. number_of T (next_of D.state t)) (lines_of (held_by D.state) D.deques)
  pub waiters : (u : ℕ) → u < T.threads → status_of D.state u ≡ waiting → Parted T J D.state 0 u

-- ---- lists that ascend

module _ (f g : ℕ → ℕ) where
  asc_append : (M R : List ℕ) → Ascends g M → Ascends g R → ((m v : ℕ) → Memᴰ m M → Memᴰ v R → g m < g v) → Ascends g (M ++ R)
  unfolding Ascends
  asc_append [] R i j c = j
  asc_append (x ∷ M) R i j c = (λ y m. go y (Memᴰ.append_cases M m), asc_append M R i.1 j (λ m v a b. c m v (Memᴰ.tail a) b))
    where
      go : (y : ℕ) → Memᴰ y M ⊎ Memᴰ y R → g x < g y
      go y (inl m) = i.0 y m
      go y (inr m) = c x y (Memᴰ.head refl) m

  -- beyond one in the middle
  pub asc_mid : (A R : List ℕ) (t : ℕ) → Ascends f (A ++ t ∷ R) → ((v : ℕ) → Memᴰ v R → f t < f v) × Ascends f R
  unfolding Ascends
  asc_mid [] R t i = i
  asc_mid (x ∷ A) R t i = asc_mid A R t i.1

  -- the one in the middle becomes others
  pub asc_replace : (A R M : List ℕ) (t : ℕ) → Ascends f (A ++ t ∷ R) → ((v : ℕ) → Memᴰ v A → g v ≡ f v) → ((v : ℕ) → Memᴰ v R → g v ≡ f v) → Ascends g M
      → ((m : ℕ) → Memᴰ m M → f t ≤ g m) → ((m v : ℕ) → Memᴰ m M → Memᴰ v R → g m < g v) → Ascends g (A ++ (M ++ R))
  unfolding Ascends
  asc_replace [] R M t i e k j low up = asc_append M R j (ascends_same f g R k i.1) up
  asc_replace (x ∷ A) R M t i e k j low up = (
    (λ y m. first y (Memᴰ.append_cases A m)),
    asc_replace A R M t i.1 (λ v m. e v (Memᴰ.tail m)) k j low up,
  )
    where
      here : g x ≡ f x
      here = e x (Memᴰ.head refl)

      second : (y : ℕ) → Memᴰ y M ⊎ Memᴰ y R → g x < g y
      second y (inl m) = omega (arith, here, low y m, i.0 t (Memᴰ.append_right A (Memᴰ.head refl)))
      second y (inr m) = omega (arith, here, k y m, i.0 y (Memᴰ.append_right A (Memᴰ.tail m)))

      first : (y : ℕ) → Memᴰ y A ⊎ Memᴰ y (M ++ R) → g x < g y
      first y (inl m) = omega (arith, here, e y (Memᴰ.tail m), i.0 y (Memᴰ.append_left (t ∷ R) m))
      first y (inr m) = second y (Memᴰ.append_cases M m)

-- ---- who stands in a line

module _ (T : Table) (l : Lawful T) (p K : ℕ) (D : Deques) (k : Kept T p K D) where
  pub standing_live : (v : ℕ) → Memᴰ v (lines_of (held_by D.state) D.deques) → Live D.state v
  standing_live v m = go (standing T l p K D k v m).1
    where
      go : (status_of D.state v ≡ ready) ⊎ (status_of D.state v ≡ held) → Live D.state v
      go (inl e) = ((λ z. omega (arith, e, z)), (λ z. omega (arith, e, z)))
      go (inr e) = ((λ z. omega (arith, e, z)), (λ z. omega (arith, e, z)))

-- ---- lines side by side

module _ (T : Table) (far : ℕ) (J : ℕ → ℕ) (st : State) where
  pub all_append : (A B : List Deque) → AllLines T far J st A → AllLines T far J st B → AllLines T far J st (A ++ B)
  unfolding AllLines
  all_append [] B a b = b
  all_append (d ∷ A) B a b = (a.0, a.1, all_append A B a.2 b)

  pub all_front : (A B : List Deque) → AllLines T far J st (A ++ B) → AllLines T far J st A × AllLines T far J st B
  unfolding AllLines
  all_front [] B a = (tt, a)
  all_front (d ∷ A) B a = let z = all_front A B a.2 in ((a.0, a.1, z.0), z.1)

  pub all_head : (d : Deque) (A : List Deque) → AllLines T far J st (d ∷ A) → Chained T J st 0 (line (held_by st) d) × Light T far J st (line (held_by st) d) × AllLines T far J st A
  unfolding AllLines
  all_head d A a = a

  pub all_cons : (d : Deque) (A : List Deque) → Chained T J st 0 (line (held_by st) d) → Light T far J st (line (held_by st) d) → AllLines T far J st A → AllLines T far J st (d ∷ A)
  unfolding AllLines
  all_cons d A a b c = (a, b, c)

module _ (T : Table) (l : Lawful T) (far : ℕ) (J : ℕ → ℕ) {K : ℕ} (w t a q : ℕ) (st s : State) (m : Moved T K w t a q st s) (within : a < T.actions) (owned : owner T a ≡ t) where
  pub all_keeps : (A : List Deque) → owned_by w A ≡ 0 → ((v : ℕ) → Memᴰ v (lines_of (held_by st) A) → v ≡ t → ⊥) → AllLines T far J st A → AllLines T far J s A
  unfolding AllLines owned_by lines_of
  all_keeps [] e n c = tt
  all_keeps (d ∷ A) e n c = go (eqb d.owner w) refl (all_keeps A)
    where
      go : (b : Bool) → eqb d.owner w ≡ b → (owned_by w A ≡ 0 → ((v : ℕ) → Memᴰ v (lines_of (held_by st) A) → v ≡ t → ⊥) → AllLines T far J st A → AllLines T far J s A)
          → Chained T J s 0 (line (held_by s) d) × Light T far J s (line (held_by s) d) × AllLines T far J s A
      go true i ih = absurd (let z : 1 + owned_by w A ≡ 0 = rw i at e in omega (arith, z))
      go false i ih =
          let z : line (held_by s) d ≡ line (held_by st) d = line_same' i in
          let n0 : (v : ℕ) → Memᴰ v (line (held_by st) d) → v ≡ t → ⊥ = λ v j. n v (Memᴰ.append_left (lines_of (held_by st) A) j) in (
            subst (Chained T J s 0) (sym z) (chained_keeps T l J w t a q st s m within owned 0 (line (held_by st) d) n0 c.0),
            subst (Light T far J s) (sym z) (light_keeps T l J w t a q st s m within owned far (line (held_by st) d) n0 c.1),
            ih (let y : 0 + owned_by w A ≡ 0 = rw i at e in omega (arith, y)) (λ v j. n v (Memᴰ.append_right (line (held_by st) d) j)) c.2,
          )
        where
          line_same' : eqb d.owner w ≡ false → line (held_by s) d ≡ line (held_by st) d
          line_same' i = let y : held_by s d.owner ≡ held_by st d.owner = ap (λ (b : Worker). b.thread) (m.worker_others d.owner (eqb-false d.owner w i)) in rw y
