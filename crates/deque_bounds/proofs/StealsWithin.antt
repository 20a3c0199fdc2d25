-- The count of the limit by leaps: at the next action of a thread in a line, J and twice B are within B times its level, the nesting of the line's last thread, the leaps and a slack: for the thread held, the
-- worker's age; for the top of a deque that nobody owns, B; for the others none.
use mathlib.Core.Path.{◌≡◌, refl, sym, subst, ◌∙◌}
use Prim.Native.Nat.{ℕ, suc, ◌+◌, ◌*◌, ◌≤◌, ◌<◌}
use mathlib.Core.List.Memᴰ
use mathlib.Core.List.{List, [], ◌∷◌, ◌++◌, Memᴰ}
use mathlib.Core.Logic.{◌⊎◌, inl, inr}
use lib.Dec.{ltb}
use Rattle.table.specs.Sum.{pick}
use Rattle.table.specs.Format.{Table, kind}
use Rattle.table.specs.declared.kinds.Kind.TheVariants.{Fork as fork, Join as join}
use Rattle.table.specs.Checks.{owner, end_of}
use Rattle.table.specs.Level.{level}
use Rattle.table.specs.Nested.{nest}
use Rattle.schedule.specs.Machine.{State, ended, next_of, status_of}
use Rattle.deques.specs.Deques.{Deque, bottom}
use Rattle.deques.specs.Lines.{line}
use Rattle.deque_bounds.proofs.Lines.{Live, NoLiveChildBut, Parted, Chained}
use Rattle.deque_bounds.proofs.SerialLines.{held_by}

-- the next action is no join of a child not ended
unfoldable pub Able : Table → State → ℕ → Type 0
Able T st t = kind T (next_of st t) ≡ join → status_of st (T.argument (next_of st t)) ≡ ended

unfoldable pub ThreadWithin : Table → ℕ → ℕ → (ℕ → ℕ) → State → ℕ → ℕ → ℕ → Type 0
ThreadWithin T B leaps J st last slack t = Able T st t → J (next_of st t) + B + B + 1 ≤ B * level T (next_of st t) + nest T last + leaps + slack

unfoldable pub LineWithin : Table → ℕ → ℕ → (ℕ → ℕ) → State → ℕ → List ℕ → Type 0
LineWithin T B leaps J st slack [] = Unit {0}
LineWithin T B leaps J st slack (t ∷ k) = ThreadWithin T B leaps J st (bottom (t ∷ k)) slack t × ((y : ℕ) → Memᴰ y k → ThreadWithin T B leaps J st (bottom (t ∷ k)) 0 y)

abbrev pub slack_of : ℕ → (ℕ → ℕ) → Deque → ℕ
slack_of B old d = pick (ltb d.owner 16) (old d.owner) B

unfoldable pub LinesWithin : Table → ℕ → ℕ → (ℕ → ℕ) → (ℕ → ℕ) → State → List Deque → Type 0
LinesWithin T B leaps J old st [] = Unit {0}
LinesWithin T B leaps J old st (d ∷ ds) = LineWithin T B leaps J st (slack_of B old d) (line (held_by st) d) × LinesWithin T B leaps J old st ds

-- ---- lists

module _ (T : Table) (B leaps : ℕ) (J old : ℕ → ℕ) (st : State) where
  pub lines_within_append : (A C : List Deque) → LinesWithin T B leaps J old st A → LinesWithin T B leaps J old st C → LinesWithin T B leaps J old st (A ++ C)
  unfolding LinesWithin
  lines_within_append [] C a b = b
  lines_within_append (d ∷ A) C a b = (a.0, lines_within_append A C a.1 b)

  pub lines_within_split : (A C : List Deque) → LinesWithin T B leaps J old st (A ++ C) → LinesWithin T B leaps J old st A × LinesWithin T B leaps J old st C
  unfolding LinesWithin
  lines_within_split [] C a = (tt, a)
  lines_within_split (d ∷ A) C a = let z = lines_within_split A C a.1 in ((a.0, z.0), z.1)

  pub lines_within_head : (d : Deque) (A : List Deque) → LinesWithin T B leaps J old st (d ∷ A) → LineWithin T B leaps J st (slack_of B old d) (line (held_by st) d) × LinesWithin T B leaps J old st A
  unfolding LinesWithin
  lines_within_head d A a = a

  pub lines_within_cons : (d : Deque) (A : List Deque) → LineWithin T B leaps J st (slack_of B old d) (line (held_by st) d) → LinesWithin T B leaps J old st A → LinesWithin T B leaps J old st (d ∷ A)
  unfolding LinesWithin
  lines_within_cons d A a b = (a, b)

  pub line_within_top : (slack t : ℕ) (k : List ℕ) → LineWithin T B leaps J st slack (t ∷ k) → ThreadWithin T B leaps J st (bottom (t ∷ k)) slack t × ((y : ℕ) → Memᴰ y k → ThreadWithin T B leaps J st (bottom (t ∷ k)) 0 y)
  unfolding LineWithin
  line_within_top slack t k h = h

  pub top_line_within : (slack t : ℕ) (k : List ℕ) → ThreadWithin T B leaps J st (bottom (t ∷ k)) slack t → ((y : ℕ) → Memᴰ y k → ThreadWithin T B leaps J st (bottom (t ∷ k)) 0 y) → LineWithin T B leaps J st slack (t ∷ k)
  unfolding LineWithin
  top_line_within slack t k a b = (a, b)

-- a parent of t that stands in a line without t stands at its end, and was parted from t
module _ (T : Table) (J : ℕ → ℕ) (st : State) (t x : ℕ) (within : x < T.actions) (forks : kind T x ≡ fork) (names : T.argument x ≡ t) (alive : Live st t) where
  pub parent_last : (e : ℕ) (L : List ℕ) → (e ≡ t → ⊥) → ((v : ℕ) → Memᴰ v L → v ≡ t → ⊥) → Memᴰ (owner T x) L → Chained T J st e L
      → (bottom L ≡ owner T x) × (suc (J (next_of st (owner T x))) ≤ J (end_of T t))
  unfolding Chained NoLiveChildBut Parted bottom
  parent_last e [] n a m c = absurd (Memᴰ.not-nil m)
  parent_last e (z ∷ []) n a m c = go (Memᴰ.cases_cons m)
    where
      alive' : Live st (T.argument x)
      alive' = subst (Live st) (sym names) alive

      go : (owner T x ≡ z) ⊎ Memᴰ (owner T x) [] → (z ≡ owner T x) × (suc (J (next_of st (owner T x))) ≤ J (end_of T t))
      go (inl i) =
          let r : suc (J (next_of st z)) ≤ J (end_of T (T.argument x)) = c x within forks i alive' (λ b. n (sym b ∙ names)) in
          let r' : suc (J (next_of st z)) ≤ J (end_of T t) = subst (λ (b : ℕ). suc (J (next_of st z)) ≤ J (end_of T b)) names r in
          (sym i, subst (λ (b : ℕ). suc (J (next_of st b)) ≤ J (end_of T t)) (sym i) r')
      go (inr i) = absurd (Memᴰ.not-nil i)
  parent_last e (z ∷ y ∷ L) n a m c = go (Memᴰ.cases_cons m) (parent_last z (y ∷ L) (a z (Memᴰ.head refl)) (λ v i. a v (Memᴰ.tail i)))
    where
      go : (owner T x ≡ z) ⊎ Memᴰ (owner T x) (y ∷ L) → (Memᴰ (owner T x) (y ∷ L) → Chained T J st z (y ∷ L) → (bottom (y ∷ L) ≡ owner T x) × (suc (J (next_of st (owner T x))) ≤ J (end_of T t)))
          → (bottom (y ∷ L) ≡ owner T x) × (suc (J (next_of st (owner T x))) ≤ J (end_of T t))
      go (inl i) ih = absurd (n (sym (c.1 x within forks i (subst (Live st) (sym names) alive)) ∙ names))
      go (inr i) ih = ih i c.2
