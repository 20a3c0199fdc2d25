-- The second list over the turns of a sound state: what each action does to it. A waiting thread stands directly right of the child that it waits for, so a wake puts it in the child's
-- place.
use mathlib.Core.Path.{◌≡◌, refl, sym, ap}
use Prim.Native.Nat.{ℕ, ◌<◌}
use native.Mathlib.Omega.{arith}
use native.Mathlib.Decide.{ℕ_discrete}
use mathlib.Core.List.Memᴰ
use mathlib.Core.List.{List, [], ◌∷◌, ◌++◌, Memᴰ}
use mathlib.Core.Logic.{◌⊎◌, inl, inr}
use lib.ListN.{length, set}
use Rattle.table.specs.Format.{Table}
use Rattle.schedule.specs.Machine.{State, unborn, ready, waiting, ended, next_of, status_of, left_of, without}
use Rattle.order.specs.Order.{number_of}
use Rattle.schedule.specs.Actives.{actives}
use Rattle.order.proofs.Lawful.{Lawful}
use Rattle.order.proofs.Words.{Ascends}
use Rattle.schedule.proofs.Sound.Facts.{Facts}
use Rattle.order.proofs.Lists.{Below}
use Rattle.schedule.proofs.Linked.Once.{Once, ascends_once}
use Rattle.schedule.proofs.Linked.Waiting.{awaited, child_listed, child_left, none_between}
use Rattle.schedule.proofs.Linked.Actives.{actives_set, actives_fork, actives_wait, actives_end, actives_wake}

-- ---- side by side

-- u stands directly right of t
pub record Beside (t u : ℕ) (l : List ℕ) : Type 0 where
  pub before : List ℕ
  pub after : List ℕ
  pub row : l ≡ before ++ t ∷ u ∷ after

-- in a list that ascends, with nothing between the two
ascends_beside : (f : ℕ → ℕ) (t u : ℕ) (l : List ℕ) → Ascends f l → Memᴰ t l → Memᴰ u l → f t < f u → ((v : ℕ) → Memᴰ v l → f t < f v → f v < f u → ⊥)
    → Beside t u l
unfolding Ascends
ascends_beside f t u [] c m n h none = absurd (Memᴰ.not-nil m)
ascends_beside f t u (x ∷ l) c m n h none =
    go (ℕ_discrete x t) (Memᴰ.cases_cons m) (Memᴰ.cases_cons n)
    (λ (i : Memᴰ t l) (j : Memᴰ u l). ascends_beside f t u l c.1 i j h (λ v k. none v (Memᴰ.tail k)))
  where
    next : x ≡ t → (k : List ℕ) → l ≡ k → Memᴰ u k → Beside t u (x ∷ l)
    next e [] q j = absurd (Memᴰ.not-nil j)
    next e (z ∷ k) q j = at (ℕ_discrete z u) (Memᴰ.cases_cons j)
      where
        low : f x < f z
        low = c.0 z (rw q (Memᴰ.head refl))

        at : Dec (z ≡ u) → (u ≡ z) ⊎ Memᴰ u k → Beside t u (x ∷ l)
        at (yes d) s = record { before = []; after = k; row = cc }
        at (no d) (inl s) = absurd (d (sym s))
        at (no d) (inr i) = absurd (none z (Memᴰ.tail (rw q (Memᴰ.head refl))) (rw (← e) low) ((rw q at c.1).0 u i))

    go : Dec (x ≡ t) → (t ≡ x) ⊎ Memᴰ t l → (u ≡ x) ⊎ Memᴰ u l → (Memᴰ t l → Memᴰ u l → Beside t u l) → Beside t u (x ∷ l)
    go (yes e) s (inl d) ih = let q : f u ≡ f t = cc in absurd (omega arith)
    go (yes e) s (inr j) ih = next e l refl j
    go (no e) (inl d) r ih = absurd (e (sym d))
    go (no e) (inr i) (inl d) ih = let q : f u ≡ f x = cc in absurd (omega (arith, c.0 t i))
    go (no e) (inr i) (inr j) ih =
        let b : Beside t u l = ih i j in
        record { before = x ∷ b.before; after = b.after; row = ap (λ (k : List ℕ). x ∷ k) b.row }

-- ---- the list of a sound state

module _ (T : Table) (l : Lawful T) (p K : ℕ) (st : State) (f : Facts T p K st) where
  pub list_once : Once st.list
  list_once = ascends_once (λ (t : ℕ). number_of T (next_of st t)) st.list f.serial

  pub list_small : Below 1024 st.list
  list_small t m = omega (arith, f.list_below t m, l.few_threads)

  -- a waiting thread stands directly right of the child that it waits for
  pub waiting_beside : (u : ℕ) → u < T.threads → status_of st u ≡ waiting → Beside (awaited T st u) u st.list
  waiting_beside u h e =
      ascends_beside (λ (t : ℕ). number_of T (next_of st t)) (awaited T st u) u st.list f.serial (child_listed T l p K st f u h e)
      (f.live_listed u h (λ q. omega arith) (λ q. omega arith)) (child_left T l p K st f u h e) (none_between T l p K st f u h e)

  fits : (t : ℕ) → t < T.threads → t < length st.status
  fits t h = omega (arith, f.status_size, l.few_threads)

  -- a thread that is taken or put back: nothing moves
  pub moves_set : (t y : ℕ) → t < T.threads → (status_of st t ≡ waiting → ⊥) → (y ≡ waiting → ⊥) → actives (set st.status t y) st.list ≡ actives st.status st.list
  moves_set t y h = actives_set st.status st.list t y (fits t h)

  -- a fork of c by t, which runs: c enters left of t
  pub moves_fork : (t c : ℕ) → t < T.threads → (status_of st t ≡ waiting → ⊥) → c < T.threads → status_of st c ≡ unborn
      → actives (set (set st.status t ready) c ready) (left_of c t st.list) ≡ left_of c t (actives st.status st.list)
  moves_fork t c h n i e = actives_fork st.status st.list list_once t (fits t h) n c (fits c i) (λ m. f.list_born c m e)

  -- a wait: t leaves
  pub moves_wait : (t : ℕ) → t < T.threads → (status_of st t ≡ waiting → ⊥) → actives (set st.status t waiting) st.list ≡ without t (actives st.status st.list)
  moves_wait t h n = actives_wait st.status st.list list_once t (fits t h) n

  -- an end that wakes nobody: t leaves
  pub moves_end : (t : ℕ) → t < T.threads → (status_of st t ≡ waiting → ⊥)
      → actives (set st.status t ended) (without t st.list) ≡ without t (actives st.status st.list)
  moves_end t h n = actives_end st.status st.list list_once t (fits t h) n ended

  -- an end that wakes u: u enters left of t, and t leaves
  pub moves_wake : (t u : ℕ) → t < T.threads → (status_of st t ≡ waiting → ⊥) → u < T.threads → status_of st u ≡ waiting → awaited T st u ≡ t
      → actives (set (set st.status t ended) u ready) (without t st.list) ≡ without t (left_of u t (actives st.status st.list))
  moves_wake t u h n i w e =
      let b : Beside t u st.list = rw e at (waiting_beside u i w) in
      rw b.row (actives_wake st.status t u b.before b.after (rw b.row at list_once) (fits u i) n w ended)
