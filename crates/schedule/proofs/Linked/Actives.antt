-- The second list, of the listed threads that do not wait: it moves by `left_of` and `without` at a fork, a wait, an end and a wake, and its leftmost ready thread is the list's.
use mathlib.Core.Path.{◌≡◌, refl, sym, ap, ◌∙◌}
use Prim.Native.Nat.{ℕ, ◌<◌}
use native.Mathlib.Omega.{arith}
use native.Mathlib.Decide.{ℕ_discrete}
use mathlib.Core.List.{List, [], ◌∷◌, ◌++◌, Memᴰ}
use mathlib.Core.List.{append_assoc}
use mathlib.Core.Bool.{Bool, true, false}
use mathlib.Core.Logic.{◌⊎◌, inl, inr}
use lib.Dec.{eqb}
use lib.ListN.{length, get_or, set, length-set}
use lib.Seq.{get_or-set_same, get_or-set_other}
use borrow.Author.Tests.{eqb-true, eqb-false, eq-eqb, ne_eqb}
use Rattle.table.specs.Sum.{pick}
use Rattle.schedule.specs.Machine.{ready, waiting, left_of, without}
use Rattle.schedule.specs.Actives.{actives}
use Rattle.order.proofs.Lists.{Below}
use Rattle.schedule.proofs.Linked.Once.{Once, once_gone}

-- thread t waits, by the statuses
abbrev Waits : List ℕ → ℕ → Type 0
Waits status t = get_or status t 0 ≡ waiting

-- ---- what is in it

pub actives_old : (status : List ℕ) (u : ℕ) (l : List ℕ) → Memᴰ u (actives status l) → Memᴰ u l × (Waits status u → ⊥)
unfolding actives
actives_old status u [] m = absurd (mathlib.Core.List.Memᴰ.not-nil m)
actives_old status u (x ∷ l) m = go (eqb (get_or status x 0) waiting) refl (actives_old status u l) m
  where
    go : (q : Bool) → eqb (get_or status x 0) waiting ≡ q → (Memᴰ u (actives status l) → Memᴰ u l × (Waits status u → ⊥))
        → Memᴰ u (pick q (actives status l) (x ∷ actives status l)) → Memᴰ u (x ∷ l) × (Waits status u → ⊥)
    go true q ih i = (mathlib.Core.List.Memᴰ.tail (ih i).0, (ih i).1)
    go false q ih i = at (mathlib.Core.List.Memᴰ.cases_cons i)
      where
        at : (u ≡ x) ⊎ Memᴰ u (actives status l) → Memᴰ u (x ∷ l) × (Waits status u → ⊥)
        at (inl e) = (mathlib.Core.List.Memᴰ.head e, λ w. eqb-false (get_or status x 0) waiting q (rw e at w))
        at (inr j) = (mathlib.Core.List.Memᴰ.tail (ih j).0, (ih j).1)

pub actives_new : (status : List ℕ) (u : ℕ) (l : List ℕ) → (Waits status u → ⊥) → Memᴰ u l → Memᴰ u (actives status l)
unfolding actives
actives_new status u [] n m = absurd (mathlib.Core.List.Memᴰ.not-nil m)
actives_new status u (x ∷ l) n m = go (eqb (get_or status x 0) waiting) refl (actives_new status u l n) (mathlib.Core.List.Memᴰ.cases_cons m)
  where
    go : (q : Bool) → eqb (get_or status x 0) waiting ≡ q → (Memᴰ u l → Memᴰ u (actives status l)) → (u ≡ x) ⊎ Memᴰ u l
        → Memᴰ u (pick q (actives status l) (x ∷ actives status l))
    go true q ih (inl e) = absurd (n (rw e (eqb-true (get_or status x 0) waiting q)))
    go true q ih (inr i) = ih i
    go false q ih (inl e) = mathlib.Core.List.Memᴰ.head e
    go false q ih (inr i) = mathlib.Core.List.Memᴰ.tail (ih i)

pub once_actives : (status l : List ℕ) → Once l → Once (actives status l)
unfolding Once actives
once_actives status [] o = tt
once_actives status (x ∷ l) o = go (eqb (get_or status x 0) waiting) (once_actives status l o.1)
  where
    go : (q : Bool) → Once (actives status l) → Once (pick q (actives status l) (x ∷ actives status l))
    go true ih = ih
    go false ih = ((λ m. o.0 (actives_old status x l m).0), ih)

pub below_actives : (n : ℕ) (status l : List ℕ) → Below n l → Below n (actives status l)
below_actives n status l b u m = b u (actives_old status u l m).0

-- ---- the same threads wait

pub actives_same : (s s' l : List ℕ) → ((u : ℕ) → Memᴰ u l → eqb (get_or s' u 0) waiting ≡ eqb (get_or s u 0) waiting) → actives s' l ≡ actives s l
unfolding actives
actives_same s s' [] e = refl
actives_same s s' (x ∷ l) e = rw (e x (mathlib.Core.List.Memᴰ.head refl), actives_same s s' l (λ u m. e u (mathlib.Core.List.Memᴰ.tail m)))

-- a status set elsewhere, or from one that is not waiting to another
set_elsewhere : (s l : List ℕ) (t y : ℕ) → (Memᴰ t l → ⊥) → actives (set s t y) l ≡ actives s l
set_elsewhere s l t y n = actives_same s (set s t y) l (λ u m. rw (get_or-set_other s t u y 0 (λ e. n (rw e at m))))

pub actives_set : (s l : List ℕ) (t y : ℕ) → t < length s → (Waits s t → ⊥) → (y ≡ waiting → ⊥) → actives (set s t y) l ≡ actives s l
actives_set s l t y h n d = actives_same s (set s t y) l (λ u m. go u (ℕ_discrete u t))
  where
    go : (u : ℕ) → Dec (u ≡ t) → eqb (get_or (set s t y) u 0) waiting ≡ eqb (get_or s u 0) waiting
    go u (yes e) = rw (e, get_or-set_same s t y 0 h, ne_eqb y waiting d, ne_eqb (get_or s t 0) waiting n)
    go u (no e) = rw (get_or-set_other s t u y 0 e)

-- ---- a thread more, a thread less

actives_left_of : (s : List ℕ) (c t : ℕ) (l : List ℕ) → (Waits s c → ⊥) → (Waits s t → ⊥) → actives s (left_of c t l) ≡ left_of c t (actives s l)
unfolding actives left_of
actives_left_of s c t [] n m = refl
actives_left_of s c t (x ∷ l) n m = go (eqb x t) (eqb (get_or s x 0) waiting) refl refl (actives_left_of s c t l n m)
  where
    go : (q w : Bool) → eqb x t ≡ q → eqb (get_or s x 0) waiting ≡ w → actives s (left_of c t l) ≡ left_of c t (actives s l)
        → actives s (pick q (c ∷ x ∷ l) (x ∷ left_of c t l)) ≡ left_of c t (pick w (actives s l) (x ∷ actives s l))
    go true true q w ih = absurd (m (rw (← eqb-true x t q) (eqb-true (get_or s x 0) waiting w)))
    go true false q w ih = rw (q, w, ne_eqb (get_or s c 0) waiting n)
    go false true q w ih = rw w ih
    go false false q w ih = rw (q, w, ih)

actives_without : (s : List ℕ) (t : ℕ) (l : List ℕ) → (Waits s t → ⊥) → actives s (without t l) ≡ without t (actives s l)
unfolding actives without
actives_without s t [] m = refl
actives_without s t (x ∷ l) m = go (eqb x t) (eqb (get_or s x 0) waiting) refl refl (actives_without s t l m)
  where
    go : (q w : Bool) → eqb x t ≡ q → eqb (get_or s x 0) waiting ≡ w → actives s (without t l) ≡ without t (actives s l)
        → actives s (pick q l (x ∷ without t l)) ≡ without t (pick w (actives s l) (x ∷ actives s l))
    go true true q w ih = absurd (m (rw (← eqb-true x t q) (eqb-true (get_or s x 0) waiting w)))
    go true false q w ih = rw q
    go false true q w ih = rw w ih
    go false false q w ih = rw (q, w, ih)

-- a waiting thread may be taken out first
actives_skip : (s : List ℕ) (t : ℕ) (l : List ℕ) → Waits s t → actives s (without t l) ≡ actives s l
unfolding actives without
actives_skip s t [] e = refl
actives_skip s t (x ∷ l) e = go (eqb x t) refl (actives_skip s t l e)
  where
    go : (q : Bool) → eqb x t ≡ q → actives s (without t l) ≡ actives s l
        → actives s (pick q l (x ∷ without t l)) ≡ pick (eqb (get_or s x 0) waiting) (actives s l) (x ∷ actives s l)
    go true q ih = rw (eqb-true x t q, eq-eqb (get_or s t 0) waiting e)
    go false q ih = rw ih

-- ---- the moves of a turn

module _ (s l : List ℕ) (o : Once l) (t : ℕ) (fits : t < length s) (runs : Waits s t → ⊥) where
  -- a fork: c enters left of t, and both are ready
  pub actives_fork : (c : ℕ) → c < length s → (Memᴰ c l → ⊥) → actives (set (set s t ready) c ready) (left_of c t l) ≡ left_of c t (actives s l)
  actives_fork c h n =
      let s' : List ℕ = set (set s t ready) c ready in
      let i : c < length (set s t ready) = simp length-set h in
      let child : Waits s' c → ⊥ = λ e. omega (arith, get_or-set_same (set s t ready) c ready 0 i) in
      actives_left_of s' c t l child (thread (ℕ_discrete t c)) ∙ ap (left_of c t) (set_elsewhere (set s t ready) l c ready n ∙ actives_set s l t ready fits runs (λ e. omega arith))
    where
      thread : Dec (t ≡ c) → Waits (set (set s t ready) c ready) t → ⊥
      thread (yes e) w = let i : get_or (set (set s t ready) c ready) c 0 ≡ ready = get_or-set_same (set s t ready) c ready 0 (simp length-set h) in omega (arith, rw e at i, rw e at w)
      thread (no d) w = omega (arith, get_or-set_other (set s t ready) c t ready 0 d, get_or-set_same s t ready 0 fits)

  -- a wait: t leaves
  pub actives_wait : actives (set s t waiting) l ≡ without t (actives s l)
  actives_wait =
      sym (actives_skip (set s t waiting) t l (get_or-set_same s t waiting 0 fits)) ∙ set_elsewhere s (without t l) t waiting (once_gone t l o)
      ∙ actives_without s t l runs

  -- an end that wakes nobody: t leaves both lists
  pub actives_end : (y : ℕ) → actives (set s t y) (without t l) ≡ without t (actives s l)
  actives_end y = set_elsewhere s (without t l) t y (once_gone t l o) ∙ actives_without s t l runs

-- ---- a wake

pub actives_append : (s k l : List ℕ) → actives s (k ++ l) ≡ actives s k ++ actives s l
unfolding actives
actives_append s [] l = refl
actives_append s (x ∷ k) l = go (eqb (get_or s x 0) waiting) (actives_append s k l)
  where
    go : (q : Bool) → actives s (k ++ l) ≡ actives s k ++ actives s l
        → pick q (actives s (k ++ l)) (x ∷ actives s (k ++ l)) ≡ pick q (actives s k) (x ∷ actives s k) ++ actives s l
    go true ih = ih
    go false ih = rw ih

-- t's first place is behind a list in which it is not
pub left_of_after : (c t : ℕ) (k l : List ℕ) → (Memᴰ t k → ⊥) → left_of c t (k ++ t ∷ l) ≡ k ++ c ∷ t ∷ l
unfolding left_of
left_of_after c t [] l n = rw (eq-eqb t t refl)
left_of_after c t (x ∷ k) l n = rw (ne_eqb x t (λ e. n (mathlib.Core.List.Memᴰ.head (sym e))), left_of_after c t k l (λ m. n (mathlib.Core.List.Memᴰ.tail m)))

pub without_after : (t : ℕ) (k l : List ℕ) → (Memᴰ t k → ⊥) → without t (k ++ t ∷ l) ≡ k ++ l
unfolding without
without_after t [] l n = rw (eq-eqb t t refl)
without_after t (x ∷ k) l n = rw (ne_eqb x t (λ e. n (mathlib.Core.List.Memᴰ.head (sym e))), without_after t k l (λ m. n (mathlib.Core.List.Memᴰ.tail m)))

-- of a list in which nothing stands twice
pub once_after : (k l : List ℕ) (t : ℕ) → Once (k ++ t ∷ l) → (Memᴰ t k → ⊥) × (Memᴰ t l → ⊥)
unfolding Once
once_after [] l t o = (mathlib.Core.List.Memᴰ.not-nil, o.0)
once_after (x ∷ k) l t o = go (once_after k l t o.1)
  where
    go : (Memᴰ t k → ⊥) × (Memᴰ t l → ⊥) → (Memᴰ t (x ∷ k) → ⊥) × (Memᴰ t l → ⊥)
    go (p, q) = ((λ m. at (mathlib.Core.List.Memᴰ.cases_cons m)), q)
      where
        at : (t ≡ x) ⊎ Memᴰ t k → ⊥
        at (inl e) = o.0 (mathlib.Core.List.Memᴰ.append_right k (mathlib.Core.List.Memᴰ.head (sym e)))
        at (inr i) = p i

-- an end that wakes u: u enters left of t, which leaves
module _ (s : List ℕ) (t u : ℕ) (k r : List ℕ) (o : Once (k ++ t ∷ u ∷ r)) (place : u < length s) (runs : Waits s t → ⊥) (waits : Waits s u) where
  apart_t : (Memᴰ t k → ⊥) × (Memᴰ t (u ∷ r) → ⊥)
  apart_t = once_after k (u ∷ r) t o

  apart_u : (Memᴰ u (k ++ t ∷ []) → ⊥) × (Memᴰ u r → ⊥)
  apart_u = once_after (k ++ t ∷ []) r u (rw append_assoc o)

  -- the others wait as before
  wake_elsewhere : (y : ℕ) (l : List ℕ) → (Memᴰ t l → ⊥) → (Memᴰ u l → ⊥) → actives (set (set s t y) u ready) l ≡ actives s l
  wake_elsewhere y l n m = set_elsewhere (set s t y) l u ready m ∙ set_elsewhere s l t y n

  -- before and after, by the two parts
  woken : (y : ℕ) → actives (set (set s t y) u ready) (k ++ u ∷ r) ≡ actives s k ++ u ∷ actives s r
  unfolding actives
  woken y =
      let i : u < length (set s t y) = simp length-set place in
      let here : get_or (set (set s t y) u ready) u 0 ≡ ready = get_or-set_same (set s t y) u ready 0 i in
      let awake : eqb (get_or (set (set s t y) u ready) u 0) waiting ≡ false = ne_eqb (get_or (set (set s t y) u ready) u 0) waiting (λ e. omega (arith, here)) in
      actives_append (set (set s t y) u ready) k (u ∷ r)
      ∙ rw (awake, wake_elsewhere y k apart_t.0 (λ m. apart_u.0 (mathlib.Core.List.Memᴰ.append_left (t ∷ []) m)), wake_elsewhere y r (λ m. apart_t.1 (mathlib.Core.List.Memᴰ.tail m)) apart_u.1)

  asleep : actives s (k ++ t ∷ u ∷ r) ≡ actives s k ++ t ∷ actives s r
  unfolding actives
  asleep = actives_append s k (t ∷ u ∷ r) ∙ rw (ne_eqb (get_or s t 0) waiting runs, eq-eqb (get_or s u 0) waiting waits)

  pub actives_wake : (y : ℕ) → actives (set (set s t y) u ready) (without t (k ++ t ∷ u ∷ r)) ≡ without t (left_of u t (actives s (k ++ t ∷ u ∷ r)))
  actives_wake y =
      let gone : Memᴰ t (actives s k) → ⊥ = λ m. apart_t.0 (actives_old s t k m).0 in
      let free : Memᴰ t (actives s k ++ u ∷ []) → ⊥ = last in
      rw (without_after t k (u ∷ r) apart_t.0, woken y, asleep, left_of_after u t (actives s k) (actives s r) gone)
      (sym (ap (without t) (sym (append_assoc (actives s k) (u ∷ []) (t ∷ actives s r))) ∙ without_after t (actives s k ++ u ∷ []) (actives s r) free
      ∙ append_assoc (actives s k) (u ∷ []) (actives s r)))
    where
      last : Memᴰ t (actives s k ++ u ∷ []) → ⊥
      last m = go (mathlib.Core.List.Memᴰ.append_cases (actives s k) m)
        where
          go : Memᴰ t (actives s k) ⊎ Memᴰ t (u ∷ []) → ⊥
          go (inl i) = apart_t.0 (actives_old s t k i).0
          go (inr i) = apart_t.1 (mathlib.Core.List.Memᴰ.head (mathlib.Core.List.Memᴰ.eq_of_singleton i))
