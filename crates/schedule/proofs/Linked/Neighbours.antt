-- The neighbours of a thread in a list, and how they change where a thread enters left of another and where one leaves: at three threads at most.
use mathlib.Core.Path.{◌≡◌, refl, sym, ap, ◌∙◌}
use Prim.Native.Nat.{ℕ, ◌<◌}
use native.Mathlib.Omega.{arith}
use mathlib.Core.List.Memᴰ
use mathlib.Core.List.{List, [], ◌∷◌, Memᴰ}
use mathlib.Core.Bool.{Bool, true, false}
use mathlib.Core.Logic.{◌⊎◌, inl, inr}
use lib.Dec.{ltb, eqb}
use borrow.Author.Tests.{eqb-true, eqb-false, eq-eqb, ne_eqb, lt-ltb}
use Rattle.table.specs.Sum.{pick}
use Rattle.table.proofs.Tests.{no_way}
use Rattle.schedule.specs.Machine.{left_of, without}
use Rattle.schedule.specs.Links.{no_thread, head_of, right_in, left_after, left_in}
use Rattle.order.proofs.Lists.{Below}
use Rattle.schedule.proofs.Linked.Once.{Once}

-- ---- neighbours, thread by thread

pub right_in_here : (u : ℕ) (l : List ℕ) → right_in (u ∷ l) u ≡ head_of l
unfolding right_in
right_in_here u l = rw (eq-eqb u u refl)

pub right_in_later : (u v : ℕ) (l : List ℕ) → (u ≡ v → ⊥) → right_in (u ∷ l) v ≡ right_in l v
unfolding right_in
right_in_later u v l d = rw (ne_eqb u v d)

pub left_after_later : (y u v : ℕ) (l : List ℕ) → (u ≡ v → ⊥) → left_after y (u ∷ l) v ≡ left_after u l v
unfolding left_after
left_after_later y u v l d = rw (ne_eqb u v d)

-- a thread that is not in the list has none
pub right_in_out : (v : ℕ) (l : List ℕ) → (Memᴰ v l → ⊥) → right_in l v ≡ no_thread
unfolding right_in
right_in_out v [] n = refl
right_in_out v (x ∷ l) n = right_in_later x v l (λ e. n (Memᴰ.head (sym e))) ∙ right_in_out v l (λ m. n (Memᴰ.tail m))

pub left_after_out : (y v : ℕ) (l : List ℕ) → (Memᴰ v l → ⊥) → left_after y l v ≡ no_thread
unfolding left_after
left_after_out y v [] n = refl
left_after_out y v (x ∷ l) n = left_after_later y x v l (λ e. n (Memᴰ.head (sym e))) ∙ left_after_out x v l (λ m. n (Memᴰ.tail m))

-- a neighbour is in the list
pub left_after_in : (y t : ℕ) (l : List ℕ) → Memᴰ t l → Memᴰ (left_after y l t) (y ∷ l)
unfolding left_after
left_after_in y t [] m = absurd (Memᴰ.not-nil m)
left_after_in y t (x ∷ l) m = go (eqb x t) refl (left_after_in x t l) (Memᴰ.cases_cons m)
  where
    go : (q : Bool) → eqb x t ≡ q → (Memᴰ t l → Memᴰ (left_after x l t) (x ∷ l)) → (t ≡ x) ⊎ Memᴰ t l
        → Memᴰ (pick q y (left_after x l t)) (y ∷ x ∷ l)
    go true q ih s = Memᴰ.head refl
    go false q ih (inl e) = absurd (eqb-false x t q (sym e))
    go false q ih (inr i) = Memᴰ.tail (ih i)

first_of_in : (l : List ℕ) → (head_of l ≡ no_thread) ⊎ Memᴰ (head_of l) l
first_of_in [] = inl refl
first_of_in (x ∷ l) = inr (Memᴰ.head refl)

pub right_in_in : (t : ℕ) (l : List ℕ) → (right_in l t ≡ no_thread) ⊎ Memᴰ (right_in l t) l
unfolding right_in
right_in_in t [] = inl refl
right_in_in t (x ∷ l) = go (eqb x t) (right_in_in t l)
  where
    later : (v : ℕ) → (v ≡ no_thread) ⊎ Memᴰ v l → (v ≡ no_thread) ⊎ Memᴰ v (x ∷ l)
    later v (inl e) = inl e
    later v (inr m) = inr (Memᴰ.tail m)

    go : (q : Bool) → (right_in l t ≡ no_thread) ⊎ Memᴰ (right_in l t) l
        → (pick q (head_of l) (right_in l t) ≡ no_thread) ⊎ Memᴰ (pick q (head_of l) (right_in l t)) (x ∷ l)
    go true ih = later (head_of l) (first_of_in l)
    go false ih = later (right_in l t) ih

-- ---- choices

-- a choice that excludes two others may be made first or last
pub choose_last : (a b c : Bool) (x y z r : ℕ) → (a ≡ true → b ≡ false) → (a ≡ true → c ≡ false) → pick a x (pick b y (pick c z r)) ≡ pick b y (pick c z (pick a x r))
choose_last true true c x y z r p q = no_way (cc (p refl))
choose_last true false true x y z r p q = no_way (cc (q refl))
choose_last true false false x y z r p q = refl
choose_last false b c x y z r p q = refl

choose_again : (a : Bool) (x y r : ℕ) → pick a x r ≡ pick a x (pick a y r)
choose_again true x y r = refl
choose_again false x y r = refl

pub choose_either : (a b : Bool) (x y r : ℕ) → (a ≡ true → b ≡ false) → pick a x (pick b y r) ≡ pick b y (pick a x (pick a y r))
choose_either true true x y r p = no_way (cc (p refl))
choose_either true false x y r p = refl
choose_either false true x y r p = refl
choose_either false false x y r p = refl

-- what a second choice would leave alone, made before
choose_out : (a b : Bool) (x y z w r : ℕ) → (b ≡ true → a ≡ false) → (b ≡ true → r ≡ w) → pick a x r ≡ pick b w (pick a x (pick a y (pick b z r)))
choose_out true true x y z w r p q = no_way (cc (p refl))
choose_out true false x y z w r p q = refl
choose_out false true x y z w r p q = q refl
choose_out false false x y z w r p q = refl

-- two names that differ are not both v
pub apart : (x y v : ℕ) → (y ≡ x → ⊥) → eqb x v ≡ true → eqb y v ≡ false
apart x y v d e = ne_eqb y v (λ i. d (i ∙ sym (eqb-true x v e)))

-- ---- c enters directly left of t

module _ (c t : ℕ) where
  right_left_of : (y v : ℕ) (l : List ℕ) → (c ≡ y → ⊥) → (Memᴰ c l → ⊥) → Once (y ∷ l) → Memᴰ t l
      → right_in (y ∷ left_of c t l) v ≡ pick (eqb c v) t (pick (eqb (left_after y l t) v) c (right_in (y ∷ l) v))
  unfolding right_in left_after left_of Once
  right_left_of y v [] d n o m = absurd (Memᴰ.not-nil m)
  right_left_of y v (x ∷ l) d n o m =
      go (eqb x t) refl (right_left_of x v l (λ e. n (Memᴰ.head e)) (λ i. n (Memᴰ.tail i)) o.1) (Memᴰ.cases_cons m)
    where
      go : (q : Bool) → eqb x t ≡ q
          → (Memᴰ t l → right_in (x ∷ left_of c t l) v ≡ pick (eqb c v) t (pick (eqb (left_after x l t) v) c (right_in (x ∷ l) v)))
          → (t ≡ x) ⊎ Memᴰ t l
          → right_in (y ∷ pick q (c ∷ x ∷ l) (x ∷ left_of c t l)) v ≡ pick (eqb c v) t (pick (eqb (pick q y (left_after x l t)) v) c (right_in (y ∷ x ∷ l) v))
      go true q ih s = rw (eqb-true x t q) (choose_either (eqb y v) (eqb c v) c t (right_in (t ∷ l) v) (apart y c v d))
      go false q ih (inl e) = absurd (eqb-false x t q (sym e))
      go false q ih (inr i) =
          ap (λ (r : ℕ). pick (eqb y v) x r) (ih i)
          ∙ choose_last (eqb y v) (eqb c v) (eqb (left_after x l t) v) x t c (right_in (x ∷ l) v) (apart y c v d)
          (apart y (left_after x l t) v (λ e. o.0 (Memᴰ.cast (sym e) (left_after_in x t l i))))

  left_left_of : (y v : ℕ) (l : List ℕ) → (Memᴰ c l → ⊥) → Memᴰ t l
      → left_after y (left_of c t l) v ≡ pick (eqb c v) (left_after y l t) (pick (eqb t v) c (left_after y l v))
  unfolding left_after left_of
  left_left_of y v [] n m = absurd (Memᴰ.not-nil m)
  left_left_of y v (x ∷ l) n m = go (eqb x t) refl (left_left_of x v l (λ i. n (Memᴰ.tail i))) (Memᴰ.cases_cons m)
    where
      go : (q : Bool) → eqb x t ≡ q
          → (Memᴰ t l → left_after x (left_of c t l) v ≡ pick (eqb c v) (left_after x l t) (pick (eqb t v) c (left_after x l v)))
          → (t ≡ x) ⊎ Memᴰ t l
          → left_after y (pick q (c ∷ x ∷ l) (x ∷ left_of c t l)) v ≡ pick (eqb c v) (pick q y (left_after x l t)) (pick (eqb t v) c (left_after y (x ∷ l) v))
      go true q ih s = rw (eqb-true x t q) (ap (λ (r : ℕ). pick (eqb c v) y r) (choose_again (eqb t v) c y (left_after t l v)))
      go false q ih (inl e) = absurd (eqb-false x t q (sym e))
      go false q ih (inr i) =
          ap (λ (r : ℕ). pick (eqb x v) y r) (ih i)
          ∙ choose_last (eqb x v) (eqb c v) (eqb t v) y (left_after x l t) c (left_after x l v) (apart x c v (λ e. n (Memᴰ.head e)))
          (apart x t v (λ e. eqb-false x t q (sym e)))

-- ---- t leaves

module _ (t : ℕ) where
  right_without : (y v : ℕ) (l : List ℕ) → (t ≡ y → ⊥) → Once (y ∷ l) → Memᴰ t l
      → right_in (y ∷ without t l) v ≡ pick (eqb t v) no_thread (pick (eqb (left_after y l t) v) (right_in l t) (right_in (y ∷ l) v))
  unfolding right_in left_after without Once
  right_without y v [] d o m = absurd (Memᴰ.not-nil m)
  right_without y v (x ∷ l) d o m = go (eqb x t) refl (λ (n : t ≡ x → ⊥). right_without x v l n o.1) (Memᴰ.cases_cons m)
    where
      go : (q : Bool) → eqb x t ≡ q
          → ((t ≡ x → ⊥) → Memᴰ t l
          → right_in (x ∷ without t l) v ≡ pick (eqb t v) no_thread (pick (eqb (left_after x l t) v) (right_in l t) (right_in (x ∷ l) v)))
          → (t ≡ x) ⊎ Memᴰ t l
          → right_in (y ∷ pick q l (x ∷ without t l)) v
          ≡ pick (eqb t v) no_thread (pick (eqb (pick q y (left_after x l t)) v) (pick q (head_of l) (right_in l t)) (right_in (y ∷ x ∷ l) v))
      go true q ih s =
          let e : x ≡ t = eqb-true x t q in
          rw e
          (choose_out (eqb y v) (eqb t v) (head_of l) t (head_of l) no_thread (right_in l v) (apart t y v (λ i. d (sym i)))
          (λ g. right_in_out v l (λ i. o.1.0 (Memᴰ.cast (e ∙ eqb-true t v g) i))))
      go false q ih (inl e) = absurd (eqb-false x t q (sym e))
      go false q ih (inr i) =
          ap (λ (r : ℕ). pick (eqb y v) x r) (ih (λ e. eqb-false x t q (sym e)) i)
          ∙ choose_last (eqb y v) (eqb t v) (eqb (left_after x l t) v) x no_thread (right_in l t) (right_in (x ∷ l) v) (apart y t v d)
          (apart y (left_after x l t) v (λ e. o.0 (Memᴰ.cast (sym e) (left_after_in x t l i))))

  -- t was the first
  left_second : (y v : ℕ) (l : List ℕ) → v < no_thread → (Memᴰ t l → ⊥)
      → left_after y l v ≡ pick (eqb t v) no_thread (pick (eqb (head_of l) v) y (pick (eqb t v) y (left_after t l v)))
  unfolding left_after
  left_second y v [] h n = rw (ne_eqb no_thread v (λ e. omega arith)) (go (eqb t v))
    where
      go : (q : Bool) → ◌≡◌ {A = ℕ} no_thread (pick q no_thread (pick q y no_thread))
      go true = refl
      go false = refl
  left_second y v (z ∷ l) h n =
      choose_out' (eqb z v) (eqb t v) (left_after z l v) (apart t z v (λ e. n (Memᴰ.head (sym e))))
      (λ g. left_after_out z v l (λ i. n (Memᴰ.tail (Memᴰ.cast (eqb-true t v g) i))))
    where
      choose_out' : (a b : Bool) (r : ℕ) → (b ≡ true → a ≡ false) → (b ≡ true → r ≡ no_thread)
          → pick a y r ≡ pick b no_thread (pick a y (pick b y (pick a t r)))
      choose_out' true true r p q = no_way (cc (p refl))
      choose_out' true false r p q = refl
      choose_out' false true r p q = q refl
      choose_out' false false r p q = refl

  left_without : (y v : ℕ) (l : List ℕ) → v < no_thread → Once l → Memᴰ t l
      → left_after y (without t l) v ≡ pick (eqb t v) no_thread (pick (eqb (right_in l t) v) (left_after y l t) (left_after y l v))
  unfolding right_in left_after without Once
  left_without y v [] h o m = absurd (Memᴰ.not-nil m)
  left_without y v (x ∷ l) h o m = go (eqb x t) refl (left_without x v l h o.1) (Memᴰ.cases_cons m)
    where
      other : (right_in l t ≡ no_thread) ⊎ Memᴰ (right_in l t) l → eqb x v ≡ true → eqb (right_in l t) v ≡ false
      other (inl e) g = ne_eqb (right_in l t) v (λ i. omega arith)
      other (inr i) g = apart x (right_in l t) v (λ e. o.0 (Memᴰ.cast (sym e) i)) g

      go : (q : Bool) → eqb x t ≡ q
          → (Memᴰ t l → left_after x (without t l) v ≡ pick (eqb t v) no_thread (pick (eqb (right_in l t) v) (left_after x l t) (left_after x l v)))
          → (t ≡ x) ⊎ Memᴰ t l
          → left_after y (pick q l (x ∷ without t l)) v
          ≡ pick (eqb t v) no_thread (pick (eqb (pick q (head_of l) (right_in l t)) v) (pick q y (left_after x l t)) (left_after y (x ∷ l) v))
      go true q ih s =
          let e : x ≡ t = eqb-true x t q in
          rw e (left_second y v l h (λ i. o.0 (Memᴰ.cast e i)))
      go false q ih (inl e) = absurd (eqb-false x t q (sym e))
      go false q ih (inr i) =
          ap (λ (r : ℕ). pick (eqb x v) y r) (ih i)
          ∙ choose_last (eqb x v) (eqb t v) (eqb (right_in l t) v) y no_thread (left_after x l t) (left_after x l v) (apart x t v (λ e. eqb-false x t q (sym e)))
          (other (right_in_in t l))

-- ---- the same for whole lists of threads

module _ (l : List ℕ) (o : Once l) (b : Below no_thread l) (t : ℕ) (m : Memᴰ t l) where
  fresh : Once (no_thread ∷ l)
  unfolding Once
  fresh = ((λ i. omega (arith, b no_thread i)), o)

  real : (v : ℕ) → v < no_thread → no_thread ≡ v → ⊥
  real v h e = omega arith

  pub right_in_left_of : (c v : ℕ) → c < no_thread → v < no_thread → (Memᴰ c l → ⊥)
      → right_in (left_of c t l) v ≡ pick (eqb c v) t (pick (eqb (left_in l t) v) c (right_in l v))
  right_in_left_of c v h i n =
      sym (right_in_later no_thread v (left_of c t l) (real v i)) ∙ right_left_of c t no_thread v l (λ e. omega arith) n fresh m
      ∙ rw (right_in_later no_thread v l (real v i))

  pub left_in_left_of : (c v : ℕ) → (Memᴰ c l → ⊥) → left_in (left_of c t l) v ≡ pick (eqb c v) (left_in l t) (pick (eqb t v) c (left_in l v))
  left_in_left_of c v n = left_left_of c t no_thread v l n m

  pub right_in_without : (v : ℕ) → v < no_thread → right_in (without t l) v ≡ pick (eqb t v) no_thread (pick (eqb (left_in l t) v) (right_in l t) (right_in l v))
  right_in_without v i =
      sym (right_in_later no_thread v (without t l) (real v i)) ∙ right_without t no_thread v l (λ e. omega (arith, b t m)) fresh m
      ∙ rw (right_in_later no_thread v l (real v i))

  pub left_in_without : (v : ℕ) → v < no_thread → left_in (without t l) v ≡ pick (eqb t v) no_thread (pick (eqb (right_in l t) v) (left_in l t) (left_in l v))
  left_in_without v i = left_without t no_thread v l i o m

-- the leftmost thread stays, unless t has none left of it
module _ (t : ℕ) where
  pub first_left_of : (c : ℕ) (l : List ℕ) → Below no_thread l → Memᴰ t l → head_of (left_of c t l) ≡ pick (ltb (left_in l t) no_thread) (head_of l) c
  unfolding left_after left_of
  first_left_of c [] b m = absurd (Memᴰ.not-nil m)
  first_left_of c (x ∷ l) b m = go (eqb x t) refl (Memᴰ.cases_cons m)
    where
      go : (q : Bool) → eqb x t ≡ q → (t ≡ x) ⊎ Memᴰ t l
          → head_of (pick q (c ∷ x ∷ l) (x ∷ left_of c t l)) ≡ pick (ltb (pick q no_thread (left_after x l t)) no_thread) x c
      go true q s = refl
      go false q (inl e) = absurd (eqb-false x t q (sym e))
      go false q (inr i) = rw (lt-ltb (left_after x l t) no_thread (b (left_after x l t) (left_after_in x t l i)))

  pub first_without : (l : List ℕ) → Below no_thread l → Memᴰ t l → head_of (without t l) ≡ pick (ltb (left_in l t) no_thread) (head_of l) (right_in l t)
  unfolding left_after right_in without
  first_without [] b m = absurd (Memᴰ.not-nil m)
  first_without (x ∷ l) b m = go (eqb x t) refl (Memᴰ.cases_cons m)
    where
      go : (q : Bool) → eqb x t ≡ q → (t ≡ x) ⊎ Memᴰ t l
          → head_of (pick q l (x ∷ without t l)) ≡ pick (ltb (pick q no_thread (left_after x l t)) no_thread) x (pick q (head_of l) (right_in l t))
      go true q s = refl
      go false q (inl e) = absurd (eqb-false x t q (sym e))
      go false q (inr i) = rw (lt-ltb (left_after x l t) no_thread (b (left_after x l t) (left_after_in x t l i)))
