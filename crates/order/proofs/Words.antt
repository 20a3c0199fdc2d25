-- The words in which the tests of a record are written: of each word, what it says when it is true.
use Rattle.std.specs.Prelude.{Err, Ok, Result, ⊤}
use Rattle.table.specs.declared.Refusal.{Refusal}
use mathlib.Core.Path.{◌≡◌, refl, sym, ◌∙◌}
use mathlib.Core.Logic.Iff
use mathlib.Core.Logic.{◌↔◌, ◌⊎◌, inl, inr, ⊎_elim}
use Prim.Native.Nat.{ℕ, zero, suc, ◌+◌, ◌≤◌, ◌<◌}
use native.Mathlib.Omega.{arith}
use native.Mathlib.Decide.{ℕ_discrete, dec_lt}
use mathlib.Core.List.Memᴰ
use mathlib.Core.List.{List, [], ◌∷◌, ◌++◌, Memᴰ}
use mathlib.Core.Bool.{Bool, true, false, not, ◌&&◌, ◌||◌}
use lib.ListN.{length}
use lib.Dec.{ltb, leb, eqb}
use borrow.Author.Tests.{ltb-true, lt-ltb, le-ltb, leb-true, le-leb, eqb-true, eqb-false, eq-eqb, ne_eqb, not-true}
use Rattle.table.specs.Sum.{pick, sum_to}
use Rattle.table.proofs.Tests.{no_way}
use Rattle.table.proofs.Sums.{sum_to_zero}
pub use Rattle.std.proofs.lemmas.Bool.{false_from_ne_true as never_true, true_from_ne_false as never_false}
use Rattle.order.specs.Words.{all_below, all_in, member, count_below, agree, place_in, rises_from, rises, same_list, is_nothing}

-- ---- tests and truth values

pub and_exactly : (s t : Bool) → ((s && t) ≡ true) ↔ ((s ≡ true) × (t ≡ true))
and_exactly true t = ((λ e. (refl, e)), (λ p. p.1))
and_exactly false t = ((λ e. (e, cc)), (λ p. p.0))

pub or_exactly : (s t : Bool) → ((s || t) ≡ true) ↔ ((s ≡ true) ⊎ (t ≡ true))
or_exactly true t = ((λ e. inl refl), (λ p. refl))
or_exactly false t = ((λ e. inr e), ⊎_elim (λ e. cc) (λ e. e))

pub not_exactly : (s : Bool) → (not s ≡ true) ↔ (s ≡ false)
not_exactly true = ((λ e. cc), (λ e. cc))
not_exactly false = ((λ e. refl), (λ e. refl))

-- a test that follows from another
pub implies_exactly : (s t : Bool) → ((not s || t) ≡ true) ↔ (s ≡ true → t ≡ true)
implies_exactly true t = ((λ e p. e), (λ h. h refl))
implies_exactly false t = ((λ e p. no_way (cc)), (λ h. refl))

pub agree_exactly : (s t : Bool) → (agree s t ≡ true) ↔ (s ≡ t)
agree_exactly true t = (sym, sym)
agree_exactly false true = ((λ e. cc), (λ e. cc))
agree_exactly false false = ((λ e. refl), (λ e. refl))

-- the same where what the two tests say is known
pub and_of : {s t : Bool} {A B : Type 0} → (s ≡ true) ↔ A → (t ≡ true) ↔ B → ((s && t) ≡ true) ↔ (A × B)
and_of p q = Iff.trans (and_exactly _ _) (Iff.and p q)

pub implies_of : {s t : Bool} {A B : Type 0} → (s ≡ true) ↔ A → (t ≡ true) ↔ B → ((not s || t) ≡ true) ↔ (A → B)
implies_of p q = ((λ e a. q.0 ((implies_exactly _ _).0 e (p.1 a))), (λ h. (implies_exactly _ _).1 (λ e. q.1 (h (p.0 e)))))

-- two tests that are true together are the same
pub same_truth : (s t : Bool) → (s ≡ true → t ≡ true) → (t ≡ true → s ≡ true) → s ≡ t
same_truth true t f g = sym (f refl)
same_truth false true f g = g refl
same_truth false false f g = refl

pub agree_of : {s t : Bool} {A B : Type 0} → (s ≡ true) ↔ A → (t ≡ true) ↔ B → (agree s t ≡ true) ↔ (A ↔ B)
agree_of {s} {t} p q = (
  (λ e. ((λ a. q.0 (sym ((agree_exactly _ _).0 e) ∙ p.1 a)), (λ b. p.0 ((agree_exactly _ _).0 e ∙ q.1 b)))),
  (λ h. (agree_exactly _ _).1 (same_truth s t (λ e. q.1 (h.0 (p.0 e))) (λ e. p.1 (h.1 (q.0 e))))),
)

pub pick_of : (c : Bool) {s t : Bool} {A B : Type 0} → (s ≡ true) ↔ A → (t ≡ true) ↔ B → (pick c s t ≡ true) ↔ ((c ≡ true → A) × (c ≡ false → B))
pick_of true p q = ((λ e. ((λ h. p.0 e), (λ h. no_way (cc)))), (λ h. p.1 (h.0 refl)))
pick_of false p q = ((λ e. ((λ h. no_way (cc)), (λ h. q.0 e))), (λ h. q.1 (h.1 refl)))

pub not_both : (s : Bool) → s ≡ true → s ≡ false → ⊥
not_both s e f = no_way (cc)

pub ltb_exactly : (a b : ℕ) → (ltb a b ≡ true) ↔ (a < b)
ltb_exactly a b = (ltb-true a b, lt-ltb a b)

-- one more lets by the number itself alone
pub ltb_next : (d a : ℕ) → (d ≡ a → ⊥) → ltb d (suc a) ≡ ltb d a
ltb_next d a n = go (dec_lt d a)
  where
    go : Dec (d < a) → ltb d (suc a) ≡ ltb d a
    go (yes h) = cc (lt-ltb d a h, lt-ltb d (suc a) (omega arith))
    go (no h) = cc (le-ltb d a (omega arith), le-ltb d (suc a) (omega (arith, n)))

pub leb_exactly : (a b : ℕ) → (leb a b ≡ true) ↔ (a ≤ b)
leb_exactly a b = (leb-true a b, le-leb a b)

pub eqb_exactly : (a b : ℕ) → (eqb a b ≡ true) ↔ (a ≡ b)
eqb_exactly a b = (eqb-true a b, eq-eqb a b)

pub eqb_same : (x y z : ℕ) → (x ≡ z → y ≡ z) → (y ≡ z → x ≡ z) → eqb x z ≡ eqb y z
eqb_same x y z to back = go (ℕ_discrete x z)
  where
    go : Dec (x ≡ z) → eqb x z ≡ eqb y z
    go (yes e) = cc (eq-eqb x z e, eq-eqb y z (to e))
    go (no n) = cc (ne_eqb x z n, ne_eqb y z (λ e. n (back e)))

pub not_eqb_exactly : (a b : ℕ) → (not (eqb a b) ≡ true) ↔ (a ≡ b → ⊥)
not_eqb_exactly a b = ((λ e. eqb-false a b (not-true _ e)), (λ h. (not_exactly (eqb a b)).1 (ne_eqb a b h)))

pub is_nothing_exactly : (f : Result ⊤ Refusal) → (is_nothing f ≡ true) ↔ (f ≡ Ok tt)
is_nothing_exactly (Ok _) = ((λ e. refl), (λ e. refl))
is_nothing_exactly (Err x) = ((λ e. cc), (λ e. no_way (cc)))

-- ---- all of the numbers below, all of a list

pub all_below_exactly : (f : ℕ → Bool) (k : ℕ) → (all_below f k ≡ true) ↔ ((i : ℕ) → i < k → f i ≡ true)
unfolding all_below
all_below_exactly f zero = ((λ e i h. no_way (omega arith)), (λ h. refl))
all_below_exactly f (suc k) = (
  (λ e i h. at ((and_exactly (all_below f k) (f k)).0 e) (all_below_exactly f k).0 i h (ℕ_discrete i k)),
  (λ h. (and_exactly (all_below f k) (f k)).1 ((all_below_exactly f k).1 (λ i l. h i (omega arith)), h k (omega arith))),
)
  where
    at : (all_below f k ≡ true) × (f k ≡ true) → (all_below f k ≡ true → (i : ℕ) → i < k → f i ≡ true) → (i : ℕ) → i < suc k → Dec (i ≡ k) → f i ≡ true
    at p ih i h (yes e) = rw e p.1
    at p ih i h (no d) = let q : i ≡ k → ⊥ = d in ih p.0 i (omega (arith, q))

pub all_in_exactly : (f : ℕ → Bool) (l : List ℕ) → (all_in f l ≡ true) ↔ ((x : ℕ) → Memᴰ x l → f x ≡ true)
unfolding all_in
all_in_exactly f [] = ((λ e x m. absurd (Memᴰ.not-nil m)), (λ h. refl))
all_in_exactly f (y ∷ l) = (
  (λ e x m. at ((and_exactly (f y) (all_in f l)).0 e) (all_in_exactly f l).0 x (Memᴰ.cases_cons m)),
  (λ h. (and_exactly (f y) (all_in f l)).1 (h y (Memᴰ.head refl), (all_in_exactly f l).1 (λ x m. h x (Memᴰ.tail m)))),
)
  where
    at : (f y ≡ true) × (all_in f l ≡ true) → (all_in f l ≡ true → (x : ℕ) → Memᴰ x l → f x ≡ true) → (x : ℕ) → (x ≡ y) ⊎ Memᴰ x l → f x ≡ true
    at p ih x (inl e) = rw e p.0
    at p ih x (inr m) = ih p.1 x m

pub member_exactly : (x : ℕ) (l : List ℕ) → (member x l ≡ true) ↔ Memᴰ x l
unfolding member
member_exactly x [] = ((λ e. no_way (cc)), (λ m. absurd (Memᴰ.not-nil m)))
member_exactly x (y ∷ l) = (
  (λ e. there (member_exactly x l).0 ((or_exactly (eqb x y) (member x l)).0 e)),
  (λ m. (or_exactly (eqb x y) (member x l)).1 (back (member_exactly x l).1 (Memᴰ.cases_cons m))),
)
  where
    there : (member x l ≡ true → Memᴰ x l) → (eqb x y ≡ true) ⊎ (member x l ≡ true) → Memᴰ x (y ∷ l)
    there ih (inl e) = Memᴰ.head (eqb-true x y e)
    there ih (inr e) = Memᴰ.tail (ih e)

    back : (Memᴰ x l → member x l ≡ true) → (x ≡ y) ⊎ Memᴰ x l → (eqb x y ≡ true) ⊎ (member x l ≡ true)
    back ih (inl e) = inl (eq-eqb x y e)
    back ih (inr m) = inr (ih m)

pub same_list_exactly : (k l : List ℕ) → (same_list k l ≡ true) ↔ (k ≡ l)
unfolding same_list
same_list_exactly [] [] = ((λ e. refl), (λ e. refl))
same_list_exactly [] (y ∷ l) = ((λ e. cc), (λ e. no_way (cc)))
same_list_exactly (x ∷ k) [] = ((λ e. cc), (λ e. no_way (cc)))
same_list_exactly (x ∷ k) (y ∷ l) = (
  (λ e. cons ((and_exactly (eqb x y) (same_list k l)).0 e) (same_list_exactly k l).0),
  (λ e. (and_exactly (eqb x y) (same_list k l)).1 (eq-eqb x y (cc), (same_list_exactly k l).1 (cc))),
)
  where
    cons : (eqb x y ≡ true) × (same_list k l ≡ true) → (same_list k l ≡ true → k ≡ l) → ◌≡◌ {A = List ℕ} (x ∷ k) (y ∷ l)
    cons p ih = cc (eqb-true x y p.0, ih p.1)

-- ---- how many

pick_zero : (t : Bool) → (◌≡◌ {A = ℕ} (pick t 1 0) 0) ↔ (t ≡ false)
pick_zero true = ((λ e. cc), (λ e. cc))
pick_zero false = ((λ e. refl), (λ e. refl))

count_none : (f : ℕ → Bool) (k : ℕ) → count_below f k ≡ 0 → (i : ℕ) → i < k → f i ≡ false
unfolding sum_to
count_none f zero e i h = no_way (omega arith)
count_none f (suc k) e i h = at (count_none f k) (ℕ_discrete i k)
  where
    at : (count_below f k ≡ 0 → (j : ℕ) → j < k → f j ≡ false) → Dec (i ≡ k) → f i ≡ false
    at ih (yes d) = rw d ((pick_zero (f k)).0 (omega arith))
    at ih (no d) = let q : i ≡ k → ⊥ = d in ih (omega arith) i (omega (arith, q))

-- none of the numbers below k passes
pub count_below_none : (f : ℕ → Bool) (k : ℕ) → (count_below f k ≡ 0) ↔ ((i : ℕ) → i < k → f i ≡ false)
count_below_none f k = (count_none f k, (λ h. sum_to_zero (λ i. pick (f i) 1 0) k (λ i l. (pick_zero (f i)).1 (h i l))))

-- one of the numbers below k passes, and no other does
pub record One (f : ℕ → Bool) (k : ℕ) : Type 0 where
  pub at : ℕ
  pub below : at < k
  pub passes : f at ≡ true
  pub alone : (i : ℕ) → i < k → f i ≡ true → i ≡ at

count_one : (f : ℕ → Bool) (k : ℕ) → count_below f k ≡ 1 → One f k
unfolding sum_to
count_one f zero e = no_way e
count_one f (suc k) e = go (f k) refl e (count_one f k)
  where
    go : (t : Bool) → f k ≡ t → count_below f k + pick t 1 0 ≡ 1 → (count_below f k ≡ 1 → One f k) → One f (suc k)
    go true q p ih = record { at = k; below = omega arith; passes = q; alone = alone }
      where
        alone : (i : ℕ) → i < suc k → f i ≡ true → i ≡ k
        alone i h r = by_order (ℕ_discrete i k)
          where
            by_order : Dec (i ≡ k) → i ≡ k
            by_order (yes d) = d
            by_order (no d) =
                let n : i ≡ k → ⊥ = d in
                absurd (not_both (f i) r ((count_below_none f k).0 (omega arith) i (omega (arith, n))))
    go false q p ih = record { at = o.at; below = omega (arith, o.below); passes = o.passes; alone = alone }
      where
        o : One f k
        o = ih (omega arith)

        alone : (i : ℕ) → i < suc k → f i ≡ true → i ≡ o.at
        alone i h r = by_order (ℕ_discrete i k)
          where
            by_order : Dec (i ≡ k) → i ≡ o.at
            by_order (yes d) = no_way (cc)
            by_order (no d) = let n : i ≡ k → ⊥ = d in o.alone i (omega (arith, n)) r

one_count : (f : ℕ → Bool) (k : ℕ) → One f k → count_below f k ≡ 1
unfolding sum_to
one_count f zero o = no_way (omega (arith, o.below))
one_count f (suc k) o = go (f k) refl (one_count f k)
  where
    go : (t : Bool) → f k ≡ t → (One f k → count_below f k ≡ 1) → count_below f k + pick t 1 0 ≡ 1
    go true q ih =
        let e : k ≡ o.at = o.alone k (omega arith) q in
        let z : count_below f k ≡ 0 = (count_below_none f k).1 (λ i l. never_true (f i) (λ r. absurd (omega (arith, o.alone i (omega arith) r)))) in
        omega arith
    go false q ih =
        let n : o.at ≡ k → ⊥ = λ e. let p : f o.at ≡ true = o.passes in no_way (cc) in
        let c : count_below f k ≡ 1 = ih (record { at = o.at; below = omega (arith, n, o.below); passes = o.passes; alone = λ i l r. o.alone i (omega arith) r }) in
        omega arith

pub count_below_one : (f : ℕ → Bool) (k : ℕ) → (count_below f k ≡ 1) ↔ One f k
count_below_one f k = (count_one f k, one_count f k)

-- ---- places in a list

pub place_in_below : (x : ℕ) (l : List ℕ) → Memᴰ x l → place_in x l < length l
unfolding place_in
place_in_below x [] m = absurd (Memᴰ.not-nil m)
place_in_below x (y ∷ l) m = go (eqb x y) refl (Memᴰ.cases_cons m) (place_in_below x l)
  where
    go : (t : Bool) → eqb x y ≡ t → (x ≡ y) ⊎ Memᴰ x l → (Memᴰ x l → place_in x l < length l) → pick t 0 (suc (place_in x l)) < suc (length l)
    go true q p ih = omega arith
    go false q (inl e) ih = absurd (eqb-false x y q e)
    go false q (inr n) ih = omega (arith, ih n)

-- ---- lists that rise

-- f ascends along a list: at every element it is lower than at all that stand right of it
unfoldable pub Ascends : (ℕ → ℕ) → List ℕ → Type 0
Ascends f [] = Unit {0}
Ascends f (x ∷ l) = ((y : ℕ) → Memᴰ y l → f x < f y) × Ascends f l

pub ascends_front : (f : ℕ → ℕ) (k l : List ℕ) → Ascends f (k ++ l) → Ascends f k
unfolding Ascends
ascends_front f [] l a = tt
ascends_front f (x ∷ k) l a = ((λ y m. a.0 y (Memᴰ.append_left l m)), ascends_front f k l a.1)

pub ascends_back : (f : ℕ → ℕ) (k l : List ℕ) → Ascends f (k ++ l) → Ascends f l
unfolding Ascends
ascends_back f [] l a = a
ascends_back f (x ∷ k) l a = ascends_back f k l a.1

module _ (f : ℕ → ℕ) where
  rises_tail : (x : ℕ) (l : List ℕ) → rises f (x ∷ l) ≡ true → rises f l ≡ true
  unfolding rises
  rises_tail x [] e = refl
  rises_tail x (y ∷ l) e = ((and_exactly (ltb (f x) (f y)) (rises_from f y l)).0 e).1

  -- the first is the lowest
  rises_head : (x : ℕ) (l : List ℕ) → rises f (x ∷ l) ≡ true → (y : ℕ) → Memᴰ y l → f x < f y
  unfolding rises
  rises_head x [] e y m = absurd (Memᴰ.not-nil m)
  rises_head x (z ∷ l) e y m =
      let p : (ltb (f x) (f z) ≡ true) × (rises_from f z l ≡ true) = (and_exactly (ltb (f x) (f z)) (rises_from f z l)).0 e in
      go (ltb-true (f x) (f z) p.0) (rises_head z l p.1 y) (Memᴰ.cases_cons m)
    where
      go : f x < f z → (Memᴰ y l → f z < f y) → (y ≡ z) ⊎ Memᴰ y l → f x < f y
      go h ih (inl d) = rw d h
      go h ih (inr n) = omega (arith, ih n)

  rises_ascends : (l : List ℕ) → rises f l ≡ true → Ascends f l
  unfolding Ascends
  rises_ascends [] e = tt
  rises_ascends (x ∷ l) e = (rises_head x l e, rises_ascends l (rises_tail x l e))

  ascends_rises : (l : List ℕ) → Ascends f l → rises f l ≡ true
  unfolding rises Ascends
  ascends_rises [] c = refl
  ascends_rises (x ∷ []) c = refl
  ascends_rises (x ∷ y ∷ l) c =
      (and_exactly (ltb (f x) (f y)) (rises_from f y l)).1 (lt-ltb (f x) (f y) (c.0 y (Memᴰ.head refl)), ascends_rises (y ∷ l) c.1)

  pub rises_exactly : (l : List ℕ) → (rises f l ≡ true) ↔ Ascends f l
  rises_exactly l = (rises_ascends l, ascends_rises l)
