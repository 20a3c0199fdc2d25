-- Laying a row into links, from the last thread to the first: the links so far are those of the row's rest.
use mathlib.Core.Path.{◌≡◌, refl, ap, sym, ◌∙◌}
use Prim.Native.Nat.{ℕ, zero, suc, ◌+◌, ◌-◌, ◌≤◌, ◌<◌}
use native.Mathlib.Decide.{ℕ_discrete}
use native.Mathlib.Numerals.{add-one}
use native.Mathlib.Omega.{arith}
use mathlib.Core.List.{List, [], ◌∷◌}
use lib.Dec.{eqb}
use lib.ListN.{length, get_or, set, drop, replicate, length-set}
use lib.Seq.{drop-cons, drop-length, get_or-set_same, get_or-set_other, ext_get_or}
use borrow.Author.Tests.{eq-eqb, ne_eqb}
use Rattle.table.specs.Sum.{pick}
use Rattle.order.specs.Firsts.{firsts}
use Rattle.schedule.specs.Links.{no_thread, head_of, right_in, left_after, laid}
use Rattle.order.proofs.Lists.{firsts_length, firsts_at}
use Rattle.links.specs.Code.Steps.{left_there}

-- ---- rows of values

firsts_alike : (f : ℕ → ℕ) (a k x : ℕ) → ((t : ℕ) → f t ≡ x) → firsts f a k ≡ replicate k x
unfolding firsts
firsts_alike f a zero x e = refl
firsts_alike f a (suc k) x e = rw (e a, firsts_alike f (suc a) k x e)

-- a row with one value set, also past its end
firsts_set : (f : ℕ → ℕ) (k u x : ℕ) → set (firsts f 0 k) u x ≡ firsts (λ t. pick (eqb u t) x (f t)) 0 k
firsts_set f k u x =
    ext_get_or 0 (set (firsts f 0 k) u x) (firsts g 0 k) (length-set (firsts f 0 k) u x ∙ firsts_length f 0 k ∙ sym (firsts_length g 0 k))
    (λ t h.
    let b : t < k = omega (arith, length-set (firsts f 0 k) u x, firsts_length f 0 k) in
    at t b (ℕ_discrete t u) ∙ sym (value g t b))
  where
    g : ℕ → ℕ
    g = λ t. pick (eqb u t) x (f t)

    value : (v : ℕ → ℕ) (t : ℕ) → t < k → get_or (firsts v 0 k) t 0 ≡ v t
    value v t b = firsts_at v 0 k t b ∙ ap v (omega arith)

    at : (t : ℕ) → t < k → Dec (t ≡ u) → get_or (set (firsts f 0 k) u x) t 0 ≡ pick (eqb u t) x (f t)
    at t b (yes e) =
        let h : u < length (firsts f 0 k) = omega (arith, firsts_length f 0 k) in
        rw (e, eq-eqb u u refl) (get_or-set_same (firsts f 0 k) u x 0 h)
    at t b (no d) = rw (ne_eqb u t (λ e. d (sym e))) (get_or-set_other (firsts f 0 k) u t x 0 d ∙ value f t b)

-- ---- a thread and its neighbours in a row

pub left_first : (l : List ℕ) (i : ℕ) → i ≡ 0 → no_thread ≡ left_there l i
unfolding left_there
left_first l i e = rw (eq-eqb i 0 e)

pub left_there_lem : (l : List ℕ) (i : ℕ) → (i ≡ 0 → ⊥) → get_or l (i - 1) 0 ≡ left_there l i
unfolding left_there
left_there_lem l i d = rw (ne_eqb i 0 d)

-- ---- the links of the row's rest

-- the threads from place i on are laid
pub record LaidFrom (l left right : List ℕ) (i : ℕ) : Type 0 where
  pub within : i ≤ length l
  pub lefts : left ≡ firsts (left_after (left_there l i) (drop i l)) 0 no_thread
  pub rights : right ≡ firsts (right_in (drop i l)) 0 no_thread

pub laid_start : (l left right : List ℕ) → (left ≡ replicate 1024 no_thread) × (right ≡ replicate 1024 no_thread) → LaidFrom l left right (length l)
unfolding left_after right_in
laid_start l left right h =
    record {
      within = omega arith;
      lefts = h.0 ∙ rw (drop-length l) (sym (firsts_alike (left_after (left_there l (length l)) []) 0 no_thread no_thread (λ t. refl)));
      rights = h.1 ∙ rw (drop-length l) (sym (firsts_alike (right_in []) 0 no_thread no_thread (λ t. refl)));
    }

-- the thread at place j comes to those after it
laid_more : (l left right : List ℕ) (j : ℕ) → LaidFrom l left right (j + 1)
    → LaidFrom l (set left (get_or l j 0) (left_there l j)) (set right (get_or l j 0) (head_of (drop (j + 1) l))) j
unfolding left_after right_in
laid_more l left right j h =
    let u : ℕ = get_or l j 0 in
    let d : List ℕ = drop (j + 1) l in
    let e : drop j l ≡ u ∷ d = rw add-one (drop-cons l j 0 (omega (arith, h.within))) in
    let s : j + 1 - 1 ≡ j = omega arith in
    let p : left_there l (j + 1) ≡ u = rw s at (sym (left_there_lem l (j + 1) (λ z. omega arith))) in
    record {
      within = omega (arith, h.within);
      lefts = rw (h.lefts, e, p) (firsts_set (left_after u d) no_thread u (left_there l j));
      rights = rw (h.rights, e) (firsts_set (right_in d) no_thread u (head_of d));
    }

-- the same with the code's names: x stands right of place j, y left of it
pub laid_on : (l left right left' right' : List ℕ) (i j x y : ℕ) → i ≡ j + 1 → LaidFrom l left right i → x ≡ head_of (drop (j + 1) l) → y ≡ left_there l j
    → right' ≡ set right (get_or l j 0) x → left' ≡ set left (get_or l j 0) y → LaidFrom l left' right' j
laid_on l left right left' right' i j x y e h a b p q = rw (p, q, a, b) (laid_more l left right j (rw e at h))

pub laid_done : (l left right : List ℕ) (i : ℕ) → LaidFrom l left right i → i ≤ 0 → (left ≡ (laid l).left) × (right ≡ (laid l).right)
laid_done l left right i h z =
    let e : i ≡ 0 = omega arith in
    let p : left_there l 0 ≡ no_thread = sym (left_first l 0 refl) in
    ((rw (e, p) at h.lefts), (rw e at h.rights))
