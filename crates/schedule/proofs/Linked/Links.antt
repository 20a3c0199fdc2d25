-- The list of threads as links: reading laid links gives the list back, the writes of specs/Links are `left_of` and `without`, and the search along the links is the list's.
use mathlib.Core.Path.{◌≡◌, refl, sym, ap, ◌∙◌}
use Prim.Native.Nat.{ℕ, zero, suc, ◌≤◌, ◌<◌}
use native.Mathlib.Omega.{arith}
use native.Mathlib.Decide.{ℕ_discrete}
use mathlib.Core.List.{List, [], ◌∷◌, Memᴰ}
use mathlib.Core.Bool.{Bool, true, false}
use lib.Dec.{ltb, eqb}
use lib.ListN.{length, get_or, set, length-set}
use lib.Seq.{get_or-set_same, get_or-set_other, ext_get_or}
use borrow.Author.Tests.{eq-eqb, ne_eqb, lt-ltb, le-ltb}
use Rattle.table.specs.Sum.{pick}
use Rattle.schedule.specs.Machine.{ready, left_of, without, leftmost}
use Rattle.order.specs.Firsts.{firsts}
use Rattle.schedule.specs.Links.{no_thread, Links, walk, head_of, right_in, left_in, laid, Linked, LinkedAs, link_left, unlink, Sought, first_ready, seek}
use Rattle.order.proofs.Lists.{Below, firsts_length, firsts_at}
use Rattle.schedule.proofs.Linked.Once.{Once, once_short}
use Rattle.schedule.proofs.Linked.Neighbours.{right_in_here, right_in_later, right_in_left_of, left_in_left_of, right_in_without, left_in_without, first_left_of, first_without}

-- ---- laying

pub laid_linked : (l : List ℕ) → LinkedAs (laid l) l
laid_linked l =
    record {
      left_size = firsts_length (left_in l) 0 no_thread;
      right_size = firsts_length (right_in l) 0 no_thread;
      lefts = λ t h. firsts_at (left_in l) 0 no_thread t h ∙ ap (left_in l) (omega arith);
      rights = λ t h. firsts_at (right_in l) 0 no_thread t h ∙ ap (right_in l) (omega arith);
      leftmost = refl;
    }

-- an array with these values is the one laid
laid_same : (a : List ℕ) (f : ℕ → ℕ) → length a ≡ no_thread → ((t : ℕ) → t < no_thread → get_or a t 0 ≡ f t) → a ≡ firsts f 0 no_thread
laid_same a f s e =
    ext_get_or 0 a (firsts f 0 no_thread) (s ∙ sym (firsts_length f 0 no_thread))
    (λ t h.
    let i : t < no_thread = omega arith in
    e t i ∙ sym (firsts_at f 0 no_thread t i ∙ ap f (omega arith)))

-- there is one way to lay a list
links_same : (k : Links) (left right : List ℕ) (head : ℕ) → k.left ≡ left → k.right ≡ right → k.head ≡ head → k ≡ record { left = left; right = right; head = head }
links_same k left right head p q r = rw (← p, ← q, ← r)

pub linked_laid : (k : Links) (l : List ℕ) → LinkedAs k l → k ≡ laid l
linked_laid k l h =
    links_same k (laid l).left (laid l).right (laid l).head (laid_same k.left (left_in l) h.left_size h.lefts)
    (laid_same k.right (right_in l) h.right_size h.rights) h.leftmost

-- ---- reading

walk_row : (k : ℕ) (right l : List ℕ) → length l ≤ k → Once l → Below no_thread l → ((t : ℕ) → Memᴰ t l → get_or right t 0 ≡ right_in l t) → walk k right (head_of l) ≡ l
unfolding walk Once
walk_row zero right [] h o b e = refl
walk_row (suc k) right [] h o b e = refl
walk_row zero right (x ∷ l) h o b e = absurd (omega arith)
walk_row (suc k) right (x ∷ l) h o b e =
    let next : get_or right x 0 ≡ head_of l = e x (Memᴰ.head refl) ∙ right_in_here x l in
    let rest : walk k right (head_of l) ≡ l =
    walk_row k right l (omega arith) o.1 (λ t m. b t (Memᴰ.tail m))
    (λ t m. e t (Memᴰ.tail m) ∙ right_in_later x t l (λ q. o.0 (rw q m))) in
    rw (lt-ltb x no_thread (b x (Memᴰ.head refl)), next, rest)

-- "Reading from the left gives the old list"
pub walk_linked : (left right : List ℕ) (head : ℕ) (l : List ℕ) → Linked left right head l → Once l → Below no_thread l → walk no_thread right head ≡ l
walk_linked left right head l h o b =
    rw h.leftmost (walk_row no_thread right l (once_short no_thread l o b) o b (λ t m. h.rights t (b t m)))

pub walk_laid : (l : List ℕ) → Once l → Below no_thread l → walk no_thread (laid l).right (laid l).head ≡ l
walk_laid l o b = walk_linked (laid l).left (laid l).right (laid l).head l (laid_linked l) o b

-- ---- writing

-- one write, and two, seen from a place of the array
pub set_seen : (a : List ℕ) (i x v : ℕ) → v < length a → get_or (set a i x) v 0 ≡ pick (eqb i v) x (get_or a v 0)
set_seen a i x v h = go (ℕ_discrete i v)
  where
    go : Dec (i ≡ v) → get_or (set a i x) v 0 ≡ pick (eqb i v) x (get_or a v 0)
    go (yes e) = rw (e, eq-eqb v v refl) (get_or-set_same a v x 0 h)
    go (no d) = rw (ne_eqb i v d) (get_or-set_other a i v x 0 (λ e. d (sym e)))

pub sets_seen : (a : List ℕ) (i x j y v : ℕ) → v < length a → get_or (set (set a i x) j y) v 0 ≡ pick (eqb j v) y (pick (eqb i v) x (get_or a v 0))
sets_seen a i x j y v h = set_seen (set a i x) j y v (simp length-set h) ∙ ap (λ (r : ℕ). pick (eqb j v) y r) (set_seen a i x v h)

module _ (k : Links) (l : List ℕ) (h : LinkedAs k l) (o : Once l) (b : Below no_thread l) (t : ℕ) (m : Memᴰ t l) where
  left_of_lem : get_or k.left t 0 ≡ left_in l t
  left_of_lem = h.lefts t (b t m)

  right_of : get_or k.right t 0 ≡ right_in l t
  right_of = h.rights t (b t m)

  pub link_left_linked : (c : ℕ) → c < no_thread → (Memᴰ c l → ⊥) → LinkedAs (link_left c t k) (left_of c t l)
  unfolding link_left
  link_left_linked c i n =
      record {
        left_size = simp length-set h.left_size;
        right_size = simp length-set h.right_size;
        lefts = λ v q. sets_seen k.left t c c _ v (omega (arith, h.left_size)) ∙ rw (left_of_lem, h.lefts v q) (sym (left_in_left_of l o b t m c v n));
        rights = λ v q. sets_seen k.right _ c c t v (omega (arith, h.right_size)) ∙ rw (left_of_lem, h.rights v q) (sym (right_in_left_of l o b t m c v i q n));
        leftmost = rw (left_of_lem, h.leftmost) (sym (first_left_of t c l b m));
      }

  pub unlink_linked : LinkedAs (unlink t k) (without t l)
  unfolding unlink
  unlink_linked =
      record {
        left_size = simp length-set h.left_size;
        right_size = simp length-set h.right_size;
        lefts = λ v q. sets_seen k.left _ _ t no_thread v (omega (arith, h.left_size)) ∙ rw (left_of_lem, right_of, h.lefts v q) (sym (left_in_without l o b t m v q));
        rights = λ v q. sets_seen k.right _ _ t no_thread v (omega (arith, h.right_size)) ∙ rw (left_of_lem, right_of, h.rights v q) (sym (right_in_without l o b t m v q));
        leftmost = rw (left_of_lem, right_of, h.leftmost) (sym (first_without t l b m));
      }

-- ---- searching

-- what a search of a list finds: the thread that `leftmost` gives, and as many passed
abbrev pub sought_in : List ℕ → List ℕ → Sought
sought_in status l = record { thread = first_ready status l; passed = leftmost status l }

-- along any links whatever the search is that of the list read off them
pub seek_walk : (k : ℕ) (status right : List ℕ) (t : ℕ) → seek k status right t ≡ sought_in status (walk k right t)
unfolding seek walk first_ready leftmost
seek_walk zero status right t = refl
seek_walk (suc k) status right t = outer (ltb t no_thread) (inner (eqb (get_or status t 0) ready) (seek_walk k status right (get_or right t 0)))
  where
    rest : Sought
    rest = seek k status right (get_or right t 0)

    row : List ℕ
    row = walk k right (get_or right t 0)

    at : Bool → Sought
    at q = pick q (record { thread = t; passed = 0 }) (record { thread = rest.thread; passed = suc rest.passed })

    inner : (q : Bool) → rest ≡ sought_in status row → at q ≡ record { thread = pick q t (first_ready status row); passed = pick q 0 (suc (leftmost status row)) }
    inner true e = refl
    inner false e = rw e

    outer : (p : Bool) → at (eqb (get_or status t 0) ready) ≡ sought_in status (t ∷ row)
        → pick p (at (eqb (get_or status t 0) ready)) (record { thread = no_thread; passed = 0 }) ≡ sought_in status (pick p (t ∷ row) [])
    outer true e = e
    outer false e = refl

-- step by step, as a loop goes: it stops beyond the last, hits a ready thread, or goes on to the right
pub seek_stop : (k : ℕ) (status right : List ℕ) (t : ℕ) → no_thread ≤ t → seek k status right t ≡ record { thread = no_thread; passed = 0 }
unfolding seek
seek_stop zero status right t h = refl
seek_stop (suc k) status right t h = rw (le-ltb t no_thread h)

module _ (k : ℕ) (status right : List ℕ) (t : ℕ) (h : t < no_thread) where
  pub seek_hit : get_or status t 0 ≡ ready → seek (suc k) status right t ≡ record { thread = t; passed = 0 }
  unfolding seek
  seek_hit e = rw (lt-ltb t no_thread h, eq-eqb (get_or status t 0) ready e)

  pub seek_next : (get_or status t 0 ≡ ready → ⊥)
      → seek (suc k) status right t ≡ record { thread = (seek k status right (get_or right t 0)).thread; passed = suc (seek k status right (get_or right t 0)).passed }
  unfolding seek
  seek_next n = rw (lt-ltb t no_thread h, ne_eqb (get_or status t 0) ready n)

pub seek_linked : (left right : List ℕ) (head : ℕ) (l status : List ℕ) → Linked left right head l → Once l → Below no_thread l
    → seek no_thread status right head ≡ sought_in status l
seek_linked left right head l status h o b = seek_walk no_thread status right head ∙ ap (sought_in status) (walk_linked left right head l h o b)
