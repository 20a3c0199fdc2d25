-- The second list's links, filled from the list's: threads enter at the right end, one after another.
use mathlib.Core.Path.{◌≡◌, refl, sym, ap, ◌∙◌}
use Prim.Native.Nat.{ℕ, zero, suc, ◌<◌}
use native.Mathlib.Omega.{arith}
use mathlib.Core.List.Memᴰ
use mathlib.Core.List.{List, [], ◌∷◌, ◌++◌, append-nil, append_assoc, Memᴰ}
use mathlib.Core.Bool.{Bool, true, false}
use lib.Dec.{ltb, eqb}
use lib.ListN.{get_or, length-set, length-replicate, get_or-replicate}
use borrow.Author.Tests.{ltb-true, lt-ltb}
use Rattle.table.specs.Sum.{pick}
use Rattle.table.proofs.Tests.{no_way}
use Rattle.schedule.specs.Machine.{waiting}
use Rattle.schedule.specs.Links.{no_thread, Links, walk, head_of, right_in, left_after, last_after, last_of, Linked, LinkedAs, link_last}
use Rattle.schedule.specs.Actives.{actives, no_links, filled_from}
use Rattle.order.proofs.Lists.{Below}
use Rattle.schedule.proofs.Linked.Once.{Once}
use Rattle.schedule.proofs.Linked.Neighbours.{right_in_later, choose_last, choose_either, apart}
use Rattle.schedule.proofs.Linked.Links.{set_seen, sets_seen, walk_linked}
use Rattle.schedule.proofs.Linked.Actives.{once_actives, below_actives, once_after}

-- ---- one more at the right end

last_after_in : (y : ℕ) (l : List ℕ) → Memᴰ (last_after y l) (y ∷ l)
unfolding last_after
last_after_in y [] = Memᴰ.head refl
last_after_in y (x ∷ l) = Memᴰ.tail (last_after_in x l)

choose_swap : (a b : Bool) (x y r : ℕ) → (a ≡ true → b ≡ false) → pick a x (pick b y r) ≡ pick b y (pick a x r)
choose_swap true true x y r p = no_way (cc (p refl))
choose_swap true false x y r p = refl
choose_swap false b x y r p = refl

module _ (c : ℕ) where
  right_last : (y v : ℕ) (l : List ℕ) → (c ≡ y → ⊥) → (Memᴰ c l → ⊥) → Once (y ∷ l)
      → right_in (y ∷ l ++ c ∷ []) v ≡ pick (eqb c v) no_thread (pick (eqb (last_after y l) v) c (right_in (y ∷ l) v))
  unfolding right_in last_after Once
  right_last y v [] d n o = choose_either (eqb y v) (eqb c v) c no_thread no_thread (apart y c v d)
  right_last y v (x ∷ l) d n o =
      ap (λ (r : ℕ). pick (eqb y v) x r) (right_last x v l (λ e. n (Memᴰ.head e)) (λ i. n (Memᴰ.tail i)) o.1)
      ∙ choose_last (eqb y v) (eqb c v) (eqb (last_after x l) v) x no_thread c (right_in (x ∷ l) v) (apart y c v d)
      (apart y (last_after x l) v (λ e. o.0 (Memᴰ.cast (sym e) (last_after_in x l))))

  left_last : (y v : ℕ) (l : List ℕ) → (Memᴰ c l → ⊥) → left_after y (l ++ c ∷ []) v ≡ pick (eqb c v) (last_after y l) (left_after y l v)
  unfolding left_after last_after
  left_last y v [] n = refl
  left_last y v (x ∷ l) n =
      ap (λ (r : ℕ). pick (eqb x v) y r) (left_last x v l (λ i. n (Memᴰ.tail i)))
      ∙ choose_swap (eqb x v) (eqb c v) y (last_after x l) (left_after x l v) (apart x c v (λ e. n (Memᴰ.head e)))

  first_last : (l : List ℕ) → Below no_thread l → head_of (l ++ c ∷ []) ≡ pick (ltb (last_of l) no_thread) (head_of l) c
  unfolding last_after
  first_last [] b = refl
  first_last (x ∷ l) b = rw (lt-ltb (last_after x l) no_thread (b (last_after x l) (last_after_in x l)))

pub link_last_linked : (k : Links) (l : List ℕ) → LinkedAs k l → Once l → Below no_thread l → (c : ℕ) → c < no_thread → (Memᴰ c l → ⊥)
    → LinkedAs (link_last c (last_of l) k) (l ++ c ∷ [])
unfolding link_last Once
link_last_linked k l h o b c i n =
    record {
      left_size = simp length-set h.left_size;
      right_size = simp length-set h.right_size;
      lefts = λ v q. set_seen k.left c (last_of l) v (omega (arith, h.left_size)) ∙ rw (h.lefts v q) (sym (left_last c no_thread v l n));
      rights = λ v q. sets_seen k.right (last_of l) c c no_thread v (omega (arith, h.right_size)) ∙ rw (h.rights v q) (sym (right v q));
      leftmost = rw h.leftmost (sym (first_last c l b));
    }
  where
    right : (v : ℕ) → v < no_thread → right_in (l ++ c ∷ []) v ≡ pick (eqb c v) no_thread (pick (eqb (last_of l) v) c (right_in l v))
    right v q =
        sym (right_in_later no_thread v (l ++ c ∷ []) (λ e. omega arith))
        ∙ right_last c no_thread v l (λ e. omega arith) n ((λ m. omega (arith, b no_thread m)), o) ∙ rw (right_in_later no_thread v l (λ e. omega arith))

-- ---- all of them

pub no_links_linked : LinkedAs no_links []
unfolding right_in left_after
no_links_linked =
    record {
      left_size = length-replicate no_thread no_thread;
      right_size = length-replicate no_thread no_thread;
      lefts = λ t h. get_or-replicate no_thread t no_thread 0 h;
      rights = λ t h. get_or-replicate no_thread t no_thread 0 h;
      leftmost = refl;
    }

last_is : (l : List ℕ) (y c : ℕ) → last_after y (l ++ c ∷ []) ≡ c
unfolding last_after
last_is [] y c = refl
last_is (x ∷ l) y c = last_is l x c

once_front : (k l : List ℕ) → Once (k ++ l) → Once k
unfolding Once
once_front [] l o = tt
once_front (x ∷ k) l o = ((λ m. o.0 (Memᴰ.append_left l m)), once_front k l o.1)

filled_linked : (n : ℕ) (status right : List ℕ) (t y : ℕ) (k : Links) (l : List ℕ) → y ≡ last_of l → LinkedAs k l → Once (l ++ actives status (walk n right t))
    → Below no_thread (l ++ actives status (walk n right t)) → LinkedAs (filled_from n status right t y k) (l ++ actives status (walk n right t))
unfolding filled_from walk actives
filled_linked zero status right t y k l e h o b = rw (append-nil l) h
filled_linked (suc n) status right t y k l e h o b =
    outer (ltb t no_thread) refl (filled_linked n status right (get_or right t 0) y k l e h)
    (λ (i : LinkedAs (link_last t y k) (l ++ t ∷ [])). filled_linked n status right (get_or right t 0) t (link_last t y k) (l ++ t ∷ []) (sym (last_is l no_thread t)) i) o b
  where
    rest : List ℕ
    rest = actives status (walk n right (get_or right t 0))

    past : Links
    past = filled_from n status right (get_or right t 0) y k

    with_t : Links
    with_t = filled_from n status right (get_or right t 0) t (link_last t y k)

    Past : Type 0
    Past = Once (l ++ rest) → Below no_thread (l ++ rest) → LinkedAs past (l ++ rest)

    WithT : Type 0
    WithT = LinkedAs (link_last t y k) (l ++ t ∷ []) → Once ((l ++ t ∷ []) ++ rest) → Below no_thread ((l ++ t ∷ []) ++ rest) → LinkedAs with_t ((l ++ t ∷ []) ++ rest)

    entered : t < no_thread → Once (l ++ t ∷ rest) → Below no_thread (l ++ t ∷ rest) → LinkedAs (link_last t y k) (l ++ t ∷ [])
    entered i o b =
        rw e
        (link_last_linked k l h (once_front l (t ∷ rest) o) (λ u m. b u (Memᴰ.append_left (t ∷ rest) m)) t i (once_after l rest t o).0)

    inner : t < no_thread → Past → WithT → (w : Bool) → Once (l ++ pick w rest (t ∷ rest)) → Below no_thread (l ++ pick w rest (t ∷ rest))
        → LinkedAs (pick w past with_t) (l ++ pick w rest (t ∷ rest))
    inner i p q true o b = p o b
    inner i p q false o b =
        let same : (l ++ t ∷ []) ++ rest ≡ l ++ t ∷ rest = append_assoc l (t ∷ []) rest in
        rw same at (q (entered i o b) (rw same o) (rw same b))

    outer : (p : Bool) → ltb t no_thread ≡ p → Past → WithT → Once (l ++ actives status (pick p (t ∷ walk n right (get_or right t 0)) []))
        → Below no_thread (l ++ actives status (pick p (t ∷ walk n right (get_or right t 0)) []))
        → LinkedAs (pick p (pick (eqb (get_or status t 0) waiting) past with_t) k) (l ++ actives status (pick p (t ∷ walk n right (get_or right t 0)) []))
    outer true g p q o b = inner (ltb-true t no_thread g) p q (eqb (get_or status t 0) waiting) o b
    outer false g p q o b = rw (append-nil l) h

-- filled from the links of a list in which nothing stands twice, they are those of its second list
pub fill_linked : (left right : List ℕ) (head : ℕ) (l status : List ℕ) → Linked left right head l → Once l → Below no_thread l
    → LinkedAs (filled_from no_thread status right head no_thread no_links) (actives status l)
unfolding last_after
fill_linked left right head l status h o b =
    let same : walk no_thread right head ≡ l = walk_linked left right head l h o b in
    rw same
    at (filled_linked no_thread status right head no_thread no_links [] refl no_links_linked (rw same (once_actives status l o)) (rw same (below_actives no_thread status l b)))
