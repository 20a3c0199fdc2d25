-- What the links of a list say at a place of it: the element so many places on, and the neighbours of one.
use mathlib.Core.Path.{◌≡◌, refl, sym, ◌∙◌}
use Prim.Native.Nat.{ℕ, zero, suc}
use mathlib.Core.List.{List, [], ◌∷◌, ◌++◌, Memᴰ}
use lib.ListN.{get_or}
use borrow.Author.Tests.{eq-eqb, lt-ltb}
use Rattle.schedule.specs.Links.{no_thread, Links, LinkedAs, head_of, right_in, left_after, last_after}
use Rattle.order.proofs.Lists.{Below}
use Rattle.schedule.proofs.Linked.Once.{Once}
use Rattle.schedule.proofs.Linked.Neighbours.{right_in_here, right_in_later, left_after_later}
use Rattle.stealing.specs.Stealing.{along_by}

-- the element at place c along the right links
along_row : (c : ℕ) (right l : List ℕ) → Once l → Below no_thread l → ((t : ℕ) → Memᴰ t l → get_or right t 0 ≡ right_in l t) → along_by c right (head_of l) ≡ get_or l c no_thread
unfolding along_by Once
along_row zero right [] o b e = refl
along_row (suc c) right [] o b e = refl
along_row zero right (x ∷ l) o b e = refl
along_row (suc c) right (x ∷ l) o b e =
    let next : get_or right x 0 ≡ head_of l = e x (Memᴰ.head refl) ∙ right_in_here x l in
    let rest : along_by c right (head_of l) ≡ get_or l c no_thread =
    along_row c right l o.1 (λ t m. b t (Memᴰ.tail m)) (λ t m. e t (Memᴰ.tail m) ∙ right_in_later x t l (λ q. o.0 (rw q m))) in
    rw (lt-ltb x no_thread (b x (Memᴰ.head refl)), next, rest)

pub along_linked : (k : Links) (l : List ℕ) → LinkedAs k l → Once l → Below no_thread l → (c : ℕ) → along_by c k.right k.head ≡ get_or l c no_thread
along_linked k l h o b c = rw h.leftmost (along_row c k.right l o b (λ t m. h.rights t (b t m)))

pub right_at : (t t2 : ℕ) (A R : List ℕ) → (Memᴰ t A → ⊥) → right_in (A ++ t ∷ t2 ∷ R) t ≡ t2
right_at t t2 [] R n = right_in_here t (t2 ∷ R)
right_at t t2 (x ∷ A) R n = right_in_later x t (A ++ t ∷ t2 ∷ R) (λ e. n (Memᴰ.head (sym e))) ∙ right_at t t2 A R (λ m. n (Memᴰ.tail m))

pub left_at : (y b : ℕ) (A R : List ℕ) → (Memᴰ b A → ⊥) → left_after y (A ++ b ∷ R) b ≡ last_after y A
unfolding left_after last_after
left_at y b [] R n = rw (eq-eqb b b refl)
left_at y b (x ∷ A) R n = left_after_later y x b (A ++ b ∷ R) (λ e. n (Memᴰ.head (sym e))) ∙ left_at x b A R (λ m. n (Memᴰ.tail m))
