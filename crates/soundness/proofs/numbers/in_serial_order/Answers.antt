-- `soundness::numbers::in_serial_order` meets its contract: along the list the array's numbers are those of the next actions, since all its threads are below n.
use mathlib.Core.Path.{◌≡◌, refl, ◌∙◌}
use Prim.Native.Nat.{ℕ, ◌≤◌, ◌<◌}
use mathlib.Core.List.{List, [], ◌∷◌, Memᴰ}
use mathlib.Core.Bool.{true}
use native.Mathlib.Omega.{arith}
use borrow.Author.Tests.{ltb-true}
use lib.Dec.{ltb}
use lib.ListN.{length, get_or, take}
use lib.Seq.{get_or-take, length-take-le}
use Rattle.table.specs.Format.{table_of}
use Rattle.schedule.specs.Sound.{in_serial_order}
use Rattle.order.specs.Words.{all_in, rises}
use Rattle.order.proofs.Words.{all_in_exactly}
use Rattle.order.proofs.Lists.{get_d_member}
use Rattle.soundness.specs.Code.Checks.{Accepted, Numbers}
use Rattle.soundness.proofs.Lookups.{few_threads}
use Rattle.soundness.proofs.numbers.in_serial_order.Goals as goal

-- two functions that agree on a list rise alike along it
rises_same : (f g : ℕ → ℕ) (l : List ℕ) → ((x : ℕ) → Memᴰ x l → f x ≡ g x) → rises f l ≡ rises g l
unfolding rises
rises_same f g [] h = refl
rises_same f g (x ∷ []) h = refl
rises_same f g (x ∷ y ∷ l) h =
    rw (h x (Memᴰ.head refl), h y (Memᴰ.tail (Memᴰ.head refl)), rises_same f g (y ∷ l) (λ z m. h z (Memᴰ.tail m)))

module _ (s : List ℕ) (n : ℕ) (next list : List ℕ) (len : ℕ) (k : Accepted s n) (a : all_in (λ t. ltb t n) (take len list) ≡ true) where
  listed : (t : ℕ) → Memᴰ t (take len list) → t < n
  listed t h = ltb-true t n ((all_in_exactly (λ t. ltb t n) (take len list)).0 a t h)

  below : len ≤ 1024 → length list ≡ 1024 → (i : ℕ) → i < len → get_or list i 0 < 1024
  below f e i h =
      let g : i < length (take len list) = omega (arith, length-take-le len list (omega arith)) in
      let b = listed _ (rw (get_or-take len list i 0 h) at (get_d_member (take len list) i 0 g)) in
      omega (arith, b, few_threads k)

  same : (numbers : List ℕ) → Numbers (table_of s) next numbers
      → rises (λ t. get_or numbers t 0) (take len list) ≡ in_serial_order (table_of s) next (take len list)
  unfolding in_serial_order
  same numbers g = rises_same _ _ (take len list) (λ t h. g.right t (omega (arith, listed t h, k.threads)))

pub rising-requires : goal.rising-requires
rising-requires c = let (f, e, a) = c.requires.len_bound in record { len_bound = (f, e); by_index = below c.args.table.now _ c.args.next.now c.args.list.now _ c.requires.accepted a f e }

pub returns : goal.returns
returns c =
    c.rising.ensures
    ∙ same c.args.table.now _ c.args.next.now c.args.list.now c.args.len c.requires.accepted c.requires.len_bound.2 _ c.fill_numbers.ensures
