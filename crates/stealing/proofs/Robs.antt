-- A steal on arrays in which the deques stand: the bottom at a place is found along the links, and one write at most lets the deques after the steal stand in them.
use mathlib.Core.Path.{◌≡◌, refl, sym, ap, subst, ◌∙◌}
use Prim.Native.Nat.{ℕ, zero, suc, ◌+◌, ◌≤◌, ◌<◌}
use mathlib.Core.List.{List, [], ◌∷◌, ◌++◌, append_assoc, Memᴰ}
use mathlib.Core.Bool.{Bool, true, false, not, ◌&&◌}
use mathlib.Core.Logic.{◌⊎◌, inl, inr}
use native.Mathlib.Omega.{arith}
use native.Mathlib.Decide.{dec_lt}
use lib.ListN.{get_or}
use lib.Dec.{ltb, eqb}
use borrow.Author.Tests.{eqb-true, eq-eqb, lt-ltb, le-ltb}
use Rattle.table.specs.Sum.{pick}
use Rattle.table.proofs.Tests.{no_way}
use Rattle.schedule.specs.Memory.{count_in}
use Rattle.schedule.specs.Links.{no_thread, LinkedAs, left_after, last_after}
use Rattle.order.proofs.Lists.{Below}
use Rattle.order.proofs.Words.{and_exactly}
use Rattle.schedule.proofs.Linked.Once.{Once}
use Rattle.schedule.proofs.Linked.Links.{link_left_linked}
use Rattle.array_machine.specs.declared.Totals.{Totals}
use Rattle.array_machine.specs.Arrays.{Arrays, second_of}
use Rattle.deques.specs.Deques.{Deque, deque, nothing, is_empty, bottom, above, kept, robbed}
use Rattle.deques.specs.Partition.{owned_by, AllInUse}
use Rattle.deques.specs.Lines.{line, lines_of, bottoms_of, linked_in}
use Rattle.deques.proofs.Placed.{empty_is, bottom_counts, above_bottom}
use Rattle.deques.proofs.Flat.{lines_append}
use Rattle.deques.proofs.Bottoms.{robbed_whole, last_bottoms, steal_bottoms}
use Rattle.deques.proofs.Kept.{one_is}
use Rattle.deques.proofs.Counts.{counted_in, count_append, once_counts, in_counted, line_some, bottoms_count, in_use_front, in_use_rest}
use Rattle.deques.proofs.Read.{linked_in_lem, linked_out}
use Rattle.stealing.specs.Stealing.{robbed_links}
use Rattle.stealing.proofs.Words.{left_at}
use Rattle.stealing.proofs.Acts.{LaidOut, linked_by_lem}

-- ---- the deque at a place

pub record Place (w : ℕ) (hold : ℕ → ℕ) (c : ℕ) (ds : List Deque) : Type 0 where
  pub front : List Deque
  pub owner : ℕ
  pub threads : List ℕ
  pub rest : List Deque
  pub whole : ds ≡ front ++ deque owner threads ∷ rest
  pub there : (get_or ds c nothing).threads ≡ threads
  pub bottom_there : get_or (bottoms_of hold ds) c no_thread ≡ bottom (line hold (deque owner threads))
  pub robbing : robbed w c ds ≡ front ++ kept (deque owner (above threads)) (deque w [] ∷ rest)

abbrev pub NoPlace : (ℕ → ℕ) → ℕ → List Deque → Type 0
NoPlace hold c ds = ((get_or ds c nothing).threads ≡ []) × (get_or (bottoms_of hold ds) c no_thread ≡ no_thread)

pub place : (w : ℕ) (hold : ℕ → ℕ) (c : ℕ) (ds : List Deque) → NoPlace hold c ds ⊎ Place w hold c ds
unfolding bottoms_of robbed
place w hold c [] = inl (refl, refl)
place w hold zero (d ∷ ds) =
    inr (record { front = []; owner = d.owner; threads = d.threads; rest = ds; whole = refl; there = refl; bottom_there = refl; robbing = refl })
place w hold (suc c) (d ∷ ds) = go (place w hold c ds)
  where
    go : NoPlace hold c ds ⊎ Place w hold c ds → NoPlace hold (suc c) (d ∷ ds) ⊎ Place w hold (suc c) (d ∷ ds)
    go (inl n) = inl n
    go (inr q) =
        inr (record {
          front = d ∷ q.front;
          owner = q.owner;
          threads = q.threads;
          rest = q.rest;
          whole = ap (d ∷◌) q.whole;
          there = q.there;
          bottom_there = q.bottom_there;
          robbing = ap (d ∷◌) q.robbing;
        })

-- ---- the last of a line

last_append : (y : ℕ) (k l : List ℕ) → last_after y (k ++ l) ≡ last_after (last_after y k) l
unfolding last_after
last_append y [] l = refl
last_append y (x ∷ k) l = last_append x k l

last_bottom : (y : ℕ) (l : List ℕ) → is_empty l ≡ false → last_after y l ≡ bottom l
unfolding last_after bottom
last_bottom y [] e = no_way cc
last_bottom y (x ∷ []) e = refl
last_bottom y (x ∷ z ∷ l) e = last_bottom x (z ∷ l) refl

last_line : (hold : ℕ → ℕ) (y : ℕ) (ds : List Deque) → AllInUse ds → (last_after y (lines_of hold ds) ≡ y) ⊎ Memᴰ (last_after y (lines_of hold ds)) (bottoms_of hold ds)
unfolding lines_of bottoms_of AllInUse last_after
last_line hold y [] m = inl refl
last_line hold y (d ∷ ds) m = go (last_line hold (bottom (line hold d)) ds m.1)
  where
    e : last_after y (line hold d ++ lines_of hold ds) ≡ last_after (bottom (line hold d)) (lines_of hold ds)
    e = last_append y (line hold d) (lines_of hold ds) ∙ ap (λ (z : ℕ). last_after z (lines_of hold ds)) (last_bottom y (line hold d) (line_some hold d m.0))

    go : (last_after (bottom (line hold d)) (lines_of hold ds) ≡ bottom (line hold d)) ⊎ Memᴰ (last_after (bottom (line hold d)) (lines_of hold ds)) (bottoms_of hold ds)
        → (last_after y (line hold d ++ lines_of hold ds) ≡ y) ⊎ Memᴰ (last_after y (line hold d ++ lines_of hold ds)) (bottom (line hold d) ∷ bottoms_of hold ds)
    go (inl z) = inr (mathlib.Core.List.Memᴰ.head (e ∙ z))
    go (inr z) = inr (mathlib.Core.List.Memᴰ.tail (subst (λ (v : ℕ). Memᴰ v (bottoms_of hold ds)) (sym e) z))

-- a line is what stands above its bottom, and its bottom
line_split : (hold : ℕ → ℕ) (o : ℕ) (l : List ℕ) → is_empty l ≡ false → line hold (deque o l) ≡ line hold (deque o (above l)) ++ bottom l ∷ []
line_split hold o l e = go (ltb o 16)
  where
    go : (q : Bool) → pick q (hold o ∷ l) l ≡ pick q (hold o ∷ above l) (above l) ++ bottom l ∷ []
    go true = ap (hold o ∷◌) (sym (above_bottom l e))
    go false = sym (above_bottom l e)

-- ---- a steal of the bottom of deque o l

module _ (w : ℕ) (few : w < 16) (hold hold' : ℕ → ℕ) (same : (v : ℕ) → (v ≡ w → ⊥) → hold' v ≡ hold v) (front rest : List Deque) (o : ℕ) (l : List ℕ)
    (clear : owned_by w front ≡ 0) (alone : owned_by w rest ≡ 0) (other : o ≡ w → ⊥) (small : o ≤ 16) (some : is_empty l ≡ false) (robs : hold' w ≡ bottom l)
    (in_use : AllInUse (front ++ deque o l ∷ rest)) (A : Arrays) (totals : Totals) (L : LaidOut A totals hold (front ++ deque o l ∷ rest))
    (once : Once (lines_of hold (front ++ deque o l ∷ rest))) (low : Below 1024 (lines_of hold (front ++ deque o l ∷ rest)))
    (b_once : Once (bottoms_of hold (front ++ deque o l ∷ rest))) (b_low : Below 1024 (bottoms_of hold (front ++ deque o l ∷ rest))) where
  abbrev ds : List Deque
  ds = front ++ deque o l ∷ rest

  abbrev b : ℕ
  b = bottom l

  abbrev F : List ℕ
  F = lines_of hold front

  abbrev R : List ℕ
  R = lines_of hold rest

  -- what is left of the robbed line
  abbrev up : List ℕ
  up = line hold (deque o (above l))

  lines_split : lines_of hold ds ≡ (F ++ up) ++ b ∷ R
  unfolding lines_of
  lines_split =
      lines_append hold front (deque o l ∷ rest)
      ∙ ap (F ++◌) (ap (◌++ R) (line_split hold o l some) ∙ append_assoc up (b ∷ []) R)
      ∙ sym (append_assoc F up (b ∷ R))

  bottoms_split : bottoms_of hold ds ≡ bottoms_of hold front ++ (b ∷ bottoms_of hold rest)
  bottoms_split = robbed_whole w few hold hold' same front rest o l clear alone other small some robs

  front_in_use : AllInUse front
  front_in_use = in_use_front front (deque o l ∷ rest) in_use

  rest_in_use : AllInUse rest
  unfolding AllInUse
  rest_in_use = (in_use_rest front (deque o l ∷ rest) in_use).1

  -- in the lines, and so among the bottoms
  count_lines : (v : ℕ) → count_in v (lines_of hold ds) ≡ count_in v F + count_in v up + (pick (eqb b v) 1 0 + count_in v R)
  unfolding count_in
  count_lines v =
      let e : count_in v (lines_of hold ds) ≡ count_in v ((F ++ up) ++ b ∷ R) = ap (count_in v) lines_split in
      omega (arith, e, count_append v (F ++ up) (b ∷ R), count_append v F up)

  count_bottoms : (v : ℕ) → count_in v (bottoms_of hold ds) ≤ count_in v F + (pick (eqb b v) 1 0 + count_in v R)
  unfolding count_in
  count_bottoms v =
      let e : count_in v (bottoms_of hold ds) ≡ count_in v (bottoms_of hold front ++ (b ∷ bottoms_of hold rest)) = ap (count_in v) bottoms_split in
      omega (arith, e, count_append v (bottoms_of hold front) (b ∷ bottoms_of hold rest), bottoms_count hold v front front_in_use, bottoms_count hold v rest rest_in_use)

  alone_b : Memᴰ b (F ++ up) → ⊥
  alone_b m = omega (arith, counted_in b (F ++ up) m, count_append b F up, count_lines b, one_is b, once_counts (lines_of hold ds) once b)

  b_front : Memᴰ b (bottoms_of hold front) → ⊥
  b_front m = omega (arith, counted_in b (bottoms_of hold front) m, bottoms_count hold b front front_in_use, count_lines b, one_is b, once_counts (lines_of hold ds) once b)

  b_there : Memᴰ b (bottoms_of hold ds)
  b_there = subst (λ (z : List ℕ). Memᴰ b z) (sym bottoms_split) (mathlib.Core.List.Memᴰ.append_right (bottoms_of hold front) (mathlib.Core.List.Memᴰ.head refl))

  b_small : b < 1024
  b_small = b_low b b_there

  left_is : get_or A.left b 0 ≡ last_after no_thread (F ++ up)
  left_is = L.lines.lefts b b_small ∙ ap (λ (z : List ℕ). left_after no_thread z b) lines_split ∙ left_at no_thread b (F ++ up) R alone_b

  abbrev after : List Deque
  after = front ++ kept (deque o (above l)) (deque w [] ∷ rest)

  -- the deque stays: the thread above becomes a bottom
  module _ (e : (eqb o 16 && is_empty (above l)) ≡ false) where
    up_some : is_empty up ≡ false
    up_some = go (dec_lt o 16)
      where
        at : (p : Bool) → eqb o 16 ≡ true → (eqb o 16 && is_empty (above l)) ≡ p → p ≡ false → is_empty (above l) ≡ false
        at p i j z = rw i at (j ∙ z)

        go : Dec (o < 16) → is_empty up ≡ false
        go (yes i) = rw (lt-ltb o 16 i)
        go (no i) = rw (le-ltb o 16 (omega (arith, i))) (at (eqb o 16 && is_empty (above l)) (eq-eqb o 16 (omega (arith, i))) refl e)

    abbrev x : ℕ
    x = bottom up

    x_is : get_or A.left b 0 ≡ x
    x_is = left_is ∙ last_append no_thread F up ∙ last_bottom (last_after no_thread F) up up_some

    x_up : 1 ≤ count_in x up
    x_up = omega (arith, bottom_counts x up up_some, one_is x)

    x_small : x < 1024
    x_small = low x (in_counted x (lines_of hold ds) (omega (arith, count_lines x, x_up)))

    x_out : Memᴰ x (bottoms_of hold ds) → ⊥
    x_out m = omega (arith, counted_in x (bottoms_of hold ds) m, count_bottoms x, count_lines x, x_up, once_counts (lines_of hold ds) once x)

    stays : LinkedAs (robbed_links b A totals) (bottoms_of hold' after)
    unfolding robbed_links
    stays =
        rw (x_is, lt-ltb x 1024 x_small, linked_out (second_of A totals) (bottoms_of hold ds) L.bottoms b_low x x_small x_out)
        (linked_by_lem _ _ _ (steal_bottoms w few hold hold' same front rest o l clear alone other small some robs e b_front)
        (link_left_linked (second_of A totals) (bottoms_of hold ds) L.bottoms b_once b_low b b_there x x_small x_out))

  -- the deque leaves: the thread left of it is another line's bottom, or there is none
  module _ (i : o ≡ 16) (j : above l ≡ []) where
    up_none : up ≡ []
    up_none = rw (le-ltb o 16 (omega (arith, i))) j

    x_last : get_or A.left b 0 ≡ last_after no_thread F
    unfolding last_after
    x_last = left_is ∙ last_append no_thread F up ∙ none up up_none
      where
        none : (k : List ℕ) → k ≡ [] → last_after (last_after no_thread F) k ≡ last_after no_thread F
        none k e = rw e refl

    no_new : (ltb (get_or A.left b 0) no_thread && not (linked_in (second_of A totals) (get_or A.left b 0))) ≡ false
    no_new = rw x_last (go (last_line hold no_thread front front_in_use))
      where
        v : ℕ
        v = last_after no_thread F

        go : (last_after no_thread F ≡ no_thread) ⊎ Memᴰ (last_after no_thread F) (bottoms_of hold front) → (ltb (last_after no_thread F) no_thread && not (linked_in (second_of A totals) (last_after no_thread F))) ≡ false
        go (inl z) = rw z
        go (inr m) =
            let n : Memᴰ (last_after no_thread F) (bottoms_of hold ds) = subst (λ (z : List ℕ). Memᴰ (last_after no_thread F) z) (sym bottoms_split) (mathlib.Core.List.Memᴰ.append_left (b ∷ bottoms_of hold rest) m) in
            rw (lt-ltb (last_after no_thread F) 1024 (b_low (last_after no_thread F) n), linked_in_lem (second_of A totals) (bottoms_of hold ds) L.bottoms b_low (last_after no_thread F) (b_low (last_after no_thread F) n) n)

    goes : LinkedAs (robbed_links b A totals) (bottoms_of hold' after)
    unfolding robbed_links
    goes = rw no_new (linked_by_lem _ _ _ (last_bottoms w few hold hold' same front rest o l clear alone other small some robs i j) L.bottoms)

  pub robbed_bottoms : LinkedAs (robbed_links b A totals) (bottoms_of hold' after)
  robbed_bottoms = go (eqb o 16 && is_empty (above l)) refl
    where
      go : (q : Bool) → (eqb o 16 && is_empty (above l)) ≡ q → LinkedAs (robbed_links b A totals) (bottoms_of hold' after)
      go true e =
          let z = (and_exactly (eqb o 16) (is_empty (above l))).0 e in
          goes (eqb-true o 16 z.0) (empty_is (above l) z.1)
      go false e = stays e
