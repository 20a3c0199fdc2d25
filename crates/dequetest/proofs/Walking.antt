-- Walks along a row of threads, a place at a time: from the last to the first, each asked whether it stands later too; from the first to the last, each asked whether it fits its line; and the
-- bottoms gathered.
use mathlib.Core.Path.{◌≡◌, refl, ap, sym, ◌∙◌}
use Prim.Native.Nat.{ℕ, zero, suc, ◌+◌, ◌-◌, ◌≤◌, ◌<◌}
use mathlib.Core.List.{List, [], ◌∷◌, ◌++◌, append-nil}
use mathlib.Core.Bool.{Bool, true, false, not, ◌&&◌, ◌||◌}
use native.Mathlib.Decide.{ℕ_discrete}
use native.Mathlib.Numerals.{add-one}
use native.Mathlib.Omega.{arith}
use borrow.Author.Tests.{ltb-true, eq-eqb, ne_eqb, not-true, not-false}
use lib.Dec.{ltb, eqb}
use lib.ListN.{length, get_or, take, drop, set, replicate, length-set, length-replicate, drop_of_length-le}
use lib.Seq.{drop-cons, get_or-take, take-suc-set, append_snoc, length-take-le, get_or-set_same, get_or-set_other}
use Rattle.table.specs.Sum.{pick}
use Rattle.schedule.specs.Links.{no_thread, walk}
use Rattle.order.specs.Words.{all_in, member}
use Rattle.order.proofs.Lists.{get_d_alike, get_d_member}
use Rattle.order.proofs.Words.{all_in_exactly, never_true, not_both}
use Rattle.soundness.proofs.Reading.{row_fits, row_size, row_front}
use Rattle.soundness.proofs.Chains.{first_of, second_of}
use Rattle.deques.specs.Lines.{is_held}
use Rattle.deques.specs.DequeWalk.{is_ready, once_in, in_lines, bottoms_along}
use Rattle.dequetest.specs.Code.Standing.{Threads}

-- ---- the row that is read off links

walk_below : (k : ℕ) (right : List ℕ) (t : ℕ) → all_in (λ u. ltb u no_thread) (walk k right t) ≡ true
unfolding walk all_in
walk_below zero right t = refl
walk_below (suc k) right t = go (ltb t no_thread) refl (walk_below k right (get_or right t 0))
  where
    go : (q : Bool) → ltb t no_thread ≡ q → all_in (λ u. ltb u no_thread) (walk k right (get_or right t 0)) ≡ true
        → all_in (λ u. ltb u no_thread) (pick q (t ∷ walk k right (get_or right t 0)) []) ≡ true
    go true e h = rw e h
    go false e h = refl

pub read_threads : (right : List ℕ) (t : ℕ) {len : ℕ} {row : List ℕ} → len ≡ length (walk 1024 right t) → row ≡ walk 1024 right t ++ drop len (replicate 1024 0) → Threads row len
read_threads right t {len} {row} e h =
    record {
      size = row_size right t e h;
      fits = row_fits right t e h;
      small = λ i m.
          let n : i < length (walk 1024 right t) = omega (arith, e) in
          let a : get_or row i 0 ≡ get_or (walk 1024 right t) i 0 = sym (get_or-take len row i 0 m) ∙ ap (λ (l : List ℕ). get_or l i 0) (row_front right t e h) in
          rw a (ltb-true _ _ ((all_in_exactly (λ u. ltb u no_thread) (walk 1024 right t)).0 (walk_below 1024 right t) _ (get_d_member (walk 1024 right t) i 0 n)));
    }

-- ---- the places of a row's front

module _ {row : List ℕ} {len : ℕ} (h : Threads row len) where
  front_size : length (take len row) ≡ len
  front_size = length-take-le len row (omega (arith, h.size, h.fits))

  front_at : (i : ℕ) → i < len → drop i (take len row) ≡ get_or row i 0 ∷ drop (i + 1) (take len row)
  front_at i m = rw (add-one i, ← get_or-take len row i 0 m) (drop-cons (take len row) i 0 (omega (arith, front_size)))

  front_over : (i : ℕ) → len ≤ i → drop i (take len row) ≡ []
  front_over i m = drop_of_length-le (take len row) {i = i} (omega (arith, front_size))

-- ---- once

once_rest : (i : ℕ) (l : List ℕ) → once_in l ≡ true → once_in (drop i l) ≡ true
unfolding once_in
once_rest zero l e = e
once_rest (suc i) [] e = e
once_rest (suc i) (t ∷ l) e = once_rest i l (second_of (not (member t l)) (once_in l) e)

-- the threads from place i on are marked, and none stands twice among them
pub record MarkedFrom (row : List ℕ) (len : ℕ) (marks : List Bool) (i : ℕ) : Type 0 where
  pub threads : Threads row len
  pub within : i ≤ len
  pub room : length marks ≡ 1024
  pub once : once_in (drop i (take len row)) ≡ true
  pub marked : (t : ℕ) → get_or marks t false ≡ member t (drop i (take len row))

pub marked_start : (row : List ℕ) (len : ℕ) (marks : List Bool) → Threads row len → marks ≡ replicate 1024 false → MarkedFrom row len marks len
unfolding once_in member
marked_start row len marks h e =
    record {
      threads = h;
      within = omega arith;
      room = rw e (length-replicate 1024 false);
      once = rw (front_over h len (omega arith));
      marked = λ t. rw (e, front_over h len (omega arith)) (get_d_alike 1024 t false);
    }

module _ (row : List ℕ) (len : ℕ) (marks : List Bool) (i j : ℕ) (e : i ≡ j + 1) (m : MarkedFrom row len marks i) where
  abbrev thread : ℕ
  thread = get_or row j 0

  abbrev later : List ℕ
  later = drop (j + 1) (take len row)

  before : j < len
  before = omega (arith, m.within)

  pub marked_low : get_or row j 0 < 1024
  marked_low = m.threads.small j before

  here : drop j (take len row) ≡ thread ∷ later
  here = front_at m.threads j before

  marks_later : (t : ℕ) → get_or marks t false ≡ member t later
  marks_later t = rw e at (m.marked t)

  once_later : once_in later ≡ true
  once_later = rw e at m.once

  pub marked_on : get_or marks thread false ≡ false → MarkedFrom row len (set marks thread true) j
  unfolding once_in member
  marked_on f =
      let g : member thread later ≡ false = sym (marks_later thread) ∙ f in
      record {
        threads = m.threads;
        within = omega (arith, before);
        room = length-set marks thread true ∙ m.room;
        once = rw (here, g) once_later;
        marked = λ t. rw here (at t (ℕ_discrete t thread));
      }
    where
      at : (t : ℕ) → Dec (t ≡ thread) → get_or (set marks thread true) t false ≡ (eqb t thread || member t later)
      at t (yes d) = rw (d, eq-eqb thread thread refl) (get_or-set_same marks thread true false (omega (arith, marked_low, m.room)))
      at t (no d) = rw (ne_eqb t thread d) (get_or-set_other marks thread t true false d ∙ marks_later t)

  pub marked_twice : get_or marks thread false ≡ true → false ≡ once_in (take len row)
  unfolding once_in
  marked_twice f =
      let g : member thread later ≡ true = sym (marks_later thread) ∙ f in
      sym (never_true (once_in (take len row)) (λ q.
      let r : (not (member thread later) && once_in later) ≡ true = rw here at (once_rest j (take len row) q) in
      not_both (member thread later) g (not-true (member thread later) (first_of (not (member thread later)) (once_in later) r))))

pub marked_all : (row : List ℕ) (len : ℕ) (marks : List Bool) (i : ℕ) → MarkedFrom row len marks i → i ≤ 0
    → (true ≡ once_in (take len row)) × (true ≡ true → (t : ℕ) → get_or marks t false ≡ member t (take len row))
marked_all row len marks i m h =
    let z : i ≡ 0 = omega arith in
    (sym (rw z at m.once), (λ e t. rw z at (m.marked t)))

-- ---- along the lines

-- the threads before place i fit; b: a line begins there
pub record FitsTo (f : ℕ → Bool) (status row : List ℕ) (len : ℕ) (b : Bool) (i : ℕ) : Type 0 where
  pub threads : Threads row len
  pub rest : in_lines f status b (drop i (take len row)) ≡ in_lines f status true (take len row)

pub fits_start : (f : ℕ → Bool) (status row : List ℕ) (len : ℕ) → Threads row len → FitsTo f status row len true 0
fits_start f status row len h = record { threads = h; rest = refl }

module _ {f : ℕ → Bool} {status row : List ℕ} {len : ℕ} {b : Bool} {i : ℕ} (s : FitsTo f status row len b i) where
  -- by what the test r of the thread there says, and whether it is a bottom
  module _ (h : i < len) {r : Bool} (e : r ≡ pick (is_held status (get_or row i 0)) b (is_ready status (get_or row i 0))) where
    pub fits_on : not r ≡ false → {q : Bool} → q ≡ f (get_or row i 0) → FitsTo f status row len q (i + 1)
    unfolding in_lines
    fits_on n g = record { threads = s.threads; rest = rw g (rw (front_at s.threads i h, ← e, not-false r n) at s.rest) }

    pub fits_not : not r ≡ true → false ≡ in_lines f status true (take len row)
    unfolding in_lines
    fits_not n = rw (front_at s.threads i h, ← e, not-true r n) at s.rest

  pub fits_all : len ≤ i → b ≡ in_lines f status true (take len row)
  unfolding in_lines
  fits_all h = rw (front_over s.threads i h) at s.rest

-- ---- the bottoms

-- k bottoms stand before place i and are written
pub record GatheredTo (f : ℕ → Bool) (row : List ℕ) (len : ℕ) (out : List ℕ) (k i : ℕ) : Type 0 where
  pub threads : Threads row len
  pub size : length out ≡ 1024
  pub count : k ≤ i
  pub within : i ≤ len
  pub rest : bottoms_along f (take len row) ≡ take k out ++ bottoms_along f (drop i (take len row))

pub gathered_start : (f : ℕ → Bool) (row : List ℕ) (len : ℕ) (out : List ℕ) → Threads row len → length out ≡ 1024 → GatheredTo f row len out 0 0
gathered_start f row len out h e = record { threads = h; size = e; count = omega arith; within = omega arith; rest = refl }

module _ {f : ℕ → Bool} {row : List ℕ} {len : ℕ} {out : List ℕ} {k i : ℕ} (s : GatheredTo f row len out k i) where
  module _ (h : i < len) {r : Bool} (e : r ≡ f (get_or row i 0)) where
    pub gathered_past : not r ≡ true → GatheredTo f row len out k (i + 1)
    unfolding bottoms_along
    gathered_past n =
        record {
          threads = s.threads;
          size = s.size;
          count = omega (arith, s.count);
          within = omega arith;
          rest = rw (front_at s.threads i h, ← e, not-true r n) at s.rest;
        }

    pub gathered_with : not r ≡ false → GatheredTo f row len (set out k (get_or row i 0)) (k + 1) (i + 1)
    unfolding bottoms_along
    gathered_with n =
        let a : take (k + 1) (set out k (get_or row i 0)) ≡ take k out ++ (get_or row i 0 ∷ []) = rw add-one (take-suc-set out k (get_or row i 0) (omega (arith, s.count, s.size, s.threads.fits))) in
        let b : bottoms_along f (take len row) ≡ take k out ++ get_or row i 0 ∷ bottoms_along f (drop (i + 1) (take len row)) = rw (front_at s.threads i h, ← e, not-false r n) at s.rest in
        record {
          threads = s.threads;
          size = length-set out k (get_or row i 0) ∙ s.size;
          count = omega (arith, s.count);
          within = omega arith;
          rest = b ∙ rw a (sym (append_snoc (take k out) (get_or row i 0) (bottoms_along f (drop (i + 1) (take len row)))));
        }

  pub gathered_all : len ≤ i → take k out ≡ bottoms_along f (take len row)
  unfolding bottoms_along
  gathered_all h = sym (s.rest ∙ rw (front_over s.threads i h) (append-nil (take k out)))
