-- Reading the list off the links, a thread at a time: the threads written so far and those from here on are the whole list, and past them the row is as it was.
use mathlib.Core.Path.{◌≡◌, refl, ap, sym, ◌∙◌}
use Prim.Native.Nat.{ℕ, zero, suc, ◌+◌, ◌-◌, ◌≤◌, ◌<◌}
use native.Mathlib.Numerals.{add-one}
use native.Mathlib.Omega.{arith}
use mathlib.Core.List.{List, [], ◌∷◌, ◌++◌, append-nil}
use lib.ListN.{length, get_or, set, take, drop, length-set, take-append-drop}
use lib.Seq.{append_snoc, take-suc-set, drop-set-lt, drop-drop, length-take-le}
use borrow.Author.Tests.{lt-ltb, le-ltb}
use Rattle.schedule.specs.Links.{no_thread, walk}

-- ---- one step

walk_on : (k : ℕ) (right : List ℕ) (t : ℕ) → t < no_thread → walk (suc k) right t ≡ t ∷ walk k right (get_or right t 0)
unfolding walk
walk_on k right t h = rw (lt-ltb t no_thread h)

walk_out : (k : ℕ) (right : List ℕ) (t : ℕ) → no_thread ≤ t → walk k right t ≡ []
unfolding walk
walk_out zero right t h = refl
walk_out (suc k) right t h = rw (le-ltb t no_thread h)

walk_over : (right : List ℕ) (t : ℕ) → walk 0 right t ≡ []
unfolding walk
walk_over right t = refl

-- ---- the whole row

-- k threads are written into a row that was `before`, and t comes next
pub record Written (right : List ℕ) (leftmost : ℕ) (before row : List ℕ) (t k : ℕ) : Type 0 where
  pub within : k ≤ length before
  pub size : length row ≡ length before
  pub threads : walk (length before) right leftmost ≡ take k row ++ walk (length before - k) right t
  pub rest : drop k row ≡ drop k before

pub written_start : (right : List ℕ) (leftmost : ℕ) (row : List ℕ) → Written right leftmost row row leftmost 0
written_start right leftmost row =
    let z : length row - 0 ≡ length row = omega arith in
    record { within = omega arith; size = refl; threads = rw z; rest = refl }

module _ (right : List ℕ) (leftmost : ℕ) (before row : List ℕ) (t k : ℕ) (w : Written right leftmost before row t k) where
  pub written_on : k < length row → t < no_thread → Written right leftmost before (set row k t) (get_or right t 0) (k + 1)
  written_on h b =
      let m : ℕ = length before - (k + 1) in
      let e : length before - k ≡ suc m = omega (arith, w.size) in
      let n : take (k + 1) (set row k t) ≡ take k row ++ (t ∷ []) = rw add-one (take-suc-set row k t h) in
      record {
        within = omega (arith, w.size);
        size = length-set row k t ∙ w.size;
        threads = w.threads ∙ rw (e, n, walk_on m right t b) (sym (append_snoc (take k row) t (walk m right (get_or right t 0))));
        rest = drop-set-lt (k + 1) row k t (omega arith) ∙ sym (drop-drop 1 k row) ∙ ap (drop 1) w.rest ∙ drop-drop 1 k before;
      }

  -- where no thread comes next, the row is written
  ends_here : walk (length before - k) right t ≡ []
      → (k ≡ length (walk (length before) right leftmost)) × (row ≡ walk (length before) right leftmost ++ drop k before)
  ends_here e =
      let all : walk (length before) right leftmost ≡ take k row = w.threads ∙ rw e (append-nil (take k row)) in
      (rw all (sym (length-take-le k row (omega (arith, w.size, w.within)))), rw (all, ← w.rest) (sym (take-append-drop k row)))

  pub written_out : no_thread ≤ t → (k ≡ length (walk (length before) right leftmost)) × (row ≡ walk (length before) right leftmost ++ drop k before)
  written_out b = ends_here (walk_out (length before - k) right t b)

  pub written_all : length row ≤ k → (length row ≡ length (walk (length before) right leftmost)) × (row ≡ walk (length before) right leftmost ++ drop (length row) before)
  written_all h =
      let z : length before - k ≡ 0 = omega (arith, w.size) in
      let e : k ≡ length row = omega (arith, w.size, w.within) in
      let both = ends_here (rw z (walk_over right t)) in
      (sym e ∙ both.0, both.1 ∙ ap (λ (n : ℕ). walk (length before) right leftmost ++ drop n before) e)
