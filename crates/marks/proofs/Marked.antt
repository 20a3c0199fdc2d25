-- A run with marks is at each point a run without: the one that the calls led to.
use Rattle.std.specs.Prelude.{Err, Ok, Result, ⊤}
use Rattle.table.specs.declared.Refusal.{Refusal}
use mathlib.Core.Path.{◌≡◌, refl, sym, ap, ◌∙◌}
use Prim.Native.Nat.{ℕ, zero, suc}
use mathlib.Core.List.{List, [], ◌∷◌, ◌++◌}
use mathlib.Core.Bool.{true}
use native.Mathlib.Omega.{arith}
use lib.ListN.{length, get_or, set, replicate, length-set}
use Rattle.table.specs.Pass.{try_at}
use borrow.Author.Tests.{not-false}
use Rattle.table.proofs.Tests.{no_way}
use Rattle.table.proofs.Trying.{try_at_nothing}
use Rattle.schedule.specs.declared.Run.{Run}
use Rattle.schedule.specs.Calls.{Call, after_call, after_calls}
use Rattle.order.proofs.Lists.{get_d_alike}
use Rattle.marks.specs.Marks.{Mark, unset, kept, Marked, unmarked, mark_of, set_checks, back_checks, is_set, set_as, back_as, set_led, back_led, run_at, MarkCall, moving, setting, going, after_mark, after_marks, Led, led_by, led_to, nowhere}

append_calls : (xs : List Call) (c : Call) (r : Run) → after_calls (xs ++ c ∷ []) r ≡ after_call c (after_calls xs r)
unfolding after_calls
append_calls [] c r = refl
append_calls (x ∷ xs) c r = append_calls xs c (after_call x r)

-- a mark is unset, or the run that its calls led to
abbrev pub Right : Run → Mark → List Call → Type 0
Right r unset l = Unit {0}
Right r (kept q) l = q ≡ after_calls l r

-- the run and every mark are what the calls that led there leave
pub record Follows (r : Run) (m : Marked) (l : Led Call) : Type 0 where
  pub run : m.run ≡ after_calls l.here r
  pub marks : (i : ℕ) → Right r (mark_of m i) (get_or l.marks i [])
  pub size : length m.marks ≡ length l.marks

module _ (r : Run) where
  right_set : (ms : List Mark) (ls : List (List Call)) (i : ℕ) (q : Run) (l : List Call) → q ≡ after_calls l r → length ms ≡ length ls
      → ((j : ℕ) → Right r (get_or ms j unset) (get_or ls j [])) → (j : ℕ) → Right r (get_or (set ms i (kept q)) j unset) (get_or (set ls i l) j [])
  right_set [] [] i q l e n h j = h j
  right_set [] (y ∷ ls) i q l e n h j = absurd (omega arith)
  right_set (x ∷ ms) [] i q l e n h j = absurd (omega arith)
  right_set (x ∷ ms) (y ∷ ls) zero q l e n h zero = e
  right_set (x ∷ ms) (y ∷ ls) zero q l e n h (suc j) = h (suc j)
  right_set (x ∷ ms) (y ∷ ls) (suc i) q l e n h zero = h 0
  right_set (x ∷ ms) (y ∷ ls) (suc i) q l e n h (suc j) = right_set ms ls i q l e (omega arith) (λ k. h (suc k)) j

  set_follows : (x : Result ⊤ Refusal) (i : ℕ) (m : Marked) (l : Led Call) → Follows r m l → Follows r (set_as x i m) (set_led x i l)
  set_follows (Ok _) i m l f =
      record {
        run = f.run;
        marks = right_set m.marks l.marks i m.run l.here f.run f.size f.marks;
        size = length-set m.marks i (kept m.run) ∙ f.size ∙ sym (length-set l.marks i l.here);
      }
  set_follows (Err x) i m l f = f

  back_follows : (x : Result ⊤ Refusal) (i : ℕ) (m : Marked) (l : Led Call) → is_set (mark_of m i) ≡ true → Follows r m l → Follows r (back_as x i m) (back_led x i l)
  back_follows (Ok _) i m l h f = record { run = at (mark_of m i) h (f.marks i); marks = f.marks; size = f.size }
    where
      at : (k : Mark) → is_set k ≡ true → Right r k (get_or l.marks i []) → run_at k m.run ≡ after_calls (get_or l.marks i []) r
      at unset h g = no_way cc
      at (kept q) h g = g
  back_follows (Err x) i m l h f = f

  pub mark_follows : (c : MarkCall) (m : Marked) (l : Led Call) → Follows r m l → Follows r (after_mark c m) (led_by c m l)
  unfolding after_mark led_by
  mark_follows (moving c) m l f = record { run = ap (after_call c) f.run ∙ sym (append_calls l.here c r); marks = f.marks; size = f.size }
  mark_follows (setting i) m l f = set_follows (try_at (set_checks m i) 0) i m l f
  mark_follows (going i) m l f = went (try_at (back_checks m i) 0) refl
    where
      went : (x : Result ⊤ Refusal) → try_at (back_checks m i) 0 ≡ x → Follows r (back_as x i m) (back_led x i l)
      went (Ok _) e = back_follows (Ok tt) i m l (not-false _ ((try_at_nothing (back_checks m i) 0).0 e).1.1.0) f
      went (Err y) e = f

  pub unmarked_follows : Follows r (unmarked r) nowhere
  unfolding after_calls
  unmarked_follows = record { run = refl; marks = λ i. none i; size = refl }
    where
      none : (i : ℕ) → Right r (get_or (replicate 8 unset) i unset) (get_or (replicate 8 []) i [])
      none i = rw (get_d_alike 8 i unset) tt

  -- after calls with marks among them, from a run with no mark set
  pub marked_follows : (cs : List MarkCall) → Follows r (after_marks cs (unmarked r)) (led_to cs (unmarked r) nowhere)
  unfolding after_marks led_to
  marked_follows cs = go cs (unmarked r) nowhere unmarked_follows
    where
      go : (cs : List MarkCall) (m : Marked) (l : Led Call) → Follows r m l → Follows r (after_marks cs m) (led_to cs m l)
      go [] m l f = f
      go (c ∷ cs) m l f = go cs (after_mark c m) (led_by c m l) (mark_follows c m l f)
