-- The turns that led to a run and to its marks, told from the answers, are the rows of the calls that led there.
use Rattle.std.specs.Prelude.{Err, Ok, Result, ⊤}
use Rattle.table.specs.declared.Refusal.{Refusal}
use mathlib.Core.Path.{◌≡◌, refl, sym, ap, ◌∙◌}
use Prim.Native.Nat.{ℕ, zero, suc}
use mathlib.Core.List.{List, [], ◌∷◌, ◌++◌, map, append-nil, append_assoc}
use mathlib.Core.Bool.{Bool, true, false, not}
use lib.ListN.{get_or, set}
use lib.Dec.{ltb, eqb}
use Rattle.table.specs.Sum.{pick}
use Rattle.table.specs.Pass.{refusal, try_at}
use Rattle.table.specs.Load.{found_number}
use Rattle.order.specs.Words.{is_nothing}
use Rattle.schedule.specs.declared.Run.{Run}
use Rattle.schedule.specs.Calls.{Call, after_call, after_calls, row_of, row_of_calls}
use Rattle.marks.specs.Marks.{max_marks, Marked, unmarked, mark_of, is_set, bad_marked, set_checks, back_checks, set_values, back_values, MarkCall, moving, setting, going, after_mark, Led, led, set_led, back_led, led_by, led_to, nowhere, row_of_marks, row_by, number_of, turns_by, turns_to}
use Rattle.marks.proofs.Marked.{Follows, mark_follows, unmarked_follows}

-- of a row of calls that led somewhere, the row of their turns
abbrev pub rows_of : Run → Led Call → Led ℕ
rows_of r l = led (row_of_calls l.here r) (map (λ (c : List Call). row_of_calls c r) l.marks)

append_row : (xs : List Call) (c : Call) (r : Run) → row_of_calls (xs ++ c ∷ []) r ≡ row_of_calls xs r ++ row_of c (after_calls xs r)
unfolding row_of_calls after_calls
append_row [] c r = append-nil (row_of c r)
append_row (x ∷ xs) c r =
    ap (row_of x r ++◌) (append_row xs c (after_call x r))
    ∙ sym (append_assoc (row_of x r) (row_of_calls xs (after_call x r)) (row_of c (after_calls xs (after_call x r))))

map_set : {A B : Type 0} (f : A → B) (l : List A) (i : ℕ) (x : A) → map f (set l i x) ≡ set (map f l) i (f x)
map_set f [] i x = refl
map_set f (y ∷ l) zero x = refl
map_set f (y ∷ l) (suc i) x = ap (f y ∷◌) (map_set f l i x)

map_at : (f : List Call → List ℕ) → f [] ≡ [] → (l : List (List Call)) (i : ℕ) → get_or (map f l) i [] ≡ f (get_or l i [])
map_at f e [] i = sym e
map_at f e (x ∷ l) zero = refl
map_at f e (x ∷ l) (suc i) = map_at f e l i

-- a number tells whether something was found: no check has 0
tells : (b : Bool) (n : ℕ) (f : Result ⊤ Refusal) → eqb n 0 ≡ false → eqb (found_number f) 0 ≡ is_nothing f
    → eqb (found_number (pick b (Err (refusal n 0)) f)) 0 ≡ is_nothing (pick b (Err (refusal n 0)) f)
tells true n f e h = e
tells false n f e h = h

set_tells : (m : Marked) (i : ℕ) → eqb (number_of (setting i) m) 0 ≡ is_nothing (try_at (set_checks m i) 0)
unfolding try_at set_values
set_tells m i = tells (bad_marked m) 32 _ refl (tells (not (ltb i max_marks)) 45 (Ok tt) refl refl)

back_tells : (m : Marked) (i : ℕ) → eqb (number_of (going i) m) 0 ≡ is_nothing (try_at (back_checks m i) 0)
unfolding try_at back_values
back_tells m i = tells (bad_marked m) 32 _ refl (tells (not (ltb i max_marks)) 45 _ refl (tells (not (is_set (mark_of m i))) 46 (Ok tt) refl refl))

no_calls : (r : Run) → row_of_calls [] r ≡ []
unfolding row_of_calls
no_calls r = refl

turns_led : (r : Run) (c : MarkCall) (m : Marked) (l : Led Call) → Follows r m l → turns_by c (row_by c m) (number_of c m) (rows_of r l) ≡ rows_of r (led_by c m l)
unfolding led_by
turns_led r (moving c) m l f =
    ap (λ (row : List ℕ). led row (rows_of r l).marks) (ap (λ (q : Run). row_of_calls l.here r ++ row_of c q) f.run ∙ sym (append_row l.here c r))
turns_led r (setting i) m l f = rw (set_tells m i) (go (try_at (set_checks m i) 0))
  where
    go : (x : Result ⊤ Refusal) → pick (is_nothing x) (set_led (Ok tt) i (rows_of r l)) (rows_of r l) ≡ rows_of r (set_led x i l)
    go (Ok _) = ap (led (rows_of r l).here) (sym (map_set (λ (c : List Call). row_of_calls c r) l.marks i l.here))
    go (Err x) = refl
turns_led r (going i) m l f = rw (back_tells m i) (go (try_at (back_checks m i) 0))
  where
    go : (x : Result ⊤ Refusal) → pick (is_nothing x) (back_led (Ok tt) i (rows_of r l)) (rows_of r l) ≡ rows_of r (back_led x i l)
    go (Ok _) = ap (λ (row : List ℕ). led row (rows_of r l).marks) (map_at (λ (c : List Call). row_of_calls c r) (no_calls r) l.marks i)
    go (Err x) = refl

module _ (r : Run) where
  turns_led_from : (cs : List MarkCall) (m : Marked) (l : Led Call) → Follows r m l → turns_to cs m (rows_of r l) ≡ rows_of r (led_to cs m l)
  unfolding turns_to led_to
  turns_led_from [] m l f = refl
  turns_led_from (c ∷ cs) m l f = ap (turns_to cs (after_mark c m)) (turns_led r c m l f) ∙ turns_led_from cs (after_mark c m) (led_by c m l) (mark_follows r c m l f)

  -- after calls with marks among them, from a run with no mark set
  pub turns_led_to : (cs : List MarkCall) → (turns_to cs (unmarked r) nowhere).here ≡ row_of_marks cs r
  unfolding row_of_marks row_of_calls
  turns_led_to cs = ap (λ (w : Led ℕ). w.here) (turns_led_from cs (unmarked r) nowhere (unmarked_follows r))
