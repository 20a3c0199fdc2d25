-- From a beginning, after single turns and marks set and gone back to, the run and its marks are sound: 32 does not apply, and the worked cases hold of the definitions.
use Rattle.std.specs.Prelude.{Err, Ok, Result, ⊤}
use Rattle.table.specs.declared.Refusal.{Refusal}
use mathlib.Core.Path.{◌≡◌, refl, ap, ap₂, ◌∙◌}
use Prim.Native.Nat.{ℕ, zero, suc, ◌+◌, ◌-◌, ◌^◌, ◌<◌}
use native.Mathlib.Omega.{arith}
use mathlib.Core.List.{List, [], ◌∷◌, map}
use mathlib.Core.Bool.{Bool, true, false, ◌&&◌}
use lib.ListN.{length, get_or, set, replicate}
use lib.Dec.{ltb}
use Rattle.table.specs.Sum.{sum_to, any_below}
use Rattle.table.specs.Format.{code_of, kind_of, is, table_of}
use Rattle.table.specs.Pass.{try_at, try_from, try_pass, first_found}
use Rattle.table.specs.Checks.{entry_wrong, total_wrong, owner_below, kind_unknown, argument_wrong, end_misplaced, forked_below, forked_before}
use Rattle.table.specs.Checks.{open_before, join_not_latest, end_with_open, never_forked, alloc_of, free_of, whole_within, balance, balance_below0, passes}
use Rattle.table.specs.Load.{found_number}
use Rattle.table.specs.Cases.{E}
use Rattle.table.proofs.Tests.{no_way}
use Rattle.filling.specs.Filled.{big, filled_out, overfull}
use Rattle.schedule.specs.declared.Run.{Run}
use Rattle.schedule.specs.declared.Turned.{Turned}
use Rattle.schedule.specs.Begin.{begin}
use Rattle.schedule.specs.Sound.{Steady, Sound}
use Rattle.schedule.specs.Turn.{unsound}
use Rattle.schedule.specs.Calls.{Call, turn, over_list, in_rounds, after_call}
use Rattle.schedule.proofs.CaseLaws.{turned_sound_lem, turned_turns, begun_fresh}
use Rattle.schedule.proofs.Sound.Tests.{sound_exactly}
use Rattle.schedule.proofs.Runs.Histories.{turn_steady}
use Rattle.order.proofs.Words.{and_exactly, ltb_exactly}
use Rattle.order.proofs.Lists.{get_d_alike}
use Rattle.marks.specs.Marks.{Mark, unset, kept, max_marks, Marked, marked, unmarked, mark_of, bad_mark, bad_marked, set_checks, back_checks, set_values, back_values, run_at, set_as, back_as, set_led, back_led, MarkCall, moving, setting, going, after_mark, Led, led_by, nowhere, number_of}
use Rattle.marks.specs.MarkCases.{found, after_sound, led_sound, number_sound, Seen, seen_by, MarkCase, mark_cases, Worked, marks_worked}

-- sound, with room for k turns more
record Fresh (k : ℕ) (r : Run) : Type 0 where
  steady : Steady r
  room : r.turns + k < 2 ^ 64 - 1

abbrev FreshMark : ℕ → Mark → Type 0
FreshMark k unset = Unit {0}
FreshMark k (kept r) = Fresh k r

record AllFresh (k : ℕ) (m : Marked) : Type 0 where
  run : Fresh k m.run
  marks : (i : ℕ) → FreshMark k (mark_of m i)

module _ (k : ℕ) where
  fresh_sound : (r : Run) → Fresh k r → Sound r
  fresh_sound r h = record { steady = h.steady; turns = omega (arith, h.room) }

  not_unsound : (r : Run) → Fresh k r → unsound r ≡ false
  unfolding unsound
  not_unsound r h = rw ((sound_exactly r).1 (fresh_sound r h))

  not_bad : (x : Mark) → FreshMark k x → bad_mark x ≡ false
  not_bad unset h = refl
  not_bad (kept r) h = not_unsound r h

  none_below : (f : ℕ → Bool) (n : ℕ) → ((i : ℕ) → f i ≡ false) → any_below f n ≡ false
  unfolding any_below
  none_below f zero h = refl
  none_below f (suc n) h = rw (h n) (none_below f n h)

  none_bad : (m : Marked) → AllFresh k m → bad_marked m ≡ false
  unfolding bad_marked
  none_bad m h = rw (not_unsound m.run h.run) (none_below (λ i. bad_mark (mark_of m i)) max_marks (λ i. not_bad (mark_of m i) (h.marks i)))

  fresh_set : (ms : List Mark) (i : ℕ) (r : Run) → Fresh k r → ((j : ℕ) → FreshMark k (get_or ms j unset)) → (j : ℕ) → FreshMark k (get_or (set ms i (kept r)) j unset)
  fresh_set [] i r f h j = h j
  fresh_set (x ∷ ms) zero r f h zero = f
  fresh_set (x ∷ ms) zero r f h (suc j) = h (suc j)
  fresh_set (x ∷ ms) (suc i) r f h zero = h 0
  fresh_set (x ∷ ms) (suc i) r f h (suc j) = fresh_set ms i r f (λ n. h (suc n)) j

  set_fresh : (x : Result ⊤ Refusal) (i : ℕ) (m : Marked) → AllFresh k m → AllFresh k (set_as x i m)
  set_fresh (Ok _) i m h = record { run = h.run; marks = fresh_set m.marks i m.run h.run h.marks }
  set_fresh (Err x) i m h = h

  run_at_lem : (x : Mark) (r : Run) → FreshMark k x → Fresh k r → Fresh k (run_at x r)
  run_at_lem unset r h f = f
  run_at_lem (kept q) r h f = h

  back_fresh : (x : Result ⊤ Refusal) (i : ℕ) (m : Marked) → AllFresh k m → AllFresh k (back_as x i m)
  back_fresh (Ok _) i m h = record { run = run_at_lem (mark_of m i) m.run (h.marks i) h.run; marks = h.marks }
  back_fresh (Err x) i m h = h

less : (k : ℕ) (r : Run) → Fresh (suc k) r → Fresh k r
less k r h = record { steady = h.steady; room = omega (arith, h.room) }

less_mark : (k : ℕ) (x : Mark) → FreshMark (suc k) x → FreshMark k x
less_mark k unset h = tt
less_mark k (kept r) h = less k r h

less_all : (k : ℕ) (m : Marked) → AllFresh (suc k) m → AllFresh k m
less_all k m h = record { run = less k m.run h.run; marks = λ i. less_mark k (mark_of m i) (h.marks i) }

-- ---- a call

-- single turns, and the calls on marks
abbrev single : MarkCall → Bool
single (moving (turn w)) = true
single (moving (over_list l)) = false
single (moving (in_rounds limit)) = false
single (setting i) = true
single (going i) = true

record Same (k : ℕ) (c : MarkCall) (m : Marked) : Type 0 where
  after : after_mark c m ≡ after_sound c m
  led : (l : Led Call) → led_by c m l ≡ led_sound c m l
  number : number_of c m ≡ number_sound c m
  fresh : AllFresh k (after_mark c m)

set_checked : (m : Marked) (i : ℕ) → bad_marked m ≡ false → try_at (set_checks m i) 0 ≡ found m (setting i)
unfolding try_at
set_checked m i e = rw e

back_checked : (m : Marked) (i : ℕ) → bad_marked m ≡ false → try_at (back_checks m i) 0 ≡ found m (going i)
unfolding try_at
back_checked m i e = rw e

same : (k : ℕ) (c : MarkCall) (m : Marked) → single c ≡ true → AllFresh (suc k) m → Same k c m
unfolding after_mark led_by set_values back_values after_call try_at
same k (moving (turn w)) m s h =
    let e = turned_sound_lem m.run w (fresh_sound (suc k) m.run h.run) in
    record {
      after = ap (λ (d : Turned). marked d.run m.marks) e;
      led = λ l. refl;
      number = refl;
      fresh =
          record {
            run = record { steady = turn_steady m.run w h.run.steady; room = omega (arith, turned_turns m.run w, h.run.room) };
            marks = (less_all k m h).marks;
          };
    }
same k (moving (over_list l)) m s h = no_way cc
same k (moving (in_rounds limit)) m s h = no_way cc
same k (setting i) m s h =
    let e = set_checked m i (none_bad (suc k) m h) in
    record {
      after = ap (λ (x : Result ⊤ Refusal). set_as x i m) e;
      led = λ l. ap (λ (x : Result ⊤ Refusal). set_led x i l) e;
      number = ap found_number e;
      fresh = set_fresh k (try_at (set_checks m i) 0) i m (less_all k m h);
    }
same k (going i) m s h =
    let e = back_checked m i (none_bad (suc k) m h) in
    record {
      after = ap (λ (x : Result ⊤ Refusal). back_as x i m) e;
      led = λ l. ap (λ (x : Result ⊤ Refusal). back_led x i l) e;
      number = ap found_number e;
      fresh = back_fresh k (try_at (back_checks m i) 0) i m (less_all k m h);
    }

-- ---- lists of them

abbrev singles : List MarkCall → Bool
singles [] = true
singles (c ∷ cs) = single c && singles cs

abbrev seen_truly : Marked → Led Call → List MarkCall → MarkCall → Seen
seen_truly = seen_by after_mark led_by number_of

abbrev seen_sound : Marked → Led Call → List MarkCall → MarkCall → Seen
seen_sound = seen_by after_sound led_sound number_sound

seen_same : (cs : List MarkCall) (c : MarkCall) (m : Marked) (l : Led Call) → singles (c ∷ cs) ≡ true → AllFresh (suc (length cs)) m → seen_truly m l cs c ≡ seen_sound m l cs c
seen_same [] c m l s h =
    let t = same 0 c m ((and_exactly (single c) true).0 s).0 h in
    rw (t.after, t.led l, t.number)
seen_same (x ∷ cs) c m l s h =
    let (a, b) = (and_exactly (single c) (single x && singles cs)).0 s in
    let (d, e) = (and_exactly (single x) (singles cs)).0 b in
    let t = same (suc (length cs)) x m d h in
    seen_same cs c (after_mark x m) (led_by x m l) ((and_exactly (single c) (singles cs)).1 (a, e)) t.fresh
    ∙ ap₂ (λ (q : Marked) (y : Led Call). seen_sound q y cs c) t.after (t.led l)

-- every case with few single turns and calls on marks
abbrev right : MarkCase → Bool
right c = singles (c.last ∷ c.calls) && ltb (length c.calls) 1000

all_right : List MarkCase → Bool
all_right [] = true
all_right (c ∷ l) = right c && all_right l

seen_all : (r : Run) → Steady r → r.turns ≡ 0 → (l : List MarkCase) → all_right l ≡ true
    → map (λ (c : MarkCase). seen_truly (unmarked r) nowhere c.calls c.last) l ≡ map (λ (c : MarkCase). seen_sound (unmarked r) nowhere c.calls c.last) l
unfolding all_right
seen_all r h z [] q = refl
seen_all r h z (c ∷ l) q =
    let (a, b) = (and_exactly (right c) (all_right l)).0 q in
    let (d, e) = (and_exactly (singles (c.last ∷ c.calls)) (ltb (length c.calls) 1000)).0 a in
    let few : length c.calls < 1000 = (ltb_exactly (length c.calls) 1000).0 e in
    let f : AllFresh (suc (length c.calls)) (unmarked r) =
    record { run = record { steady = h; room = omega arith }; marks = λ i. none i } in
    ap₂ ◌∷◌ (seen_same c.calls c.last (unmarked r) nowhere d f) (seen_all r h z l b)
  where
    none : (i : ℕ) → FreshMark (suc (length c.calls)) (get_or (replicate 8 unset) i unset)
    none i = rw (get_d_alike 8 i unset) tt

begun_E : (begin E 2 6).answer ≡ Ok tt
unfolding sum_to any_below code_of kind_of is table_of try_at try_from try_pass first_found entry_wrong total_wrong owner_below kind_unknown argument_wrong end_misplaced forked_below forked_before open_before join_not_latest end_with_open never_forked alloc_of free_of whole_within balance balance_below0 passes big overfull filled_out begin
begun_E = refl

-- every case's calls are seen as the case says
pub marks_seen : Worked after_mark led_by number_of
unfolding all_right mark_cases
marks_seen =
    let (h, z) = begun_fresh E 2 6 begun_E in
    seen_all (begin E 2 6).run h z mark_cases refl ∙ marks_worked
