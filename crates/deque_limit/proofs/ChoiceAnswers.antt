-- What `dequelimit` answers, check by check: with c in its range the checks are those of a beginning, and so is the table that runs.
use Rattle.std.specs.Prelude.{Err, Ok, Result, ⊤}
use Rattle.deque_limit.specs.declared.Bounds.{Bounds}
use mathlib.Core.Path.{◌≡◌, refl, sym, ap, subst, ◌∙◌}
use Prim.Native.Nat.{ℕ, ◌≤◌, ◌<◌}
use native.Mathlib.Omega.{arith}
use mathlib.Core.List.{List, [], ◌∷◌}
use mathlib.Core.Bool.{Bool, true, false, ◌&&◌}
use lib.ListN.{length, take}
use lib.Dec.{ltb}
use borrow.Author.Tests.{lt-ltb, le-ltb}
use Rattle.table.specs.Sum.{pick, any_below}
use Rattle.table.specs.Format.{table_of}
use Rattle.table.specs.Pass.{refusal, first_found}
use Rattle.table.specs.Checks.{outside, passes}
use Rattle.table.specs.Rules.{Rules}
use Rattle.table.specs.declared.Refusal.{Refusal}
use Rattle.table.proofs.Tests.{no_way}
use Rattle.table.proofs.Sizes.{inside}
use Rattle.order.specs.Words.{is_nothing}
use Rattle.filling.specs.Filled.{big, filled_out, fill_pass}
use Rattle.filling.specs.Filling.{filled_into}
use Rattle.schedule.specs.Record.{max_workers}
use Rattle.schedule.proofs.Stores.{Fits}
use Rattle.schedule.proofs.Beginnings.{silent_runs}
use Rattle.soundness.specs.Tested.{Filling, parents_if, next_if, begin_found, begin_filling, begun_into}
use Rattle.soundness.proofs.Fillings.{runs, given_runs, fills_given, fills_none, front_is_lem, fills_whole, sized}
use Rattle.useful_limit.specs.Limits.{quota_check, room_for}
use Rattle.useful_limit.specs.Code.Parts.{wide_fault}
use Rattle.useful_limit.proofs.Settings.{wide_found, narrow_found}
use Rattle.deque_limit.specs.ChoiceLimit.{bounds_of, choices_check, choice_passes, choice_limits, choice_limits_in, choice_limits_into}
use Rattle.deque_limit.specs.Asked.{Asked}

-- ---- the checks

module _ (s : List ℕ) (p K c : ℕ) where
  found_wide : outside 1 p c ≡ true → first_found (choice_passes s p K c) ≡ Err (wide_fault (first_found (passes s)) (outside 1 max_workers p) 49)
  found_wide h = wide_found s p (choices_check p c) h (quota_check K ∷ []) (fill_pass (table_of s) K ∷ [])

  found_begin : outside 1 p c ≡ false → first_found (choice_passes s p K c) ≡ begin_found s p K
  found_begin h = narrow_found s p (choices_check p c) h K

  -- ---- the answers

  module _ (out : List ℕ) where
    -- the answer, and the lent buffer
    abbrev pub Answers : Result Bounds Refusal → List ℕ → Type 0
    Answers x buffer = (x ≡ choice_limits_in s p K c (length out)) × (buffer ≡ choice_limits_into s p K c out)

    answer_refused : {r : Refusal} → first_found (choice_passes s p K c) ≡ Err r → Answers (Err r) out
    unfolding choice_limits_in choice_limits
    answer_refused e = (rw e, rw e)

    pub answer_wide : outside 1 p c ≡ true → {r : Refusal} → r ≡ wide_fault (first_found (passes s)) (outside 1 max_workers p) 49 → Answers (Err r) out
    answer_wide h e = answer_refused (found_wide h ∙ ap Err (sym e))

    module _ (h : outside 1 p c ≡ false) (r : Filling) (e : r ≡ begin_filling s p K) where
      found_is : first_found (choice_passes s p K c) ≡ r.found
      unfolding begin_filling
      found_is = found_begin h ∙ sym (ap (λ (y : Filling). y.found) e)

      pub answer_found : {x : Refusal} → r.found ≡ Err x → Answers (Err x) out
      answer_found d = answer_refused (found_is ∙ d)

      module _ (d : r.found ≡ Ok tt) where
        silent : begin_found s p K ≡ Ok tt
        unfolding begin_filling
        silent = sym (ap (λ (y : Filling). y.found) e) ∙ d

        pub asked : Asked K c
        asked =
            let f : Fits p K = (silent_runs s p K silent).1 in
            record { some_quota = f.some_quota; few_quota = f.few_quota; few_choices = omega (arith, (inside 1 p c h).1, f.few_workers) }

        room_is : room_for s K ≡ r.bytes
        unfolding begin_filling
        room_is = sym (ap (λ (y : Filling). y.bytes) e ∙ rw silent)

        into_is : choice_limits_into s p K c out ≡ begun_into s p K out
        into_is = rw (found_begin h)

        with_room : {x : Result Bounds Refusal} → r.bytes ≤ length out → x ≡ Ok (bounds_of (table_of (filled_out s K)) K c) → x ≡ choice_limits_in s p K c (length out)
        unfolding choice_limits_in choice_limits
        with_room i w = rw (found_is ∙ d, le-ltb (length out) (room_for s K) (omega (arith, room_is))) w

        -- the table as given runs
        pub answer_given : r.bytes ≡ 0 → {x : Result Bounds Refusal} → x ≡ Ok (bounds_of (table_of s) K c) → Answers x out
        answer_given z w = (
          with_room (omega arith) (rw (given_runs s p K out r e d z) w),
          (fills_given s p K out r e d z (next_if true (table_of s)) (parents_if true (table_of s)) refl refl).0 ∙ sym into_is,
        )

        module _ (z : r.bytes ≡ 0 → ⊥) where
          -- too little room
          pub answer_none : length out < r.bytes → Answers (Err (refusal 61 0)) out
          unfolding choice_limits_in
          answer_none i =
              (rw (found_is ∙ d, lt-ltb (length out) (room_for s K) (omega (arith, room_is))), (fills_none s p K out r e d z i).0 ∙ sym into_is)

          module _ (i : r.bytes ≤ length out) {buffer : List ℕ} (w : buffer ≡ filled_into s K out) where
            pub front_rules : Rules (take r.bytes buffer)
            front_rules = subst Rules (sym (front_is_lem s p K out r e d z i buffer w)) (runs s p K out r e d).rules

            -- the filled-out one
            pub answer_filled : {x : Result Bounds Refusal} → x ≡ Ok (bounds_of (table_of (take r.bytes buffer)) K c) → Answers x buffer
            answer_filled n = (
              with_room i (rw (front_is_lem s p K out r e d z i buffer w) at n),
              (fills_whole s p K out r e d z i buffer (next_if true (table_of (filled_out s K))) (parents_if true (table_of (filled_out s K))) w refl refl).0 ∙ sym into_is,
            )

-- ---- room enough

-- no filled-out table that runs is longer than the longest table
pub choices_whole : (s : List ℕ) (p K c room : ℕ) → 36868 ≤ room → choice_limits_in s p K c room ≡ choice_limits s p K c
unfolding choice_limits_in begin_filling
choices_whole s p K c room h = go (first_found (choice_passes s p K c)) refl
  where
    filled_small : begin_found s p K ≡ Ok tt → length (filled_out s K) ≤ 36868
    filled_small e = (sized s p K [] (begin_filling s p K) refl e).1

    small : first_found (choice_passes s p K c) ≡ Ok tt → (q : Bool) → outside 1 p c ≡ q → length (filled_out s K) ≤ 36868
    small e true g = let d : Err (wide_fault (first_found (passes s)) (outside 1 max_workers p) 49) ≡ (Ok tt) = sym (found_wide s p K c g) ∙ e in no_way (cc)
    small e false g = filled_small (sym (found_begin s p K c g) ∙ e)

    fits : (q : Bool) → length (filled_out s K) ≤ 36868 → pick q (length (filled_out s K)) 0 ≤ room
    fits true i = omega (arith, h)
    fits false i = omega arith

    go : (f : Result ⊤ Refusal) → first_found (choice_passes s p K c) ≡ f → pick (is_nothing f && ltb room (room_for s K)) (Err (refusal 61 0)) (choice_limits s p K c) ≡ choice_limits s p K c
    go (Err r) e = refl
    go (Ok _) e = rw (le-ltb room (room_for s K) (fits (any_below (big (table_of s) K) (table_of s).actions) (small e (outside 1 p c) refl)))
