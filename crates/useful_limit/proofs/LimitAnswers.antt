-- What `memlimit` answers, check by check: with b in its range the checks are those of a beginning, and so is the table that runs.
use Rattle.std.specs.Prelude.{Err, Ok, Result, ⊤}
use mathlib.Core.Path.{◌≡◌, refl, sym, ap, subst, ◌∙◌}
use Prim.Native.Nat.{ℕ, ◌≤◌, ◌<◌}
use native.Mathlib.Omega.{arith}
use mathlib.Core.List.{List, [], ◌∷◌}
use mathlib.Core.Bool.{Bool, true, false, ◌&&◌}
use lib.ListN.{length, take}
use lib.Dec.{ltb}
use native.Mathlib.Decide.{dec_lt}
use borrow.Author.Tests.{lt-ltb, le-ltb}
use Rattle.table.specs.Sum.{pick, any_below}
use Rattle.table.specs.Format.{table_of}
use Rattle.table.specs.Pass.{refusal, first_found}
use Rattle.table.specs.Checks.{outside, passes}
use Rattle.table.specs.Rules.{Rules}
use Rattle.table.specs.Load.{loaded}
use Rattle.table.specs.declared.Refusal.{Refusal}
use Rattle.table.proofs.Tests.{no_way}
use Rattle.table.proofs.Passes.{found_exactly, passes_rules, refused_exactly}
use Rattle.order.specs.Words.{is_nothing}
use Rattle.filling.specs.Filled.{big, filled_out, fill_pass}
use Rattle.filling.specs.Filling.{filled_into}
use Rattle.schedule.specs.Record.{max_workers}
use Rattle.schedule.proofs.Stores.{Fits}
use Rattle.schedule.proofs.Beginnings.{silent_runs}
use Rattle.soundness.specs.Tested.{Filling, parents_if, next_if, begin_found, begin_filling, begun_into}
use Rattle.soundness.proofs.Fillings.{runs, given_runs, fills_given, fills_none, front_is_lem, fills_whole, sized}
use Rattle.peaks.specs.Rests.{covered, useful_limit, parallel_peak}
use Rattle.quota.specs.Quota.{max_gap}
use Rattle.quota.proofs.Largest.{limit_cost}
use Rattle.useful_limit.specs.declared.Parts.{Parts}
use Rattle.useful_limit.specs.declared.Numbers.{Numbers}
use Rattle.useful_limit.specs.Limits.{gap_check, quota_check, limit_passes, numbers_of, limits, room_for, limits_in, limits_into}
use Rattle.useful_limit.specs.Code.Parts.{parts_of, need_with, Asked, wide_fault}
use Rattle.useful_limit.proofs.Settings.{wide_found, narrow_found}

-- ---- the numbers

-- put together from the few numbers of the table, its stretches drawn under K
pub numbers_are : (s : List ℕ) (p K b : ℕ) {x : Parts} {memory parallel : ℕ} → x ≡ parts_of (table_of s) p b K → memory ≡ need_with x K → parallel ≡ parallel_peak (table_of s)
    → ◌≡◌ {A = Numbers} (record { memory = memory; serial = x.serial; peak = x.peak; parallel = parallel; stretch = x.stretch }) (numbers_of (table_of s) p K b)
unfolding numbers_of need_with useful_limit covered
numbers_are s p K b e m q = rw (m, q, e, limit_cost (table_of s) p K b)

-- an accepted table is not refused
pub not_refused : (s : List ℕ) {r : Refusal} {A : Type 0} → Rules s → loaded s ≡ Err r → A
not_refused s {r} rules e =
    let f : first_found (passes s) ≡ Err r = (found_exactly (passes s) r).1 ((refused_exactly s r).0 e) in
    let d : Err r ≡ (Ok tt) = sym f ∙ (passes_rules s).1 rules in
    no_way (cc)

-- ---- the checks

module _ (s : List ℕ) (p K b : ℕ) where
  found_wide : max_gap < b → first_found (limit_passes s p K b) ≡ Err (wide_fault (first_found (passes s)) (outside 1 max_workers p) 41)
  found_wide h = wide_found s p (gap_check b) (lt-ltb max_gap b h) (quota_check K ∷ []) (fill_pass (table_of s) K ∷ [])

  found_begin : b ≤ max_gap → first_found (limit_passes s p K b) ≡ begin_found s p K
  found_begin h = narrow_found s p (gap_check b) (le-ltb max_gap b h) K

  -- ---- the answers

  module _ (out : List ℕ) where
    -- the answer, and the lent buffer
    abbrev pub Answers : Result Numbers Refusal → List ℕ → Type 0
    Answers x buffer = (x ≡ limits_in s p K b (length out)) × (buffer ≡ limits_into s p K b out)

    answer_refused : {r : Refusal} → first_found (limit_passes s p K b) ≡ Err r → Answers (Err r) out
    unfolding limits_in limits
    answer_refused e = (rw e, rw e)

    pub answer_wide : max_gap < b → {r : Refusal} → r ≡ wide_fault (first_found (passes s)) (outside 1 max_workers p) 41 → Answers (Err r) out
    answer_wide h e = answer_refused (found_wide h ∙ ap Err (sym e))

    module _ (h : b ≤ max_gap) (r : Filling) (e : r ≡ begin_filling s p K) where
      found_is : first_found (limit_passes s p K b) ≡ r.found
      unfolding begin_filling
      found_is = found_begin h ∙ sym (ap (λ (y : Filling). y.found) e)

      pub answer_found : {x : Refusal} → r.found ≡ Err x → Answers (Err x) out
      answer_found d = answer_refused (found_is ∙ d)

      module _ (d : r.found ≡ Ok tt) where
        silent : begin_found s p K ≡ Ok tt
        unfolding begin_filling
        silent = sym (ap (λ (y : Filling). y.found) e) ∙ d

        pub asked : Asked p K b
        asked =
            let f : Fits p K = (silent_runs s p K silent).1 in
            record { some_worker = f.some_worker; few_workers = f.few_workers; few_quota = f.few_quota; small_gap = h }

        room_is : room_for s K ≡ r.bytes
        unfolding begin_filling
        room_is = sym (ap (λ (y : Filling). y.bytes) e ∙ rw silent)

        into_is : limits_into s p K b out ≡ begun_into s p K out
        into_is = rw (found_begin h)

        with_room : {x : Result Numbers Refusal} → r.bytes ≤ length out → x ≡ Ok (numbers_of (table_of (filled_out s K)) p K b) → x ≡ limits_in s p K b (length out)
        unfolding limits_in limits
        with_room i w = rw (found_is ∙ d, le-ltb (length out) (room_for s K) (omega (arith, room_is))) w

        -- the table as given runs
        pub answer_given : r.bytes ≡ 0 → {x : Result Numbers Refusal} → x ≡ Ok (numbers_of (table_of s) p K b) → Answers x out
        answer_given z w = (
          with_room (omega arith) (rw (given_runs s p K out r e d z) w),
          (fills_given s p K out r e d z (next_if true (table_of s)) (parents_if true (table_of s)) refl refl).0 ∙ sym into_is,
        )

        module _ (z : r.bytes ≡ 0 → ⊥) where
          -- too little room
          pub answer_none : length out < r.bytes → Answers (Err (refusal 61 0)) out
          unfolding limits_in
          answer_none i =
              (rw (found_is ∙ d, lt-ltb (length out) (room_for s K) (omega (arith, room_is))), (fills_none s p K out r e d z i).0 ∙ sym into_is)

          module _ (i : r.bytes ≤ length out) {buffer : List ℕ} (w : buffer ≡ filled_into s K out) where
            pub front_rules : Rules (take r.bytes buffer)
            front_rules = subst Rules (sym (front_is_lem s p K out r e d z i buffer w)) (runs s p K out r e d).rules

            -- the filled-out one
            pub answer_filled : {x : Result Numbers Refusal} → x ≡ Ok (numbers_of (table_of (take r.bytes buffer)) p K b) → Answers x buffer
            answer_filled n = (
              with_room i (rw (front_is_lem s p K out r e d z i buffer w) at n),
              (fills_whole s p K out r e d z i buffer (next_if true (table_of (filled_out s K))) (parents_if true (table_of (filled_out s K))) w refl refl).0 ∙ sym into_is,
            )

-- ---- room enough

-- no filled-out table that runs is longer than the longest table
pub limits_whole : (s : List ℕ) (p K b room : ℕ) → 36868 ≤ room → limits_in s p K b room ≡ limits s p K b
unfolding limits_in begin_filling
limits_whole s p K b room h = go (first_found (limit_passes s p K b)) refl
  where
    filled_small : begin_found s p K ≡ Ok tt → length (filled_out s K) ≤ 36868
    filled_small e = (sized s p K [] (begin_filling s p K) refl e).1

    small : first_found (limit_passes s p K b) ≡ Ok tt → Dec (max_gap < b) → length (filled_out s K) ≤ 36868
    small e (yes g) = let d : Err (wide_fault (first_found (passes s)) (outside 1 max_workers p) 41) ≡ (Ok tt) = sym (found_wide s p K b g) ∙ e in no_way (cc)
    small e (no g) = filled_small (sym (found_begin s p K b (omega (arith, g))) ∙ e)

    fits : (q : Bool) → length (filled_out s K) ≤ 36868 → pick q (length (filled_out s K)) 0 ≤ room
    fits true i = omega (arith, h)
    fits false i = omega arith

    go : (f : Result ⊤ Refusal) → first_found (limit_passes s p K b) ≡ f → pick (is_nothing f && ltb room (room_for s K)) (Err (refusal 61 0)) (limits s p K b) ≡ limits s p K b
    go (Err r) e = refl
    go (Ok _) e = rw (le-ltb room (room_for s K) (fits (any_below (big (table_of s) K) (table_of s).actions) (small e (dec_lt max_gap b))))
