-- The numbers of each answer of the limit for choices; 17 workers are refused as any higher number is; and an answer 0 is a limit.
use Rattle.std.specs.Prelude.{Err, Ok, Result, ⊤}
use mathlib.Core.Path.{◌≡◌, refl, ap, ◌∙◌}
use Prim.Native.Nat.{ℕ, min, ◌≤◌}
use native.Mathlib.Omega.{arith}
use mathlib.Core.List.{List, [], ◌∷◌}
use mathlib.Core.Bool.{Bool, true, false, ◌&&◌}
use lib.Dec.{ltb}
use lib.ListN.{length}
use Rattle.table.specs.Format.{table_of}
use Rattle.table.specs.Sum.{pick}
use Rattle.table.specs.Pass.{refusal, first_found}
use Rattle.table.specs.Checks.{passes}
use Rattle.table.specs.declared.Refusal.{Refusal}
use Rattle.table.proofs.Tests.{no_way}
use Rattle.order.specs.Words.{is_nothing}
use Rattle.filling.specs.Filled.{filled_out, fill_pass}
use Rattle.useful_limit.specs.Limits.{workers_check, quota_check, settings, room_for}
use Rattle.useful_limit.proofs.Settings.{many_fault, many_found}
use Rattle.deque_limit.specs.declared.Bounds.{Bounds}
use Rattle.deque_limit.specs.ChoiceLimit.{bounds_of, choices_check, choice_passes, choices_as, choice_limits, choice_limits_in, choice_limits_into}
use Rattle.wivakkol.proofs.Answers.{as_handed}
use Rattle.wivakkol.proofs.Numbered.{Numbered, none, one, end, then, all_passes, number_is, own_numbered}
use Rattle.wivakkol_deques.specs.ChoiceRows.{choice_number, choice_row}

-- ---- more workers than there may be

module _ (s : List ℕ) (K c : ℕ) where
  choice_found : (p : ℕ) → 17 ≤ p → first_found (choice_passes s p K c) ≡ Err (many_fault (first_found (passes s)))
  choice_found p h = many_found s p h (choices_check p c ∷ quota_check K ∷ []) (fill_pass (table_of s) K ∷ [])

  choice_17 : (room p : ℕ) → 17 ≤ p → choice_limits_in s 17 K c room ≡ choice_limits_in s p K c room
  unfolding choice_limits_in choice_limits
  choice_17 room p h = rw (choice_found p h, choice_found 17 (omega arith)) refl

  into_17 : (out : List ℕ) (p : ℕ) → 17 ≤ p → choice_limits_into s 17 K c out ≡ choice_limits_into s p K c out
  into_17 out p h = rw (choice_found p h, choice_found 17 (omega arith)) refl

  -- what the call on a byte answers is the answer
  pub choice_handed : (p : ℕ) (out : List ℕ) {w : ℕ} {a : Result Bounds Refusal} {buffer : List ℕ} → w ≡ min p 17 → a ≡ choice_limits_in s w K c (length out) → buffer ≡ choice_limits_into s w K c out
      → (a ≡ choice_limits_in s p K c (length out)) × (buffer ≡ choice_limits_into s p K c out)
  choice_handed p out d e f = (
    e ∙ ap (λ (x : ℕ). choice_limits_in s x K c (length out)) d ∙ as_handed (λ (x : ℕ). choice_limits_in s x K c (length out)) (choice_17 (length out)) p,
    f ∙ ap (λ (x : ℕ). choice_limits_into s x K c out) d ∙ as_handed (λ (x : ℕ). choice_limits_into s x K c out) (into_17 out) p,
  )

-- ---- the rows

module _ {a y : Result Bounds Refusal} (e : a ≡ y) where
  pub choice_given : {x : Bounds} → a ≡ Ok x → (0 ≡ choice_number y) × ((0 ∷ x.memory ∷ x.near ∷ []) ≡ choice_row y)
  choice_given g = rw (← e, g) (refl, refl)

  pub choice_refused : {r : Refusal} → a ≡ Err r → (r.number ≡ choice_number y) × ((r.place ∷ 0 ∷ 0 ∷ []) ≡ choice_row y)
  choice_refused g = rw (← e, g) (refl, refl)

-- ---- 0

-- where the call answers 0, no check applies and the room is enough: what `dequelimit` gives stands in the row
pub choice_zero : (s : List ℕ) (p K c room : ℕ) → choice_number (choice_limits_in s p K c room) ≡ 0
    → (x : Bounds) × ((choice_limits s p K c ≡ Ok x) × (choice_row (choice_limits_in s p K c room) ≡ (0 ∷ x.memory ∷ x.near ∷ [])))
unfolding choice_limits_in choice_limits
choice_zero s p K c room e = (y, go (first_found (choice_passes s p K c)) (ltb room (room_for s K)) numbered e)
  where
    y : Bounds
    y = bounds_of (table_of (filled_out s K)) K c

    numbered : Numbered (first_found (choice_passes s p K c))
    numbered =
        all_passes (choice_passes s p K c)
        (own_numbered s (settings (workers_check p ∷ choices_check p c ∷ quota_check K ∷ []) ∷ fill_pass (table_of s) K ∷ [])
        (then (one (number_is 19) (one (number_is 48) (one (number_is 20) none))) (then (one (number_is 43) none) end)))

    go : (f : Result ⊤ Refusal) (b : Bool) → Numbered f → choice_number (pick (is_nothing f && b) (Err (refusal 61 0)) (choices_as f y)) ≡ 0
        → (choices_as f y ≡ Ok y) × (choice_row (pick (is_nothing f && b) (Err (refusal 61 0)) (choices_as f y)) ≡ (0 ∷ y.memory ∷ y.near ∷ []))
    go (Err r) b h d = let g : Err r ≡ (Ok tt) = h d in no_way (cc)
    go (Ok _) true h d = absurd (omega (arith, d))
    go (Ok _) false h d = (refl, refl)
