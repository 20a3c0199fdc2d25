-- Writes of the bytes, the 32-bit numbers and the 64-bit sums.
use mathlib.Core.Path.{◌≡◌, refl, sym}
use Prim.Native.Nat.{ℕ, zero, suc, ◌+◌, ◌≤◌, ◌<◌}
use native.Mathlib.Omega.{arith}
use mathlib.Core.List.{List}
use lib.ListN.{length, get_or, set}
use lib.Seq.{get_or-set_other}
use borrow.Author.Tests.{ne_eqb}
use Rattle.run_memory.specs.Blocks.{part, bytes_in, Numbers, numbers_in, Sums, sums_in}
use Rattle.run_memory.specs.Places.{statused, holding, setting_at, quotaed, amounted, total_at, totalled}
use Rattle.run_memory.proofs.Parts.{part_set, part_set_past, part_left, part_right, front_set, cell_set, three_get, three_past, other_kept}

-- ---- bytes

module _ (l : List ℕ) (t x : ℕ) where
  pub status_set : t < 1024 → bytes_in (set l t x) ≡ statused t x (bytes_in l)
  status_set h = λ i. record { status = front_set 1024 l t x h i; holds = part_right 1024 16 l t x h i }

  pub status_set_past : 1024 ≤ t → bytes_in l ≡ statused t x (bytes_in l)
  status_set_past h = λ i. record { status = sym (part_set_past 0 1024 l t x h) i; holds = part 1024 16 l }

module _ (l : List ℕ) (w x : ℕ) where
  pub holds_set : w < 16 → bytes_in (set l (1024 + w) x) ≡ holding w x (bytes_in l)
  holds_set h = λ i. record { status = part_left 0 1024 l (1024 + w) x (omega arith) i; holds = part_set 1024 16 l w x h i }

  pub holds_set_past : 16 ≤ w → bytes_in l ≡ holding w x (bytes_in l)
  holds_set_past h = λ i. record { status = part 0 1024 l; holds = sym (part_set_past 1024 16 l w x h) i }

-- ---- numbers

pub setting_get : (l : List ℕ) (i : ℕ) → i < 2 → get_or l i 0 ≡ setting_at i (numbers_in l)
setting_get l zero b = refl
setting_get l (suc zero) b = refl
setting_get l (suc (suc i)) b = absurd (omega (arith, b))

pub setting_past : (N : Numbers) (i : ℕ) → 2 ≤ i → 0 ≡ setting_at i N
setting_past N i b = rw (ne_eqb i 0 (λ e. omega arith), ne_eqb i 1 (λ e. omega arith))

module _ (l : List ℕ) (w x : ℕ) where
  pub quota_set : w < 16 → numbers_in (set l (2 + w) x) ≡ quotaed w x (numbers_in l)
  quota_set h =
      λ i.
      record {
        workers = get_or-set_other l (2 + w) 0 x 0 (λ e. omega arith) i;
        quota = get_or-set_other l (2 + w) 1 x 0 (λ e. omega arith) i;
        quotas = part_set 2 16 l w x h i;
      }

  pub quota_set_past : 16 ≤ w → numbers_in l ≡ quotaed w x (numbers_in l)
  quota_set_past h = λ i. record { workers = get_or l 0 0; quota = get_or l 1 0; quotas = sym (part_set_past 2 16 l w x h) i }

-- ---- sums

module _ (l : List ℕ) (t x : ℕ) where
  pub amount_set : t < 1024 → sums_in (set l t x) ≡ amounted t x (sums_in l)
  amount_set h =
      λ i.
      record {
        amounts = front_set 1024 l t x h i;
        held = get_or-set_other l t 1024 x 0 (λ e. omega arith) i;
        highest = get_or-set_other l t 1025 x 0 (λ e. omega arith) i;
        turns = get_or-set_other l t 1026 x 0 (λ e. omega arith) i;
      }

  pub amount_set_past : 1024 ≤ t → sums_in l ≡ amounted t x (sums_in l)
  amount_set_past h = λ i. record { amounts = sym (part_set_past 0 1024 l t x h) i; held = get_or l 1024 0; highest = get_or l 1025 0; turns = get_or l 1026 0 }

pub total_get : (l : List ℕ) (h : ℕ) → h < 3 → get_or l (1024 + h) 0 ≡ total_at h (sums_in l)
total_get l h b = three_get l 1024 h b

pub total_past : (S : Sums) (h : ℕ) → 3 ≤ h → 0 ≡ total_at h S
total_past S h b = sym (three_past S.held S.highest S.turns h b)

pub total_set : (l : List ℕ) (h x : ℕ) → length l ≡ 1027 → h < 3 → sums_in (set l (1024 + h) x) ≡ totalled h x (sums_in l)
total_set l h x n b =
    λ i.
    record {
      amounts = part_left 0 1024 l (1024 + h) x (omega arith) i;
      held = cell_set l 1024 0 h x (omega arith) i;
      highest = cell_set l 1024 1 h x (omega arith) i;
      turns = cell_set l 1024 2 h x (omega arith) i;
    }

pub total_set_past : (S : Sums) (h x : ℕ) → 3 ≤ h → S ≡ totalled h x S
total_set_past S h x b =
    λ i.
    record {
      amounts = S.amounts;
      held = sym (other_kept x S.held h 0 b (omega arith)) i;
      highest = sym (other_kept x S.highest h 1 b (omega arith)) i;
      turns = sym (other_kept x S.turns h 2 b (omega arith)) i;
    }
