-- `run_memory::places::put_setting_in` meets its contract.
use mathlib.Core.Path.{◌≡◌}
use Prim.Native.Nat.{ℕ, zero, suc, ◌≤◌, ◌<◌}
use native.Mathlib.Omega.{arith}
use mathlib.Core.List.{List}
use lib.ListN.{length, set}
use lib.Seq.{get_or-set_same, get_or-set_other}
use borrow.Author.Tests.{ne_eqb}
use Rattle.run_memory.specs.Blocks.{numbers_in}
use Rattle.run_memory.specs.Places.{set_to}
use Rattle.run_memory.proofs.Parts.{part_right}
use Rattle.run_memory.proofs.places.put_setting_in.Goals as goal

-- p or K is written
written : (l : List ℕ) (i x : ℕ) → length l ≡ 18 → i < 2 → numbers_in (set l i x) ≡ set_to i x (numbers_in l)
written l zero x z b =
    λ i. record { workers = get_or-set_same l 0 x 0 (omega (arith, z)) i; quota = get_or-set_other l 0 1 x 0 (λ e. omega (arith, e)) i; quotas = part_right 2 16 l 0 x (omega arith) i }
written l (suc zero) x z b =
    λ i. record { workers = get_or-set_other l 1 0 x 0 (λ e. omega (arith, e)) i; quota = get_or-set_same l 1 x 0 (omega (arith, z)) i; quotas = part_right 2 16 l 1 x (omega arith) i }
written l (suc (suc i)) x z b = absurd (omega (arith, b))

-- or nothing is
kept : (l : List ℕ) (i x : ℕ) → 2 ≤ i → numbers_in l ≡ set_to i x (numbers_in l)
kept l i x b = rw (ne_eqb i 0 (λ e. omega (arith, b, e)), ne_eqb i 1 (λ e. omega (arith, b, e)))

pub returns-then-i-lt2 : goal.returns-then-i-lt2
returns-then-i-lt2 c = written _ _ _ c.requires c.if-i-lt2.true

pub returns-else-i-lt2 : goal.returns-else-i-lt2
returns-else-i-lt2 c = kept _ _ _ c.if-i-lt2.false
