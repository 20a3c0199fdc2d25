-- The executable tests are the records: `deque_sound` is true exactly of the sound records, `is_blank_deques` exactly of the blank one.
use Rattle.std.specs.Prelude.{Ok}
use mathlib.Core.Path.{◌≡◌, refl, ap}
use mathlib.Core.Logic.Iff
use mathlib.Core.Logic.{◌↔◌, ◌⊎◌, inl, inr}
use mathlib.Core.Bool.{true, not, ◌&&◌, ◌||◌}
use mathlib.Core.List.{List, [], ◌∷◌, Memᴰ}
use Prim.Native.Nat.{ℕ, ◌-◌, ◌^◌, ◌≤◌, ◌<◌}
use native.Mathlib.Omega.{arith}
use native.Mathlib.Decide.{dec_lt, dec_le}
use lib.ListN.{length}
use lib.Dec.{ltb, eqb}
use borrow.Author.Tests.{eqb-true, eq-eqb, lt-ltb, ltb-true}
use Rattle.table.specs.Pass.{first_found}
use Rattle.table.specs.Checks.{passes}
use Rattle.table.proofs.Passes.{passes_rules}
use Rattle.schedule.specs.declared.Worker.{Worker}
use Rattle.schedule.specs.Memory.{count_in}
use Rattle.table.specs.Rules.{Rules}
use Rattle.schedule.specs.Record.{max_bytes, set_of, bytes_of, table_in}
use Rattle.schedule.specs.Begin.{setting_passes}
use Rattle.schedule.specs.Sound.{Common, common_sound}
use Rattle.schedule.proofs.Sound.Tests.{common_exactly, blank_exactly}
use Rattle.order.specs.Words.{all_below, all_in, filled}
use Rattle.order.proofs.Words.{and_of, or_exactly, not_exactly, eqb_exactly, ltb_exactly, all_below_exactly, all_in_exactly, same_list_exactly, is_nothing_exactly}
use Rattle.deques.specs.declared.DequeRun.{DequeRun}
use Rattle.deques.specs.Deques.{Deque, is_empty}
use Rattle.deques.specs.DequeRecord.{blank_deques}
use Rattle.deques.specs.DequeSound.{SoundDeques, threads_in, all_in_use, placed_deques, record_sound, deque_sound, is_blank_deques}
use Rattle.deques.specs.Partition.{occurs, owned_by, InUse, AllInUse, ready_at, holds_at, PlacedDeques}
use Rattle.deques.proofs.Counts.{counted_in, in_counted, count_append}
pub use Rattle.schedule.proofs.Sound.Tests.{same_links_exactly}

-- ---- the clauses on the deques

same_below : (f g : ℕ → ℕ) (n : ℕ) → (all_below (λ t. eqb (f t) (g t)) n ≡ true) ↔ ((t : ℕ) → t < n → f t ≡ g t)
same_below f g n =
    Iff.trans (all_below_exactly (λ t. eqb (f t) (g t)) n) (
      (λ h t i. eqb-true (f t) (g t) (h t i)),
      (λ h t i. eq-eqb (f t) (g t) (h t i)),
    )

occurs_in : (t : ℕ) (ds : List Deque) → occurs t ds ≡ count_in t (threads_in ds)
unfolding occurs threads_in count_in
occurs_in t [] = refl
occurs_in t (d ∷ ds) = omega (arith, occurs_in t ds, count_append t d.threads (threads_in ds))

threads_below : (n : ℕ) (ds : List Deque) → (all_in (λ t. ltb t n) (threads_in ds) ≡ true) ↔ ((t : ℕ) → n ≤ t → occurs t ds ≡ 0)
threads_below n ds =
    Iff.trans (all_in_exactly (λ t. ltb t n) (threads_in ds)) (
      (λ h t i. none t (λ m. omega (arith, i, ltb-true t n (h t m))) (dec_le 1 (count_in t (threads_in ds)))),
      (λ h t m. lt-ltb t n (low t m h (dec_lt t n))),
    )
  where
    none : (t : ℕ) → (Memᴰ t (threads_in ds) → ⊥) → Dec (1 ≤ count_in t (threads_in ds)) → occurs t ds ≡ 0
    none t o (yes i) = absurd (o (in_counted t (threads_in ds) i))
    none t o (no i) = omega (arith, occurs_in t ds, i)

    low : (t : ℕ) → Memᴰ t (threads_in ds) → ((u : ℕ) → n ≤ u → occurs u ds ≡ 0) → Dec (t < n) → t < n
    low t m h (yes i) = i
    low t m h (no i) = absurd (omega (arith, h t (omega (arith, i)), occurs_in t ds, counted_in t (threads_in ds) m))

in_use_exactly : (d : Deque) → ((ltb d.owner 16 || (eqb d.owner 16 && not (is_empty d.threads))) ≡ true) ↔ InUse d
in_use_exactly d =
    Iff.trans (or_exactly (ltb d.owner 16) (eqb d.owner 16 && not (is_empty d.threads))) (
      (λ h. there h),
      (λ h. back h),
    )
  where
    there : (ltb d.owner 16 ≡ true) ⊎ ((eqb d.owner 16 && not (is_empty d.threads)) ≡ true) → InUse d
    there (inl e) = inl (ltb-true d.owner 16 e)
    there (inr e) = let b = (and_of (eqb_exactly d.owner 16) (not_exactly (is_empty d.threads))).0 e in inr (b.0, b.1)

    back : InUse d → (ltb d.owner 16 ≡ true) ⊎ ((eqb d.owner 16 && not (is_empty d.threads)) ≡ true)
    back (inl i) = inl (lt-ltb d.owner 16 i)
    back (inr b) = inr ((and_of (eqb_exactly d.owner 16) (not_exactly (is_empty d.threads))).1 b)

all_in_use_exactly : (ds : List Deque) → (all_in_use ds ≡ true) ↔ AllInUse ds
unfolding all_in_use AllInUse
all_in_use_exactly [] = ((λ e. tt), (λ e. refl))
all_in_use_exactly (d ∷ ds) = and_of (in_use_exactly d) (all_in_use_exactly ds)

pub placed_exactly : (n : ℕ) (status : List ℕ) (workers : List Worker) (ds : List Deque) → (placed_deques n status workers ds ≡ true) ↔ PlacedDeques n status workers ds
unfolding placed_deques
placed_exactly n status workers ds =
    Iff.trans
    (and_of (same_below (λ t. occurs t ds) (ready_at status) n)
    (and_of (threads_below n ds)
    (and_of (same_below (λ w. owned_by w ds) (holds_at workers) 16)
    (all_in_use_exactly ds)))) (
      (λ (a, (b, (c, d))). record { once = a; none = b; owned = c; in_use = d }),
      (λ x. (x.once, (x.none, (x.owned, x.in_use)))),
    )

-- ---- a sound record

-- the clauses with no word of the deques
pub record_exactly : (r : DequeRun)
    → (record_sound r ≡ true)
    ↔ ((Rules (bytes_of r.run)
    × ((first_found (setting_passes r.run.workers r.run.quota) ≡ Ok tt)
    × (Common (table_in r.run) r.run.workers r.run.quota r.run.next r.run.status r.run.amounts r.run.worker r.run.held r.run.highest
    × (r.run.busy ≡ set_of r.run.worker))))
    × ((length (bytes_of r.run) ≡ r.run.length) × ((r.run.table ≡ filled max_bytes (bytes_of r.run)) × (r.run.turns < 2 ^ 64 - 1))))
unfolding record_sound common_sound
record_exactly r =
    and_of
    (and_of (Iff.trans (is_nothing_exactly (first_found (passes (bytes_of r.run)))) (passes_rules (bytes_of r.run)))
    (and_of (is_nothing_exactly _) (and_of (common_exactly _ _ _ _ _ _ _ _ _) (eqb_exactly _ _))))
    (and_of (eqb_exactly _ _) (and_of (same_list_exactly _ _) (ltb_exactly _ _)))

pub deque_sound_exactly : (r : DequeRun) → (deque_sound r ≡ true) ↔ SoundDeques r
unfolding deque_sound
deque_sound_exactly r =
    Iff.trans (and_of (record_exactly r) (and_of (placed_exactly _ _ _ _) (and_of (same_links_exactly _ _) (same_links_exactly _ _)))) (
      (λ (((a, (b, (c, d))), (e, (f, g))), (h, (i, j))).
          record {
            steady = record { table = a; settings = b; common = c; set = d; table_length = e; table_rest = f; placed = h; lines = i; bottoms = j };
            turns = g;
          }),
      (λ s.
          let x = s.steady in
          (((x.table, (x.settings, (x.common, x.set))), (x.table_length, (x.table_rest, s.turns))), (x.placed, (x.lines, x.bottoms)))),
    )

-- ---- the blank record

pub blank_deques_exactly : (r : DequeRun) → (is_blank_deques r ≡ true) ↔ (r ≡ blank_deques)
unfolding is_blank_deques blank_deques
blank_deques_exactly r =
    Iff.trans (and_of (blank_exactly r.run) (and_of (same_list_exactly _ _) (and_of (same_list_exactly _ _) (eqb_exactly _ _)))) (
      (λ (a, (b, (c, d))). λ x. record { run = a x; under = b x; over = c x; first = d x }),
      (λ e. (ap (λ (x : DequeRun). x.run) e, (ap (λ (x : DequeRun). x.under) e, (ap (λ (x : DequeRun). x.over) e, ap (λ (x : DequeRun). x.first) e)))),
    )
