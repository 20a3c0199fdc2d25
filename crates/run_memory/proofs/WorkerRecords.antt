-- The workers' records taken apart, a row for each of their numbers, and put together again.
use mathlib.Core.Path.{◌≡◌, refl, sym, ap, ◌∙◌}
use Prim.Native.Nat.{ℕ, zero, suc, ◌+◌, ◌≤◌, ◌<◌}
use native.Mathlib.Omega.{arith}
use native.Mathlib.Decide.{ℕ_discrete}
use mathlib.Core.List.{List, [], ◌∷◌}
use mathlib.Core.Bool.{true, not}
use lib.Dec.{ltb, eqb}
use lib.ListN.{length, get_or, set, length-set}
use lib.Seq.{get_or-set_same, get_or-set_other, ext_get_or}
use Rattle.table.specs.Sum.{pick}
use Rattle.schedule.specs.declared.Worker.{Worker}
use Rattle.schedule.specs.Machine.{nobody}
use Rattle.order.proofs.Words.{all_below_exactly}
use Rattle.run_memory.specs.Memory.{worker_from}
use Rattle.run_memory.specs.Stands.{truths, workers_from}
use Rattle.run_memory.specs.Places.{of_workers}
use Rattle.run_memory.proofs.Refines.{workers_length, workers_at, as_number, truth_small}

-- ---- one number of each

pub of_length : (f : Worker → ℕ) (l : List Worker) → length (of_workers f l) ≡ length l
unfolding of_workers
of_length f [] = refl
of_length f (x ∷ l) = ap suc (of_length f l)

pub of_at : (f : Worker → ℕ) → f nobody ≡ 0 → (l : List Worker) (i : ℕ) → get_or (of_workers f l) i 0 ≡ f (get_or l i nobody)
unfolding of_workers
of_at f z [] i = sym z
of_at f z (x ∷ l) zero = refl
of_at f z (x ∷ l) (suc i) = of_at f z l i

-- ---- the records

module _ (l : List Worker) where
  abbrev holds : List ℕ
  holds = of_workers (λ x. pick x.holds 1 0) l

  abbrev threads : List ℕ
  threads = of_workers (λ x. x.thread) l

  abbrev quotas : List ℕ
  quotas = of_workers (λ x. x.quota) l

  worker_back : (i : ℕ) → worker_from holds threads quotas i ≡ get_or l i nobody
  worker_back i =
      let x : Worker = get_or l i nobody in
      let h : not (eqb (get_or holds i 0) 0) ≡ x.holds = ap (λ (k : ℕ). not (eqb k 0)) (of_at (λ y. pick y.holds 1 0) refl l i) ∙ as_number x.holds in
      let t : get_or threads i 0 ≡ x.thread = of_at (λ y. y.thread) refl l i in
      let q : get_or quotas i 0 ≡ x.quota = of_at (λ y. y.quota) refl l i in
      λ j. record { holds = h j; thread = t j; quota = q j }

  pub workers_back : length l ≡ 16 → workers_from holds threads quotas 0 16 ≡ l
  workers_back e =
      ext_get_or nobody (workers_from holds threads quotas 0 16) l (workers_length holds threads quotas 0 16 ∙ sym e)
      (λ i h. workers_at holds threads quotas 0 16 i (omega (arith, h, workers_length holds threads quotas 0 16)) ∙ worker_back (0 + i) ∙ ap (λ (k : ℕ). get_or l k nobody) (zero_plus i))
    where
      zero_plus : (i : ℕ) → 0 + i ≡ i
      zero_plus i = omega arith

  pub truths_back : truths holds ≡ true
  unfolding truths
  truths_back =
      (all_below_exactly _ 16).1 (λ i h. ap (λ (k : ℕ). ltb k 2) (of_at (λ y. pick y.holds 1 0) refl l i) ∙ truth_small (get_or l i nobody).holds)

-- workers read one after the other: those below w have their records
pub record Upto (holds threads quotas : List ℕ) (workers : List Worker) (w : ℕ) : Type 0 where
  pub size : length workers ≡ 16
  pub right : (i : ℕ) → i < w → get_or workers i nobody ≡ worker_from holds threads quotas i

module _ {holds threads quotas : List ℕ} {workers : List Worker} {w : ℕ} (h : Upto holds threads quotas workers w) where
  pub one_more : w < 16 → (x : Worker) → x ≡ worker_from holds threads quotas w → Upto holds threads quotas (set workers w x) (w + 1)
  one_more b x e = record { size = length-set workers w x ∙ h.size; right = λ i l. go i l (ℕ_discrete i w) }
    where
      go : (i : ℕ) → i < w + 1 → Dec (i ≡ w) → get_or (set workers w x) i nobody ≡ worker_from holds threads quotas i
      go i l (yes q) = rw q (get_or-set_same workers w x nobody (omega (arith, b, h.size)) ∙ e)
      go i l (no d) = get_or-set_other workers w i x nobody d ∙ h.right i (omega (arith, l, d))

  pub all_sixteen : 16 ≤ w → workers ≡ workers_from holds threads quotas 0 16
  all_sixteen b =
      ext_get_or nobody workers (workers_from holds threads quotas 0 16) (h.size ∙ sym (workers_length holds threads quotas 0 16))
      (λ i l. let e : 0 + i ≡ i = omega arith in h.right i (omega (arith, l, h.size, b)) ∙ sym (workers_at holds threads quotas 0 16 i (omega (arith, l, h.size)) ∙ rw e))
