-- Who holds what after one worker alone has changed its thread or its quota: a sound state stays sound in that.
use mathlib.Core.Path.{◌≡◌, refl}
use Prim.Native.Nat.{ℕ, ◌≤◌, ◌<◌}
use mathlib.Core.Bool.{true, false}
use native.Mathlib.Decide.{ℕ_discrete}
use lib.ListN.{length}
use Rattle.table.specs.Format.{Table}
use Rattle.schedule.specs.declared.Worker.{Worker}
use Rattle.schedule.specs.Machine.{State, held, status_of, worker_of, nobody}
use Rattle.schedule.proofs.Sound.Facts.{Holding, Facts}

-- A state in which worker w alone has another record, v, and of the held threads t alone has another status. Neither before nor after does another worker hold t, or w another thread.
pub record Rehung (T : Table) (p K : ℕ) (st st' : State) (w t : ℕ) (v : Worker) : Type 0 where
  pub size : length st'.workers ≡ 16
  pub few : w < 16
  pub new : worker_of st' w ≡ v
  pub old : (u : ℕ) → (u ≡ w → ⊥) → worker_of st' u ≡ worker_of st u
  pub was : (u : ℕ) → (u ≡ t → ⊥) → status_of st' u ≡ held → status_of st u ≡ held
  pub still : (u : ℕ) → (u ≡ t → ⊥) → status_of st u ≡ held → status_of st' u ≡ held
  pub below : t < T.threads
  pub own : (worker_of st w).holds ≡ true → (worker_of st w).thread ≡ t
  pub apart : (u : ℕ) → u < 16 → (u ≡ w → ⊥) → (worker_of st u).holds ≡ true → (worker_of st u).thread ≡ t → ⊥
  pub gives : v.holds ≡ true → (v.thread ≡ t) × (v.quota ≤ K) × (w < p) × (status_of st' t ≡ held)
  pub keeps : status_of st' t ≡ held → (v.holds ≡ true) × (v.thread ≡ t)
  pub none : v.holds ≡ false → v ≡ nobody

module _ (T : Table) (p K : ℕ) (st st' : State) (f : Facts T p K st) (w t : ℕ) (v : Worker) (r : Rehung T p K st st' w t v) where
  each : (P : ℕ → Worker → Type 0) → P w v → ((u : ℕ) → (u ≡ w → ⊥) → P u (worker_of st u)) → (u : ℕ) → P u (worker_of st' u)
  each P b q u = go (ℕ_discrete u w)
    where
      go : Dec (u ≡ w) → P u (worker_of st' u)
      go (yes e) = rw (e, r.new) b
      go (no d) = rw (r.old u d) (q u d)

  once : (u j : ℕ) → u < 16 → j < 16 → (worker_of st' u).holds ≡ true → (worker_of st' j).holds ≡ true → (worker_of st' u).thread ≡ (worker_of st' j).thread → u ≡ j
  once u j =
      each (λ u y. u < 16 → j < 16 → y.holds ≡ true → (worker_of st' j).holds ≡ true → y.thread ≡ (worker_of st' j).thread → u ≡ j)
      (each (λ j z. w < 16 → j < 16 → v.holds ≡ true → z.holds ≡ true → v.thread ≡ z.thread → w ≡ j)
      (λ g h d e i. refl)
      (λ j n g h d e i. absurd (r.apart j h n e (cc (r.gives d).0))) j)
      (λ u m. each (λ j z. u < 16 → j < 16 → (worker_of st u).holds ≡ true → z.holds ≡ true → (worker_of st u).thread ≡ z.thread → u ≡ j)
      (λ g h d e i. absurd (r.apart u g m d (cc (r.gives e).0)))
      (λ j n. f.holding.holder_once u j) j)
      u

  holder : (u : ℕ) → u < T.threads → status_of st' u ≡ held → (j : ℕ) × (j < 16) × ((worker_of st' j).holds ≡ true) × ((worker_of st' j).thread ≡ u)
  holder u h e = go (ℕ_discrete u t)
    where
      go : Dec (u ≡ t) → (j : ℕ) × (j < 16) × ((worker_of st' j).holds ≡ true) × ((worker_of st' j).thread ≡ u)
      go (yes i) =
          let k : (v.holds ≡ true) × (v.thread ≡ t) = r.keeps (cc) in
          (w, r.few, cc r.new, cc r.new)
      go (no d) =
          let (j, g, k, i) = f.holding.held_holder u h (r.was u d e) in
          let n : worker_of st' j ≡ worker_of st j = r.old j (λ q. d (cc (r.own (cc)))) in
          (j, g, cc, cc)

  pub rehung : Holding T p K st'.status st'.workers
  rehung =
      record {
        worker_size = r.size;
        holder_below = each (λ u y. u < 16 → y.holds ≡ true → u < p) (λ h e. (r.gives e).2) (λ u d. f.holding.holder_below u);
        holder_thread = each (λ u y. u < 16 → y.holds ≡ true → y.thread < T.threads) (λ h e. rw (r.gives e).0 r.below) (λ u d. f.holding.holder_thread u);
        holder_held =
            each (λ u y. u < 16 → y.holds ≡ true → status_of st' y.thread ≡ held)
            (λ h e. rw (r.gives e).0 (r.gives e).3)
            (λ u d h e. r.still (worker_of st u).thread (r.apart u h d e) (f.holding.holder_held u h e));
        holder_quota = each (λ u y. u < 16 → y.holds ≡ true → y.quota ≤ K) (λ h e. (r.gives e).1) (λ u d. f.holding.holder_quota u);
        holder_once = once;
        held_holder = holder;
        free_worker = each (λ u y. u < 16 → y.holds ≡ false → y ≡ nobody) (λ h e. r.none e) (λ u d. f.holding.free_worker u);
      }
