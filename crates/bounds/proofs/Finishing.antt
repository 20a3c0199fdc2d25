-- Runs in rounds finish (N8): while the root has not ended, some worker's next turn is not idle, and it comes within p turns. One that finishes does so after the same number of turns with every
-- limit that is not below it (`finishes_after`).
use mathlib.Core.Path.{◌≡◌, refl, sym, ap, subst, ◌∙◌}
use Prim.Native.Nat.{ℕ, zero, suc, ◌+◌, ◌-◌, ◌*◌, ◌/◌, ◌%◌, ◌^◌, ◌≤◌, ◌<◌}
use native.Mathlib.Nat.{zero-add, mod-lt, mod-eq_of_lt, mul-add-mod_self_right, div-add-mod', mul-le-mul_left, mul-suc, suc-mul}
use native.Mathlib.Omega.{arith}
use native.Mathlib.Decide.{ℕ_discrete, dec_lt}
use mathlib.Core.List.Memᴰ
use mathlib.Core.List.{List, [], ◌∷◌}
use mathlib.Core.Bool.{Bool, true, false}
use mathlib.Core.Logic.{◌⊎◌, inl, inr}
use lib.ListN.{length}
use lib.Dec.{eqb}
use borrow.Author.Tests.{eqb-false, ne_eqb, lt-ltb}
use Rattle.table.specs.Sum.{pick}
use Rattle.table.specs.Format.{Table}
use Rattle.table.specs.Pass.{refusal}
use Rattle.table.proofs.Tests.{no_way}
use Rattle.schedule.specs.declared.Run.{Run}
use Rattle.schedule.specs.declared.Report.TheVariants.{Finished, Spent, Refused}
use Rattle.schedule.specs.declared.Ran.{Ran}
use Rattle.schedule.specs.Machine.{State, ready, held, ended, status_of, worker_of, counted, leftmost, turn_of}
use Rattle.schedule.specs.Record.{table_in, state_of}
use Rattle.schedule.specs.Sound.{Steady, Sound}
use Rattle.schedule.specs.Turn.{unsound, root_ended, no_worker}
use Rattle.schedule.specs.Runs.{ran, moved, drive, rounds_run}
use Rattle.order.proofs.Lawful.{Lawful}
use Rattle.schedule.proofs.Sound.Facts.{Facts}
use Rattle.schedule.proofs.Sound.Tests.{sound_exactly}
use Rattle.schedule.proofs.Sound.Leftmost.{leftmost_enabled}
use Rattle.schedule.proofs.Stores.{steady_lawful, steady_fits, steady_facts, moved_steady, moved_state}
use Rattle.schedule.proofs.CaseLaws.{moved_turns}
use Rattle.bounds.proofs.Potential.{potential}
use Rattle.bounds.proofs.Lowers.{potential_counted, Lowers, moves, rests, turn_lowers}

-- ---- a worker whose turn is not idle

-- it holds a thread, or one is ready
abbrev pub Active : ℕ → State → Type 0
Active w st = ((worker_of st w).holds ≡ true) ⊎ (leftmost st.status st.list ≡ length st.list → ⊥)

module _ (T : Table) (l : Lawful T) (p K : ℕ) (some : 1 ≤ p) (st : State) (f : Facts T p K st) where
  -- while the root has not ended, there is one
  pub some_active : (status_of st 0 ≡ ended → ⊥) → (w : ℕ) × (w < p) × Active w st
  unfolding leftmost
  some_active e = go st.list refl
    where
      at : (t : ℕ) (others : List ℕ) → st.list ≡ t ∷ others → t < T.threads → (status_of st t ≡ ready) ⊎ (status_of st t ≡ held) → (w : ℕ) × (w < p) × Active w st
      at t others q h (inl r) = (0, some, inr (λ z. omega (arith, rw (q, r) at z)))
      at t others q h (inr r) =
          let (w, i, g, n) = f.holding.held_holder t h r in
          (w, f.holding.holder_below w i g, inl g)

      go : (k : List ℕ) → st.list ≡ k → (w : ℕ) × (w < p) × Active w st
      go [] q = absurd (Memᴰ.not-nil (rw q at (f.live_listed 0 l.some_thread f.root_born e)))
      go (t ∷ others) q =
          let n = leftmost_enabled T l p K st f t others q in
          at t others q n.below n.taken

-- its turn lowers the potential
active_moves : (T : Table) (K w : ℕ) (st : State) → Active w st → Lowers T w st (counted st) (turn_of T K w st) → potential T (turn_of T K w st).state < potential T st
active_moves T K w st n (moves m h) = h
active_moves T K w st (inl e) (rests d i r q) = no_way (cc)
active_moves T K w st (inr e) (rests d i r q) = absurd (e i)

-- ---- the workers of a run, of which each has a turn among any p

pub record Cycle (who : ℕ → ℕ) (p : ℕ) : Type 0 where
  pub below : (i : ℕ) → who i < p
  pub again : (i w : ℕ) → w < p → (d : ℕ) × (i ≤ d) × (d < i + p) × (who d ≡ w)

pub rounds_cycle : (p : ℕ) → 1 ≤ p → Cycle (λ i. i % p) p
rounds_cycle p some = record { below = λ i. mod-lt i some; again = λ i w h. next i w h (dec_lt w (i % p)) }
  where
    -- of round j
    of_round : (j w : ℕ) → w < p → (j * p + w) % p ≡ w
    of_round j w h = mul-add-mod_self_right j p w ∙ mod-eq_of_lt h

    next : (i w : ℕ) → w < p → Dec (w < i % p) → (d : ℕ) × (i ≤ d) × (d < i + p) × (d % p ≡ w)
    next i w h (yes q) =
        let e = div-add-mod' i p in
        let m = suc-mul (i / p) p in
        (suc (i / p) * p + w, omega (arith, mod-lt i some), omega arith, of_round (suc (i / p)) w h)
    next i w h (no q) =
        let e = div-add-mod' i p in
        (i / p * p + w, omega arith, omega arith, of_round (i / p) w h)

-- ---- a run

-- with k turns left after i, the next turn that is not idle is due in time for the potential
pub record Due (who : ℕ → ℕ) (k i : ℕ) (r : Run) : Type 0 where
  pub at : ℕ
  pub later : i ≤ at
  pub active : Active (who at) (state_of r)
  pub enough : suc at + r.workers * potential (table_in r) (state_of r) ≤ i + k + r.workers

module _ (r : Run) (h : Steady r) where
  abbrev T : Table
  T = table_in r

  abbrev left : State → ℕ
  left st = r.workers * potential T st

  lowers : (w : ℕ) → w < r.workers → Lowers T w (state_of r) (counted (state_of r)) (turn_of T r.quota w (state_of r))
  lowers w b = turn_lowers T (steady_lawful r h) r.workers r.quota (steady_fits r h).few_workers w b (state_of r) (steady_facts r h)

  -- anew: within p turns of i
  pub due : (who : ℕ → ℕ) → Cycle who r.workers → (k i : ℕ) → left (state_of r) ≤ k → root_ended r ≡ false → Due who k i r
  unfolding root_ended
  due who c k i b e =
      let (w, q, n) = some_active T (steady_lawful r h) r.workers r.quota (steady_fits r h).some_worker (state_of r) (steady_facts r h) (eqb-false (status_of (state_of r) 0) ended e) in
      let (d, low, high, same) = c.again i w q in
      record { at = d; later = low; active = rw same n; enough = omega arith }

  -- none is due with no turn left
  due_none : (who : ℕ → ℕ) → Cycle who r.workers → (i : ℕ) → Due who 0 i r → ⊥
  due_none who c i y =
      let g = active_moves T r.quota (who y.at) (state_of r) y.active (lowers (who y.at) (c.below y.at)) in
      let one : 1 ≤ potential T (state_of r) = omega arith in
      omega (arith, mul-le-mul_left r.workers one, y.later, y.enough)

module _ (r : Run) (h : Steady r) (who : ℕ → ℕ) (c : Cycle who r.workers) (k i : ℕ) where
  now_steady : Steady (moved r (who i))
  now_steady = moved_steady r h (who i) (c.below i)

  -- after a turn
  due_after : Due who (suc k) i r → root_ended (moved r (who i)) ≡ false → Due who k (suc i) (moved r (who i))
  due_after y e = go (lowers r h (who i) (c.below i))
    where
      after : State
      after = (turn_of (table_in r) r.quota (who i) (state_of r)).state

      same : state_of (moved r (who i)) ≡ after
      same = moved_state r h (who i) (c.below i)

      go : Lowers (table_in r) (who i) (state_of r) (counted (state_of r)) (turn_of (table_in r) r.quota (who i) (state_of r)) → Due who k (suc i) (moved r (who i))
      go (moves m g) =
          let low : r.workers * suc (potential (table_in r) after) ≤ r.workers * potential (table_in r) (state_of r) = mul-le-mul_left r.workers g in
          let b : r.workers * potential (table_in r) after ≤ k = omega (arith, y.later, y.enough, mul-suc r.workers (potential (table_in r) after)) in
          due (moved r (who i)) now_steady who c k (suc i) (omega (arith, b, ap (λ (x : State). r.workers * potential (table_in r) x) same)) e
      go (rests d j s q) =
          let z : state_of (moved r (who i)) ≡ counted (state_of r) = same ∙ q in
          record {
            at = y.at;
            later = apart (ℕ_discrete y.at i) y.active;
            active = subst (λ (x : State). Active (who y.at) x) (sym z) y.active;
            enough = omega (arith, y.enough, ap (λ (x : State). r.workers * potential (table_in r) x) z, ap (λ (x : ℕ). r.workers * x) (potential_counted (table_in r) (state_of r)));
          }
        where
          apart : Dec (y.at ≡ i) → Active (who y.at) (state_of r) → suc i ≤ y.at
          apart (no n) u = omega (arith, y.later, n)
          apart (yes n) (inl u) = no_way (cc)
          apart (yes n) (inr u) = absurd (u j)

worker_there : (r : Run) (w : ℕ) → w < r.workers → no_worker r w ≡ false
unfolding no_worker
worker_there r w h = rw (lt-ltb w r.workers h)

pub drive_finishes : (who : ℕ → ℕ) (k i : ℕ) (r : Run) → Cycle who r.workers → Steady r → r.turns + k < 2 ^ 64 → (root_ended r ≡ false → Due who k i r)
    → (n : ℕ) × ((drive who k i r).report ≡ Finished n)
unfolding drive
drive_finishes who zero i r c h few y = go (root_ended r) refl
  where
    go : (b : Bool) → root_ended r ≡ b → (n : ℕ) × (pick b (Finished i) (Spent i) ≡ Finished n)
    go true e = (i, refl)
    go false e = absurd (due_none r h who c i (y e))
drive_finishes who (suc k) i r c h few y =
    go (root_ended r) refl
    (λ e. drive_finishes who k (suc i) (moved r (who i)) c (moved_steady r h (who i) (c.below i)) (omega (arith, moved_turns r (who i))) (due_after r h who c k i (y e)))
  where
    rest : Ran
    rest = drive who k (suc i) (moved r (who i))

    fresh : eqb r.turns (2 ^ 64 - 1) ≡ false
    fresh = ne_eqb r.turns (2 ^ 64 - 1) (λ e. omega arith)

    go : (b : Bool) → root_ended r ≡ b → (root_ended r ≡ false → (n : ℕ) × (rest.report ≡ Finished n))
        → (n : ℕ)
        × ((pick b (ran (Finished i) r) (pick (eqb r.turns (2 ^ 64 - 1)) (ran (Refused i (refusal 32 0)) r) (pick (no_worker r (who i)) (ran (Refused i (refusal 30 0)) r) rest))).report
        ≡ Finished n)
    go true e ih = (i, refl)
    go false e ih = rw (fresh, worker_there r (who i) (c.below i)) (ih e)

-- From any sound record: as many turns as p times the potential are enough.
pub sound_finishes : (r : Run) → Sound r → (limit : ℕ) → r.turns + limit < 2 ^ 64 → r.workers * potential (table_in r) (state_of r) ≤ limit
    → (n : ℕ) × ((rounds_run r limit).report ≡ Finished n)
unfolding rounds_run unsound
sound_finishes r h limit few b =
    let g = h.steady in
    let some : 1 ≤ r.workers = (steady_fits r g).some_worker in
    let c : Cycle (λ i. i % r.workers) r.workers = rounds_cycle r.workers some in
    let z : eqb r.workers 0 ≡ false = ne_eqb r.workers 0 (λ e. omega arith) in
    rw ((sound_exactly r).1 h, z) (drive_finishes (λ i. i % r.workers) limit 0 r c g few (due r g (λ i. i % r.workers) c limit 0 b))

-- ---- a run that finishes, and the same run with another limit

module _ (who : ℕ → ℕ) where
  -- a turn of it
  data Step (k i : ℕ) (r : Run) (n : ℕ) : Type 0 where
    over : root_ended r ≡ true → n ≡ i → Step k i r n
    onward : root_ended r ≡ false → eqb r.turns (2 ^ 64 - 1) ≡ false → no_worker r (who i) ≡ false → (drive who k (suc i) (moved r (who i))).report ≡ Finished n → Step k i r n

  step : (k i : ℕ) (r : Run) (n : ℕ) → (drive who (suc k) i r).report ≡ Finished n → Step k i r n
  unfolding drive
  step k i r n = go (root_ended r) refl (eqb r.turns (2 ^ 64 - 1)) refl (no_worker r (who i)) refl
    where
      rest : Ran
      rest = drive who k (suc i) (moved r (who i))

      go : (b : Bool) → root_ended r ≡ b → (c : Bool) → eqb r.turns (2 ^ 64 - 1) ≡ c → (d : Bool) → no_worker r (who i) ≡ d
          → (pick b (ran (Finished i) r) (pick c (ran (Refused i (refusal 32 0)) r) (pick d (ran (Refused i (refusal 30 0)) r) rest))).report ≡ Finished n → Step k i r n
      go true e c x d y h = over e (cc)
      go false e true x d y h = no_way (cc)
      go false e false x true y h = no_way (cc)
      go false e false x false y h = onward e x y h

  -- it takes no fewer turns than those before, and more where the root has not ended
  drive_least : (k i : ℕ) (r : Run) (n : ℕ) → (drive who k i r).report ≡ Finished n → i ≤ n
  unfolding drive
  drive_least zero i r n h = go (root_ended r) h
    where
      go : (b : Bool) → pick b (Finished i) (Spent i) ≡ Finished n → i ≤ n
      go true h = let e : i ≡ n = cc in omega arith
      go false h = no_way (cc)
  drive_least (suc k) i r n h = go (step k i r n h) (drive_least k (suc i) (moved r (who i)) n)
    where
      go : Step k i r n → ((drive who k (suc i) (moved r (who i))).report ≡ Finished n → suc i ≤ n) → i ≤ n
      go (over e q) ih = omega arith
      go (onward e x y q) ih = omega (arith, ih q)

  -- and no more than its limit
  drive_most : (k i : ℕ) (r : Run) (n : ℕ) → (drive who k i r).report ≡ Finished n → n ≤ i + k
  unfolding drive
  drive_most zero i r n h = go (root_ended r) h
    where
      go : (b : Bool) → pick b (Finished i) (Spent i) ≡ Finished n → n ≤ i + 0
      go true h = let e : i ≡ n = cc in omega arith
      go false h = no_way (cc)
  drive_most (suc k) i r n h = go (step k i r n h) (drive_most k (suc i) (moved r (who i)) n)
    where
      go : Step k i r n → ((drive who k (suc i) (moved r (who i))).report ≡ Finished n → n ≤ suc i + k) → n ≤ i + suc k
      go (over e q) ih = omega arith
      go (onward e x y q) ih = omega (arith, ih q)

  -- at its first turn: over, or not
  drive_at : (k i : ℕ) (r : Run) (n : ℕ) → (drive who k i r).report ≡ Finished n → (root_ended r ≡ true → n ≡ i) × (root_ended r ≡ false → i < n)
  unfolding drive
  drive_at zero i r n h = go (root_ended r) refl h
    where
      go : (b : Bool) → root_ended r ≡ b → pick b (Finished i) (Spent i) ≡ Finished n → (root_ended r ≡ true → n ≡ i) × (root_ended r ≡ false → i < n)
      go true e q = ((λ t. cc), (λ f. no_way (cc)))
      go false e q = no_way (cc)
  drive_at (suc k) i r n h = go (step k i r n h)
    where
      go : Step k i r n → (root_ended r ≡ true → n ≡ i) × (root_ended r ≡ false → i < n)
      go (over e q) = ((λ t. q), (λ f. no_way (cc)))
      go (onward e x y q) = ((λ t. no_way (cc)), (λ f. drive_least k (suc i) (moved r (who i)) n q))

  -- with any limit at least that number it finishes after that number, with any other it is spent
  drive_any : (k i : ℕ) (r : Run) (n : ℕ) → (drive who k i r).report ≡ Finished n → (j : ℕ)
      → (n ≤ i + j → (drive who j i r).report ≡ Finished n) × (i + j < n → (drive who j i r).report ≡ Spent (i + j))
  unfolding drive
  drive_any k i r n h zero = go (root_ended r) refl (drive_at k i r n h)
    where
      go : (b : Bool) → root_ended r ≡ b → (root_ended r ≡ true → n ≡ i) × (root_ended r ≡ false → i < n)
          → (n ≤ i + 0 → pick b (Finished i) (Spent i) ≡ Finished n) × (i + 0 < n → pick b (Finished i) (Spent i) ≡ Spent (i + 0))
      go true e (t, f) = let q : n ≡ i = t e in ((λ l. cc), (λ l. absurd (omega arith)))
      go false e (t, f) = let q : i < n = f e in let z : i + 0 ≡ i = omega arith in ((λ l. absurd (omega arith)), (λ l. rw z))
  drive_any zero i r n h (suc j) = go (root_ended r) refl (drive_at zero i r n h) h
    where
      go : (b : Bool) → root_ended r ≡ b → (root_ended r ≡ true → n ≡ i) × (root_ended r ≡ false → i < n) → pick b (Finished i) (Spent i) ≡ Finished n
          → (n ≤ i + suc j → (drive who (suc j) i r).report ≡ Finished n) × (i + suc j < n → (drive who (suc j) i r).report ≡ Spent (i + suc j))
      go true e (t, f) q = let m : n ≡ i = t e in ((λ l. rw (e, m)), (λ l. absurd (omega arith)))
      go false e d q = no_way (cc)
  drive_any (suc k) i r n h (suc j) = go (step k i r n h) (λ q. drive_any k (suc i) (moved r (who i)) n q j)
    where
      go : Step k i r n
          → ((drive who k (suc i) (moved r (who i))).report ≡ Finished n
          → (n ≤ suc i + j → (drive who j (suc i) (moved r (who i))).report ≡ Finished n) × (suc i + j < n → (drive who j (suc i) (moved r (who i))).report ≡ Spent (suc i + j)))
          → (n ≤ i + suc j → (drive who (suc j) i r).report ≡ Finished n) × (i + suc j < n → (drive who (suc j) i r).report ≡ Spent (i + suc j))
      go (over e q) ih = ((λ l. rw (e, q)), (λ l. absurd (omega arith)))
      go (onward e x y q) ih =
          let z : i + suc j ≡ suc i + j = omega arith in
          ((λ l. rw (e, x, y) ((ih q).0 (omega arith))), (λ l. rw (e, x, y, z) ((ih q).1 (omega arith))))

-- a run in rounds of a record finishes after k turns: with a limit of at least k it says finished with k, with a lower one spent with all of it
pub record FinishesAfter (r : Run) (k : ℕ) : Type 0 where
  pub finished : (limit : ℕ) → k ≤ limit → (rounds_run r limit).report ≡ Finished k
  pub spent : (limit : ℕ) → limit < k → (rounds_run r limit).report ≡ Spent limit

pub finishes_after : (r : Run) → Sound r → (b k : ℕ) → (rounds_run r b).report ≡ Finished k → (k ≤ b) × FinishesAfter r k
unfolding rounds_run unsound
finishes_after r h b k =
    let z : eqb r.workers 0 ≡ false = ne_eqb r.workers 0 (λ e. omega (arith, (steady_fits r h.steady).some_worker)) in
    rw ((sound_exactly r).1 h, z)
    (λ e. (
      omega (arith, drive_most (λ i. i % r.workers) b 0 r k e),
      record {
        finished = λ limit l. rw ((sound_exactly r).1 h, z) ((drive_any (λ i. i % r.workers) b 0 r k e limit).0 (omega arith));
        spent = λ limit l. rw ((sound_exactly r).1 h, z) (rw zero-add at ((drive_any (λ i. i % r.workers) b 0 r k e limit).1 (omega arith)));
      },
    ))
