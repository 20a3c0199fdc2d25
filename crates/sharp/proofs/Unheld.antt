-- (R): from a beginning, whatever K and whatever the order of the turns of p workers, every live thread that nobody holds stands at a resting place under K.
use mathlib.Core.Path.{◌≡◌, refl}
use Prim.Native.Nat.{ℕ, zero, suc, ◌+◌, ◌-◌, ◌≤◌, ◌<◌}
use native.Mathlib.Omega.{arith}
use native.Mathlib.Decide.{ℕ_discrete}
use mathlib.Core.List.{List, [], ◌∷◌, Memᴰ}
use mathlib.Core.Bool.{true, false}
use lib.ListN.{length, get_or, set}
use lib.Seq.{get_or-set_same, get_or-set_other}
use lib.Dec.{leb, eqb}
use borrow.Author.Tests.{eqb-false}
use Rattle.table.specs.Sum.{pick}
use Rattle.table.specs.Format.{code_of, is, Table, kind}
use Rattle.table.specs.declared.kinds.Kind.{Kind}
use Rattle.table.specs.declared.kinds.Kind.TheVariants.{End as end, Work as work, Alloc as alloc, Free as free, Fork as fork, Join as join, Unknown as unknown}
use Rattle.table.specs.Checks.{alloc_of}
use Rattle.table.proofs.Tests.{no_way}
use Rattle.table.proofs.Bodies.{kind_known}
use Rattle.schedule.specs.declared.Worker.{Worker}
use Rattle.schedule.specs.Machine.{drawn, State, ended, next_of, status_of, worker_of, nobody, counted, Stepped, act_by, act, leftmost, taken, turn_free, turn_of}
use Rattle.schedule.specs.Begin.{start_state}
use Rattle.schedule.specs.Memory.{row_state}
use Rattle.order.proofs.Lawful.{Lawful}
use Rattle.schedule.proofs.Sound.Facts.{Facts}
use Rattle.schedule.proofs.Preservation.Releases.{Acting, acting, acting_alone}
use Rattle.schedule.proofs.Preservation.Ends.{acting_ended}
use Rattle.schedule.proofs.Preservation.Forks.{acting_forked}
use Rattle.schedule.proofs.Preservation.Moves.{taken_facts}
use Rattle.schedule.proofs.Preservation.Turns.{leftmost_ready, taken_holds, either, turn_facts}
use Rattle.schedule.proofs.Preservation.Starts.{start_next_lem, start_unborn, start_worker}
use Rattle.peaks.specs.Rests.{drawn_at, drawn_before}
use Rattle.peaks.proofs.Unpreempted.{Stands, drawn_step}
use Rattle.sharp.specs.Off.{rests_under}
use Rattle.sharp.proofs.OffRests.{under_join, under_fork, under_first, under_drawn}
use Rattle.sharp.proofs.Placed.{Placed, Rests, placed_act, placed_taken}

-- ---- the invariant

-- a worker has drawn no more of K than its thread's stretch has
pub record Drawn (T : Table) (K : ℕ) (st : State) : Type 0 where
  pub by_quota : (w : ℕ) → w < 16 → (worker_of st w).holds ≡ true → K ≤ (worker_of st w).quota + drawn_before T K (next_of st (worker_of st w).thread)

pub record Unheld (T : Table) (K : ℕ) (st : State) : Type 0 where
  pub drawn_less : Drawn T K st
  pub placed : Placed T (rests_under T K) st

placed_under : (T : Table) (l : Lawful T) (K : ℕ) → Rests T (rests_under T K)
placed_under T l K = record { first = under_first T K l; forked = under_fork T K; joins = under_join T K }

module _ (T : Table) (l : Lawful T) (p K : ℕ) (w t a : ℕ) (st : State) (f : Facts T p K st) (x : Acting T w t a st) (c : Drawn T K st) where
  worker_fits : w < length st.workers
  worker_fits = omega (arith, f.holding.worker_size, x.worker)

  -- what is left of the quota covers the action
  pub left : K ≤ (worker_of st w).quota + drawn_before T K a
  left = rw (x.holder, x.next) at (c.by_quota w x.worker x.holds)

  -- the worker goes on
  goes : (q : ℕ) (st' : State) → is end (kind T a) ≡ false → is fork (kind T a) ≡ false → st'.next ≡ set st.next t (suc (next_of st t))
      → worker_of st' w ≡ record { holds = true; thread = t; quota = q } → ((u : ℕ) → (u ≡ w → ⊥) → worker_of st' u ≡ worker_of st u)
      → (worker_of st w).quota ≤ q + drawn_at T K a → Drawn T K st'
  goes q st' e o n now others b = record { by_quota = λ u g h. go u g h (ℕ_discrete u w) }
    where
      here : next_of st' t ≡ suc a
      here = rw (n, get_or-set_same st.next t (suc (next_of st t)) 0 (omega (arith, f.next_size, l.few_threads, x.thread)), x.next)

      go : (u : ℕ) → u < 16 → (worker_of st' u).holds ≡ true → Dec (u ≡ w) → K ≤ (worker_of st' u).quota + drawn_before T K (next_of st' (worker_of st' u).thread)
      go u g h (yes d) = rw (d, now, here, drawn_step T K a e o) (omega (arith, left))
      go u g h (no d) =
          let y : worker_of st' u ≡ worker_of st u = others u d in
          let z : (worker_of st u).holds ≡ true = rw y at h in
          let i : next_of st' (worker_of st u).thread ≡ next_of st (worker_of st u).thread =
          rw n (get_or-set_other st.next t (worker_of st u).thread (suc (next_of st t)) 0 (acting_alone T p K w t a st f x u g d z)) in
          rw (y, i) (c.by_quota u g z)

  -- the worker is released
  frees : (st' : State) → worker_of st' w ≡ nobody → ((u : ℕ) → (u ≡ w → ⊥) → worker_of st' u ≡ worker_of st u) → ((u : ℕ) → (u ≡ t → ⊥) → next_of st' u ≡ next_of st u) → Drawn T K st'
  frees st' now others beside = record { by_quota = λ u g h. go u g h (ℕ_discrete u w) }
    where
      go : (u : ℕ) → u < 16 → (worker_of st' u).holds ≡ true → Dec (u ≡ w) → K ≤ (worker_of st' u).quota + drawn_before T K (next_of st' (worker_of st' u).thread)
      go u g h (yes d) = let z : false ≡ true = rw (d, now) at h in no_way (cc)
      go u g h (no d) =
          let y : worker_of st' u ≡ worker_of st u = others u d in
          let z : (worker_of st u).holds ≡ true = rw y at h in
          rw (y, beside (worker_of st u).thread (acting_alone T p K w t a st f x u g d z)) (c.by_quota u g z)

  abbrev Kept : Stepped → Type 0
  Kept s = Drawn T K s.state

  keeps_worker : worker_of st w ≡ record { holds = true; thread = t; quota = (worker_of st w).quota }
  keeps_worker = λ i. record { holds = x.holds i; thread = x.holder i; quota = (worker_of st w).quota }

  on_alloc : kind T a ≡ alloc → Kept (act_by alloc T K w t a (T.argument a) st)
  unfolding act_by alloc_of is code_of
  on_alloc k =
      either Kept (leb (drawn K (T.argument a)) (worker_of st w).quota) _ _
      (λ i.
      goes ((worker_of st w).quota - drawn K (T.argument a)) _ (rw k) (rw k) refl
      (get_or-set_same st.workers w (record { holds = true; thread = t; quota = (worker_of st w).quota - drawn K (T.argument a) }) nobody worker_fits)
      (λ u d. get_or-set_other st.workers w u (record { holds = true; thread = t; quota = (worker_of st w).quota - drawn K (T.argument a) }) nobody d)
      (rw k (omega arith)))
      (λ i. frees _ (get_or-set_same st.workers w nobody nobody worker_fits) (λ u d. get_or-set_other st.workers w u nobody nobody d) (λ u d. refl))

  on_join : kind T a ≡ join → Kept (act_by join T K w t a (T.argument a) st)
  unfolding act_by is code_of alloc_of
  on_join k =
      either Kept (eqb (status_of st (T.argument a)) ended) _ _
      (λ i. goes (worker_of st w).quota _ (rw k) (rw k) refl keeps_worker (λ u d. refl) (omega arith))
      (λ i. frees _ (get_or-set_same st.workers w nobody nobody worker_fits) (λ u d. get_or-set_other st.workers w u nobody nobody d) (λ u d. refl))

  pub drawn_by : (k : Kind) → kind T a ≡ k → Kept (act_by k T K w t a (T.argument a) st)
  unfolding act_by is code_of alloc_of
  drawn_by end k = let m = acting_ended T l p K w t a st f x in frees _ m.lets_go.gone m.lets_go.others (λ u d. m.next_same u)
  drawn_by work k = goes (worker_of st w).quota _ (rw k) (rw k) refl keeps_worker (λ u d. refl) (omega arith)
  drawn_by alloc k = on_alloc k
  drawn_by free k = goes (worker_of st w).quota _ (rw k) (rw k) refl keeps_worker (λ u d. refl) (omega arith)
  drawn_by fork k = let m = acting_forked T l p K w t a st f x k in frees _ m.lets_go.gone m.lets_go.others m.next_other
  drawn_by join k = on_join k
  drawn_by unknown k = absurd (kind_known T l.contents l.bodies a x.action k)

-- ---- the turn

module _ (T : Table) (l : Lawful T) (p K : ℕ) (few : p ≤ 16) where
  abbrev pub Keeps : Stepped → Type 0
  Keeps s = Unheld T K s.state

  unheld_act : (w : ℕ) → w < p → (st : State) → Facts T p K st → Unheld T K st → (worker_of st w).holds ≡ true → Keeps (act T K w st)
  unfolding act alloc_of is code_of
  unheld_act w b st f c e =
      let t : ℕ = (worker_of st w).thread in
      let a : ℕ = next_of st t in
      let x : Acting T w t a st = acting T l p K w t a st f (omega arith) e refl refl in
      record {
        drawn_less = drawn_by T l p K w t a st f x c.drawn_less (kind T a) refl;
        placed =
            placed_act T l p K (rests_under T K) (placed_under T l K) w (omega arith) st f c.placed e
            (λ k z. under_drawn T K a (worker_of st w).quota (left T l p K w t a st f x c.drawn_less) (rw k z));
      }

  unheld_taken : (w : ℕ) → w < p → (st : State) → Facts T p K st → Unheld T K st → (t : ℕ) → t < T.threads
      → Unheld T K (taken K w t st)
  unfolding taken
  unheld_taken w b st f c t h =
      record {
        drawn_less = record { by_quota = λ u g e. quotas u g e (ℕ_discrete u w) };
        placed = placed_taken T (rests_under T K) K w t st (omega (arith, f.status_size, l.few_threads)) c.placed;
      }
    where
      now : Worker
      now = record { holds = true; thread = t; quota = K }

      fits : w < length st.workers
      fits = omega (arith, f.holding.worker_size)

      quotas : (u : ℕ) → u < 16 → (get_or (set st.workers w now) u nobody).holds ≡ true → Dec (u ≡ w)
          → K ≤ (get_or (set st.workers w now) u nobody).quota + drawn_before T K (next_of st (get_or (set st.workers w now) u nobody).thread)
      quotas u g e (yes d) = rw (d, get_or-set_same st.workers w now nobody fits) (omega arith)
      quotas u g e (no d) =
          let y : get_or (set st.workers w now) u nobody ≡ worker_of st u = get_or-set_other st.workers w u now nobody d in
          rw y (c.drawn_less.by_quota u g (rw y at e))

  unheld_counted : (st : State) → Unheld T K st → Unheld T K (counted st)
  unheld_counted st c = record { drawn_less = record { by_quota = c.drawn_less.by_quota }; placed = record { at_rest = c.placed.at_rest } }

  pub unheld_turn : (w : ℕ) → w < p → (st : State) → Facts T p K st → Unheld T K st → Keeps (turn_of T K w st)
  unfolding turn_of turn_free
  unheld_turn w b st f c =
      let k : Keeps (pick (worker_of st w).holds (act T K w st) (turn_free T K w st)) =
      either Keeps (worker_of st w).holds _ _ (unheld_act w b st f c)
      (λ e.
      let i : ℕ = leftmost st.status st.list in
      let t : ℕ = get_or st.list i 0 in
      either Keeps (eqb i (length st.list)) _ _ (λ q. c)
      (λ q.
      let (m, r) = leftmost_ready st.status st.list (eqb-false i (length st.list) q) in
      unheld_act w b (taken K w t st) (taken_facts T l p K few w b st f e t (f.list_below t m) r)
      (unheld_taken w b st f c t (f.list_below t m)) (taken_holds K w t st (omega (arith, f.holding.worker_size))))) in
      unheld_counted _ k

  -- ---- rows from the beginning

  pub unheld_start : Unheld T K (start_state T)
  unheld_start =
      record {
        drawn_less = record { by_quota = λ w g e. no_way (cc (start_worker T l w)) };
        placed = record { at_rest = places };
      }
    where
      places : (t : ℕ) → t < T.threads → Stands (status_of (start_state T) t) → rests_under T K (next_of (start_state T) t) ≡ true
      places zero h s = rw (start_next_lem T l 0 h) (under_first T K l 0 h)
      places (suc t) h s = absurd (s.0 (start_unborn T l (suc t) (omega arith)))

  pub unheld_row : (row : List ℕ) → ((w : ℕ) → Memᴰ w row → w < p) → (st : State) → Facts T p K st → Unheld T K st → Unheld T K (row_state T K st row)
  unfolding row_state
  unheld_row [] h st f c = c
  unheld_row (w ∷ row) h st f c =
      let b : w < p = h w (Memᴰ.head refl) in
      unheld_row row (λ v m. h v (Memᴰ.tail m)) (turn_of T K w st).state (turn_facts T l p K few w b st f) (unheld_turn w b st f c)
