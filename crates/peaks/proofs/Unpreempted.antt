-- Where K covers every stretch, from a beginning no turn replies quota and every live thread that nobody holds stands at a resting place.
use mathlib.Core.Path.{◌≡◌, refl}
use Prim.Native.Nat.{ℕ, zero, suc, ◌+◌, ◌-◌, ◌≤◌, ◌<◌}
use native.Mathlib.Omega.{arith}
use native.Mathlib.Decide.{ℕ_discrete}
use mathlib.Core.List.Memᴰ
use mathlib.Core.List.{List, [], ◌∷◌, Memᴰ}
use mathlib.Core.Bool.{true, false, or-true}
use mathlib.Core.Logic.{◌⊎◌, inl, inr, ⊎_elim}
use lib.ListN.{length, get_or, set}
use lib.Seq.{get_or-set_same, get_or-set_other}
use lib.Dec.{leb, eqb}
use borrow.Author.Tests.{leb-false, eqb-false}
use Rattle.table.specs.Sum.{pick}
use Rattle.table.specs.Format.{code_of, is, Table, kind}
use Rattle.table.specs.declared.kinds.Kind.{Kind}
use Rattle.table.specs.declared.kinds.Kind.TheVariants.{End as end, Work as work, Alloc as alloc, Free as free, Fork as fork, Join as join, Unknown as unknown}
use Rattle.table.specs.Checks.{end_of, alloc_of}
use Rattle.table.proofs.Tests.{no_way, same_is}
use Rattle.table.proofs.Bodies.{kind_known, first_is, first_next, after_end, end_kind}
use Rattle.table.proofs.NestedThreads.{greatest_at}
use Rattle.schedule.specs.declared.Worker.{Worker}
use Rattle.schedule.specs.declared.Reply.{Reply}
use Rattle.schedule.specs.declared.Reply.TheVariants.{Quota}
use Rattle.schedule.specs.Machine.{drawn, State, unborn, ready, held, waiting, ended, next_of, status_of, worker_of, nobody, counted, Stepped, act_by, act, leftmost, taken, turn_free, turn_of}
use Rattle.schedule.specs.Begin.{start_state}
use Rattle.schedule.specs.Memory.{row_state, replies}
use Rattle.order.proofs.Lawful.{Lawful}
use Rattle.schedule.proofs.Sound.Facts.{Facts}
use Rattle.schedule.proofs.Sound.Done.{undone_unborn, unborn_first}
use Rattle.schedule.proofs.Preservation.Releases.{Acting, acting, acting_alone}
use Rattle.schedule.proofs.Preservation.Ends.{Ended, acting_ended}
use Rattle.schedule.proofs.Preservation.Forks.{Forked, acting_forked}
use Rattle.schedule.proofs.Preservation.Moves.{taken_facts}
use Rattle.schedule.proofs.Preservation.Turns.{leftmost_ready, taken_holds, either, turn_facts}
use Rattle.schedule.proofs.Preservation.Starts.{start_next_lem, start_unborn, start_worker}
use Rattle.peaks.specs.Rests.{stretch_begins, rests, drawn_at, drawn_before, stretch}

-- ---- resting places and stretches

pub rests_join : (T : Table) (a : ℕ) → kind T a ≡ join → rests T a ≡ true
unfolding rests
rests_join T a k = rw (same_is join (kind T a) k) (or-true (stretch_begins T a))

pub rests_fork : (T : Table) (a : ℕ) → kind T a ≡ fork → rests T (suc a) ≡ true
unfolding rests stretch_begins is code_of
rests_fork T a k = rw k

pub rests_end : (T : Table) (a : ℕ) → kind T a ≡ end → rests T (suc a) ≡ true
unfolding rests stretch_begins is code_of
rests_end T a k = rw k

pub rests_first : (T : Table) → Lawful T → (t : ℕ) → t < T.threads → rests T (T.first t) ≡ true
unfolding rests stretch_begins Rattle.table.specs.Sum.sum_to
rests_first T l zero h = rw (first_is T l.contents 0 h)
rests_first T l (suc t) h =
    let i : t < T.threads = omega arith in
    rw (first_next T l.contents t h, ← after_end T l.contents t i) (rests_end T (end_of T t) (end_kind T l.contents l.bodies t i))

-- an action that ends no stretch adds what it draws
pub drawn_step : (T : Table) (K a : ℕ) → is end (kind T a) ≡ false → is fork (kind T a) ≡ false → drawn_before T K (suc a) ≡ drawn_before T K a + drawn_at T K a
unfolding drawn_before stretch_begins
drawn_step T K a e f = rw (e, f)

pub stretch_covers : (T : Table) (K a : ℕ) → a < T.actions → drawn_before T K a + drawn_at T K a ≤ stretch T K
unfolding stretch
stretch_covers T K a h = greatest_at (λ a. drawn_before T K a + drawn_at T K a) T.actions a h

-- ---- the invariant

-- live, and not held
abbrev pub Stands : ℕ → Type 0
Stands s = (s ≡ unborn → ⊥) × (s ≡ ended → ⊥) × (s ≡ held → ⊥)

pub record Unpreempted (T : Table) (K : ℕ) (st : State) : Type 0 where
  -- a worker has drawn no more of K than its thread's stretch has
  pub quota : (w : ℕ) → w < 16 → (worker_of st w).holds ≡ true → K ≤ (worker_of st w).quota + drawn_before T K (next_of st (worker_of st w).thread)
  pub placed : (t : ℕ) → t < T.threads → Stands (status_of st t) → rests T (next_of st t) ≡ true

abbrev pub NoQuota : Reply → Type 0
NoQuota r = (t x : ℕ) → r ≡ Quota t x → ⊥

module _ (T : Table) (l : Lawful T) (p K : ℕ) (covers : stretch T K ≤ K) (w t a : ℕ) (st : State) (f : Facts T p K st) (x : Acting T w t a st) (c : Unpreempted T K st) where
  next_fits : t < length st.next
  next_fits = omega (arith, f.next_size, l.few_threads, x.thread)

  worker_fits : w < length st.workers
  worker_fits = omega (arith, f.holding.worker_size, x.worker)

  -- what is left of the quota covers the action
  left : K ≤ (worker_of st w).quota + drawn_before T K a
  left = rw (x.holder, x.next) at (c.quota w x.worker x.holds)

  -- the worker goes on
  goes : (q : ℕ) (st' : State) → is end (kind T a) ≡ false → is fork (kind T a) ≡ false → st'.next ≡ set st.next t (suc (next_of st t)) → st'.status ≡ st.status
      → worker_of st' w ≡ record { holds = true; thread = t; quota = q } → ((u : ℕ) → (u ≡ w → ⊥) → worker_of st' u ≡ worker_of st u)
      → (worker_of st w).quota ≤ q + drawn_at T K a → Unpreempted T K st'
  goes q st' e o n s now others b =
      record {
        quota = λ u g h. quotas u g h (ℕ_discrete u w);
        placed = λ u g h. places u g (rw s at h) (ℕ_discrete u t);
      }
    where
      here : next_of st' t ≡ suc a
      here = rw (n, get_or-set_same st.next t (suc (next_of st t)) 0 next_fits, x.next)

      beside : (u : ℕ) → (u ≡ t → ⊥) → next_of st' u ≡ next_of st u
      beside u d = rw n (get_or-set_other st.next t u (suc (next_of st t)) 0 d)

      quotas : (u : ℕ) → u < 16 → (worker_of st' u).holds ≡ true → Dec (u ≡ w) → K ≤ (worker_of st' u).quota + drawn_before T K (next_of st' (worker_of st' u).thread)
      quotas u g h (yes d) = rw (d, now, here, drawn_step T K a e o) (omega (arith, left))
      quotas u g h (no d) =
          let y : worker_of st' u ≡ worker_of st u = others u d in
          let z : (worker_of st u).holds ≡ true = rw y at h in
          rw (y, beside (worker_of st u).thread (acting_alone T p K w t a st f x u g d z)) (c.quota u g z)

      places : (u : ℕ) → u < T.threads → Stands (status_of st u) → Dec (u ≡ t) → rests T (next_of st' u) ≡ true
      places u g h (yes d) = absurd (h.2 (rw d x.taken))
      places u g h (no d) = rw (beside u d) (c.placed u g h)

  -- the worker is released
  frees : (st' : State) → worker_of st' w ≡ nobody → ((u : ℕ) → (u ≡ w → ⊥) → worker_of st' u ≡ worker_of st u) → ((u : ℕ) → (u ≡ t → ⊥) → next_of st' u ≡ next_of st u)
      → ((u : ℕ) → u < T.threads → Stands (status_of st' u) → (rests T (next_of st' u) ≡ true) ⊎ ((u ≡ t → ⊥) × Stands (status_of st u))) → Unpreempted T K st'
  frees st' now others beside stand =
      record {
        quota = λ u g h. quotas u g h (ℕ_discrete u w);
        placed = λ u g h. places u g (stand u g h);
      }
    where
      quotas : (u : ℕ) → u < 16 → (worker_of st' u).holds ≡ true → Dec (u ≡ w) → K ≤ (worker_of st' u).quota + drawn_before T K (next_of st' (worker_of st' u).thread)
      quotas u g h (yes d) = let z : false ≡ true = rw (d, now) at h in no_way (cc)
      quotas u g h (no d) =
          let y : worker_of st' u ≡ worker_of st u = others u d in
          let z : (worker_of st u).holds ≡ true = rw y at h in
          rw (y, beside (worker_of st u).thread (acting_alone T p K w t a st f x u g d z)) (c.quota u g z)

      places : (u : ℕ) → u < T.threads → (rests T (next_of st' u) ≡ true) ⊎ ((u ≡ t → ⊥) × Stands (status_of st u)) → rests T (next_of st' u) ≡ true
      places u g (inl e) = e
      places u g (inr (d, h)) = rw (beside u d) (c.placed u g h)

  abbrev Kept : Stepped → Type 0
  Kept s = Unpreempted T K s.state × NoQuota s.reply

  keeps_worker : worker_of st w ≡ record { holds = true; thread = t; quota = (worker_of st w).quota }
  keeps_worker = λ i. record { holds = x.holds i; thread = x.holder i; quota = (worker_of st w).quota }

  on_end : kind T a ≡ end → Kept (act_by end T K w t a (T.argument a) st)
  unfolding act_by
  on_end k =
      let m : Ended T w t st (act_by end T K w t a (T.argument a) st).state = acting_ended T l p K w t a st f x in
      (frees _ m.lets_go.gone m.lets_go.others (λ u d. m.next_same u) (λ u g h. stand m u h (ℕ_discrete u t)), λ u y e. no_way (cc))
    where
      stand : (m : Ended T w t st (act_by end T K w t a (T.argument a) st).state) (u : ℕ) → Stands (status_of (act_by end T K w t a (T.argument a) st).state u) → Dec (u ≡ t)
          → (rests T (next_of (act_by end T K w t a (T.argument a) st).state u) ≡ true) ⊎ ((u ≡ t → ⊥) × Stands (status_of st u))
      stand m u h (yes d) = absurd (h.1 (rw d m.status_here))
      stand m u h (no d) = go (m.status_other u d)
        where
          go : (status_of (act_by end T K w t a (T.argument a) st).state u ≡ status_of st u) ⊎ ((status_of st u ≡ waiting) × (status_of (act_by end T K w t a (T.argument a) st).state u ≡ ready))
              → (rests T (next_of (act_by end T K w t a (T.argument a) st).state u) ≡ true) ⊎ ((u ≡ t → ⊥) × Stands (status_of st u))
          go (inl e) = inr (d, rw e at h)
          go (inr (e, i)) = inr (d, ((λ q. omega arith), (λ q. omega arith), (λ q. omega arith)))

  on_fork : kind T a ≡ fork → Kept (act_by fork T K w t a (T.argument a) st)
  unfolding act_by
  on_fork k =
      let m : Forked w t a (T.argument a) st (act_by fork T K w t a (T.argument a) st).state = acting_forked T l p K w t a st f x k in
      (frees _ m.lets_go.gone m.lets_go.others m.next_other (λ u g h. stand m u g h (ℕ_discrete u t) (ℕ_discrete u (T.argument a))), λ u y e. no_way (cc))
    where
      stand : (m : Forked w t a (T.argument a) st (act_by fork T K w t a (T.argument a) st).state) (u : ℕ) → u < T.threads
          → Stands (status_of (act_by fork T K w t a (T.argument a) st).state u) → Dec (u ≡ t) → Dec (u ≡ T.argument a)
          → (rests T (next_of (act_by fork T K w t a (T.argument a) st).state u) ≡ true) ⊎ ((u ≡ t → ⊥) × Stands (status_of st u))
      stand m u g h (yes d) e = inl (rw (d, m.next_here) (rests_fork T a k))
      stand m u g h (no d) (yes e) =
          let b : status_of st u ≡ unborn = rw e (undone_unborn T l p K st f a x.action k x.undone) in
          inl (rw (m.next_other u d, unborn_first T l p K st f u g b) (rests_first T l u g))
      stand m u g h (no d) (no e) = inr (d, rw (m.status_other u d e) at h)

  on_alloc : kind T a ≡ alloc → Kept (act_by alloc T K w t a (T.argument a) st)
  unfolding act_by alloc_of is code_of
  on_alloc k =
      either Kept (leb (drawn K (T.argument a)) (worker_of st w).quota) _ _
      (λ i. (
        goes ((worker_of st w).quota - drawn K (T.argument a)) _ (rw k) (rw k) refl refl
            (get_or-set_same st.workers w (record { holds = true; thread = t; quota = (worker_of st w).quota - drawn K (T.argument a) }) nobody worker_fits)
            (λ u d. get_or-set_other st.workers w u (record { holds = true; thread = t; quota = (worker_of st w).quota - drawn K (T.argument a) }) nobody d)
            (rw k (omega arith)),
        λ u y e. no_way (cc),
      ))
      (λ i.
      let z : drawn_before T K a + drawn K (T.argument a) ≤ stretch T K = rw k at (stretch_covers T K a x.action) in
      absurd (omega (arith, left, leb-false (drawn K (T.argument a)) (worker_of st w).quota i)))

  on_join : kind T a ≡ join → Kept (act_by join T K w t a (T.argument a) st)
  unfolding act_by is code_of alloc_of
  on_join k =
      either Kept (eqb (status_of st (T.argument a)) ended) _ _
      (λ i. (goes (worker_of st w).quota _ (rw k) (rw k) refl refl keeps_worker (λ u d. refl) (omega arith), λ u y e. no_way (cc)))
      (λ i. (frees _ (get_or-set_same st.workers w nobody nobody worker_fits) (λ u d. get_or-set_other st.workers w u nobody nobody d) (λ u d. refl) (λ u g h. stand u h (ℕ_discrete u t)), λ u y e. no_way (cc)))
    where
      stand : (u : ℕ) → Stands (get_or (set st.status t waiting) u 0) → Dec (u ≡ t) → (rests T (next_of st u) ≡ true) ⊎ ((u ≡ t → ⊥) × Stands (status_of st u))
      stand u h (yes d) = inl (rw (d, x.next) (rests_join T a k))
      stand u h (no d) = inr (d, rw (get_or-set_other st.status t u waiting 0 d) at h)

  by_kind : (k : Kind) → kind T a ≡ k → Kept (act_by k T K w t a (T.argument a) st)
  unfolding act_by is code_of alloc_of
  by_kind end k = on_end k
  by_kind work k = (goes (worker_of st w).quota _ (rw k) (rw k) refl refl keeps_worker (λ u d. refl) (omega arith), λ u y e. no_way (cc))
  by_kind alloc k = on_alloc k
  by_kind free k = (goes (worker_of st w).quota _ (rw k) (rw k) refl refl keeps_worker (λ u d. refl) (omega arith), λ u y e. no_way (cc))
  by_kind fork k = on_fork k
  by_kind join k = on_join k
  by_kind unknown k = absurd (kind_known T l.contents l.bodies a x.action k)

-- ---- the turn

module _ (T : Table) (l : Lawful T) (p K : ℕ) (covers : stretch T K ≤ K) (few : p ≤ 16) where
  abbrev pub Keeps : Stepped → Type 0
  Keeps s = Unpreempted T K s.state × NoQuota s.reply

  unpreempted_act : (w : ℕ) → w < p → (st : State) → Facts T p K st → Unpreempted T K st → (worker_of st w).holds ≡ true → Keeps (act T K w st)
  unfolding act
  unpreempted_act w b st f c e =
      let t : ℕ = (worker_of st w).thread in
      let a : ℕ = next_of st t in
      by_kind T l p K covers w t a st f (acting T l p K w t a st f (omega arith) e refl refl) c (kind T a) refl

  unpreempted_taken : (w : ℕ) → w < p → (st : State) → Facts T p K st → Unpreempted T K st → (t : ℕ) → t < T.threads
      → Unpreempted T K (taken K w t st)
  unfolding taken
  unpreempted_taken w b st f c t h =
      record {
        quota = λ u g e. quotas u g e (ℕ_discrete u w);
        placed = λ u g s. places u g s (ℕ_discrete u t);
      }
    where
      now : Worker
      now = record { holds = true; thread = t; quota = K }

      fits : w < length st.workers
      fits = omega (arith, f.holding.worker_size)

      room : t < length st.status
      room = omega (arith, f.status_size, l.few_threads)

      quotas : (u : ℕ) → u < 16 → (get_or (set st.workers w now) u nobody).holds ≡ true → Dec (u ≡ w)
          → K ≤ (get_or (set st.workers w now) u nobody).quota + drawn_before T K (next_of st (get_or (set st.workers w now) u nobody).thread)
      quotas u g e (yes d) = rw (d, get_or-set_same st.workers w now nobody fits) (omega arith)
      quotas u g e (no d) =
          let y : get_or (set st.workers w now) u nobody ≡ worker_of st u = get_or-set_other st.workers w u now nobody d in
          rw y (c.quota u g (rw y at e))

      places : (u : ℕ) → u < T.threads → Stands (get_or (set st.status t held) u 0) → Dec (u ≡ t) → rests T (next_of st u) ≡ true
      places u g s (yes d) = absurd (s.2 (rw d (get_or-set_same st.status t held 0 room)))
      places u g s (no d) = c.placed u g (rw (get_or-set_other st.status t u held 0 d) at s)

  unpreempted_counted : (st : State) → Unpreempted T K st → Unpreempted T K (counted st)
  unpreempted_counted st c = record { quota = c.quota; placed = c.placed }

  pub unpreempted_turn : (w : ℕ) → w < p → (st : State) → Facts T p K st → Unpreempted T K st → Keeps (turn_of T K w st)
  unfolding turn_of turn_free
  unpreempted_turn w b st f c =
      let k : Keeps (pick (worker_of st w).holds (act T K w st) (turn_free T K w st)) =
      either Keeps (worker_of st w).holds _ _ (unpreempted_act w b st f c)
      (λ e.
      let i : ℕ = leftmost st.status st.list in
      let t : ℕ = get_or st.list i 0 in
      either Keeps (eqb i (length st.list)) _ _ (λ q. (c, λ u y z. no_way (cc)))
      (λ q.
      let (m, r) = leftmost_ready st.status st.list (eqb-false i (length st.list) q) in
      unpreempted_act w b (taken K w t st) (taken_facts T l p K few w b st f e t (f.list_below t m) r)
      (unpreempted_taken w b st f c t (f.list_below t m)) (taken_holds K w t st (omega (arith, f.holding.worker_size))))) in
      (unpreempted_counted _ k.0, k.1)

  -- ---- rows from the beginning

  pub unpreempted_start : Unpreempted T K (start_state T)
  unpreempted_start =
      record {
        quota = λ w g e. no_way (cc (start_worker T l w));
        placed = places;
      }
    where
      places : (t : ℕ) → t < T.threads → Stands (status_of (start_state T) t) → rests T (next_of (start_state T) t) ≡ true
      places zero h s = rw (start_next_lem T l 0 h) (rests_first T l 0 h)
      places (suc t) h s = absurd (s.0 (start_unborn T l (suc t) (omega arith)))

  pub unpreempted_row : (row : List ℕ) → ((w : ℕ) → Memᴰ w row → w < p) → (st : State) → Facts T p K st → Unpreempted T K st
      → Unpreempted T K (row_state T K st row) × ((r : Reply) → Memᴰ r (replies T K st row) → NoQuota r)
  unfolding row_state replies
  unpreempted_row [] h st f c = (c, λ r m. absurd (Memᴰ.not-nil m))
  unpreempted_row (w ∷ row) h st f c =
      let b : w < p = h w (Memᴰ.head refl) in
      let k : Keeps (turn_of T K w st) = unpreempted_turn w b st f c in
      let q = unpreempted_row row (λ v m. h v (Memᴰ.tail m)) (turn_of T K w st).state (turn_facts T l p K few w b st f) k.0 in
      (q.0, λ r m. ⊎_elim (λ (e : r ≡ (turn_of T K w st).reply). rw e k.1) (λ (n : Memᴰ r (replies T K (turn_of T K w st).state row)). q.1 r n) (Memᴰ.cases_cons m))
