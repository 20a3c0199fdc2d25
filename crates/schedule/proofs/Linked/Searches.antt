-- The search for the leftmost ready thread: by thread instead of by place, the same in the second list, and there over held threads alone, of which there are fewer than workers.
use mathlib.Core.Path.{◌≡◌, refl, sym, ap, ◌∙◌}
use Prim.Native.Nat.{ℕ, zero, suc, ◌≤◌, ◌<◌}
use native.Mathlib.Omega.{arith}
use mathlib.Core.List.Memᴰ
use mathlib.Core.List.{List, [], ◌∷◌, Memᴰ}
use mathlib.Core.Bool.{Bool, true, false, not}
use mathlib.Core.Logic.{◌⊎◌, inl, inr, ⊎_elim}
use lib.Dec.{ltb, eqb, eqb-zero-suc, eqb-suc-suc}
use lib.ListN.{length, get_or, take}
use lib.Seq.{length-take-le}
use borrow.Author.Tests.{lt-ltb, eqb-true, eqb-false, ne_eqb}
use Rattle.table.specs.Sum.{pick}
use Rattle.table.specs.Format.{Table}
use Rattle.table.proofs.Tests.{no_way}
use Rattle.schedule.specs.Machine.{State, unborn, ready, held, waiting, ended, status_of, worker_of, leftmost}
use Rattle.schedule.specs.Links.{no_thread, Linked, Sought, first_ready, seek}
use Rattle.schedule.specs.Actives.{actives}
use Rattle.order.proofs.Lawful.{Lawful}
use Rattle.schedule.proofs.Sound.Facts.{Facts}
use Rattle.order.proofs.Lists.{Below}
use Rattle.schedule.proofs.Linked.Once.{Once, once_short}
use Rattle.schedule.proofs.Linked.Actives.{actives_old, once_actives, below_actives}
use Rattle.schedule.proofs.Linked.Links.{seek_linked}
use Rattle.schedule.proofs.Linked.ActiveMoves.{list_once}

-- ---- by thread

-- what a search finds at thread t, by the two tests of it, where the rest is known
abbrev seek_at : ℕ → Sought → Bool → Bool → Sought
seek_at t rest b d = pick b (pick d (record { thread = t; passed = 0 }) (record { thread = rest.thread; passed = suc rest.passed })) (record { thread = no_thread; passed = 0 })

-- what a search along links finds is ready, whatever they hold
pub seek_ready : (k : ℕ) (status right : List ℕ) (t : ℕ) → (seek k status right t).thread < no_thread → get_or status (seek k status right t).thread 0 ≡ ready
unfolding seek
seek_ready zero status right t h = absurd (omega (arith, h))
seek_ready (suc k) status right t h =
    go (seek k status right (get_or right t 0)) (seek_ready k status right (get_or right t 0)) (ltb t no_thread) (eqb (get_or status t 0) ready) refl h
  where
    go : (rest : Sought) → (rest.thread < no_thread → get_or status rest.thread 0 ≡ ready) → (b d : Bool) → eqb (get_or status t 0) ready ≡ d → (seek_at t rest b d).thread < no_thread
        → get_or status (seek_at t rest b d).thread 0 ≡ ready
    go rest r true true e h = eqb-true (get_or status t 0) ready e
    go rest r true false e h = r h
    go rest r false d e h = absurd (omega (arith, h))

-- where one is ready, it is the thread at the place
pub ready_there : (status l : List ℕ) → eqb (leftmost status l) (length l) ≡ false → get_or l (leftmost status l) 0 ≡ first_ready status l
unfolding leftmost first_ready
ready_there status [] e = no_way (cc)
ready_there status (t ∷ l) e = go (eqb (get_or status t 0) ready) (ready_there status l) e
  where
    go : (q : Bool) → (eqb (leftmost status l) (length l) ≡ false → get_or l (leftmost status l) 0 ≡ first_ready status l)
        → eqb (pick q 0 (suc (leftmost status l))) (suc (length l)) ≡ false → get_or (t ∷ l) (pick q 0 (suc (leftmost status l))) 0 ≡ pick q t (first_ready status l)
    go true ih e = refl
    go false ih e = ih (sym (eqb-suc-suc (leftmost status l) (length l)) ∙ e)

-- a thread is found exactly where one is ready
pub found_below : (status l : List ℕ) → Below no_thread l → ltb (first_ready status l) no_thread ≡ not (eqb (leftmost status l) (length l))
unfolding leftmost first_ready
found_below status [] b = refl
found_below status (t ∷ l) b = go (eqb (get_or status t 0) ready) (found_below status l (λ u m. b u (Memᴰ.tail m)))
  where
    go : (q : Bool) → ltb (first_ready status l) no_thread ≡ not (eqb (leftmost status l) (length l))
        → ltb (pick q t (first_ready status l)) no_thread ≡ not (eqb (pick q 0 (suc (leftmost status l))) (suc (length l)))
    go true ih = lt-ltb t no_thread (b t (Memᴰ.head refl)) ∙ rw (eqb-zero-suc (length l))
    go false ih = ih ∙ rw (eqb-suc-suc (leftmost status l) (length l))

-- ---- in the second list

pub first_ready_actives : (status l : List ℕ) → first_ready status (actives status l) ≡ first_ready status l
unfolding first_ready actives
first_ready_actives status [] = refl
first_ready_actives status (t ∷ l) = go (eqb (get_or status t 0) waiting) refl (first_ready_actives status l)
  where
    go : (w : Bool) → eqb (get_or status t 0) waiting ≡ w → first_ready status (actives status l) ≡ first_ready status l
        → first_ready status (pick w (actives status l) (t ∷ actives status l)) ≡ pick (eqb (get_or status t 0) ready) t (first_ready status l)
    go true w ih = rw (ne_eqb (get_or status t 0) ready (λ e. omega (arith, eqb-true (get_or status t 0) waiting w))) ih
    go false w ih = rw ih

-- so that a search along the second list's links finds the list's leftmost ready thread
pub second_finds : (under over : List ℕ) (first : ℕ) (status l : List ℕ) → Linked under over first (actives status l) → Once l → Below no_thread l
    → (seek no_thread status over first).thread ≡ first_ready status l
second_finds under over first status l h o b =
    ap (λ (x : Sought). x.thread) (seek_linked under over first (actives status l) status h (once_actives status l o) (below_actives no_thread status l b)) ∙ first_ready_actives status l

-- ---- what a search passes

pub leftmost_within : (status l : List ℕ) → leftmost status l ≤ length l
unfolding leftmost
leftmost_within status [] = omega arith
leftmost_within status (t ∷ l) = go (eqb (get_or status t 0) ready) (leftmost_within status l)
  where
    go : (q : Bool) → leftmost status l ≤ length l → pick q 0 (suc (leftmost status l)) ≤ suc (length l)
    go true ih = omega arith
    go false ih = omega arith

-- the threads passed are in the list, and not ready
passed_old : (status : List ℕ) (u : ℕ) (l : List ℕ) → Memᴰ u (take (leftmost status l) l) → Memᴰ u l × (get_or status u 0 ≡ ready → ⊥)
unfolding leftmost
passed_old status u [] m = absurd (Memᴰ.not-nil m)
passed_old status u (t ∷ l) m = go (eqb (get_or status t 0) ready) refl (passed_old status u l) m
  where
    go : (q : Bool) → eqb (get_or status t 0) ready ≡ q → (Memᴰ u (take (leftmost status l) l) → Memᴰ u l × (get_or status u 0 ≡ ready → ⊥))
        → Memᴰ u (take (pick q 0 (suc (leftmost status l))) (t ∷ l)) → Memᴰ u (t ∷ l) × (get_or status u 0 ≡ ready → ⊥)
    go true q ih i = absurd (Memᴰ.not-nil i)
    go false q ih i = at (Memᴰ.cases_cons i)
      where
        at : (u ≡ t) ⊎ Memᴰ u (take (leftmost status l) l) → Memᴰ u (t ∷ l) × (get_or status u 0 ≡ ready → ⊥)
        at (inl e) = (Memᴰ.head e, λ r. eqb-false (get_or status t 0) ready q (rw e at r))
        at (inr j) = (Memᴰ.tail (ih j).0, (ih j).1)

take_old : (u k : ℕ) (l : List ℕ) → Memᴰ u (take k l) → Memᴰ u l
take_old u zero l m = absurd (Memᴰ.not-nil m)
take_old u (suc k) [] m = m
take_old u (suc k) (x ∷ l) m = ⊎_elim (λ e. Memᴰ.head e) (λ i. Memᴰ.tail (take_old u k l i)) (Memᴰ.cases_cons m)

once_take : (k : ℕ) (l : List ℕ) → Once l → Once (take k l)
unfolding Once
once_take zero l o = tt
once_take (suc k) [] o = tt
once_take (suc k) (x ∷ l) o = ((λ m. o.0 (take_old x k l m)), once_take k l o.1)

-- of the five statuses, none of the other four
held_left : (s : ℕ) → s ≤ ended → (s ≡ unborn → ⊥) → (s ≡ ready → ⊥) → (s ≡ waiting → ⊥) → (s ≡ ended → ⊥) → s ≡ held
held_left zero h u v w x = absurd (u refl)
held_left (suc zero) h u v w x = absurd (v refl)
held_left (suc (suc zero)) h u v w x = refl
held_left (suc (suc (suc zero))) h u v w x = absurd (w refl)
held_left (suc (suc (suc (suc k)))) h u v w x = absurd (x (omega arith))

module _ (T : Table) (l : Lawful T) (p K : ℕ) (st : State) (f : Facts T p K st) where
  -- the holders of held threads
  record Holders (k : List ℕ) : Type 0 where
    workers : List ℕ
    size : length workers ≡ length k
    once : Once workers
    each : (w : ℕ) → Memᴰ w workers → (w < 16) × ((worker_of st w).holds ≡ true) × Memᴰ (worker_of st w).thread k

  holders : (k : List ℕ) → Once k → ((t : ℕ) → Memᴰ t k → (t < T.threads) × (status_of st t ≡ held)) → Holders k
  unfolding Once
  holders [] o h = record { workers = []; size = refl; once = tt; each = λ w m. absurd (Memᴰ.not-nil m) }
  holders (t ∷ k) o h =
      add (f.holding.held_holder t (h t (Memᴰ.head refl)).0 (h t (Memᴰ.head refl)).1) (holders k o.1 (λ u m. h u (Memᴰ.tail m)))
    where
      add : (w : ℕ) × (w < 16) × ((worker_of st w).holds ≡ true) × ((worker_of st w).thread ≡ t) → Holders k → Holders (t ∷ k)
      add (w, i, e, q) r =
          record {
            workers = w ∷ r.workers;
            size = ap suc r.size;
            once = ((λ m. o.0 (Memᴰ.cast (sym q) (r.each w m).2)), r.once);
            each = λ v m. at v (Memᴰ.cases_cons m);
          }
        where
          at : (v : ℕ) → (v ≡ w) ⊎ Memᴰ v r.workers → (v < 16) × ((worker_of st v).holds ≡ true) × Memᴰ (worker_of st v).thread (t ∷ k)
          at v (inl d) = rw d (i, e, Memᴰ.head q)
          at v (inr m) = ((r.each v m).0, (r.each v m).1, Memᴰ.tail (r.each v m).2)

  -- a free worker's search of the second list passes at most p − 1 threads
  pub search_short : (w : ℕ) → w < p → (worker_of st w).holds ≡ false → leftmost st.status (actives st.status st.list) < p
  unfolding Once
  search_short w h e =
      omega (arith, r.size, length-take-le (leftmost s a) a (leftmost_within s a), once_short p (w ∷ r.workers) (free, r.once) below)
    where
      s : List ℕ
      s = st.status

      a : List ℕ
      a = actives st.status st.list

      held_all : (t : ℕ) → Memᴰ t (take (leftmost s a) a) → (t < T.threads) × (status_of st t ≡ held)
      held_all t m =
          let (i, n) = passed_old s t a m in
          let (j, q) = actives_old s t st.list i in
          let b : t < T.threads = f.list_below t j in
          (b, held_left (status_of st t) (f.status_known t b) (f.list_born t j) n q (f.list_unended t j))

      r : Holders (take (leftmost s a) a)
      r = holders (take (leftmost s a) a) (once_take (leftmost s a) a (once_actives s st.list (list_once T l p K st f))) held_all

      free : Memᴰ w r.workers → ⊥
      free m = no_way (cc (r.each w m).1)

      below : Below p (w ∷ r.workers)
      below v m = at (Memᴰ.cases_cons m)
        where
          at : (v ≡ w) ⊎ Memᴰ v r.workers → v < p
          at (inl d) = rw d h
          at (inr i) = f.holding.holder_below v (r.each v i).0 (r.each v i).1
