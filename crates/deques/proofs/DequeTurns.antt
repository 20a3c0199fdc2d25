-- A turn of DFDeques keeps what any kind of run keeps, and what its deques keep.
use mathlib.Core.Path.{◌≡◌, refl, sym, ap, subst, ◌∙◌}
use Prim.Native.Nat.{ℕ, ◌+◌, ◌-◌, ◌≤◌, ◌<◌}
use mathlib.Core.List.{List, [], ◌∷◌}
use mathlib.Core.Bool.{Bool, true, false, ◌&&◌}
use native.Mathlib.Omega.{arith}
use native.Mathlib.Decide.{ℕ_discrete, dec_lt}
use lib.ListN.{length, get_or, set, length-set}
use lib.Seq.{get_or-set_same, get_or-set_other}
use lib.Dec.{leb, eqb}
use borrow.Author.Tests.{eqb-true}
use Rattle.table.specs.Sum.{pick}
use Rattle.table.specs.Format.{is, Table, kind}
use Rattle.table.specs.declared.kinds.Kind.{Kind}
use Rattle.table.specs.declared.kinds.Kind.TheVariants.{End as end, Work as work, Alloc as alloc, Free as free, Fork as fork, Join as join, Unknown as unknown}
use Rattle.table.specs.Level.{fork_below}
use Rattle.table.proofs.Tests.{no_way}
use Rattle.table.proofs.Bodies.{kind_known, fork_above, fork_below_lem}
use Rattle.schedule.specs.declared.Worker.{Worker}
use Rattle.schedule.specs.declared.Reply.TheVariants.{Done}
use Rattle.schedule.specs.Machine.{State, ready, held, waiting, ended, nobody, next_of, status_of, worker_of, parent_of, with_list, with_status, waits_for, woken, without, Stepped, stepped, act, act_by, taken, counted, released, drawn}
use Rattle.order.proofs.Lawful.{Lawful}
use Rattle.schedule.proofs.Sound.Facts.{Facts, facts, sound_facts}
use Rattle.schedule.proofs.Sound.Done.{undone_unborn}
use Rattle.schedule.proofs.Preservation.Holders.{rehung}
use Rattle.schedule.proofs.Preservation.Moves.{restated, restated_facts}
use Rattle.schedule.proofs.Preservation.Releases.{Acting, acting}
use Rattle.schedule.proofs.Preservation.Turns.{either}
use Rattle.schedule.proofs.Preservation.Ends.{owner_below_less}
use Rattle.deques.specs.Deques.{Deque, deque, nothing, is_empty, bottom, place_of, own, robbed, Deques, over, goes_to, goes_on, let_go, DequeStep, act_deques, steal, deque_turn}
use Rattle.deques.specs.Partition.{occurs, owned_by, ready_at, holds_at, PlacedDeques}
use Rattle.schedule.proofs.SerialLive.{serial_live, listed_live}
use Rattle.deques.proofs.ActCommon.{CommonIn, act_common}
use Rattle.deques.proofs.Placed.{robbed_occurs, robbed_owned, robbed_in_use}
use Rattle.deques.proofs.Kept.{ready_here, ready_there, holds_here, holds_there, one_is, none_is, pick_one, Releasing, pop, leaves, stops, forks, wakes, top_ready}
pub use Rattle.schedule.proofs.Preservation.Ends.{waits_true as waits_status}

-- ---- any kind of run: the list that it would have

abbrev pub with_serial : (T : Table) → Lawful T → State → State
with_serial T l st = with_list (serial_live T st.next st.status l) st

pub serial_facts : (T : Table) (l : Lawful T) (p K : ℕ) (st : State) → CommonIn T p K st → Facts T p K (with_serial T l st)
serial_facts T l p K st c = facts T l p K (with_serial T l st) (record { common = c; listed = listed_live T st.next st.status l c.placed })

-- a free worker takes a ready thread with any quota within K
pub taken_common : (T : Table) (l : Lawful T) (p K w : ℕ) → p ≤ 16 → w < p → (st : State) → CommonIn T p K st → (worker_of st w).holds ≡ false
    → (q t : ℕ) → q ≤ K → t < T.threads → status_of st t ≡ ready → CommonIn T p K (taken q w t st)
unfolding taken
taken_common T l p K w few below st c n q t b h e =
    let g : State = with_serial T l st in
    let f : Facts T p K g = serial_facts T l p K st c in
    let v : Worker = record { holds = true; thread = t; quota = q } in
    (sound_facts T l p K _
    (restated_facts T l p K g f w t held v h (omega arith, omega arith) (omega arith, omega arith)
    (rehung T p K g (restated w v t held g) f w t v (record {
      size = rw (length-set st.workers w v) f.holding.worker_size;
      few = omega arith;
      new = get_or-set_same st.workers w v nobody (omega (arith, f.holding.worker_size));
      old = λ u d. get_or-set_other st.workers w u v nobody d;
      was = λ u d. rw (get_or-set_other st.status t u held 0 d) (λ e. e);
      still = λ u d. rw (get_or-set_other st.status t u held 0 d) (λ e. e);
      below = h;
      own = λ i. no_way cc;
      apart = λ u g d i q. no_way (cc (f.holding.holder_held u g i));
      gives = λ i. (refl, b, below, get_or-set_same st.status t held 0 (omega (arith, f.status_size, l.few_threads)));
      keeps = λ i. (refl, refl);
      none = λ i. no_way cc;
    }))
    (λ q. no_way cc))
    ).common

-- what any kind of run keeps, and what the deques keep
pub record Kept (T : Table) (p K : ℕ) (D : Deques) : Type 0 where
  pub common : CommonIn T p K D.state
  pub placed : PlacedDeques T.threads D.state.status D.state.workers D.deques

-- whether a thread waits for its child is the same once that has ended
pub waits_same : (T : Table) (st : State) (w t u : ℕ) → t < length st.status → status_of st t ≡ held → waits_for T (with_list (without t st.list) (released w t ended st)) u t ≡ waits_for T st u t
unfolding waits_for
waits_same T st w t u fits taken = go (ℕ_discrete u t)
  where
    go : Dec (u ≡ t)
        → (eqb (get_or (set st.status t ended) u 0) waiting && (is join (kind T (next_of st u)) && eqb (T.argument (next_of st u)) t))
        ≡ (eqb (status_of st u) waiting && (is join (kind T (next_of st u)) && eqb (T.argument (next_of st u)) t))
    go (yes z) = rw (z, get_or-set_same st.status t ended 0 fits, taken)
    go (no z) = rw (get_or-set_other st.status t u ended 0 z)

-- ---- a worker that acts

module _ (T : Table) (l : Lawful T) (p K : ℕ) (few : p ≤ 16) (w : ℕ) (below : w < p) (st : State) (c : CommonIn T p K st) (ds : List Deque)
    (P : PlacedDeques T.threads st.status st.workers ds) (h : (worker_of st w).holds ≡ true) where
  abbrev t : ℕ
  t = (worker_of st w).thread

  abbrev a : ℕ
  a = next_of st t

  abbrev x : ℕ
  x = T.argument a

  abbrev u : ℕ
  u = parent_of T t

  abbrev q : ℕ
  q = (worker_of st w).quota

  f : Facts T p K (with_serial T l st)
  f = serial_facts T l p K st c

  X : Acting T w t a (with_serial T l st)
  X = acting T l p K w t a (with_serial T l st) f (omega arith) h refl refl

  quota_few : q ≤ K
  quota_few = f.holding.holder_quota w (omega arith) h

  -- sizes
  small : T.threads ≤ length st.status
  small = omega (arith, f.status_size, l.few_threads)

  wide : w < length st.workers
  wide = omega (arith, f.holding.worker_size)

  mine : owned_by w ds ≡ 1
  mine = P.owned w (omega arith) ∙ rw h

  abbrev Both : Deques → Type 0
  Both D = Kept T p K D

  -- its thread has another status, and it is released
  releasing : (y : ℕ) (e : ℕ → ℕ) → e t ≡ pick (eqb y ready) 1 0 → ((v : ℕ) → (v ≡ t → ⊥) → e v ≡ 0)
      → Releasing T.threads e w (set st.status t y) (set st.workers w nobody) ds
  releasing y e here there =
      record {
        once = λ v i. at v i (ℕ_discrete v t);
        none = P.none;
        mine = mine;
        free = holds_here st.workers w nobody wide;
        others = λ v i n. P.owned v i ∙ sym (holds_there st.workers w nobody v n);
        in_use = P.in_use;
      }
    where
      at : (v : ℕ) → v < T.threads → Dec (v ≡ t) → occurs v ds + e v ≡ ready_at (set st.status t y) v
      at v i (yes z) =
          let o : occurs t ds ≡ 0 = P.once t X.thread ∙ rw X.taken in
          rw (z, ready_here st.status t y (omega (arith, small, X.thread)), here, o) (omega arith)
      at v i (no z) = rw (ready_there st.status t y v z) (omega (arith, P.once v i, there v z))

  -- a thread more is ready, and in no deque
  more : (status : List ℕ) (workers : List Worker) (e : ℕ → ℕ) (z : ℕ) → T.threads ≤ length status → z < T.threads → ready_at status z ≡ 0
      → Releasing T.threads e w status workers ds → Releasing T.threads (λ v. e v + pick (eqb z v) 1 0) w (set status z ready) workers ds
  more status workers e z s i r o =
      record { once = λ v j. at v j (ℕ_discrete v z); none = o.none; mine = o.mine; free = o.free; others = o.others; in_use = o.in_use }
    where
      at : (v : ℕ) → v < T.threads → Dec (v ≡ z) → occurs v ds + (e v + pick (eqb z v) 1 0) ≡ ready_at (set status z ready) v
      at v j (yes k) = rw (k, ready_here status z ready (omega (arith, s, i))) (omega (arith, o.once z i, r, one_is z))
      at v j (no k) = rw (ready_there status z ready v k) (omega (arith, o.once v j, none_is z v (λ b. k (sym b))))

  -- ---- the deque's top thread, or none
  goes : (s : State) → CommonIn T p K s → (worker_of s w).holds ≡ false → T.threads ≤ length s.status → w < length s.workers
      → Releasing T.threads (λ v. 0) w s.status s.workers ds → Both (goes_on q w s ds)
  unfolding goes_on taken
  goes s d n i j o = go (get_or ds (place_of w ds) nothing).threads refl
    where
      go : (k : List ℕ) → (get_or ds (place_of w ds) nothing).threads ≡ k → Both (goes_to q w s ds k)
      go [] e = record { common = d; placed = leaves T.threads w (omega arith) s.status s.workers ds i j e o }
      go (t2 ∷ k) e =
          let y : Worker = record { holds = true; thread = t2; quota = q } in
          let z : PlacedDeques T.threads (set s.status t2 held) (set s.workers w y) (own w (λ d. deque w k) ds) =
          pop T.threads w (omega arith) s.status s.workers ds i j t2 k y refl e o in
          let r : (t2 < T.threads) × (status_of s t2 ≡ ready) = top_ready T.threads w (omega arith) s.status s.workers ds i j t2 k e o in
          record { common = taken_common T l p K w few below s d n q t2 quota_few r.0 r.1; placed = z }

  -- ---- by the kind of its action

  abbrev after_of : Kind → Stepped → Deques
  after_of k s = pick (worker_of s.state w).holds (over s.state ds) (let_go k (waits_for T st u t) q w t x u s.state ds)

  acted_common : (k : Kind) → kind T a ≡ k → CommonIn T p K (act_by k T K w t a x st).state
  unfolding act
  acted_common k e = subst (λ (j : Kind). CommonIn T p K (act_by j T K w t a x st).state) e (act_common T l p K few w below st c h)

  small_set : (y : ℕ) → T.threads ≤ length (set st.status t y)
  small_set y = rw (length-set st.status t y) small

  wide_set : w < length (set st.workers w nobody)
  wide_set = rw (length-set st.workers w nobody) wide

  gone : get_or (set st.workers w nobody) w nobody ≡ nobody
  gone = get_or-set_same st.workers w nobody nobody wide

  -- the worker goes on with its thread, another quota left
  stays : (y : Worker) → y.holds ≡ true → PlacedDeques T.threads st.status (set st.workers w y) ds
  stays y i = record { once = P.once; none = P.none; owned = λ v j. who v j (ℕ_discrete v w); in_use = P.in_use }
    where
      who : (v : ℕ) → v < 16 → Dec (v ≡ w) → owned_by v ds ≡ holds_at (set st.workers w y) v
      who v j (yes e) = rw (e, holds_here st.workers w y wide, i) mine
      who v j (no e) = rw (holds_there st.workers w y v e) (P.owned v j)

  by_work_lem : kind T a ≡ work → Both (after_of work (act_by work T K w t a x st))
  unfolding act_by
  by_work_lem e = rw h (record { common = acted_common work e; placed = P })

  by_free : kind T a ≡ free → Both (after_of free (act_by free T K w t a x st))
  unfolding act_by
  by_free e = rw h (record { common = acted_common free e; placed = P })

  by_alloc : kind T a ≡ alloc → Both (after_of alloc (act_by alloc T K w t a x st))
  unfolding act_by let_go
  by_alloc e =
      either (λ (s : Stepped). CommonIn T p K s.state → Both (after_of alloc s)) (leb (drawn K x) q) _ _
      (λ i d. rw (get_or-set_same st.workers w (record { holds = true; thread = t; quota = q - drawn K x }) nobody wide)
      (record { common = d; placed = stays (record { holds = true; thread = t; quota = q - drawn K x }) refl }))
      (λ i d. rw gone
      (record {
        common = d;
        placed =
            stops T.threads w (omega arith) (set st.status t ready) (set st.workers w nobody) ds (small_set ready) wide_set t X.thread
            (releasing ready (λ v. pick (eqb t v) 1 0) (one_is t) (λ v n. none_is t v (λ z. n (sym z))));
      }))
      (acted_common alloc e)

  by_join : kind T a ≡ join → Both (after_of join (act_by join T K w t a x st))
  unfolding act_by let_go
  by_join e =
      either (λ (s : Stepped). CommonIn T p K s.state → Both (after_of join s)) (eqb (status_of st x) ended) _ _
      (λ i d. rw h (record { common = d; placed = P }))
      (λ i d. rw gone (goes (released w t waiting st) d (rw gone) (small_set waiting) wide_set (releasing waiting (λ v. 0) refl (λ v n. refl))))
      (acted_common join e)

  by_fork : kind T a ≡ fork → Both (after_of fork (act_by fork T K w t a x st))
  unfolding act_by let_go taken
  by_fork e =
      rw gone
      (record {
        common = taken_common T l p K w few below (act_by fork T K w t a x st).state (acted_common fork e) (rw gone) q x quota_few child (get_or-set_same (set st.status t ready) x ready 0 room);
        placed =
            forks T.threads w (omega arith) (set (set st.status t ready) x ready) (set st.workers w nobody) ds (rw (length-set (set st.status t ready) x ready) (small_set ready)) wide_set
            t x (record { holds = true; thread = x; quota = q }) refl X.thread child (λ z. omega (arith, above_it, z))
            (more (set st.status t ready) (set st.workers w nobody) (λ v. pick (eqb t v) 1 0) x (small_set ready) child unready
            (releasing ready (λ v. pick (eqb t v) 1 0) (one_is t) (λ v n. none_is t v (λ z. n (sym z)))));
      })
    where
      above_it : t < x
      above_it = omega (arith, fork_above T l.contents l.bodies a X.action e, X.owned)

      child : x < T.threads
      child = fork_below_lem T l.contents l.bodies a X.action e

      room : x < length (set st.status t ready)
      room = omega (arith, small_set ready, child)

      unready : ready_at (set st.status t ready) x ≡ 0
      unready =
          ready_there st.status t ready x (λ z. omega (arith, above_it, z))
          ∙ rw (undone_unborn T l p K (with_serial T l st) f a X.action e X.undone)

  still_waits : waits_for T (with_list (without t st.list) (released w t ended st)) u t ≡ waits_for T st u t
  still_waits = waits_same T st w t u (omega (arith, small, X.thread)) X.taken

  by_end : kind T a ≡ end → Both (after_of end (act_by end T K w t a x st))
  unfolding act_by woken let_go taken
  by_end e =
      either (λ (s : State). CommonIn T p K s → Both (after_of end (stepped (Done t a) s))) (waits_for T mid u t) (with_status u ready mid) mid
      (λ i d.
      let j : waits_for T st u t ≡ true = sym still_waits ∙ i in
      rw (gone, j)
      (record {
        common = taken_common T l p K w few below (with_status u ready mid) d (rw gone) q u quota_few parent (get_or-set_same (set st.status t ended) u ready 0 room);
        placed =
            wakes T.threads w (omega arith) (set (set st.status t ended) u ready) (set st.workers w nobody) ds
            (rw (length-set (set st.status t ended) u ready) (small_set ended)) wide_set u (record { holds = true; thread = u; quota = q }) refl parent
            (more (set st.status t ended) (set st.workers w nobody) (λ v. 0) u (small_set ended) parent (unready j) (releasing ended (λ v. 0) refl (λ v n. refl)));
      }))
      (λ i d.
      let j : waits_for T st u t ≡ false = sym still_waits ∙ i in
      rw (gone, j) (goes mid d (rw gone) (small_set ended) wide_set (releasing ended (λ v. 0) refl (λ v n. refl))))
      (acted_common end e)
    where
      mid : State
      mid = with_list (without t st.list) (released w t ended st)

      parent : u < T.threads
      parent = owner_below_less T T.threads (fork_below T T.actions t) l.some_thread

      room : u < length (set st.status t ended)
      room = omega (arith, small_set ended, parent)

      unready : waits_for T st u t ≡ true → ready_at (set st.status t ended) u ≡ 0
      unready j =
          let o : status_of st u ≡ waiting = waits_status T st u t j in
          ready_there st.status t ended u (λ z. let y : status_of st u ≡ held = ap (status_of st) z ∙ X.taken in omega (arith, o, y)) ∙ rw o

  by_kind : (k : Kind) → kind T a ≡ k → Both (after_of k (act_by k T K w t a x st))
  by_kind end e = by_end e
  by_kind work e = by_work_lem e
  by_kind alloc e = by_alloc e
  by_kind free e = by_free e
  by_kind fork e = by_fork e
  by_kind join e = by_join e
  by_kind unknown e = absurd (kind_known T l.contents l.bodies a X.action e)

  pub acts : Both (act_deques T K w st ds).after
  unfolding act_deques act
  acts = by_kind (kind T a) refl

-- ---- a turn

module _ (T : Table) (l : Lawful T) (p K : ℕ) (few : p ≤ 16) (w : ℕ) (below : w < p) (c : ℕ) (d : Deques) (x : Kept T p K d) where
  abbrev st : State
  st = d.state

  abbrev ds : List Deque
  ds = d.deques

  abbrev b : ℕ
  b = bottom (get_or ds c nothing).threads

  -- "stolen from its bottom"
  module _ (free : (worker_of st w).holds ≡ false) (some : is_empty (get_or ds c nothing).threads ≡ false) where
    there : 1 ≤ occurs b ds
    there = omega (arith, robbed_occurs w b c ds some, one_is b)

    pub b_below : b < T.threads
    b_below = go (dec_lt b T.threads)
      where
        go : Dec (b < T.threads) → b < T.threads
        go (yes i) = i
        go (no i) = absurd (omega (arith, there, x.placed.none b (omega (arith, i))))

    pub b_ready : (q : Bool) → eqb (status_of st b) ready ≡ q → status_of st b ≡ ready
    b_ready true e = eqb-true (status_of st b) ready e
    b_ready false e = absurd (let z : occurs b ds ≡ pick {A = ℕ} false 1 0 = rw e at (x.placed.once b b_below) in omega (arith, z, there))

    g : Facts T p K (with_serial T l st)
    g = serial_facts T l p K st x.common

    abbrev y : Worker
    y = record { holds = true; thread = b; quota = K }

    pub stolen : PlacedDeques T.threads (set st.status b held) (set st.workers w y) (robbed w c ds)
    stolen =
        record {
          once = λ u i. at u i (ℕ_discrete u b);
          none = λ u i. omega (arith, robbed_occurs w u c ds some, x.placed.none u i);
          owned = λ v i. who v i (ℕ_discrete v w);
          in_use = robbed_in_use w (omega arith) c ds x.placed.in_use;
        }
      where
        at : (u : ℕ) → u < T.threads → Dec (u ≡ b) → occurs u (robbed w c ds) ≡ ready_at (set st.status b held) u
        at u i (yes e) =
            rw (e, ready_here st.status b held (omega (arith, g.status_size, l.few_threads, b_below)))
            (omega (arith, robbed_occurs w b c ds some, one_is b, x.placed.once b b_below, pick_one (eqb (status_of st b) ready)))
        at u i (no e) =
            rw (ready_there st.status b held u e) (omega (arith, robbed_occurs w u c ds some, none_is b u (λ z. e (sym z)), x.placed.once u i))

        who : (v : ℕ) → v < 16 → Dec (v ≡ w) → owned_by v (robbed w c ds) ≡ holds_at (set st.workers w y) v
        who v i (yes e) =
            let o : owned_by w ds ≡ 0 = x.placed.owned w (omega arith) ∙ rw free in
            rw (e, holds_here st.workers w y (omega (arith, g.holding.worker_size))) (omega (arith, robbed_owned w w (omega arith) c ds some, one_is w, o))
        who v i (no e) =
            rw (holds_there st.workers w y v e) (omega (arith, robbed_owned w v i c ds some, none_is w v (λ z. e (sym z)), x.placed.owned v i))

    pub after_steal : Kept T p K (act_deques T K w (taken K w b st) (robbed w c ds)).after
    unfolding taken
    after_steal =
        acts T l p K few w below (taken K w b st) (taken_common T l p K w few below st x.common free K b (omega arith) b_below (b_ready (eqb (status_of st b) ready) refl)) (robbed w c ds) stolen
        (rw (get_or-set_same st.workers w y nobody (omega (arith, g.holding.worker_size))))

  pub turn_kept : Kept T p K (deque_turn T K w c d).after
  unfolding deque_turn steal
  turn_kept =
      counts
      (either (λ (s : DequeStep). Kept T p K s.after) (worker_of st w).holds _ _ (acts T l p K few w below st x.common ds x.placed)
      (λ e. either (λ (s : DequeStep). Kept T p K s.after) (is_empty (get_or ds c nothing).threads) _ _ (λ i. x) (λ i. after_steal e i)))
    where
      counts : {z : Deques} → Kept T p K z → Kept T p K (over (counted z.state) z.deques)
      counts k = record { common = k.common; placed = k.placed }
