-- A worker that holds a thread acts: what becomes of its thread, its line and the rest, case by case, with the worker's deque between those left and right of it.
use mathlib.Core.Path.{◌≡◌, refl, sym, ap, subst, ◌∙◌}
use Prim.Native.Nat.{ℕ, suc, ◌+◌, ◌-◌, ◌≤◌, ◌<◌}
use mathlib.Core.List.{List, [], ◌∷◌, ◌++◌}
use mathlib.Core.Bool.{Bool, true, false, ◌&&◌}
use mathlib.Core.Logic.{◌⊎◌, inl, inr}
use native.Mathlib.Omega.{arith}
use native.Mathlib.Decide.{ℕ_discrete}
use lib.ListN.{length, get_or, set, length-set}
use lib.Seq.{get_or-set_same, get_or-set_other}
use lib.Dec.{ltb, leb, eqb}
use borrow.Author.Tests.{eqb-true, eqb-false, ne_eqb}
use Rattle.table.specs.Sum.{pick}
use Rattle.table.specs.Format.{is, code_of, Table, kind}
use Rattle.table.specs.declared.kinds.Kind.{Kind}
use Rattle.table.specs.declared.kinds.Kind.TheVariants.{End as end, Work as work, Alloc as alloc, Free as free, Fork as fork, Join as join, Unknown as unknown}
use Rattle.table.specs.Checks.{owner, alloc_of}
use Rattle.table.specs.Level.{fork_below}
use Rattle.table.proofs.Tests.{no_way, fork_no_end}
use Rattle.table.proofs.Bodies.{kind_known, fork_above, fork_below_lem, next_owner, next_within}
use Rattle.schedule.specs.declared.Worker.{Worker}
use Rattle.schedule.specs.declared.Reply.{Reply}
use Rattle.schedule.specs.declared.Reply.TheVariants.{Done, Quota, Wait}
use Rattle.schedule.specs.Machine.{State, ready, held, waiting, ended, unborn, nobody, next_of, status_of, worker_of, parent_of, with_list, with_status, waits_for, woken, without, Stepped, stepped, act, act_by, taken, released, drawn}
use Rattle.order.specs.Order.{number_of}
use Rattle.schedule.specs.Sound.{is_done}
use Rattle.order.proofs.Lawful.{Lawful}
use Rattle.order.proofs.Numbers.{number_rises}
use Rattle.order.proofs.Words.{and_exactly, never_true}
use Rattle.schedule.proofs.Sound.Facts.{Facts}
use Rattle.schedule.proofs.Sound.Done.{done_alike, done_low, done_last}
use Rattle.schedule.proofs.Preservation.Releases.{Acting, acting}
use Rattle.schedule.proofs.Preservation.Turns.{either}
use Rattle.schedule.proofs.Preservation.Ends.{owner_below_less}
use Rattle.schedule.proofs.Bounds.Acts.{Acted, acted, set_ended}
use Rattle.schedule.proofs.Linked.Waiting.{awaited}
use Rattle.deques.specs.Deques.{Deque, deque, nothing, kept, place_of, own, push, disown, Deques, over, goes_to, goes_on, let_go, act_deques}
use Rattle.schedule.proofs.SerialLive.{serial_live}
use Rattle.deques.proofs.ActCommon.{CommonIn, Beside, beside}
use Rattle.deques.specs.Partition.{owned_by}
use Rattle.deques.proofs.DequeTurns.{with_serial, serial_facts, waits_status, waits_same}
use Rattle.deques.proofs.Flat.{own_at, mine_at}
use Rattle.deque_bounds.proofs.Lines.{Live, Moved}

pub data ActionLeaves (T : Table) (K w t a q : ℕ) (st : State) (front : List Deque) (k : List ℕ) (rest : List Deque) (D : Deques) : Type 0 where
  -- work, an alloc within the quota, a free, a join done
  stays : Moved T K w t a q st D.state → (kind T a ≡ fork → ⊥) → (worker_of D.state w).thread ≡ t → number_of T (next_of D.state t) ≡ suc (number_of T a)
      → is_done T D.state a ≡ true → D.deques ≡ front ++ deque w k ∷ rest → next_of D.state t ≡ suc a → ActionLeaves T K w t a q st front k rest D
  forks : Moved T K w t a q st D.state → kind T a ≡ fork → (worker_of D.state w).thread ≡ T.argument a → next_of D.state t ≡ suc a → is_done T D.state a ≡ true
      → D.deques ≡ front ++ deque w (t ∷ k) ∷ rest → ActionLeaves T K w t a q st front k rest D
  -- an end that wakes nobody, above a thread
  pops : (t2 : ℕ) (l : List ℕ) → k ≡ t2 ∷ l → Moved T K w t a q st D.state → kind T a ≡ end → (Live D.state t → ⊥) → (worker_of D.state w).thread ≡ t2 → is_done T D.state a ≡ true
      → D.deques ≡ front ++ deque w l ∷ rest → ActionLeaves T K w t a q st front k rest D
  -- a wait above a thread: hand-made records alone have it
  drops : (t2 : ℕ) (l : List ℕ) → k ≡ t2 ∷ l → kind T a ≡ join → (status_of st (T.argument a) ≡ ended → ⊥) → ActionLeaves T K w t a q st front k rest D
  -- an end that wakes nobody, or a wait, above none
  leaves : k ≡ [] → Moved T K w t a q st D.state → (kind T a ≡ fork → ⊥) → (worker_of D.state w).holds ≡ false → next_of D.state t ≡ a → D.deques ≡ front ++ rest → ActionLeaves T K w t a q st front k rest D
  wakes : (u : ℕ) → u < T.threads → status_of st u ≡ waiting → awaited T st u ≡ t → Moved T K w t a q st D.state → kind T a ≡ end → (Live D.state t → ⊥)
      → (worker_of D.state w).thread ≡ u → is_done T D.state a ≡ true → D.deques ≡ front ++ deque w k ∷ rest → ActionLeaves T K w t a q st front k rest D
  stops : Moved T K w t a q st D.state → (kind T a ≡ fork → ⊥) → (worker_of D.state w).holds ≡ false → next_of D.state t ≡ a → D.deques ≡ front ++ deque 16 (t ∷ k) ∷ rest
      → ActionLeaves T K w t a q st front k rest D

-- ---- statuses set

abbrev pub LiveIn : List ℕ → ℕ → Type 0
LiveIn xs c = (get_or xs c 0 ≡ unborn → ⊥) × (get_or xs c 0 ≡ ended → ⊥)

pub live_set : (xs : List ℕ) (i y : ℕ) → LiveIn xs i → (u : ℕ) → LiveIn (set xs i y) u → LiveIn xs u
live_set xs i y v u q = go (ℕ_discrete u i)
  where
    go : Dec (u ≡ i) → LiveIn xs u
    go (yes e) = rw e v
    go (no n) = rw (get_or-set_other xs i u y 0 n) at q

pub wait_set : (xs : List ℕ) (i y : ℕ) → i < length xs → (y ≡ waiting → ⊥) → (u : ℕ) → get_or (set xs i y) u 0 ≡ waiting → get_or xs u 0 ≡ waiting
wait_set xs i y h n u q = go (ℕ_discrete u i)
  where
    go : Dec (u ≡ i) → get_or xs u 0 ≡ waiting
    go (yes e) = absurd (n (sym (get_or-set_same xs i y 0 h) ∙ ap (λ (z : ℕ). get_or (set xs i y) z 0) (sym e) ∙ q))
    go (no d) = sym (get_or-set_other xs i u y 0 d) ∙ q

-- ---- the cases

module _ (T : Table) (l : Lawful T) (p K : ℕ) (few : p ≤ 16) (w : ℕ) (below : w < p) (st : State) (c : CommonIn T p K st) (h : (worker_of st w).holds ≡ true)
    (front : List Deque) (k : List ℕ) (rest : List Deque) (clear : owned_by w front ≡ 0) (tops : (t2 : ℕ) (l : List ℕ) → k ≡ t2 ∷ l → (status_of st t2 ≡ ready) × (t2 < T.threads)) where
  abbrev t : ℕ
  t = (worker_of st w).thread

  abbrev a : ℕ
  a = next_of st t

  abbrev x : ℕ
  x = T.argument a

  abbrev u : ℕ
  u = parent_of T t

  abbrev q : ℕ
  q = (worker_of st w).quota

  abbrev ds : List Deque
  ds = front ++ deque w k ∷ rest

  f : Facts T p K (with_serial T l st)
  f = serial_facts T l p K st c

  X : Acting T w t a (with_serial T l st)
  X = acting T l p K w t a (with_serial T l st) f (omega arith) h refl refl

  alive : Live st t
  alive = ((λ e. omega (arith, X.taken, e)), (λ e. omega (arith, X.taken, e)))

  small : T.threads ≤ length st.status
  small = omega (arith, f.status_size, l.few_threads)

  fits : t < length st.status
  fits = omega (arith, small, X.thread)

  wide : w < length st.workers
  wide = omega (arith, f.holding.worker_size)

  gone : get_or (set st.workers w nobody) w nobody ≡ nobody
  gone = get_or-set_same st.workers w nobody nobody wide

  act_acted : Acted T K w t a q st (act T K w st).reply (act T K w st).state
  act_acted =
      let g : List ℕ = serial_live T st.next st.status l in
      let y : Beside T K w g st = beside T K w g st in
      let z : Acted T K w t a q (with_serial T l st) (act T K w st).reply (with_list y.list (act T K w st).state) =
      subst (λ (s : Stepped). Acted T K w t a q (with_serial T l st) s.reply s.state) y.same (acted T l p K w t a (with_serial T l st) f X) in
      record { done_others = z.done_others; replied = z.replied; next_others = z.next_others; worker_others = z.worker_others; keeps = z.keeps; quota = z.quota; does = z.does; answers = z.answers }

  acted_by : (j : Kind) → kind T a ≡ j → Acted T K w t a q st (act_by j T K w t a x st).reply (act_by j T K w t a x st).state
  unfolding act
  acted_by j e = subst (λ (i : Kind). Acted T K w t a q st (act_by i T K w t a x st).reply (act_by i T K w t a x st).state) e act_acted

  abbrev after_of : Kind → Stepped → Deques
  after_of j s = pick (worker_of s.state w).holds (over s.state ds) (let_go j (waits_for T st u t) q w t x u s.state ds)

  abbrev Goes : Deques → Type 0
  Goes D = ActionLeaves T K w t a q st front k rest D

  no_alloc : is alloc (kind T a) ≡ false → drawn K (alloc_of T a) ≡ 0
  unfolding alloc_of
  no_alloc e = rw e (none_drawn (ltb K 0))
    where
      none_drawn : (b : Bool) → pick {A = ℕ} b 0 0 ≡ 0
      none_drawn true = refl
      none_drawn false = refl

  pick_zero : (b : Bool) (y : ℕ) → y ≡ 0 → pick b y 0 ≡ 0
  pick_zero true y e = e
  pick_zero false y e = refl

  -- the state s after the action, and s' after what the worker then takes
  moved : (r : Reply) (s s' : State) → Acted T K w t a q st r s → s'.next ≡ s.next → ((d : ℕ) → is_done T s' d ≡ is_done T s d) → ((v : ℕ) → (v ≡ w → ⊥) → worker_of s' v ≡ worker_of s v)
      → number_of T (next_of st t) ≤ number_of T (next_of s t)
      → ((c : ℕ) → Live s' c → Live st c ⊎ ((kind T a ≡ fork) × (c ≡ T.argument a)))
      → ((u : ℕ) → status_of s' u ≡ waiting → (status_of st u ≡ waiting) ⊎ ((u ≡ t) × (kind T a ≡ join)))
      → (worker_of s' w).quota + pick (is_done T s' a) (drawn K (alloc_of T a)) 0 ≤ q → Moved T K w t a q st s'
  moved r s s' y n d v up b j z =
      record {
        next_others = λ u i. ap (λ (m : List ℕ). get_or m u 0) n ∙ y.next_others u i;
        next_up = let e : next_of s' t ≡ next_of s t = ap (λ (m : List ℕ). get_or m t 0) n in rw e up;
        born = b;
        waits = j;
        worker_others = λ u i. v u i ∙ y.worker_others u i;
        done_others = λ i m. d i ∙ y.done_others i m;
        spends = z;
      }

  -- it goes on with its thread
  goes_on_lem : (r : Reply) (s : State) → s.next ≡ set st.next t (suc a) → Acted T K w t a q st r s → r ≡ Done t a → s.status ≡ st.status → (worker_of s w).holds ≡ true → (kind T a ≡ fork → ⊥) → Goes (over s ds)
  goes_on_lem r s nx y e i o n =
      let (z1, z2, z3) = y.keeps o in
      stays
      (moved r s s y refl (λ d. refl) (λ v j. refl) (omega (arith, z3)) (λ c v. inl (subst (λ (m : List ℕ). LiveIn m c) i v)) (λ u v. inl (subst (λ (m : List ℕ). get_or m u 0 ≡ waiting) i v))
      (rw z1 (y.quota t a e)))
      n z2 z3 z1 refl (ap (λ (m : List ℕ). get_or m t 0) nx ∙ get_or-set_same st.next t (suc a) 0 (omega (arith, f.next_size, l.few_threads, X.thread)))

  by_work_lem : kind T a ≡ work → Goes (after_of work (act_by work T K w t a x st))
  unfolding act_by
  by_work_lem e = rw h (goes_on_lem (Done t a) _ refl (acted_by work e) refl refl h (λ z. no_way cc))

  by_free : kind T a ≡ free → Goes (after_of free (act_by free T K w t a x st))
  unfolding act_by
  by_free e = rw h (goes_on_lem (Done t a) _ refl (acted_by free e) refl refl h (λ z. no_way cc))

  by_alloc : kind T a ≡ alloc → Goes (after_of alloc (act_by alloc T K w t a x st))
  unfolding act_by let_go
  by_alloc e =
      either (λ (s : Stepped). Acted T K w t a q st s.reply s.state → Goes (after_of alloc s)) (leb (drawn K x) q) _ _
      (λ i y. rw (get_or-set_same st.workers w (record { holds = true; thread = t; quota = q - drawn K x }) nobody wide)
      (goes_on_lem (Done t a) _ refl y refl refl (rw (get_or-set_same st.workers w (record { holds = true; thread = t; quota = q - drawn K x }) nobody wide)) (λ z. no_way cc)))
      (λ i y. rw gone (stop y))
      (acted_by alloc e)
    where
      stop : Acted T K w t a q st (Quota t x) (released w t ready st) → Goes (over (released w t ready st) (own w (λ d. disown (push t d)) ds))
      stop y =
          let n : is_done T (released w t ready st) a ≡ false = never_true (is_done T (released w t ready st) a) (λ i. no_way (cc (y.replied i))) in
          stops
          (moved (Quota t x) (released w t ready st) (released w t ready st) y refl (λ d. refl) (λ v j. refl) (omega arith) (λ c v. inl (live_set st.status t ready alive c v))
          (λ u v. inl (wait_set st.status t ready fits (λ z. omega (arith, z)) u v)) (rw (n, gone) (omega arith)))
          (λ z. no_way cc) (rw gone) refl (own_at w (λ d. disown (push t d)) k front rest clear)

  -- ---- its deque's top thread, or none: the thread has ended or waits

  module _ (y : ℕ) (s : State) (r : Reply) (D : Acted T K w t a q st r s) (statuses : s.status ≡ set st.status t y) (nexts : s.next ≡ st.next) (workers : s.workers ≡ set st.workers w nobody)
      (no_fork : kind T a ≡ fork → ⊥) (no_all : drawn K (alloc_of T a) ≡ 0) (finished : (y ≡ ended) ⊎ (y ≡ waiting)) (done : y ≡ ended → is_done T s a ≡ true) (ending : y ≡ ended → kind T a ≡ end)
      (joining : y ≡ waiting → (kind T a ≡ join) × (status_of st (T.argument a) ≡ ended → ⊥)) where
    status_t : status_of s t ≡ y
    status_t = ap (λ (m : List ℕ). get_or m t 0) statuses ∙ get_or-set_same st.status t y 0 fits

    free_now : worker_of s w ≡ nobody
    free_now = ap (λ (m : List Worker). get_or m w nobody) workers ∙ gone

    was_live : (v : ℕ) → Live s v → Live st v
    was_live v i = live_set st.status t y alive v (subst (λ (m : List ℕ). LiveIn m v) statuses i)

    was_waiting : (v : ℕ) → status_of s v ≡ waiting → (status_of st v ≡ waiting) ⊎ ((v ≡ t) × (kind T a ≡ join))
    was_waiting v i = go (ℕ_discrete v t)
      where
        go : Dec (v ≡ t) → (status_of st v ≡ waiting) ⊎ ((v ≡ t) × (kind T a ≡ join))
        go (yes e) = inr (e, (joining (sym status_t ∙ ap (status_of s) (sym e) ∙ i)).0)
        go (no n) = inl (sym (ap (λ (m : List ℕ). get_or m v 0) statuses ∙ get_or-set_other st.status t v y 0 n) ∙ i)

    next_same : next_of s t ≡ a
    next_same = ap (λ (m : List ℕ). get_or m t 0) nexts

    leave : k ≡ [] → Goes (over s (own w disown ds))
    leave e =
        leaves e
        (moved r s s D refl (λ d. refl) (λ v j. refl) (rw next_same (omega arith)) (λ c v. inl (was_live c v)) was_waiting
        (let z : (worker_of s w).quota ≡ 0 = rw free_now in omega (arith, z, pick_zero (is_done T s a) (drawn K (alloc_of T a)) no_all)))
        no_fork (rw free_now) next_same (own_at w disown k front rest clear ∙ at k e)
      where
        at : (k : List ℕ) → k ≡ [] → front ++ kept (disown (deque w k)) rest ≡ front ++ rest
        at k e = rw e refl

    pop : (t2 : ℕ) (j : List ℕ) → k ≡ t2 ∷ j → Goes (over (taken q w t2 s) (own w (λ d. deque w j) ds))
    unfolding taken
    pop t2 j e = go finished
      where
        r2 : (status_of st t2 ≡ ready) × (t2 < T.threads)
        r2 = tops t2 j e

        apart : t2 ≡ t → ⊥
        apart z = omega (arith, r2.0, X.taken, ap (status_of st) z)

        s_ready : status_of s t2 ≡ ready
        s_ready = ap (λ (m : List ℕ). get_or m t2 0) statuses ∙ get_or-set_other st.status t t2 y 0 apart ∙ r2.0

        s_live : Live s t2
        s_live = ((λ z. omega (arith, z, s_ready)), (λ z. omega (arith, z, s_ready)))

        dones : (d : ℕ) → is_done T (taken q w t2 s) d ≡ is_done T s d
        dones d = done_alike T s d (taken q w t2 s) refl (set_ended s.status t2 held refl (rw s_ready) (owner T d))

        room : t2 < length s.status
        room = let z : length s.status ≡ length st.status = ap length statuses ∙ length-set st.status t y in omega (arith, z, small, r2.1)

        now : worker_of (taken q w t2 s) w ≡ record { holds = true; thread = t2; quota = q }
        now = get_or-set_same s.workers w (record { holds = true; thread = t2; quota = q }) nobody (let z : length s.workers ≡ length st.workers = ap length workers ∙ length-set st.workers w nobody in omega (arith, z, wide))

        m : Moved T K w t a q st (taken q w t2 s)
        m =
            moved r s (taken q w t2 s) D refl dones (λ v j. get_or-set_other s.workers w v (record { holds = true; thread = t2; quota = q }) nobody j) (rw next_same (omega arith))
            (λ c v. inl (was_live c (live_set s.status t2 held s_live c v))) (λ v i. was_waiting v (wait_set s.status t2 held room (λ z. omega (arith, z)) v i))
            (let z : (worker_of (taken q w t2 s) w).quota ≡ q = rw now in omega (arith, z, pick_zero (is_done T (taken q w t2 s) a) (drawn K (alloc_of T a)) no_all))

        dead : y ≡ ended → Live (taken q w t2 s) t → ⊥
        dead z v = v.1 (get_or-set_other s.status t2 t held 0 (λ b. apart (sym b)) ∙ status_t ∙ z)

        mid : front ++ kept (deque w j) rest ≡ front ++ deque w j ∷ rest
        mid = rw (ne_eqb w 16 (λ z. omega (arith, z, few, below))) refl

        go : (y ≡ ended) ⊎ (y ≡ waiting) → Goes (over (taken q w t2 s) (own w (λ d. deque w j) ds))
        go (inl z) = pops t2 j e m (ending z) (dead z) (rw now) (dones a ∙ done z) (own_at w (λ d. deque w j) k front rest clear ∙ mid)
        go (inr z) = drops t2 j e (joining z).0 (joining z).1

    goes_off : Goes (goes_on q w s ds)
    unfolding goes_on
    goes_off = go (get_or ds (place_of w ds) nothing).threads (sym (mine_at w front k rest clear))
      where
        go : (j : List ℕ) → k ≡ j → Goes (goes_to q w s ds j)
        go [] e = leave e
        go (t2 ∷ j) e = pop t2 j e

  by_join : kind T a ≡ join → Goes (after_of join (act_by join T K w t a x st))
  unfolding act_by let_go is code_of
  by_join e =
      either (λ (s : Stepped). Acted T K w t a q st s.reply s.state → Goes (after_of join s)) (eqb (status_of st x) ended) _ _
      (λ i y. rw h (goes_on_lem (Done t a) _ refl y refl refl h (λ z. no_way cc)))
      (λ i y. rw gone
      (goes_off waiting (released w t waiting st) (Wait t x) y refl refl refl (λ z. no_way cc) none (inr refl) (λ z. absurd (omega (arith, z))) (λ z. absurd (omega (arith, z)))
      (λ z. (e, eqb-false (status_of st x) ended i))))
      (acted_by join e)
    where
      none : drawn K (alloc_of T a) ≡ 0
      none = no_alloc (rw e)

  by_kind : (j : Kind) → kind T a ≡ j → (kind T a ≡ fork → Goes (after_of fork (act_by fork T K w t a x st))) → (kind T a ≡ end → Goes (after_of end (act_by end T K w t a x st))) → Goes (after_of j (act_by j T K w t a x st))
  by_kind end e fo en = en e
  by_kind work e fo en = by_work_lem e
  by_kind alloc e fo en = by_alloc e
  by_kind free e fo en = by_free e
  by_kind fork e fo en = fo e
  by_kind join e fo en = by_join e
  by_kind unknown e fo en = absurd (kind_known T l.contents l.bodies a X.action e)

  by_fork : kind T a ≡ fork → Goes (after_of fork (act_by fork T K w t a x st))
  unfolding act_by let_go taken is code_of
  by_fork e =
      rw gone
      (forks
      (moved (Done t a) s (taken q w x s) y refl dones (λ v j. get_or-set_other s.workers w v (record { holds = true; thread = x; quota = q }) nobody j) up born
      (λ v i. inl (wait_set st.status t ready fits (λ z. omega (arith, z)) v
      (wait_set (set st.status t ready) x ready room (λ z. omega (arith, z)) v (wait_set s.status x held room2 (λ z. omega (arith, z)) v i))))
      (let z : (worker_of (taken q w x s) w).quota ≡ q = rw now in omega (arith, z, pick_zero (is_done T (taken q w x s) a) (drawn K (alloc_of T a)) (no_alloc (rw e)))))
      e (rw now) next_here (dones a ∙ did) (own_at w (push t) k front rest clear ∙ mid))
    where
      s : State
      s = (act_by fork T K w t a x st).state

      y : Acted T K w t a q st (Done t a) s
      y = acted_by fork e

      above_it : t < x
      above_it = omega (arith, fork_above T l.contents l.bodies a X.action e, X.owned)

      child : x < T.threads
      child = fork_below_lem T l.contents l.bodies a X.action e

      room : x < length (set st.status t ready)
      room = rw (length-set st.status t ready) (omega (arith, small, child))

      room2 : x < length s.status
      room2 = rw (length-set (set st.status t ready) x ready) room

      s_ready : status_of s x ≡ ready
      s_ready = get_or-set_same (set st.status t ready) x ready 0 room

      dones : (d : ℕ) → is_done T (taken q w x s) d ≡ is_done T s d
      dones d = done_alike T s d (taken q w x s) refl (set_ended s.status x held refl (rw s_ready) (owner T d))

      now : worker_of (taken q w x s) w ≡ record { holds = true; thread = x; quota = q }
      now = get_or-set_same s.workers w (record { holds = true; thread = x; quota = q }) nobody (rw (length-set st.workers w nobody) wide)

      next_here : next_of s t ≡ suc a
      next_here = get_or-set_same st.next t (suc a) 0 (omega (arith, f.next_size, l.few_threads, X.thread))

      up : number_of T (next_of st t) ≤ number_of T (next_of s t)
      up =
          let n : is end (kind T a) ≡ false = fork_no_end e in
          rw next_here
          (omega (arith, number_rises T l a (suc a) (omega arith) (next_within T l.contents l.bodies a X.action n) (sym (next_owner T l.contents l.bodies a X.action n))))

      did : is_done T s a ≡ true
      did = done_low T s a (rw (X.owned, next_here) (omega arith))

      born : (c : ℕ) → Live (taken q w x s) c → Live st c ⊎ ((kind T a ≡ fork) × (c ≡ T.argument a))
      born c v = go (ℕ_discrete c x)
        where
          go : Dec (c ≡ x) → Live st c ⊎ ((kind T a ≡ fork) × (c ≡ T.argument a))
          go (yes z) = inr (e, z)
          go (no z) =
              let v1 : LiveIn s.status c = rw (get_or-set_other s.status x c held 0 z) at v in
              let v2 : LiveIn (set st.status t ready) c = rw (get_or-set_other (set st.status t ready) x c ready 0 z) at v1 in
              inl (live_set st.status t ready alive c v2)

      mid : front ++ kept (push t (deque w k)) rest ≡ front ++ deque w (t ∷ k) ∷ rest
      mid = rw (ne_eqb w 16 (λ z. omega (arith, z, few, below))) refl

  still_waits : waits_for T (with_list (without t st.list) (released w t ended st)) u t ≡ waits_for T st u t
  still_waits = waits_same T st w t u fits X.taken

  waits_for_lem : waits_for T st u t ≡ true → awaited T st u ≡ t
  unfolding waits_for
  waits_for_lem e =
      eqb-true (T.argument (next_of st u)) t
      ((and_exactly (is join (kind T (next_of st u))) (eqb (T.argument (next_of st u)) t)).0
      ((and_exactly (eqb (status_of st u) waiting) (is join (kind T (next_of st u)) && eqb (T.argument (next_of st u)) t)).0 e).1).1

  by_end : kind T a ≡ end → Goes (after_of end (act_by end T K w t a x st))
  unfolding act_by woken let_go taken is code_of
  by_end e =
      either (λ (s : State). Acted T K w t a q st (Done t a) s → Goes (after_of end (stepped (Done t a) s))) (waits_for T mid u t) (with_status u ready mid) mid
      (λ i y. rw (gone, sym still_waits ∙ i) (wake (sym still_waits ∙ i) y))
      (λ i y. rw (gone, sym still_waits ∙ i)
      (goes_off ended mid (Done t a) y refl refl refl no_fork none (inl refl) (λ z. did mid refl (get_or-set_same st.status t ended 0 fits)) (λ z. e) (λ z. absurd (omega (arith, z)))))
      (acted_by end e)
    where
      mid : State
      mid = with_list (without t st.list) (released w t ended st)

      none : drawn K (alloc_of T a) ≡ 0
      none = no_alloc (rw e)

      no_fork : kind T a ≡ fork → ⊥
      no_fork z = no_way cc

      did : (s : State) → s.next ≡ st.next → status_of s t ≡ ended → is_done T s a ≡ true
      did s n i =
          let z : next_of s t ≡ a = ap (λ (m : List ℕ). get_or m t 0) n in
          done_last T s a (rw X.owned (sym z)) (rw X.owned i)

      parent : u < T.threads
      parent = owner_below_less T T.threads (fork_below T T.actions t) l.some_thread

      wake : waits_for T st u t ≡ true → Acted T K w t a q st (Done t a) (with_status u ready mid) → Goes (over (taken q w u (with_status u ready mid)) ds)
      wake i y =
          wakes u parent waits (waits_for_lem i)
          (moved (Done t a) s (taken q w u s) y refl dones (λ v j. get_or-set_other s.workers w v (record { holds = true; thread = u; quota = q }) nobody j) (omega arith)
          (λ c v. inl (live_set st.status t ended alive c (live_set (set st.status t ended) u ready u_live c (live_set s.status u held s_live c v))))
          (λ v j. inl (wait_set st.status t ended fits (λ z. omega (arith, z)) v
          (wait_set (set st.status t ended) u ready room (λ z. omega (arith, z)) v (wait_set s.status u held room2 (λ z. omega (arith, z)) v j))))
          (let z : (worker_of (taken q w u s) w).quota ≡ q = rw now in omega (arith, z, pick_zero (is_done T (taken q w u s) a) (drawn K (alloc_of T a)) none)))
          e dead (rw now) (dones a ∙ did s refl s_ended) refl
        where
          s : State
          s = with_status u ready mid

          waits : status_of st u ≡ waiting
          waits = waits_status T st u t i

          apart : u ≡ t → ⊥
          apart z = omega (arith, waits, X.taken, ap (status_of st) z)

          room : u < length (set st.status t ended)
          room = rw (length-set st.status t ended) (omega (arith, small, parent))

          room2 : u < length s.status
          room2 = rw (length-set (set st.status t ended) u ready) room

          mid_waits : get_or (set st.status t ended) u 0 ≡ waiting
          mid_waits = get_or-set_other st.status t u ended 0 apart ∙ waits

          u_live : LiveIn (set st.status t ended) u
          u_live = ((λ z. omega (arith, z, mid_waits)), (λ z. omega (arith, z, mid_waits)))

          s_ready : status_of s u ≡ ready
          s_ready = get_or-set_same (set st.status t ended) u ready 0 room

          s_live : LiveIn s.status u
          s_live = ((λ z. omega (arith, z, s_ready)), (λ z. omega (arith, z, s_ready)))

          s_ended : status_of s t ≡ ended
          s_ended = get_or-set_other (set st.status t ended) u t ready 0 (λ z. apart (sym z)) ∙ get_or-set_same st.status t ended 0 fits

          dones : (d : ℕ) → is_done T (taken q w u s) d ≡ is_done T s d
          dones d = done_alike T s d (taken q w u s) refl (set_ended s.status u held refl (rw s_ready) (owner T d))

          now : worker_of (taken q w u s) w ≡ record { holds = true; thread = u; quota = q }
          now = get_or-set_same s.workers w (record { holds = true; thread = u; quota = q }) nobody (rw (length-set st.workers w nobody) wide)

          dead : Live (taken q w u s) t → ⊥
          dead v = v.1 (get_or-set_other s.status u t held 0 (λ z. apart (sym z)) ∙ s_ended)

  pub action_leaves : Goes (act_deques T K w st ds).after
  unfolding act_deques act
  action_leaves = by_kind (kind T a) refl by_fork by_end
