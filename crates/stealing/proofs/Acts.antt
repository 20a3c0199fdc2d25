-- A worker that goes on with its thread, on arrays in which the deques stand: its action leaves the reply and the state of `act_deques`, and the deques stand in the arrays after it.
use Rattle.std.specs.Prelude.{Ok}
use mathlib.Core.Path.{◌≡◌, refl, sym, ap, subst, fun_ext, ◌∙◌}
use Prim.Native.Nat.{ℕ, ◌+◌, ◌-◌, ◌^◌, ◌≤◌, ◌<◌}
use mathlib.Core.List.Memᴰ
use mathlib.Core.List.{List, [], ◌∷◌, ◌++◌, Memᴰ}
use mathlib.Core.Bool.{Bool, true, false, ◌&&◌}
use mathlib.Core.Logic.{◌⊎◌, inl, inr}
use native.Mathlib.Omega.{arith}
use native.Mathlib.Decide.{ℕ_discrete}
use lib.ListN.{length, get_or, set}
use lib.Seq.{get_or-set_same, get_or-set_other, set-get_or, set-set}
use lib.Dec.{leb, eqb}
use borrow.Author.Tests.{lt-ltb, le-leb}
use Rattle.table.specs.Sum.{pick}
use Rattle.table.specs.Format.{is, Table, kind, table_of}
use Rattle.table.specs.declared.kinds.Kind.{Kind}
use Rattle.table.specs.declared.kinds.Kind.TheVariants.{End as end, Work as work, Alloc as alloc, Free as free, Fork as fork, Join as join, Unknown as unknown}
use Rattle.table.specs.Rules.{Rules}
use Rattle.table.specs.Level.{fork_below}
use Rattle.table.specs.Pass.{first_found}
use Rattle.table.proofs.Bodies.{kind_known}
use Rattle.schedule.specs.declared.Worker.{Worker}
use Rattle.schedule.specs.declared.Reply.{Reply}
use Rattle.schedule.specs.declared.Reply.TheVariants.{Done, Wait}
use Rattle.schedule.specs.Memory.{count_in}
use Rattle.schedule.specs.Machine.{State, Stepped, ready, held, waiting, ended, unborn, drawn, nobody, status_of, worker_of, parent_of, waits_for, woken, left_of, without, act_by, act, taken}
use Rattle.schedule.specs.Links.{Links, LinkedAs, link_left, unlink, right_in}
use Rattle.schedule.specs.Begin.{setting_passes}
use Rattle.schedule.specs.Parents.{Parents}
use Rattle.order.proofs.Lawful.{Lawful, lawful}
use Rattle.schedule.proofs.Sound.Facts.{Facts}
use Rattle.schedule.proofs.Sound.Done.{undone_unborn}
use Rattle.schedule.proofs.Stores.{setting_fits}
use Rattle.order.proofs.Lists.{Below}
use Rattle.schedule.proofs.Preservation.Releases.{Acting, acting}
use Rattle.schedule.proofs.Preservation.Ends.{owner_below_less}
use Rattle.schedule.proofs.Preservation.ListMoves.{left_of_old}
use Rattle.schedule.proofs.Linked.Once.{Once, once_left_of, below_left_of}
use Rattle.schedule.proofs.Linked.Links.{link_left_linked, unlink_linked}
use Rattle.array_machine.specs.declared.Totals.{Totals}
use Rattle.array_machine.specs.Arrays.{Arrays, links_of, second_of, amount_in, with_statuses}
use Rattle.array_machine.specs.Turn.{Outcome, waits_in, act_on}
use Rattle.array_machine.proofs.Parts.{Sits}
use Rattle.array_machine.proofs.Seats.{next_fits_lem, alloc_room, own_room, free_room, own_free, child_room, fork_child, join_child}
use Rattle.deques.specs.Deques.{Deque, deque, bottom, over, goes_to, goes_on, let_go, DequeStep, steps, act_deques}
use Rattle.deques.specs.Partition.{owned_by, AllInUse}
use Rattle.deques.specs.Lines.{lines_of, bottoms_of, thread_of, linked_in}
use Rattle.deques.proofs.Placed.{bottom_counts}
use Rattle.deques.proofs.Flat.{Mine, mine, mine_at, lines_are, fork_lines, pop_lines, leave_lines, wake_lines, stop_lines}
use Rattle.deques.proofs.Bottoms.{bottoms_are, fork_bottoms, pop_bottoms, leave_bottoms, wake_bottoms, wake_above, stop_bottoms}
use Rattle.deques.proofs.DequeTurns.{Kept, with_serial, serial_facts, waits_status}
use Rattle.deques.proofs.Counts.{counted_in, count_append, count_self, once_counts, bottoms_count, in_use_front, in_use_rest}
use Rattle.deques.proofs.Standing.{lines_once, lines_small, lines_out, bottoms_once, bottoms_small, bottom_in}
use Rattle.deques.proofs.Read.{LaidDeques, linked_in_lem, linked_out}
use Rattle.stealing.specs.Stealing.{going_on, leaves_on, wakes_on, forks_on, deque_by, deque_in}
use Rattle.stealing.proofs.Words.{right_at}
use Rattle.stealing.proofs.Room.{state_at, there, there_totals, sits}

-- the deques stand in the arrays
abbrev pub LaidOut : Arrays → Totals → (ℕ → ℕ) → List Deque → Type 0
LaidOut A totals hold ds = LaidDeques (links_of A totals) (second_of A totals) hold ds

-- what a turn on arrays leaves is what the turn of the deques leaves
pub record Follows (w : ℕ) (workers : List Worker) (turns : ℕ) (o : Outcome) (s : DequeStep) : Type 0 where
  pub fits : o.fits ≡ true
  pub reply : o.reply ≡ s.reply
  pub state : s.after.state ≡ state_at o.arrays o.totals (set workers w o.worker) turns
  pub laid : LaidOut o.arrays o.totals (thread_of (set workers w o.worker)) s.after.deques

pub linked_by_lem : (k : Links) (l l' : List ℕ) → l' ≡ l → LinkedAs k l → LinkedAs k l'
linked_by_lem k l l' e h = subst (λ (z : List ℕ). LinkedAs k z) (sym e) h

module _ (s : List ℕ) (rules : Rules s) (p K : ℕ) (begins : first_found (setting_passes p K) ≡ Ok tt) (parents : List ℕ) (par : Parents (table_of s) parents)
    (w : ℕ) (below : w < p) (A : Arrays) (totals : Totals) (workers : List Worker) (turns : ℕ) (front rest : List Deque) (k : List ℕ)
    (clear : owned_by w front ≡ 0) (alone : owned_by w rest ≡ 0)
    (X : Kept (table_of s) p K (over (state_at A totals workers turns) (front ++ deque w k ∷ rest)))
    (L : LaidOut A totals (thread_of workers) (front ++ deque w k ∷ rest))
    (h : (get_or workers w nobody).holds ≡ true) where
  abbrev T : Table
  T = table_of s

  abbrev st : State
  st = state_at A totals workers turns

  abbrev ds : List Deque
  ds = front ++ deque w k ∷ rest

  abbrev worker : Worker
  worker = get_or workers w nobody

  abbrev t : ℕ
  t = (get_or workers w nobody).thread

  abbrev a : ℕ
  a = get_or A.next (get_or workers w nobody).thread 0

  abbrev x : ℕ
  x = (table_of s).argument (get_or A.next (get_or workers w nobody).thread 0)

  abbrev u : ℕ
  u = parent_of (table_of s) (get_or workers w nobody).thread

  abbrev q : ℕ
  q = (get_or workers w nobody).quota

  abbrev hold : ℕ → ℕ
  hold = thread_of workers

  laws : Lawful (table_of s)
  laws = lawful s rules

  few : p ≤ 16
  few = (setting_fits p K begins).few_workers

  w16 : w < 16
  w16 = omega (arith, few, below)

  f : Facts (table_of s) p K (with_serial (table_of s) laws st)
  f = serial_facts (table_of s) laws p K st X.common

  wide : w < length workers
  wide = omega (arith, f.holding.worker_size, w16)

  Y : Acting (table_of s) w t a (with_serial (table_of s) laws st)
  Y = acting (table_of s) laws p K w t a (with_serial (table_of s) laws st) f w16 h refl refl

  small : t < 1024
  small = omega (arith, Y.thread, laws.few_threads)

  seat : Sits s (table_of s).threads K (there s rules p K begins w below A totals workers turns X.common) (there_totals s rules p K begins w below A totals workers turns X.common) (get_or workers w nobody)
  seat = sits s rules p K begins w below A totals workers turns X.common

  gone : get_or (set workers w nobody) w nobody ≡ nobody
  gone = get_or-set_same workers w nobody nobody wide

  -- ---- who holds what after the turn

  others : (y : Worker) (v : ℕ) → (v ≡ w → ⊥) → thread_of (set workers w y) v ≡ thread_of workers v
  others y v n = ap (λ (z : Worker). z.thread) (get_or-set_other workers w v y nobody n)

  now_holds : (y : Worker) → thread_of (set workers w y) w ≡ y.thread
  now_holds y = ap (λ (z : Worker). z.thread) (get_or-set_same workers w y nobody wide)

  -- with the same thread
  as_before : (y : Worker) → y.thread ≡ t → thread_of (set workers w y) ≡ thread_of workers
  as_before y e = fun_ext (λ v. go v (ℕ_discrete v w))
    where
      go : (v : ℕ) → Dec (v ≡ w) → thread_of (set workers w y) v ≡ thread_of workers v
      go v (yes z) = rw z (now_holds y ∙ e)
      go v (no z) = others y v z

  same_laid : (y : Worker) → y.thread ≡ t → LaidOut A totals (thread_of (set workers w y)) ds
  same_laid y e = subst (λ (g : ℕ → ℕ). LaidOut A totals g ds) (sym (as_before y e)) L

  -- ---- the worker's line

  abbrev Af : List ℕ
  Af = lines_of (thread_of workers) front

  abbrev Bf : List ℕ
  Bf = lines_of (thread_of workers) rest

  lines_here : lines_of hold ds ≡ Af ++ (t ∷ (k ++ Bf))
  lines_here = lines_are w w16 hold hold (λ v n. refl) front rest k clear alone

  bottoms_here : bottoms_of hold ds ≡ bottoms_of hold front ++ (bottom (t ∷ k) ∷ bottoms_of hold rest)
  bottoms_here = bottoms_are w w16 hold hold (λ v n. refl) front rest k clear alone

  once : Once (lines_of hold ds)
  once = lines_once (table_of s) laws p K (over st ds) X

  low : Below 1024 (lines_of hold ds)
  low = lines_small (table_of s) laws p K (over st ds) X

  b_once : Once (bottoms_of hold ds)
  b_once = bottoms_once (table_of s) laws p K (over st ds) X

  b_low : Below 1024 (bottoms_of hold ds)
  b_low = bottoms_small (table_of s) laws p K (over st ds) X

  in_lines : (v : ℕ) → Memᴰ v (t ∷ (k ++ Bf)) → Memᴰ v (lines_of hold ds)
  in_lines v m = subst (λ (z : List ℕ). Memᴰ v z) (sym lines_here) (Memᴰ.append_right Af m)

  here : Memᴰ t (lines_of hold ds)
  here = in_lines t (Memᴰ.head refl)

  -- the thread stands nowhere else
  counts : count_in t Af + (count_in t k + count_in t Bf) ≡ 0
  counts =
      let e : count_in t (lines_of hold ds) ≡ count_in t (Af ++ (t ∷ (k ++ Bf))) = ap (count_in t) lines_here in
      omega (arith, e, once_counts (lines_of hold ds) once t, count_append t Af (t ∷ (k ++ Bf)), count_self t (k ++ Bf), count_append t k Bf)

  once_front : Memᴰ t Af → ⊥
  once_front m = omega (arith, counts, counted_in t Af m)

  front_in_use : AllInUse front
  front_in_use = in_use_front front (deque w k ∷ rest) X.placed.in_use

  rest_in_use : AllInUse rest
  unfolding AllInUse
  rest_in_use = (in_use_rest front (deque w k ∷ rest) X.placed.in_use).1

  b_front : Memᴰ t (bottoms_of hold front) → ⊥
  b_front m = omega (arith, counts, counted_in t (bottoms_of hold front) m, bottoms_count hold t front front_in_use)

  -- it is a bottom where it stands alone in its line
  b_here : k ≡ [] → Memᴰ t (bottoms_of hold ds)
  unfolding bottom
  b_here e = subst (λ (z : List ℕ). Memᴰ t z) (sym (bottoms_here ∙ ap (λ (j : List ℕ). bottoms_of hold front ++ (bottom (t ∷ j) ∷ bottoms_of hold rest)) e)) (Memᴰ.append_right (bottoms_of hold front) (Memᴰ.head refl))

  is_bottom : k ≡ [] → linked_in (second_of A totals) t ≡ true
  is_bottom e = linked_in_lem (second_of A totals) (bottoms_of hold ds) L.bottoms b_low t small (b_here e)

  no_bottom : (t2 : ℕ) (j : List ℕ) → k ≡ t2 ∷ j → linked_in (second_of A totals) t ≡ false
  unfolding bottom count_in
  no_bottom t2 j e = linked_out (second_of A totals) (bottoms_of hold ds) L.bottoms b_low t small (λ m. go m)
    where
      go : Memᴰ t (bottoms_of hold ds) → ⊥
      go m =
          let z : count_in t (bottoms_of hold ds) ≡ count_in t (bottoms_of hold front ++ (bottom (t2 ∷ j) ∷ bottoms_of hold rest)) =
          ap (count_in t) (bottoms_here ∙ ap (λ (i : List ℕ). bottoms_of hold front ++ (bottom (t ∷ i) ∷ bottoms_of hold rest)) e) in
          let c : count_in t k ≡ count_in t (t2 ∷ j) = ap (count_in t) e in
          omega (arith, z, c, counts, counted_in t (bottoms_of hold ds) m, count_append t (bottoms_of hold front) (bottom (t2 ∷ j) ∷ bottoms_of hold rest), bottoms_count hold t front front_in_use, bottoms_count hold t rest rest_in_use, bottom_counts t (t2 ∷ j) refl)

  right_is : (t2 : ℕ) (j : List ℕ) → k ≡ t2 ∷ j → get_or A.right t 0 ≡ t2
  right_is t2 j e =
      L.lines.rights t small ∙ ap (λ (z : List ℕ). right_in z t) (lines_here ∙ ap (λ (i : List ℕ). Af ++ (t ∷ (i ++ Bf))) e) ∙ right_at t t2 Af (j ++ Bf) once_front

  top_small : (t2 : ℕ) (j : List ℕ) → k ≡ t2 ∷ j → t2 < 1024
  top_small t2 j e = low t2 (in_lines t2 (Memᴰ.tail (subst (λ (i : List ℕ). Memᴰ t2 (i ++ Bf)) (sym e) (Memᴰ.head refl))))

  -- ---- the moves

  unlinked : LinkedAs (unlink t (links_of A totals)) (without t (lines_of hold ds))
  unlinked = unlink_linked (links_of A totals) (lines_of hold ds) L.lines once low t here

  -- "with its deque's top thread; with none there, its deque leaves the list"
  leaves : (reply : Reply) (y : ℕ)
      → Follows w workers turns (leaves_on reply t y A totals worker) (steps reply (goes_on q w (state_at (with_statuses (set A.status t y) A) totals (set workers w nobody) turns) ds))
  unfolding leaves_on goes_on taken
  leaves reply y = rw (mine_at w front k rest clear) (go k refl)
    where
      go : (j : List ℕ) → k ≡ j
          → Follows w workers turns (leaves_on reply t y A totals worker) (steps reply (goes_to q w (state_at (with_statuses (set A.status t y) A) totals (set workers w nobody) turns) ds j))
      go [] e =
          rw (is_bottom e)
          (record {
            fits = refl;
            reply = refl;
            state = refl;
            laid =
                record {
                  lines = linked_by_lem _ _ _ (leave_lines w w16 hold (thread_of (set workers w nobody)) (others nobody) front rest k clear alone once_front e) unlinked;
                  bottoms =
                      linked_by_lem _ _ _ (leave_bottoms w w16 hold (thread_of (set workers w nobody)) (others nobody) front rest k clear alone e b_front)
                      (unlink_linked (second_of A totals) (bottoms_of hold ds) L.bottoms b_once b_low t (b_here e));
                };
          })
      go (t2 ∷ j) e =
          let v : Worker = going_on t2 worker in
          rw (no_bottom t2 j e, right_is t2 j e, lt-ltb t2 1024 (top_small t2 j e))
          (record {
            fits = refl;
            reply = refl;
            state = rw (set-set workers w nobody (going_on t2 worker));
            laid =
                record {
                  lines = linked_by_lem _ _ _ (pop_lines w w16 hold (thread_of (set workers w v)) (others v) front rest k clear alone once_front t2 j e (now_holds v)) unlinked;
                  bottoms = linked_by_lem _ _ _ (pop_bottoms w w16 hold (thread_of (set workers w v)) (others v) front rest k clear alone t2 j e (now_holds v)) L.bottoms;
                };
          })

  -- ---- by the kind of the action

  abbrev step_by : Kind → DequeStep
  step_by i =
      let r : Stepped = act_by i (table_of s) K w t a x st in
      steps r.reply (pick (worker_of r.state w).holds (over r.state ds) (let_go i (waits_for (table_of s) st u t) q w t x u r.state ds))

  abbrev left_by : Kind → Outcome
  left_by i = deque_by i (table_of s) K parents t a x A totals worker

  works : Follows w workers turns (left_by work) (step_by work)
  unfolding deque_by act_on act_by
  works = rw (next_fits_lem seat h, h) (record { fits = refl; reply = refl; state = rw (set-get_or workers w nobody); laid = record { lines = (same_laid worker refl).lines; bottoms = (same_laid worker refl).bottoms } })

  frees : kind (table_of s) a ≡ free → Follows w workers turns (left_by free) (step_by free)
  unfolding deque_by act_on act_by
  frees e =
      rw (next_fits_lem seat h, le-leb x totals.held (free_room seat h e), le-leb x (amount_in A t) (own_free seat h e), h)
      (record { fits = refl; reply = refl; state = rw (set-get_or workers w nobody); laid = record { lines = (same_laid worker refl).lines; bottoms = (same_laid worker refl).bottoms } })

  allocates : kind (table_of s) a ≡ alloc → Follows w workers turns (left_by alloc) (step_by alloc)
  unfolding deque_by act_on act_by let_go
  allocates e = go (leb (drawn K x) q) refl
    where
      go : (b : Bool) → leb (drawn K x) q ≡ b → Follows w workers turns (left_by alloc) (step_by alloc)
      go true i =
          let y : Worker = record { holds = true; thread = t; quota = q - drawn K x } in
          rw (i, next_fits_lem seat h, lt-ltb (totals.held + x) (2 ^ 64) (alloc_room seat h), lt-ltb (amount_in A t + x) (2 ^ 64) (own_room seat h), get_or-set_same workers w (record { holds = true; thread = t; quota = q - drawn K x }) nobody wide)
          (record { fits = refl; reply = refl; state = refl; laid = record { lines = (same_laid y refl).lines; bottoms = (same_laid y refl).bottoms } })
      go false i =
          rw (i, gone)
          (record {
            fits = refl;
            reply = refl;
            state = refl;
            laid =
                record {
                  lines = linked_by_lem _ _ _ (stop_lines w w16 hold (thread_of (set workers w nobody)) (others nobody) front rest k clear alone) L.lines;
                  bottoms = linked_by_lem _ _ _ (stop_bottoms w w16 hold (thread_of (set workers w nobody)) (others nobody) front rest k clear alone) L.bottoms;
                };
          })

  joins : kind (table_of s) a ≡ join → Follows w workers turns (left_by join) (step_by join)
  unfolding deque_by act_on act_by let_go
  joins e = go (eqb (get_or A.status x 0) ended) refl
    where
      go : (b : Bool) → eqb (get_or A.status x 0) ended ≡ b → Follows w workers turns (left_by join) (step_by join)
      go true i =
          rw (lt-ltb x 1024 (join_child seat h e), i, next_fits_lem seat h, lt-ltb (amount_in A t + amount_in A x) (2 ^ 64) (child_room seat h x), h)
          (record { fits = refl; reply = refl; state = rw (set-get_or workers w nobody); laid = record { lines = (same_laid worker refl).lines; bottoms = (same_laid worker refl).bottoms } })
      go false i = rw (lt-ltb x 1024 (join_child seat h e), i, gone) (leaves (Wait t x) waiting)

  forks : kind (table_of s) a ≡ fork → Follows w workers turns (left_by fork) (step_by fork)
  unfolding deque_by forks_on act_by let_go taken left_of
  forks e =
      rw (next_fits_lem seat h, lt-ltb x 1024 (fork_child seat h e), gone)
      (record {
        fits = refl;
        reply = refl;
        state = rw (set-set (set A.status t ready) x ready held, set-set workers w nobody (going_on x worker));
        laid =
            record {
              lines =
                  linked_by_lem _ _ _ (fork_lines w w16 hold (thread_of (set workers w (going_on x worker))) (others (going_on x worker)) front rest k clear alone once_front x (now_holds (going_on x worker)))
                  (link_left_linked (links_of A totals) (lines_of hold ds) L.lines once low t here x (fork_child seat h e) out);
              bottoms = linked_by_lem _ _ _ (fork_bottoms w w16 hold (thread_of (set workers w (going_on x worker))) (others (going_on x worker)) front rest k clear alone) L.bottoms;
            };
      })
    where
      fresh : status_of st x ≡ unborn
      fresh = undone_unborn (table_of s) laws p K (with_serial (table_of s) laws st) f a Y.action e Y.undone

      out : Memᴰ x (lines_of hold ds) → ⊥
      out = lines_out (table_of s) laws p K (over st ds) X x (λ z. omega (arith, fresh, z)) (λ z. omega (arith, fresh, z))

  -- ---- an end

  abbrev mid : State
  mid = state_at (with_statuses (set A.status t ended) A) totals (set workers w nobody) turns

  abbrev wakes_now : Bool
  wakes_now = waits_in (table_of s) A.next (set A.status t ended) u t

  waits_mid : waits_for (table_of s) mid u t ≡ wakes_now
  unfolding waits_for waits_in
  waits_mid = refl

  t_wide : t < length A.status
  t_wide = omega (arith, f.status_size, small)

  waits_same : waits_for (table_of s) st u t ≡ wakes_now
  unfolding waits_for waits_in
  waits_same = go (ℕ_discrete u t)
    where
      go : Dec (u ≡ t)
          → (eqb (get_or A.status u 0) waiting && (is join (kind (table_of s) (get_or A.next u 0)) && eqb ((table_of s).argument (get_or A.next u 0)) t))
          ≡ (eqb (get_or (set A.status t ended) u 0) waiting && (is join (kind (table_of s) (get_or A.next u 0)) && eqb ((table_of s).argument (get_or A.next u 0)) t))
      go (yes z) = rw (z, get_or-set_same A.status t ended 0 t_wide, Y.taken)
      go (no z) = rw (get_or-set_other A.status t u ended 0 z)

  parent_is : get_or parents t 0 ≡ u
  parent_is = par.right t Y.thread

  u_below : u < (table_of s).threads
  u_below = owner_below_less (table_of s) (table_of s).threads (fork_below (table_of s) (table_of s).actions t) laws.some_thread

  -- the parent that it woke comes in its place
  module _ (i : wakes_now ≡ true) where
    u_waits : status_of st u ≡ waiting
    u_waits = waits_status (table_of s) st u t (waits_same ∙ i)

    u_other : u ≡ t → ⊥
    u_other z = let y : status_of st u ≡ held = ap (status_of st) z ∙ Y.taken in omega (arith, u_waits, y)

    u_out : Memᴰ u (lines_of hold ds) → ⊥
    u_out = lines_out (table_of s) laws p K (over st ds) X u (λ z. omega (arith, u_waits, z)) (λ z. omega (arith, u_waits, z))

    u_small : u < 1024
    u_small = omega (arith, u_below, laws.few_threads)

    b_out : Memᴰ u (bottoms_of hold ds) → ⊥
    b_out m = u_out (bottom_in (table_of s) laws p K (over st ds) X u m)

    apart : (l : List ℕ) → (Memᴰ t l → ⊥) → Memᴰ t (l ++ u ∷ []) → ⊥
    apart l n m = go (Memᴰ.append_cases l m)
      where
        last : (t ≡ u) ⊎ Memᴰ t [] → ⊥
        last (inl z) = u_other (sym z)
        last (inr z) = Memᴰ.not-nil z

        go : Memᴰ t l ⊎ Memᴰ t (u ∷ []) → ⊥
        go (inl z) = n z
        go (inr z) = last (Memᴰ.cases_cons z)

    abbrev y : Worker
    y = going_on u worker

    -- in a list that has t and not u
    swapped : (j : Links) (l : List ℕ) → LinkedAs j l → Once l → Below 1024 l → Memᴰ t l → (Memᴰ u l → ⊥) → LinkedAs (unlink t (link_left u t j)) (without t (left_of u t l))
    swapped j l e o b m n =
        unlink_linked (link_left u t j) (left_of u t l) (link_left_linked j l e o b t m u u_small n) (once_left_of u t l n o) (below_left_of 1024 u t l u_small b) t (left_of_old u t t l m)

    wakes : Follows w workers turns (wakes_on (Done t a) t u A totals worker)
        (steps (Done t a) (over (taken q w u (state_at (with_statuses (set (set A.status t ended) u ready) A) totals (set workers w nobody) turns)) ds))
    unfolding wakes_on taken
    wakes = go k refl
      where
        state_is : taken q w u (state_at (with_statuses (set (set A.status t ended) u ready) A) totals (set workers w nobody) turns)
            ≡ state_at (with_statuses (set (set A.status t ended) u held) A) totals (set workers w (going_on u worker)) turns
        state_is = rw (set-set (set A.status t ended) u ready held, set-set workers w nobody (going_on u worker))

        lines_after : LinkedAs (unlink t (link_left u t (links_of A totals))) (lines_of (thread_of (set workers w (going_on u worker))) ds)
        lines_after =
            linked_by_lem _ _ _ (wake_lines w w16 hold (thread_of (set workers w (going_on u worker))) (others (going_on u worker)) front rest k clear alone once_front u (now_holds (going_on u worker)) u_other (apart Af once_front))
            (swapped (links_of A totals) (lines_of hold ds) L.lines once low here u_out)

        go : (j : List ℕ) → k ≡ j
            → Follows w workers turns (wakes_on (Done t a) t u A totals worker)
            (steps (Done t a) (over (taken q w u (state_at (with_statuses (set (set A.status t ended) u ready) A) totals (set workers w nobody) turns)) ds))
        go [] e =
            rw (is_bottom e)
            (record {
              fits = refl;
              reply = refl;
              state = state_is;
              laid =
                  record {
                    lines = lines_after;
                    bottoms =
                        linked_by_lem _ _ _ (wake_bottoms w w16 hold (thread_of (set workers w y)) (others y) front rest k clear alone u (now_holds y) e b_front (apart (bottoms_of hold front) b_front))
                        (swapped (second_of A totals) (bottoms_of hold ds) L.bottoms b_once b_low (b_here e) b_out);
                  };
            })
        go (t2 ∷ j) e =
            rw (no_bottom t2 j e)
            (record {
              fits = refl;
              reply = refl;
              state = state_is;
              laid = record { lines = lines_after; bottoms = linked_by_lem _ _ _ (wake_above w w16 hold (thread_of (set workers w y)) (others y) front rest k clear alone t2 j e) L.bottoms };
            })

  ends : Follows w workers turns (left_by end) (step_by end)
  unfolding deque_by act_by woken let_go without
  ends = rw (parent_is, waits_mid, waits_same) (go wakes_now refl)
    where
      go : (b : Bool) → wakes_now ≡ b
          → Follows w workers turns (pick b (wakes_on (Done t a) t u A totals worker) (leaves_on (Done t a) t ended A totals worker))
          (steps (Done t a)
          (pick (worker_of (pick b (state_at (with_statuses (set (set A.status t ended) u ready) A) totals (set workers w nobody) turns) mid) w).holds
          (over (pick b (state_at (with_statuses (set (set A.status t ended) u ready) A) totals (set workers w nobody) turns) mid) ds)
          (pick b (over (taken q w u (pick b (state_at (with_statuses (set (set A.status t ended) u ready) A) totals (set workers w nobody) turns) mid)) ds)
          (goes_on q w (pick b (state_at (with_statuses (set (set A.status t ended) u ready) A) totals (set workers w nobody) turns) mid) ds))))
      go true i = rw gone (wakes i)
      go false i = rw gone (leaves (Done t a) ended)

  by_kind : (i : Kind) → kind (table_of s) a ≡ i → Follows w workers turns (left_by i) (step_by i)
  by_kind end e = ends
  by_kind work e = works
  by_kind alloc e = allocates e
  by_kind free e = frees e
  by_kind fork e = forks e
  by_kind join e = joins e
  by_kind unknown e = absurd (kind_known (table_of s) laws.contents laws.bodies a Y.action e)

  acts_here : Follows w workers turns (deque_in (table_of s) K parents A totals worker) (act_deques (table_of s) K w st ds)
  unfolding deque_in act_deques act
  acts_here = rw (lt-ltb t 1024 small) (by_kind (kind (table_of s) a) refl)

-- a worker that goes on with its thread, on arrays in which the deques stand
module _ (s : List ℕ) (rules : Rules s) (p K : ℕ) (begins : first_found (setting_passes p K) ≡ Ok tt) (parents : List ℕ) (par : Parents (table_of s) parents)
    (w : ℕ) (below : w < p) (A : Arrays) (totals : Totals) (workers : List Worker) (turns : ℕ) where
  pub acts_follow : (ds : List Deque) → Kept (table_of s) p K (over (state_at A totals workers turns) ds) → LaidOut A totals (thread_of workers) ds → (get_or workers w nobody).holds ≡ true
      → Follows w workers turns (deque_in (table_of s) K parents A totals (get_or workers w nobody)) (act_deques (table_of s) K w (state_at A totals workers turns) ds)
  acts_follow ds X L h =
      let m : Mine w ds = mine w ds (X.placed.owned w (omega (arith, below, (setting_fits p K begins).few_workers)) ∙ rw h) in
      subst (λ (z : List Deque). Kept (table_of s) p K (over (state_at A totals workers turns) z) → LaidOut A totals (thread_of workers) z
      → Follows w workers turns (deque_in (table_of s) K parents A totals (get_or workers w nobody)) (act_deques (table_of s) K w (state_at A totals workers turns) z)) (sym m.whole)
      (λ X' L'. acts_here s rules p K begins parents par w below A totals workers turns m.front m.rest m.threads m.clear m.alone X' L' h) X L
