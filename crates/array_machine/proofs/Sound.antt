-- On the arrays of a sound run every number fits, and a turn on them is document 01's.
use mathlib.Core.Path.{◌≡◌, refl, sym, subst, ◌∙◌}
use Prim.Native.Nat.{ℕ, ◌+◌, ◌^◌, ◌<◌}
use mathlib.Core.List.{List}
use mathlib.Core.Bool.{Bool, true, false}
use native.Mathlib.Omega.{arith}
use borrow.Author.Tests.{lt-ltb, le-leb, eqb-false}
use lib.ListN.{length, get_or, set}
use lib.Dec.{eqb, leb}
use Rattle.table.specs.Sum.{pick}
use Rattle.table.specs.Format.{Table, kind, table_of}
use Rattle.table.specs.declared.kinds.Kind.{Kind}
use Rattle.table.specs.declared.kinds.Kind.TheVariants.{End as end, Work as work, Alloc as alloc, Free as free, Fork as fork, Join as join, Unknown as unknown}
use Rattle.schedule.specs.declared.Worker.{Worker}
use Rattle.schedule.specs.declared.Reply.TheVariants.{Idle}
use Rattle.schedule.specs.Machine.{State, drawn, held, ended, ready, leftmost, taken, turn_free, Stepped, stepped, parent_of, waits_for, woken, with_status, act_by, act}
use Rattle.schedule.specs.Links.{first_ready}
use Rattle.schedule.specs.Code.LinkMoves.{links_by, actives_by}
use Rattle.schedule.specs.Parents.{Parents}
use Rattle.schedule.proofs.Preservation.Turns.{leftmost_ready}
use Rattle.schedule.proofs.Linked.Searches.{ready_there, found_below}
use Rattle.array_machine.specs.declared.Totals.{Totals}
use Rattle.array_machine.specs.Arrays.{Arrays, listed_in, action_in, amount_in, with_statuses, table_from}
use Rattle.array_machine.specs.Turn.{Outcome, waits_in, act_on, act_in, Seat, seat, seat_of, seat_in, step_from, step_on}
use Rattle.array_machine.proofs.Parts.{state_in, turn_body, Went, Sits}
use Rattle.array_machine.proofs.Reading.{own_table}
use Rattle.array_machine.proofs.Seats.{known, thread_below, thread_small, next_fits_lem, alloc_room, own_room, free_room, own_free, child_room, fork_child, join_child, taken_sits}
use Rattle.array_machine.proofs.Linking.{ActedBy, Acted, small, found, acted_body, acted_chained}

-- ---- waking the parent

-- waking moves the statuses alone
abbrev statuses_in : List ℕ → State → State
statuses_in status st =
    record { next = st.next; status = status; amounts = st.amounts; list = st.list; workers = st.workers; held = st.held; highest = st.highest; turns = st.turns }

woken_status : (T : Table) (t : ℕ) (st : State)
    → woken T t st ≡ statuses_in (pick (waits_in T st.next st.status (parent_of T t) t) (set st.status (parent_of T t) ready) st.status) st
unfolding woken waits_for waits_in
woken_status T t st = go (waits_for T st (parent_of T t) t)
  where
    go : (b : Bool) → pick b (with_status (parent_of T t) ready st) st ≡ statuses_in (pick b (set st.status (parent_of T t) ready) st.status) st
    go true = refl
    go false = refl

-- ---- a worker that holds a thread

module _ {s : List ℕ} {n K : ℕ} {A : Arrays} {totals : Totals} {worker : Worker} (q : Sits s n K A totals worker) (h : worker.holds ≡ true) (parents : List ℕ)
    (p : Parents (table_of s) parents) where
  abbrev T : Table
  T = table_of s

  abbrev t : ℕ
  t = worker.thread

  abbrev a : ℕ
  a = action_in A t

  abbrev x : ℕ
  x = T.argument a

  abbrev left_by : Kind → Outcome
  left_by k = act_on k T K parents t a x A totals worker

  parent_is : get_or parents t 0 ≡ parent_of T t
  parent_is = p.right t (thread_below q h)

  ends : ActedBy end T K x A totals worker (left_by end)
  unfolding act_on act_by links_by actives_by waits_for waits_in
  ends = record { fits = refl; state = λ list. rw (woken_status, parent_is); list_links = refl; second_links = λ list. rw parent_is }

  works : ActedBy work T K x A totals worker (left_by work)
  unfolding act_on act_by links_by actives_by
  works = rw (next_fits_lem q h) (record { fits = refl; state = λ list. refl; list_links = refl; second_links = λ list. refl })

  allocates : ActedBy alloc T K x A totals worker (left_by alloc)
  unfolding act_on act_by links_by actives_by
  allocates = go (leb (drawn K x) worker.quota) refl
    where
      go : (b : Bool) → leb (drawn K x) worker.quota ≡ b → ActedBy alloc T K x A totals worker (left_by alloc)
      go true e =
          rw (e, next_fits_lem q h, lt-ltb (totals.held + x) (2 ^ 64) (alloc_room q h), lt-ltb (amount_in A t + x) (2 ^ 64) (own_room q h))
          (record { fits = refl; state = λ list. rw e; list_links = refl; second_links = λ list. refl })
      go false e = rw e (record { fits = refl; state = λ list. rw e; list_links = refl; second_links = λ list. refl })

  frees : kind T a ≡ free → ActedBy free T K x A totals worker (left_by free)
  unfolding act_on act_by links_by actives_by
  frees k =
      rw (next_fits_lem q h, le-leb x totals.held (free_room q h k), le-leb x (amount_in A t) (own_free q h k))
      (record { fits = refl; state = λ list. refl; list_links = refl; second_links = λ list. refl })

  forks : kind T a ≡ fork → ActedBy fork T K x A totals worker (left_by fork)
  unfolding act_on act_by links_by actives_by
  forks k =
      rw (next_fits_lem q h, lt-ltb x 1024 (fork_child q h k))
      (record { fits = refl; state = λ list. refl; list_links = refl; second_links = λ list. refl })

  joins : kind T a ≡ join → ActedBy join T K x A totals worker (left_by join)
  unfolding act_on act_by links_by actives_by
  joins k = go (eqb (get_or A.status x 0) ended) refl
    where
      go : (b : Bool) → eqb (get_or A.status x 0) ended ≡ b → ActedBy join T K x A totals worker (left_by join)
      go true e =
          rw (lt-ltb x 1024 (join_child q h k), e, next_fits_lem q h, lt-ltb (amount_in A t + amount_in A x) (2 ^ 64) (child_room q h x))
          (record { fits = refl; state = λ list. rw e; list_links = refl; second_links = λ list. rw e })
      go false e =
          rw (lt-ltb x 1024 (join_child q h k), e)
          (record { fits = refl; state = λ list. rw e; list_links = refl; second_links = λ list. rw e })

  idles : ActedBy unknown T K x A totals worker (left_by unknown)
  unfolding act_on act_by links_by actives_by
  idles = record { fits = refl; state = λ list. refl; list_links = refl; second_links = λ list. refl }

  by_kind : (k : Kind) → kind T a ≡ k → ActedBy k T K x A totals worker (left_by k)
  by_kind end e = ends
  by_kind work e = works
  by_kind alloc e = allocates
  by_kind free e = frees e
  by_kind fork e = forks e
  by_kind join e = joins e
  by_kind unknown e = idles

  pub sound_acted : Acted T K A totals worker (act_in T K parents A totals worker)
  unfolding act_in
  sound_acted = rw (lt-ltb t 1024 (thread_small q h)) (by_kind (kind T a) refl)

-- ---- taking one

first_of : (b f : Bool) (o v z : Outcome) → b ≡ true → f ≡ true → pick b (pick f o v) z ≡ o
first_of b f o v z e g = rw (e, g)

taken_of : (b : Bool) (o z : Stepped) → b ≡ true → pick b o z ≡ o
taken_of b o z e = rw e

-- from a seat the turn goes on: with a thread on a sound part, or idle
record Ready (s : List ℕ) (n K : ℕ) (A : Arrays) (totals : Totals) (worker : Worker) (y : Seat) : Type 0 where
  sits : y.worker.holds ≡ true → Sits s n K (with_statuses y.status A) totals y.worker
  same : y.worker.holds ≡ false → y ≡ seat A.status worker
  body : pick y.worker.holds (act (table_of s) K 0 (state_in (with_statuses y.status A) totals y.worker)) (stepped Idle (state_in (with_statuses y.status A) totals y.worker))
      ≡ turn_body (table_of s) K 0 (state_in A totals worker)

module _ {s : List ℕ} {n K : ℕ} {A : Arrays} {totals : Totals} {worker : Worker} (q : Sits s n K A totals worker) where
  abbrev list : List ℕ
  list = listed_in A totals

  abbrev i : ℕ
  i = leftmost A.status list

  abbrev u : ℕ
  u = get_or list i 0

  found_small : (i ≡ length list → ⊥) → u < (table_of s).threads
  found_small d = (known q).list_below u (leftmost_ready A.status list d).0

  seated : (b : Bool) → worker.holds ≡ b → (d : Bool) → eqb i (length list) ≡ d
      → seat_of K A.status (first_ready A.status list) worker
      ≡ pick b (seat A.status worker) (pick d (seat A.status worker) (seat (set A.status u held) (record { holds = true; thread = u; quota = K })))
  unfolding seat_of
  seated true e d f = rw e
  seated false e true f = rw (e, found_below A.status list (small q), f)
  seated false e false f = rw (e, found_below A.status list (small q), f, ← ready_there A.status list f)

  ready_seat : Ready s n K A totals worker (seat_of K A.status (first_ready A.status list) worker)
  unfolding turn_body turn_free taken
  ready_seat = rw (seated worker.holds refl (eqb i (length list)) refl) (go worker.holds refl (eqb i (length list)) refl)
    where
      go : (b : Bool) → worker.holds ≡ b → (d : Bool) → eqb i (length list) ≡ d
          → Ready s n K A totals worker
          (pick b (seat A.status worker) (pick d (seat A.status worker) (seat (set A.status u held) (record { holds = true; thread = u; quota = K }))))
      go true e d f = record { sits = λ o. q; same = λ o. refl; body = rw e }
      go false e true f = record { sits = λ o. q; same = λ o. refl; body = rw (e, f) }
      go false e false f =
          record {
            sits = λ o. taken_sits q e u (found_small (eqb-false i (length list) f)) (leftmost_ready A.status list (eqb-false i (length list) f)).1;
            same = λ o. absurd (let z : ◌≡◌ {A = ℕ} 0 1 = cc in omega arith);
            body = rw (e, f);
          }

  at_seat : Ready s n K A totals worker (seat_in K A totals worker)
  at_seat = rw (found q) ready_seat

  -- ---- a turn

  module _ (parents : List ℕ) (p : Parents (table_of s) parents) where
    -- the seat leaves the machine's turn, and all fits
    abbrev Leaves : Seat → Type 0
    Leaves y = ((step_from (table_of s) K parents A totals worker y).fits ≡ true) × Went (table_of s) K A totals worker (step_from (table_of s) K parents A totals worker y)

    idle_seat : worker.holds ≡ false → Ready s n K A totals worker (seat A.status worker) → Leaves (seat A.status worker)
    unfolding step_from
    idle_seat e r = rw e (refl, record { body = rw e at r.body; chained = q.chained })

    from_seat : (y : Seat) → Ready s n K A totals worker y → (b : Bool) → y.worker.holds ≡ b → Leaves y
    unfolding step_from
    from_seat y r true e =
        let there : Sits s n K (with_statuses y.status A) totals y.worker = r.sits e in
        let acted : Acted (table_of s) K (with_statuses y.status A) totals y.worker (act_in (table_of s) K parents (with_statuses y.status A) totals y.worker) = sound_acted there e parents p in
        subst (λ (o : Outcome). (o.fits ≡ true) × Went (table_of s) K A totals worker o) (sym (first_of _ _ _ _ _ e acted.fits))
        (acted.fits, record { body = acted_body there e acted ∙ sym (taken_of _ _ _ e) ∙ r.body; chained = acted_chained there e acted })
    from_seat y r false e =
        subst (λ (z : Seat). z.worker.holds ≡ false → Ready s n K A totals worker z → Leaves z) (sym (r.same e)) idle_seat e r

    -- the machine's turn, before it is counted; and every number fits
    pub sound_went : let o : Outcome = step_on (table_from s n) K parents A totals worker in (o.fits ≡ true) × Went (table_of s) K A totals worker o
    unfolding step_on
    sound_went =
        let e : step_on (table_from s n) K parents A totals worker ≡ step_on (table_of s) K parents A totals worker = rw (own_table s n q.threads) in
        subst (λ (o : Outcome). (o.fits ≡ true) × Went (table_of s) K A totals worker o) (sym e) (from_seat (seat_in K A totals worker) at_seat (seat_in K A totals worker).worker.holds refl)
