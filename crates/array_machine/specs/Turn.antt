-- A turn of document 01's machine on arrays and links, whatever they hold. A read outside an array gives 0. Where a thread's number is none of the arrays' or a number that the turn would
-- write does not fit into its place, nothing moves. On the arrays of a sound run all fit, and the turn is the machine's: `sound_went` (proofs/Sound).
use Rattle.std.specs.Prelude.{ℕ, ◌+◌, ◌-◌, ◌^◌, List, Bool, true, false, ◌&&◌, get_or, set, leb, ltb, eqb}
use Rattle.table.specs.Sum.{pick}
use Rattle.table.specs.Format.{is, Table, kind}
use Rattle.table.specs.declared.kinds.Kind.{Kind}
use Rattle.table.specs.declared.kinds.Kind.TheVariants.{End as end, Work as work, Alloc as alloc, Free as free, Fork as fork, Join as join, Unknown as unknown}
use Rattle.schedule.specs.declared.Worker.{Worker}
use Rattle.schedule.specs.declared.Reply.{Reply}
use Rattle.schedule.specs.declared.Reply.TheVariants.{Idle, Done, Quota, Wait}
use Rattle.schedule.specs.Machine.{drawn, ready, held, waiting, ended, nobody}
use Rattle.schedule.specs.Links.{no_thread, Links, link_left, unlink, seek}
use Rattle.table.specs.Checks.{max_threads}
use Rattle.array_machine.specs.declared.Totals.{Totals}
use Rattle.array_machine.specs.Arrays.{Arrays, links_of, second_of, action_in, amount_in, with_statuses, with_amounts, advanced_in, relinked, headed, holding}

-- what a turn leaves
pub record Outcome : Type 0 where
  pub fits : Bool
  pub reply : Reply
  pub arrays : Arrays
  pub totals : Totals
  pub worker : Worker

abbrev pub moved : Reply → Arrays → Totals → Worker → Outcome
moved reply A totals worker = record { fits = true; reply = reply; arrays = A; totals = totals; worker = worker }

-- something does not fit: nothing moves
abbrev pub unfit : Arrays → Totals → Worker → Outcome
unfit A totals worker = record { fits = false; reply = Idle; arrays = A; totals = totals; worker = worker }

-- an action's number has 16 bits, an amount 64
abbrev pub next_fits : ℕ → Bool
next_fits a = ltb (a + 1) 65536

abbrev pub amount_fits : ℕ → Bool
amount_fits x = ltb x (2 ^ 64)

-- thread u waits for child t: the machine's `waits_for`, of the next actions and the statuses alone
unfoldable pub waits_in : Table → List ℕ → List ℕ → ℕ → ℕ → Bool
waits_in T next status u t = eqb (get_or status u 0) waiting && (is join (kind T (get_or next u 0)) && eqb (T.argument (get_or next u 0)) t)

-- ---- what a worker's action leaves: the machine's `act_by`, with links for its list. Thread t is the worker's, a its next action and x the action's argument; `parents` has each thread's.
unfoldable pub act_on : Kind → Table → ℕ → List ℕ → ℕ → ℕ → ℕ → Arrays → Totals → Worker → Outcome
-- "end: done; the thread leaves the list; w is released; if its parent waits for this child, the parent becomes ready"
act_on end T K parents t a x A totals worker =
    let u : ℕ = get_or parents t 0 in
    let status : List ℕ = set A.status t ended in
    let wakes : Bool = waits_in T A.next status u t in
    let list : Links = unlink t (links_of A totals) in
    let second : Links = unlink t (pick wakes (link_left u t (second_of A totals)) (second_of A totals)) in
    moved (Done t a) (relinked list second (with_statuses (pick wakes (set status u ready) status) A)) (headed list second totals) nobody
-- "work: done"
act_on work T K parents t a x A totals worker = pick (next_fits a) (moved (Done t a) (advanced_in t A) totals worker) (unfit A totals worker)
-- "alloc a: if a is within the quota left, done, and both amounts move by a; otherwise not done, the thread becomes ready in its place in the list and w is released"; a big one draws
-- nothing (N6)
act_on alloc T K parents t a x A totals worker =
    pick (leb (drawn K x) worker.quota)
    (pick (next_fits a && (amount_fits (totals.held + x) && amount_fits (amount_in A t + x)))
    (moved (Done t a) (with_amounts (set A.amounts t (amount_in A t + x)) (advanced_in t A)) (holding (totals.held + x) totals)
    (record { holds = true; thread = t; quota = worker.quota - drawn K x }))
    (unfit A totals worker))
    (moved (Quota t x) (with_statuses (set A.status t ready) A) totals nobody)
-- "free a: held falls by a, the quota doesn't rise"
act_on free T K parents t a x A totals worker =
    pick (next_fits a && (leb x totals.held && leb x (amount_in A t)))
    (moved (Done t a) (with_amounts (set A.amounts t (amount_in A t - x)) (advanced_in t A)) (holding (totals.held - x) totals) worker)
    (unfit A totals worker)
-- "fork c: done; c enters the list directly left of the thread, ready; the thread becomes ready; w is released"
act_on fork T K parents t a x A totals worker =
    let list : Links = link_left x t (links_of A totals) in
    let second : Links = link_left x t (second_of A totals) in
    pick (next_fits a && ltb x max_threads)
    (moved (Done t a) (relinked list second (with_statuses (set (set A.status t ready) x ready) (advanced_in t A))) (headed list second totals) nobody)
    (unfit A totals worker)
-- "join c: done if c has ended; otherwise not done, the thread waits and w is released"
act_on join T K parents t a x A totals worker =
    let second : Links = unlink t (second_of A totals) in
    let done : Outcome =
    pick (next_fits a && amount_fits (amount_in A t + amount_in A x))
    (moved (Done t a) (with_amounts (set (set A.amounts t (amount_in A t + amount_in A x)) x 0) (advanced_in t A)) totals worker)
    (unfit A totals worker) in
    let waits : Outcome =
    moved (Wait t x) (relinked (links_of A totals) second (with_statuses (set A.status t waiting) A)) (headed (links_of A totals) second totals) nobody in
    pick (ltb x max_threads) (pick (eqb (get_or A.status x 0) ended) done waits) (unfit A totals worker)
act_on unknown T K parents t a x A totals worker = moved Idle A totals worker

-- a worker goes on with the thread that it holds
unfoldable pub act_in : Table → ℕ → List ℕ → Arrays → Totals → Worker → Outcome
act_in T K parents A totals worker =
    let t : ℕ = worker.thread in
    let a : ℕ = action_in A t in
    pick (ltb t max_threads) (act_on (kind T a) T K parents t a (T.argument a) A totals worker) (unfit A totals worker)

-- ---- a turn

-- the statuses and the worker's record once it has its thread: "If w holds nothing, it takes the leftmost ready thread with quota K"
pub record Seat : Type 0 where
  pub status : List ℕ
  pub worker : Worker

abbrev pub seat : List ℕ → Worker → Seat
seat status worker = record { status = status; worker = worker }

-- where t is the thread found, `no_thread` if none is ready
unfoldable pub seat_of : ℕ → List ℕ → ℕ → Worker → Seat
seat_of K status t worker =
    pick worker.holds (seat status worker)
    (pick (ltb t no_thread) (seat (set status t held) (record { holds = true; thread = t; quota = K })) (seat status worker))

-- the search goes along the second list, where every thread that it passes is held
abbrev pub seat_in : ℕ → Arrays → Totals → Worker → Seat
seat_in K A totals worker = seat_of K A.status (seek max_threads A.status A.over totals.first).thread worker

-- "with none ready, the turn is idle"
unfoldable pub step_from : Table → ℕ → List ℕ → Arrays → Totals → Worker → Seat → Outcome
step_from T K parents A totals worker y =
    let there : Outcome = act_in T K parents (with_statuses y.status A) totals y.worker in
    pick y.worker.holds (pick there.fits there (unfit A totals worker)) (moved Idle A totals worker)

unfoldable pub step_on : Table → ℕ → List ℕ → Arrays → Totals → Worker → Outcome
step_on T K parents A totals worker = step_from T K parents A totals worker (seat_in K A totals worker)
