-- A turn of document 01's machine ("The run"), on what turns move: the threads, the list, the workers and the amounts.
use Rattle.std.specs.Prelude.{ℕ, suc, ◌+◌, ◌-◌, max, List, [], ◌∷◌, Bool, true, false, ◌&&◌, length, get_or, set, leb, eqb}
use Rattle.table.specs.Sum.{pick}
use Rattle.table.specs.Format.{is, Table, kind}
use Rattle.table.specs.declared.kinds.Kind.{Kind}
use Rattle.table.specs.declared.kinds.Kind.TheVariants.{End as end, Work as work, Alloc as alloc, Free as free, Fork as fork, Join as join, Unknown as unknown}
use Rattle.table.specs.Checks.{owner}
use Rattle.table.specs.Level.{fork_below}
pub use Rattle.filling.specs.Filled.{drawn}
use Rattle.schedule.specs.declared.Worker.{Worker}
use Rattle.schedule.specs.declared.Reply.{Reply}
use Rattle.schedule.specs.declared.Reply.TheVariants.{Idle, Done, Quota, Wait}

-- ---- the state

-- "its status: unborn, ready, held, waiting, ended"
abbrev pub unborn : ℕ
unborn = 0

abbrev pub ready : ℕ
ready = 1

abbrev pub held : ℕ
held = 2

abbrev pub waiting : ℕ
waiting = 3

abbrev pub ended : ℕ
ended = 4

-- what turns move; the list has the threads in it alone; `amounts` is "for each thread, the amount it holds" (N9)
pub record State : Type 0 where
  pub next : List ℕ
  pub status : List ℕ
  pub amounts : List ℕ
  pub list : List ℕ
  pub workers : List Worker
  pub held : ℕ
  pub highest : ℕ
  pub turns : ℕ

abbrev pub next_of : State → ℕ → ℕ
next_of st t = get_or st.next t 0

abbrev pub status_of : State → ℕ → ℕ
status_of st t = get_or st.status t 0

abbrev pub amount_of : State → ℕ → ℕ
amount_of st t = get_or st.amounts t 0

-- a worker holding nothing: "thread and quota of a worker holding nothing, are 0"
abbrev pub nobody : Worker
nobody = record { holds = false; thread = 0; quota = 0 }

abbrev pub worker_of : State → ℕ → Worker
worker_of st w = get_or st.workers w nobody

-- ---- the small moves

abbrev pub with_status : ℕ → ℕ → State → State
with_status t x st =
    record { next = st.next; status = set st.status t x; amounts = st.amounts; list = st.list; workers = st.workers; held = st.held; highest = st.highest; turns = st.turns }

abbrev pub with_list : List ℕ → State → State
with_list l st =
    record { next = st.next; status = st.status; amounts = st.amounts; list = l; workers = st.workers; held = st.held; highest = st.highest; turns = st.turns }

abbrev pub with_worker : ℕ → Worker → State → State
with_worker w x st =
    record { next = st.next; status = st.status; amounts = st.amounts; list = st.list; workers = set st.workers w x; held = st.held; highest = st.highest; turns = st.turns }

-- the thread's next action is done
abbrev pub advanced : ℕ → State → State
advanced t st =
    record { next = set st.next t (suc (next_of st t)); status = st.status; amounts = st.amounts; list = st.list; workers = st.workers; held = st.held; highest = st.highest; turns = st.turns }

-- "memory held, its highest so far"
abbrev pub with_held : ℕ → State → State
with_held h st =
    record { next = st.next; status = st.status; amounts = st.amounts; list = st.list; workers = st.workers; held = h; highest = max st.highest h; turns = st.turns }

-- thread t holds x
abbrev pub with_amount : ℕ → ℕ → State → State
with_amount t x st =
    record { next = st.next; status = st.status; amounts = set st.amounts t x; list = st.list; workers = st.workers; held = st.held; highest = st.highest; turns = st.turns }

-- "a join moves the child's amount to its parent" (N9): thread t joins child c
abbrev pub moved_up : ℕ → ℕ → State → State
moved_up c t st = with_amount c 0 (with_amount t (amount_of st t + amount_of st c) st)

-- "Every turn counts as one."
abbrev pub counted : State → State
counted st =
    record { next = st.next; status = st.status; amounts = st.amounts; list = st.list; workers = st.workers; held = st.held; highest = st.highest; turns = suc st.turns }

-- "w is released", and its thread has the status given
abbrev pub released : ℕ → ℕ → ℕ → State → State
released w t x st = with_worker w nobody (with_status t x st)

-- "c enters the list directly left of the thread"
unfoldable pub left_of : ℕ → ℕ → List ℕ → List ℕ
left_of c t [] = []
left_of c t (u ∷ l) = pick (eqb u t) (c ∷ u ∷ l) (u ∷ left_of c t l)

-- "the thread leaves the list"
unfoldable pub without : ℕ → List ℕ → List ℕ
without t [] = []
without t (u ∷ l) = pick (eqb u t) l (u ∷ without t l)

-- ---- a turn

-- the thread that forks t; of the root, which none forks, the root itself
abbrev pub parent_of : Table → ℕ → ℕ
parent_of T t = owner T (fork_below T T.actions t)

-- thread u waits for child t
unfoldable pub waits_for : Table → State → ℕ → ℕ → Bool
waits_for T st u t = eqb (status_of st u) waiting && (is join (kind T (next_of st u)) && eqb (T.argument (next_of st u)) t)

-- "if its parent waits for this child, the parent becomes ready; a parent that waits for another child goes on waiting"
unfoldable pub woken : Table → ℕ → State → State
woken T t st = pick (waits_for T st (parent_of T t) t) (with_status (parent_of T t) ready st) st

pub record Stepped : Type 0 where
  pub reply : Reply
  pub state : State

abbrev pub stepped : Reply → State → Stepped
stepped r st = record { reply = r; state = st }

-- "Then the thread's next action decides, by its kind": worker w holds thread t, whose next action a has the kind given and the argument x
unfoldable pub act_by : Kind → Table → ℕ → ℕ → ℕ → ℕ → ℕ → State → Stepped
-- "end: done; the thread leaves the list; w is released; if its parent waits for this child, the parent becomes ready"
act_by end T K w t a x st = stepped (Done t a) (woken T t (with_list (without t st.list) (released w t ended st)))
-- "work: done"
act_by work T K w t a x st = stepped (Done t a) (advanced t st)
-- "alloc a: if a is within the quota left, done, and both amounts move by a; otherwise not done, the thread becomes ready in its place in the list and w is released"; of the quota a big one
-- draws nothing, and memory held moves by the whole of it
act_by alloc T K w t a x st =
    pick (leb (drawn K x) (worker_of st w).quota)
    (stepped (Done t a)
    (with_held (st.held + x) (with_amount t (amount_of st t + x) (with_worker w (record { holds = true; thread = t; quota = (worker_of st w).quota - drawn K x }) (advanced t st)))))
    (stepped (Quota t x) (released w t ready st))
-- "free a: held falls by a, the quota doesn't rise"; of a sound record a free takes at most what its thread holds, and so what is held (`free_amount`, proofs/ThreadMemory; `free_within`, proofs/Soundness)
act_by free T K w t a x st = stepped (Done t a) (with_held (st.held - x) (with_amount t (amount_of st t - x) (advanced t st)))
-- "fork c: done; c enters the list directly left of the thread, ready; the thread becomes ready; w is released"
act_by fork T K w t a x st = stepped (Done t a) (with_status x ready (with_list (left_of x t st.list) (released w t ready (advanced t st))))
-- "join c: done if c has ended; otherwise not done, the thread waits and w is released"
act_by join T K w t a x st =
    pick (eqb (status_of st x) ended) (stepped (Done t a) (moved_up x t (advanced t st))) (stepped (Wait t x) (released w t waiting st))
act_by unknown T K w t a x st = stepped Idle st

-- worker w goes on with the thread that it holds
unfoldable pub act : Table → ℕ → ℕ → State → Stepped
act T K w st =
    let t : ℕ = (worker_of st w).thread in
    let a : ℕ = next_of st t in
    act_by (kind T a) T K w t a (T.argument a) st

-- the place of the leftmost ready thread in a list, the list's length where none is ready
unfoldable pub leftmost : List ℕ → List ℕ → ℕ
leftmost status [] = 0
leftmost status (t ∷ l) = pick (eqb (get_or status t 0) ready) 0 (suc (leftmost status l))

-- "it takes the leftmost ready thread with quota K"
unfoldable pub taken : ℕ → ℕ → ℕ → State → State
taken K w t st = with_worker w (record { holds = true; thread = t; quota = K }) (with_status t held st)

-- "If w holds nothing, it takes the leftmost ready thread with quota K; with none ready, the turn is idle."
unfoldable pub turn_free : Table → ℕ → ℕ → State → Stepped
turn_free T K w st =
    let i : ℕ = leftmost st.status st.list in
    let there : Stepped = act T K w (taken K w (get_or st.list i 0) st) in
    pick (eqb i (length st.list)) (stepped Idle st) there

-- "A turn of worker w."
unfoldable pub turn_of : Table → ℕ → ℕ → State → Stepped
turn_of T K w st =
    let r : Stepped = pick (worker_of st w).holds (act T K w st) (turn_free T K w st) in
    stepped r.reply (counted r.state)

-- how many threads "stand left of it in the list" (N7), of the thread that worker w takes in its turn, at the moment of taking; 0 for a worker that holds one and where none is ready
unfoldable pub passed_by : ℕ → State → ℕ
passed_by w st =
    let i : ℕ = leftmost st.status st.list in
    pick (worker_of st w).holds 0 (pick (eqb i (length st.list)) 0 i)
