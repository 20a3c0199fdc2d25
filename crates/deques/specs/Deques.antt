-- A turn of DFDeques (N13; thesis, section 6.2.3), on what turns move and the deques.
use Rattle.std.specs.Prelude.{ℕ, zero, suc, List, [], ◌∷◌, Bool, true, false, ◌&&◌, get_or, eqb}
use Rattle.table.specs.Sum.{pick}
use Rattle.table.specs.Format.{Table, kind}
use Rattle.table.specs.declared.kinds.Kind.{Kind}
use Rattle.table.specs.declared.kinds.Kind.TheVariants.{End as end, Work as work, Alloc as alloc, Free as free, Fork as fork, Join as join, Unknown as unknown}
use Rattle.schedule.specs.declared.Reply.{Reply}
use Rattle.schedule.specs.declared.Reply.TheVariants.{Idle}
use Rattle.schedule.specs.Machine.{State, next_of, worker_of, parent_of, waits_for, with_list, Stepped, act, taken, counted}
use Rattle.schedule.specs.Record.{max_workers}
use Rattle.schedule.specs.Begin.{start_state}

-- no owner: no worker has this number
abbrev pub unowned : ℕ
unowned = max_workers

-- a deque: its owner, and its threads, top first
pub record Deque : Type 0 where
  pub owner : ℕ
  pub threads : List ℕ

abbrev pub deque : ℕ → List ℕ → Deque
deque w l = record { owner = w; threads = l }

abbrev pub nothing : Deque
nothing = deque unowned []

-- the state that any kind of run has (its list stays empty), and the deques, leftmost first
pub record Deques : Type 0 where
  pub state : State
  pub deques : List Deque

abbrev pub over : State → List Deque → Deques
over st ds = record { state = st; deques = ds }

-- "At the start the root lies in one deque that nobody owns."
abbrev pub start_deques : Table → Deques
start_deques T = over (with_list [] (start_state T)) (deque unowned (0 ∷ []) ∷ [])

pub record DequeStep : Type 0 where
  pub reply : Reply
  pub after : Deques

abbrev pub steps : Reply → Deques → DequeStep
steps r d = record { reply = r; after = d }

-- ---- words

-- the bottom thread, and the deque without it
unfoldable pub bottom : List ℕ → ℕ
bottom [] = 0
bottom (t ∷ []) = t
bottom (t ∷ u ∷ l) = bottom (u ∷ l)

unfoldable pub above : List ℕ → List ℕ
above [] = []
above (t ∷ []) = []
above (t ∷ u ∷ l) = t ∷ above (u ∷ l)

abbrev pub is_empty : List ℕ → Bool
is_empty [] = true
is_empty (t ∷ l) = false

-- "A deque with neither owner nor thread leaves"
abbrev pub kept : Deque → List Deque → List Deque
kept d ds = pick (eqb d.owner unowned && is_empty d.threads) ds (d ∷ ds)

-- the place of worker w's deque
unfoldable pub place_of : ℕ → List Deque → ℕ
place_of w [] = 0
place_of w (d ∷ ds) = pick (eqb d.owner w) 0 (suc (place_of w ds))

-- worker w's deque becomes what f makes of it, and leaves where that has neither owner nor thread
unfoldable pub own : ℕ → (Deque → Deque) → List Deque → List Deque
own w f [] = []
own w f (d ∷ ds) = pick (eqb d.owner w) (kept (f d) ds) (d ∷ own w f ds)

abbrev pub push : ℕ → Deque → Deque
push t d = deque d.owner (t ∷ d.threads)

abbrev pub disown : Deque → Deque
disown d = deque unowned d.threads

-- ---- a steal

-- "the deque at that place from the left, stolen from its bottom"; "the thief's new deque stands directly right of the one robbed"
unfoldable pub robbed : ℕ → ℕ → List Deque → List Deque
robbed w c [] = []
robbed w zero (d ∷ ds) = kept (deque d.owner (above d.threads)) (deque w [] ∷ ds)
robbed w (suc c) (d ∷ ds) = d ∷ robbed w c ds

-- ---- after the action

-- "with its deque's top thread; with none there, its deque leaves the list"
abbrev pub goes_to : ℕ → ℕ → State → List Deque → List ℕ → Deques
goes_to q w st ds [] = over st (own w disown ds)
goes_to q w st ds (t ∷ l) = over (taken q w t st) (own w (λ d. deque w l) ds)

unfoldable pub goes_on : ℕ → ℕ → State → List Deque → Deques
goes_on q w st ds = goes_to q w st ds (get_or ds (place_of w ds) nothing).threads

-- Worker w was released by the action of kind k of thread t, whose argument is x; q is what was left of its quota, and `wakes` whether parent u waited for t.
unfoldable pub let_go : Kind → Bool → ℕ → ℕ → ℕ → ℕ → ℕ → State → List Deque → Deques
-- "At a fork the parent goes on top and the worker does the child."
let_go fork wakes q w t x u st ds = over (taken q w x st) (own w (push t) ds)
-- "At an end it goes on with the parent it woke; otherwise .. with its deque's top thread"
let_go end wakes q w t x u st ds = pick wakes (over (taken q w u st) ds) (goes_on q w st ds)
-- ".. and at a wait"
let_go join wakes q w t x u st ds = goes_on q w st ds
-- "the thread goes back on top and the deque is given up"
let_go alloc wakes q w t x u st ds = over st (own w (λ d. disown (push t d)) ds)
-- no other action releases its worker
let_go work wakes q w t x u st ds = over st ds
let_go free wakes q w t x u st ds = over st ds
let_go unknown wakes q w t x u st ds = over st ds

-- worker w goes on with the thread that it holds: 01's action, and then what becomes of the worker and its deque
unfoldable pub act_deques : Table → ℕ → ℕ → State → List Deque → DequeStep
act_deques T K w st ds =
    let t : ℕ = (worker_of st w).thread in
    let a : ℕ = next_of st t in
    let u : ℕ = parent_of T t in
    let s : Stepped = act T K w st in
    let free : Deques = let_go (kind T a) (waits_for T st u t) (worker_of st w).quota w t (T.argument a) u s.state ds in
    steps s.reply (pick (worker_of s.state w).holds (over s.state ds) free)

-- "if there is none or it is empty, the turn is idle"
unfoldable pub steal : Table → ℕ → ℕ → ℕ → Deques → DequeStep
steal T K w c d =
    let l : List ℕ = (get_or d.deques c nothing).threads in
    let there : DequeStep = act_deques T K w (taken K w (bottom l) d.state) (robbed w c d.deques) in
    pick (is_empty l) (steps Idle d) there

unfoldable pub deque_turn : Table → ℕ → ℕ → ℕ → Deques → DequeStep
deque_turn T K w c d =
    let r : DequeStep = pick (worker_of d.state w).holds (act_deques T K w d.state d.deques) (steal T K w c d) in
    steps r.reply (over (counted r.after.state) r.after.deques)
