-- A turn of DFDeques (N13) on arrays and links, whatever they hold. The links of the list (left, right, leftmost) link the lines: deque by deque from the left, the owner's thread, then
-- its threads top to bottom. Those of the second list (under, over, first) link the bottoms: the last thread of each line. A read outside an array gives 0. Where a thread's number is none
-- of the arrays' or a number that the turn would write does not fit into its place, nothing moves. On the arrays of a sound run all fit, and the turn is `deque_turn` (proofs/Refines).
use Rattle.std.specs.Prelude.{ℕ, zero, suc, List, true, not, ◌&&◌, ◌||◌, get_or, set, ltb, eqb}
use Rattle.table.specs.Sum.{pick}
use Rattle.table.specs.Format.{Table, kind}
use Rattle.table.specs.declared.kinds.Kind.{Kind}
use Rattle.table.specs.declared.kinds.Kind.TheVariants.{End as end, Work as work, Alloc as alloc, Free as free, Fork as fork, Join as join, Unknown as unknown}
use Rattle.table.specs.Checks.{max_threads}
use Rattle.schedule.specs.declared.Worker.{Worker}
use Rattle.schedule.specs.declared.Reply.{Reply}
use Rattle.schedule.specs.declared.Reply.TheVariants.{Idle, Done, Wait}
use Rattle.schedule.specs.Machine.{ready, held, waiting, ended, nobody}
use Rattle.schedule.specs.Links.{no_thread, Links, link_left, unlink}
use Rattle.schedule.specs.Record.{max_workers}
use Rattle.array_machine.specs.declared.Totals.{Totals}
use Rattle.array_machine.specs.declared.Moved.{Moved}
use Rattle.array_machine.specs.Arrays.{Arrays, links_of, second_of, with_statuses, advanced_in, action_in, relinked, headed}
use Rattle.array_machine.specs.Turn.{Outcome, moved, unfit, next_fits, waits_in, act_on}
use Rattle.array_machine.specs.Counted.{Left, unmoved, room_for, counting}
use Rattle.deques.specs.Lines.{linked_in}

-- ---- the bottoms

-- the bottom c places on from b, `no_thread` and more where there is none
unfoldable pub along_by : ℕ → List ℕ → ℕ → ℕ
along_by zero over b = b
along_by (suc c) over b =
    let there : ℕ = along_by c over (get_or over b 0) in
    pick (ltb b no_thread) there b

-- ---- the moves

-- the worker goes on with thread t
abbrev pub going_on : ℕ → Worker → Worker
going_on t worker = record { holds = true; thread = t; quota = worker.quota }

-- "with its deque's top thread; with none there, its deque leaves the list": thread t leaves the lines and has the status y. Where the links describe the lines and the bottoms, a thread
-- that is no bottom has a right neighbour; that one is tested lets every number fit here (`fits_same`, proofs/Fits).
unfoldable pub leaves_on : Reply → ℕ → ℕ → Arrays → Totals → Worker → Outcome
leaves_on reply t y A totals worker =
    let r : ℕ = get_or A.right t 0 in
    let list : Links = unlink t (links_of A totals) in
    let second : Links = unlink t (second_of A totals) in
    let goes : Outcome = moved reply (relinked list second (with_statuses (set A.status t y) A)) (headed list second totals) nobody in
    let pops : Outcome =
    moved reply (relinked list (second_of A totals) (with_statuses (set (set A.status t y) r held) A)) (headed list (second_of A totals) totals) (going_on r worker) in
    pick (linked_in (second_of A totals) t || not (ltb r max_threads)) goes pops

-- "At an end it goes on with the parent it woke": u comes in the place of t
unfoldable pub wakes_on : Reply → ℕ → ℕ → Arrays → Totals → Worker → Outcome
wakes_on reply t u A totals worker =
    let list : Links = unlink t (link_left u t (links_of A totals)) in
    let second : Links = pick (linked_in (second_of A totals) t) (unlink t (link_left u t (second_of A totals))) (second_of A totals) in
    moved reply (relinked list second (with_statuses (set (set A.status t ended) u held) A)) (headed list second totals) (going_on u worker)

-- "At a fork the parent goes on top and the worker does the child."
unfoldable pub forks_on : ℕ → ℕ → ℕ → Arrays → Totals → Worker → Outcome
forks_on t a x A totals worker =
    let list : Links = link_left x t (links_of A totals) in
    pick (next_fits a && ltb x max_threads)
    (moved (Done t a) (relinked list (second_of A totals) (with_statuses (set (set A.status t ready) x held) (advanced_in t A))) (headed list (second_of A totals) totals) (going_on x worker))
    (unfit A totals worker)

-- thread t is the worker's, a its next action and x the action's argument; what is not named here is AsyncDF's: a quota stop too, since t is the first of its line already
unfoldable pub deque_by : Kind → Table → ℕ → List ℕ → ℕ → ℕ → ℕ → Arrays → Totals → Worker → Outcome
deque_by end T K parents t a x A totals worker =
    let u : ℕ = get_or parents t 0 in
    let wakes : Outcome = wakes_on (Done t a) t u A totals worker in
    let leaves : Outcome = leaves_on (Done t a) t ended A totals worker in
    pick (waits_in T A.next (set A.status t ended) u t) wakes leaves
deque_by work T K parents t a x A totals worker = act_on work T K parents t a x A totals worker
deque_by alloc T K parents t a x A totals worker = act_on alloc T K parents t a x A totals worker
deque_by free T K parents t a x A totals worker = act_on free T K parents t a x A totals worker
deque_by fork T K parents t a x A totals worker = forks_on t a x A totals worker
deque_by join T K parents t a x A totals worker =
    let done : Outcome = act_on join T K parents t a x A totals worker in
    let waits : Outcome = leaves_on (Wait t x) t waiting A totals worker in
    pick (ltb x max_threads) (pick (eqb (get_or A.status x 0) ended) done waits) (unfit A totals worker)
deque_by unknown T K parents t a x A totals worker = act_on unknown T K parents t a x A totals worker

-- a worker goes on with the thread that it holds
unfoldable pub deque_in : Table → ℕ → List ℕ → Arrays → Totals → Worker → Outcome
deque_in T K parents A totals worker =
    let t : ℕ = worker.thread in
    let a : ℕ = action_in A t in
    pick (ltb t max_threads) (deque_by (kind T a) T K parents t a (T.argument a) A totals worker) (unfit A totals worker)

-- ---- a steal

-- the bottoms once b is stolen: the thread left of it in the lines, if it is of the same line, is a bottom now; b stands already where the thief's deque belongs
unfoldable pub robbed_links : ℕ → Arrays → Totals → Links
robbed_links b A totals =
    let x : ℕ = get_or A.left b 0 in
    pick (ltb x no_thread && not (linked_in (second_of A totals) x)) (link_left x b (second_of A totals)) (second_of A totals)

abbrev pub robbed_arrays : ℕ → Arrays → Totals → Arrays
robbed_arrays b A totals = relinked (links_of A totals) (robbed_links b A totals) (with_statuses (set A.status b held) A)

abbrev pub robbed_totals : ℕ → Arrays → Totals → Totals
robbed_totals b A totals = headed (links_of A totals) (robbed_links b A totals) totals

-- the bottom at place c, looked for over at most c < 16 links; "if there is none or it is empty, the turn is idle"
unfoldable pub steal_on : Table → ℕ → List ℕ → ℕ → Arrays → Totals → Worker → Outcome
steal_on T K parents c A totals worker =
    let b : ℕ = along_by c A.over totals.first in
    let acts : Outcome = deque_in T K parents (robbed_arrays b A totals) (robbed_totals b A totals) (record { holds = true; thread = b; quota = K }) in
    let there : Outcome = pick acts.fits acts (unfit A totals worker) in
    pick (ltb c max_workers) (pick (ltb b no_thread && eqb (get_or A.status b 0) ready) there (moved Idle A totals worker)) (unfit A totals worker)

unfoldable pub deque_on : Table → ℕ → List ℕ → ℕ → Arrays → Totals → Worker → Outcome
deque_on T K parents c A totals worker =
    let steals : Outcome = steal_on T K parents c A totals worker in
    let acts : Outcome = deque_in T K parents A totals worker in
    pick worker.holds acts steals

-- with what the turn counts
unfoldable pub deque_turn_on : Table → ℕ → List ℕ → ℕ → ℕ → Arrays → Moved → Worker → Left
deque_turn_on T K parents w c A m worker =
    let o : Outcome = deque_on T K parents c A m.totals worker in
    pick (room_for m.turns m.busy worker.holds w && o.fits) (counting w m worker o) (unmoved A m worker)
