-- A sound record (document 01, "A record is sound if .."): each clause of the paragraph as a test, the record of all of them, and one executable test.
use Rattle.std.specs.Prelude.{◌≡◌, ℕ, ◌+◌, ◌-◌, ◌^◌, ◌<◌, ◌≤◌, List, Bool, true, not, ◌&&◌, ◌||◌, length, get_or, ltb, leb, eqb, Ok}
use Rattle.table.specs.Sum.{pick, sum_to, any_below}
use Rattle.table.specs.Format.{is, Table, kind, table_of}
use Rattle.table.specs.declared.kinds.Kind.TheVariants.{Join as join}
use Rattle.table.specs.Pass.{first_found}
use Rattle.table.specs.Checks.{max_threads, owner, end_of, alloc_of, free_of, part_of, passes}
use Rattle.table.specs.Rules.{Rules}
use Rattle.table.specs.Level.{fork_below, depends_on}
use Rattle.schedule.specs.declared.Worker.{Worker}
use Rattle.schedule.specs.declared.Run.{Run}
use Rattle.schedule.specs.Machine.{State, unborn, held, waiting, ended, nobody}
use Rattle.schedule.specs.Record.{max_workers, max_bytes, set_of, bytes_of, table_in, links_in, list_in, state_of}
use Rattle.order.specs.Words.{all_below, all_in, member, count_below, agree, rises, is_nothing, same_list, filled}
use Rattle.order.specs.Order.{number_of}
use Rattle.order.specs.Firsts.{firsts}
use Rattle.schedule.specs.Links.{Links, laid}
use Rattle.schedule.specs.Begin.{setting_passes}

-- ---- what is done

-- an action is done: it stands before its thread's next action, or it is the end of an ended thread
unfoldable pub done_in : Table → List ℕ → List ℕ → ℕ → Bool
done_in T next status a =
    ltb a (get_or next (owner T a) 0) || (eqb a (get_or next (owner T a) 0) && eqb (get_or status (owner T a) 0) ended)

-- a thread that is forked and not ended
unfoldable pub live_in : List ℕ → ℕ → Bool
live_in status t = not (eqb (get_or status t 0) unborn) && not (eqb (get_or status t 0) ended)

-- what the actions done came to
abbrev pub of_done_in : Table → List ℕ → List ℕ → (ℕ → ℕ) → ℕ → ℕ
of_done_in T next status own a = pick (done_in T next status a) (own a) 0

abbrev pub sum_done_in : Table → List ℕ → List ℕ → (ℕ → ℕ) → ℕ
sum_done_in T next status own = sum_to (of_done_in T next status own) T.actions

-- ---- what each thread holds (N9)

-- how many actions of thread t are done
unfoldable pub progress_in : Table → List ℕ → List ℕ → ℕ → ℕ
progress_in T next status t = pick (eqb (get_or status t 0) ended) (T.count t) (get_or next t 0 - T.first t)

-- a join of thread t is done
unfoldable pub joined_in : Table → List ℕ → List ℕ → ℕ → Bool
joined_in T next status t = any_below (λ a. is join (kind T a) && (eqb (T.argument a) t && done_in T next status a)) T.actions

-- the allocs of the first k actions of thread t less the frees, those of the children joined by then with them; of an accepted table the difference never stops at 0 (`part_held`,
-- proofs/Peaks of crates/table)
abbrev pub balance_to : Table → ℕ → ℕ → ℕ
balance_to T t k = part_of T (alloc_of T) t k - part_of T (free_of T) t k

-- "the thread's balance so far, or .. 0 once it is joined"
unfoldable pub share_in : Table → List ℕ → List ℕ → ℕ → ℕ
share_in T next status t = pick (joined_in T next status t) 0 (balance_to T t (progress_in T next status t))

-- the shares of a table's threads, 0 from n on
unfoldable pub shares_in : Table → List ℕ → List ℕ → List ℕ
shares_in T next status = filled max_threads (firsts (share_in T next status) 0 T.threads)

-- ---- the same of a state

abbrev pub is_done : Table → State → ℕ → Bool
is_done T st a = done_in T st.next st.status a

abbrev pub of_done : Table → State → (ℕ → ℕ) → ℕ → ℕ
of_done T st own = of_done_in T st.next st.status own

abbrev pub sum_done : Table → State → (ℕ → ℕ) → ℕ
sum_done T st own = sum_done_in T st.next st.status own

abbrev pub progress : Table → State → ℕ → ℕ
progress T st = progress_in T st.next st.status

abbrev pub is_joined : Table → State → ℕ → Bool
is_joined T st = joined_in T st.next st.status

abbrev pub share : Table → State → ℕ → ℕ
share T st = share_in T st.next st.status

-- ---- the clauses that any kind of run over a table keeps, each over what it speaks of

-- "the next action of each thread below n lies in its own body"
unfoldable pub next_in_body : Table → List ℕ → ℕ → Bool
next_in_body T next t = leb (T.first t) (get_or next t 0) && leb (get_or next t 0) (end_of T t)

-- "no action is done before those it depends on"
unfoldable pub in_order : Table → List ℕ → List ℕ → ℕ → Bool
in_order T next status a = not (done_in T next status a) || all_in (done_in T next status) (depends_on T a)

-- "statuses .. follow from what is done": unborn while the fork is not done, the root never; ended at the end alone; one of the five. "An unborn thread's next action is its first" is no
-- test of its own: it follows from this test, `next_in_body` and `in_order`, since an action done of an unborn thread would be done before its fork (`unborn_first`, proofs/Soundness).
unfoldable pub status_follows : Table → List ℕ → List ℕ → ℕ → Bool
status_follows T next status t =
    agree (eqb (get_or status t 0) unborn) (ltb 0 t && not (done_in T next status (fork_below T T.actions t)))
    && ((not (eqb (get_or status t 0) ended) || eqb (get_or next t 0) (end_of T t)) && leb (get_or status t 0) ended)

-- "a thread waits only at a join of a child not ended"
unfoldable pub waits_at_join : Table → List ℕ → List ℕ → ℕ → Bool
waits_at_join T next status t =
    not (eqb (get_or status t 0) waiting)
    || (is join (kind T (get_or next t 0)) && not (eqb (get_or status (T.argument (get_or next t 0)) 0) ended))

-- the worker holds the thread
unfoldable pub holds_thread : List Worker → ℕ → ℕ → Bool
holds_thread workers t w = (get_or workers w nobody).holds && eqb (get_or workers w nobody).thread t

-- "every held thread has one worker"
unfoldable pub one_holder : List ℕ → List Worker → ℕ → Bool
one_holder status workers t = eqb (count_below (holds_thread workers t) max_workers) (pick (eqb (get_or status t 0) held) 1 0)

-- ".. below p, no other worker holds anything"; "quotas are at most K"; a worker holding nothing has 0 for both
unfoldable pub worker_right : ℕ → ℕ → ℕ → List Worker → ℕ → Bool
worker_right n p K workers w =
    pick (get_or workers w nobody).holds
    (ltb w p && (ltb (get_or workers w nobody).thread n && leb (get_or workers w nobody).quota K))
    (eqb (get_or workers w nobody).thread 0 && eqb (get_or workers w nobody).quota 0)

-- "held is allocs done less frees done"
unfoldable pub held_right : Table → List ℕ → List ℕ → ℕ → Bool
held_right T next status amount = eqb (amount + sum_done_in T next status (free_of T)) (sum_done_in T next status (alloc_of T))

-- "Threads from n on are unborn with next action 0"
unfoldable pub unused : List ℕ → List ℕ → ℕ → Bool
unused next status t = eqb (get_or status t 0) unborn && eqb (get_or next t 0) 0

-- ---- the clauses on the list

-- ".. and list follow from what is done": the live threads are in the list and no others
unfoldable pub list_follows : List ℕ → List ℕ → ℕ → Bool
list_follows status list t = agree (member t list) (live_in status t)

-- "the list in serial order": the places of the next actions in serial order rise from left to right
unfoldable pub in_serial_order : Table → List ℕ → List ℕ → Bool
in_serial_order T next list = rises (λ t. number_of T (get_or next t 0)) list

-- ---- a sound state, over an accepted table

-- what any kind of run keeps
pub record Common (T : Table) (p K : ℕ) (next status amounts : List ℕ) (workers : List Worker) (amount highest : ℕ) : Type 0 where
  pub next_size : length next ≡ max_threads
  pub status_size : length status ≡ max_threads
  pub worker_size : length workers ≡ max_workers
  pub placed : (t : ℕ) → t < T.threads → next_in_body T next t ≡ true
  pub ordered : (a : ℕ) → a < T.actions → in_order T next status a ≡ true
  pub statuses : (t : ℕ) → t < T.threads → status_follows T next status t ≡ true
  pub waits : (t : ℕ) → t < T.threads → waits_at_join T next status t ≡ true
  pub unused_threads : (t : ℕ) → T.threads ≤ t → t < max_threads → unused next status t ≡ true
  pub holders : (t : ℕ) → t < T.threads → one_holder status workers t ≡ true
  pub worker_each : (w : ℕ) → w < max_workers → worker_right T.threads p K workers w ≡ true
  pub held_right_lem : held_right T next status amount ≡ true
  -- "A record where an amount differs from the thread's balance so far, or from 0 once it is joined, is not sound" (N9)
  pub shares : amounts ≡ shares_in T next status
  pub above : amount ≤ highest

-- what a run with a list keeps besides
pub record Listed (T : Table) (next status list : List ℕ) : Type 0 where
  pub follows : (t : ℕ) → t < T.threads → list_follows status list t ≡ true
  pub threads_alone : all_in (λ t. ltb t T.threads) list ≡ true
  pub serial : in_serial_order T next list ≡ true

pub record SoundState (T : Table) (p K : ℕ) (st : State) : Type 0 where
  pub common : Common T p K st.next st.status st.amounts st.workers st.held st.highest
  pub listed : Listed T st.next st.status st.list

-- ---- a sound record

-- all clauses but the one on turns taken
pub record Steady (r : Run) : Type 0 where
  -- "its table passes 1 to 11 and its p and K pass 20 to 22", of which 22 "no longer occurs" (N6): a record's table counts as filled out already
  pub table : Rules (bytes_of r)
  pub settings : first_found (setting_passes r.workers r.quota) ≡ Ok tt
  pub state : SoundState (table_in r) r.workers r.quota (state_of r)
  -- "and the set agrees"
  pub set : r.busy ≡ set_of r.worker
  -- "unused parts are as fixed above", and the table's length is that of the part in use
  pub table_length : length (bytes_of r) ≡ r.length
  pub table_rest : r.table ≡ filled max_bytes (bytes_of r)
  -- "Soundness requires that the links describe that list" (N10): they are those of the list that is read off them
  pub links : links_in r ≡ laid (list_in r)

pub record Sound (r : Run) : Type 0 where
  pub steady : Steady r
  -- "turns taken is below 2^64 − 1"
  pub turns : r.turns < 2 ^ 64 - 1

-- ---- the test

unfoldable pub common : Table → ℕ → ℕ → List ℕ → List ℕ → List ℕ → List Worker → ℕ → ℕ → Bool
common T p K next status amounts workers amount highest =
    eqb (length next) max_threads
    && (eqb (length status) max_threads
    && (eqb (length workers) max_workers
    && (all_below (next_in_body T next) T.threads
    && (all_below (in_order T next status) T.actions
    && (all_below (status_follows T next status) T.threads
    && (all_below (waits_at_join T next status) T.threads
    && (all_below (λ t. ltb t T.threads || unused next status t) max_threads
    && (all_below (one_holder status workers) T.threads
    && (all_below (worker_right T.threads p K workers) max_workers
    && (held_right T next status amount
    && (same_list amounts (shares_in T next status)
    && leb amount highest)))))))))))

unfoldable pub listed : Table → List ℕ → List ℕ → List ℕ → Bool
listed T next status list =
    all_below (list_follows status list) T.threads && (all_in (λ t. ltb t T.threads) list && in_serial_order T next list)

-- the part that any kind of run over a table has in common, the table's own checks, 20 and 21 among it
unfoldable pub common_sound : List ℕ → ℕ → ℕ → List ℕ → List ℕ → List ℕ → List Worker → ℕ → ℕ → ℕ → Bool
common_sound s p K next status amounts workers set amount highest =
    is_nothing (first_found (passes s))
    && (is_nothing (first_found (setting_passes p K))
    && (common (table_of s) p K next status amounts workers amount highest
    && eqb set (set_of workers)))

unfoldable pub same_links : Links → Links → Bool
same_links k l = same_list k.left l.left && (same_list k.right l.right && eqb k.head l.head)

unfoldable pub sound : Run → Bool
sound r =
    common_sound (bytes_of r) r.workers r.quota r.next r.status r.amounts r.worker r.busy r.held r.highest
    && (listed (table_in r) r.next r.status (list_in r)
    && (eqb (length (bytes_of r)) r.length
    && (same_list r.table (filled max_bytes (bytes_of r))
    && (same_links (links_in r) (laid (list_in r))
    && ltb r.turns (2 ^ 64 - 1)))))
