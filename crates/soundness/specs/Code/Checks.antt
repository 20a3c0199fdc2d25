-- What the code's tests of soundness say: each is one clause of the definition, over the parts of the record that it looks at.
use Rattle.std.specs.Prelude.{◌≡◌, ℕ, ◌+◌, ◌<◌, ◌≤◌, List, Bool, true, not, ◌&&◌, ◌||◌, ltb, eqb, length, get_or, replicate}
use Rattle.table.specs.Sum.{pick}
use Rattle.table.specs.Format.{is, Table, kind, table_of}
use Rattle.table.specs.declared.kinds.Kind.TheVariants.{Fork as fork, Join as join}
use Rattle.table.specs.Checks.{max_threads, owner, end_of}
use Rattle.table.specs.Rules.{Rules}
use Rattle.table.specs.Serial.{serial}
use Rattle.table.specs.Level.{fork_below}
use Rattle.schedule.specs.declared.Worker.{Worker}
use Rattle.schedule.specs.declared.Run.{Run}
use Rattle.schedule.specs.Machine.{held, ended}
use Rattle.schedule.specs.Links.{Links, list_of, laid}
use Rattle.schedule.specs.Record.{max_workers, max_bytes, bytes_of}
use Rattle.order.specs.Words.{filled, all_below, same_list}
use Rattle.schedule.specs.Sound.{done_in, next_in_body, in_order, status_follows, waits_at_join, unused, one_holder, worker_right, listed, same_links}
use Rattle.order.specs.Order.{number_of}

-- the bytes are an accepted table of n threads
pub record Accepted (s : List ℕ) (n : ℕ) : Type 0 where
  pub rules : Rules s
  pub threads : n ≡ (table_of s).threads

-- every next action lies in its thread's body
abbrev pub Placed : List ℕ → ℕ → List ℕ → Type 0
Placed s n next = all_below (next_in_body (table_of s) next) n ≡ true

-- each thread's fork
pub record Forks (T : Table) (forks : List ℕ) : Type 0 where
  pub size : length forks ≡ 1024
  pub right : (t : ℕ) → 0 < t → t < T.threads → get_or forks t 0 ≡ fork_below T T.actions t

-- the forks below action a are noted: at the thread that it forks, each has its number and its own thread
pub record Noted (T : Table) (forks parents : List ℕ) (a : ℕ) : Type 0 where
  pub fork_size_lem : length forks ≡ 1024
  pub parent_size : length parents ≡ 1024
  pub fork_right : (x : ℕ) → x < a → kind T x ≡ fork → get_or forks (T.argument x) 0 ≡ x
  pub parent_right : (x : ℕ) → x < a → kind T x ≡ fork → get_or parents (T.argument x) 0 ≡ owner T x
  pub root : get_or parents 0 0 ≡ 0
  pub unused : (t : ℕ) → T.threads ≤ t → get_or parents t 0 ≡ 0

-- action a of thread u is done
abbrev pub done_at : List ℕ → List ℕ → ℕ → ℕ → Bool
done_at next status u a = ltb a (get_or next u 0) || (eqb a (get_or next u 0) && eqb (get_or status u 0) ended)

-- the actions of thread u that are done stand before this one
abbrev pub done_to : List ℕ → List ℕ → ℕ → ℕ
done_to next status u = pick (eqb (get_or status u 0) ended) (get_or next u 0 + 1) (get_or next u 0)

-- "statuses .. follow from what is done": unborn while the fork is not done, the root never; by the table, and by what is noted
abbrev pub unborn_in : Table → List ℕ → List ℕ → ℕ → Bool
unborn_in T next status t = ltb 0 t && not (done_in T next status (fork_below T T.actions t))

abbrev pub unborn_at : List ℕ → List ℕ → List ℕ → List ℕ → ℕ → Bool
unborn_at forks parents next status t = ltb 0 t && not (done_at next status (get_or parents t 0) (get_or forks t 0))

-- where action a is a join, the child's end is done
abbrev pub join_done : Table → List ℕ → List ℕ → ℕ → Bool
join_done T next status a = not (is join (kind T a)) || done_in T next status (end_of T (T.argument a))

-- "no action is done before those it depends on", for the actions of thread t
unfoldable pub body_in_order : Table → List ℕ → List ℕ → ℕ → Bool
body_in_order T next status t = all_below (λ i. in_order T next status (T.first t + i)) (T.count t)

-- how many actions each thread and its children have
pub record Lengths (T : Table) (lengths : List ℕ) (u : ℕ) : Type 0 where
  pub size : length lengths ≡ 1024
  pub right : (t : ℕ) → u ≤ t → t < T.threads → get_or lengths t 0 ≡ length (serial T (T.first t))

-- the 1DF-number of each thread's next action
pub record Numbers (T : Table) (next numbers : List ℕ) : Type 0 where
  pub size : length numbers ≡ 1024
  pub right : (t : ℕ) → t < T.threads → get_or numbers t 0 ≡ number_of T (get_or next t 0)

-- the clauses on the threads, and on who holds them, as the code groups them: of a table of n threads
abbrev pub threads_sound : Table → ℕ → List ℕ → List ℕ → Bool
threads_sound T n next status =
    all_below (next_in_body T next) n
    && (all_below (in_order T next status) T.actions
    && (all_below (status_follows T next status) n
    && (all_below (waits_at_join T next status) n
    && all_below (λ t. ltb t n || unused next status t) max_threads)))

abbrev pub holders_sound : ℕ → ℕ → ℕ → List ℕ → List Worker → Bool
holders_sound n p K status workers = all_below (one_holder status workers) n && all_below (worker_right n p K workers) max_workers

-- "every held thread has one worker", by its status
abbrev pub holders_wanted : ℕ → ℕ
holders_wanted status = pick (eqb status held) 1 0

-- the clauses on the list that is read off links, and that they describe it (N10)
abbrev pub links_sound : Table → List ℕ → List ℕ → Links → Bool
links_sound T next status k =
    listed T next status (list_of k) && same_links k (laid (list_of k))

-- the clauses of a sound record on the copy of the table in it: its length, and the bytes past it
abbrev pub copy_sound : Run → Bool
copy_sound r = eqb (length (bytes_of r)) r.length && same_list r.table (filled max_bytes (bytes_of r))

-- the numbers of the blank record's threads are all 0
abbrev pub zero_arrays : List ℕ → List ℕ → List ℕ → List ℕ → List ℕ → Bool
zero_arrays next status amounts left right =
    same_list next (replicate max_threads 0)
    && (same_list status (replicate max_threads 0)
    && (same_list amounts (replicate max_threads 0)
    && (same_list left (replicate max_threads 0) && same_list right (replicate max_threads 0))))
