-- What a turn works on, the lent arrays, the totals and the worker's own record, as a state with that one worker; and what a sound run gives such a part.
use Rattle.std.specs.Prelude.{Ok}
use mathlib.Core.Path.{◌≡◌}
use Prim.Native.Nat.{ℕ, ◌<◌}
use mathlib.Core.List.{List, [], ◌∷◌}
use Rattle.table.specs.Sum.{pick}
use Rattle.table.specs.Format.{Table, table_of}
use Rattle.table.specs.Rules.{Rules}
use Rattle.table.specs.Pass.{first_found}
use Rattle.schedule.specs.declared.Worker.{Worker}
use Rattle.schedule.specs.Machine.{State, Stepped, stepped, worker_of, act, turn_free}
use Rattle.schedule.specs.Links.{laid, LinkedAs}
use Rattle.schedule.specs.Actives.{actives}
use Rattle.schedule.specs.Begin.{setting_passes}
use Rattle.schedule.specs.Sound.{SoundState}
use Rattle.array_machine.specs.declared.Totals.{Totals}
use Rattle.array_machine.specs.Arrays.{Arrays, links_of, second_of, listed_in}
use Rattle.array_machine.specs.Turn.{Outcome}

-- ---- as a state

-- the arrays, the totals and one worker as a state over a list
abbrev pub state_over : Arrays → List ℕ → Totals → Worker → State
state_over A list totals worker =
    record {
      next = A.next;
      status = A.status;
      amounts = A.amounts;
      list = list;
      workers = worker ∷ [];
      held = totals.held;
      highest = totals.highest;
      turns = 0;
    }

-- over the list that is read off the links
abbrev pub state_in : Arrays → Totals → Worker → State
state_in A totals worker = state_over A (listed_in A totals) totals worker

-- a turn before it is counted
unfoldable pub turn_body : Table → ℕ → ℕ → State → Stepped
turn_body T K w st = pick (worker_of st w).holds (act T K w st) (turn_free T K w st)

-- ---- of a sound run

-- both links describe their lists
pub record Chained (A : Arrays) (totals : Totals) : Type 0 where
  pub list_links : links_of A totals ≡ laid (listed_in A totals)
  pub second_links : LinkedAs (second_of A totals) (actives A.status (listed_in A totals))

-- what a turn leaves, before it is counted
pub record Went (T : Table) (K : ℕ) (A : Arrays) (totals : Totals) (worker : Worker) (o : Outcome) : Type 0 where
  pub body : stepped o.reply (state_in o.arrays o.totals o.worker) ≡ turn_body T K 0 (state_in A totals worker)
  pub chained : Chained o.arrays o.totals

-- the part belongs to worker w of a sound state over an accepted table
pub record Sits (s : List ℕ) (n K : ℕ) (A : Arrays) (totals : Totals) (worker : Worker) : Type 0 where
  pub rules : Rules s
  pub threads : n ≡ (table_of s).threads
  pub p : ℕ
  pub w : ℕ
  pub below : w < p
  pub settings : first_found (setting_passes p K) ≡ Ok tt
  pub state : State
  pub sound : SoundState (table_of s) p K state
  pub same_next : state.next ≡ A.next
  pub same_status : state.status ≡ A.status
  pub same_amounts : state.amounts ≡ A.amounts
  pub same_list : state.list ≡ listed_in A totals
  pub same_held : state.held ≡ totals.held
  pub same_highest : state.highest ≡ totals.highest
  pub own : worker_of state w ≡ worker
  pub chained : Chained A totals
