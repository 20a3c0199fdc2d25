-- A sound record of DFDeques: "sound by 01's rules and N9's, with these statements in place of those on the list".
use Rattle.std.specs.Prelude.{◌≡◌, ℕ, ◌-◌, ◌^◌, ◌<◌, List, [], ◌∷◌, ◌++◌, Bool, true, not, ◌&&◌, ◌||◌, length, ltb, eqb, Ok}
use Rattle.table.specs.Pass.{first_found}
use Rattle.table.specs.Rules.{Rules}
use Rattle.schedule.specs.declared.Worker.{Worker}
use Rattle.schedule.specs.Links.{laid}
use Rattle.schedule.specs.Record.{max_workers, max_bytes, set_of, bytes_of, table_in, links_in}
use Rattle.schedule.specs.Begin.{setting_passes}
use Rattle.schedule.specs.Sound.{Common, common_sound, same_links}
use Rattle.schedule.specs.Turn.{is_blank}
use Rattle.order.specs.Words.{all_below, all_in, same_list, filled}
use Rattle.deques.specs.declared.DequeRun.{DequeRun}
use Rattle.deques.specs.Deques.{Deque, unowned, is_empty}
use Rattle.deques.specs.Partition.{occurs, owned_by, ready_at, holds_at, PlacedDeques}
use Rattle.deques.specs.DequeRecord.{bottoms_in, deques_in, deques_of, lines_for, bottoms_for, blank_deques}

-- all clauses but the one on turns taken
pub record SteadyDeques (r : DequeRun) : Type 0 where
  -- "its table passes 1 to 11 and its p and K pass 20" and 21; a record's table counts as filled out already (N6)
  pub table : Rules (bytes_of r.run)
  pub settings : first_found (setting_passes r.run.workers r.run.quota) ≡ Ok tt
  pub common : Common (table_in r.run) r.run.workers r.run.quota r.run.next r.run.status r.run.amounts r.run.worker r.run.held r.run.highest
  -- "and the set agrees"
  pub set : r.run.busy ≡ set_of r.run.worker
  -- "unused parts are as fixed above", and the table's length is that of the part in use
  pub table_length : length (bytes_of r.run) ≡ r.run.length
  pub table_rest : r.run.table ≡ filled max_bytes (bytes_of r.run)
  -- "every thread of the table is exactly one of these ..", "A worker owns one deque while it holds a thread and otherwise none; a deque has .. an owner or a thread"
  pub placed : PlacedDeques (table_in r.run).threads r.run.status r.run.worker (deques_in r)
  -- the links describe the deques that are read off them
  pub lines : links_in r.run ≡ laid (lines_for (deques_of r))
  pub bottoms : bottoms_in r ≡ laid (bottoms_for (deques_of r))

pub record SoundDeques (r : DequeRun) : Type 0 where
  pub steady : SteadyDeques r
  -- "turns taken is below 2^64 − 1"
  pub turns : r.run.turns < 2 ^ 64 - 1

-- ---- the test

-- all threads that stand in deques
unfoldable pub threads_in : List Deque → List ℕ
threads_in [] = []
threads_in (d ∷ ds) = d.threads ++ threads_in ds

-- "a deque has at most one owner", of which there is one number, "and an owner or a thread"
unfoldable pub all_in_use : List Deque → Bool
all_in_use [] = true
all_in_use (d ∷ ds) = (ltb d.owner unowned || (eqb d.owner unowned && not (is_empty d.threads))) && all_in_use ds

unfoldable pub placed_deques : ℕ → List ℕ → List Worker → List Deque → Bool
placed_deques n status workers ds =
    all_below (λ t. eqb (occurs t ds) (ready_at status t)) n
    && (all_in (λ t. ltb t n) (threads_in ds)
    && (all_below (λ w. eqb (owned_by w ds) (holds_at workers w)) max_workers
    && all_in_use ds))

-- document 01's rules and N9's without those on the list: the part that any kind of run has in common, the copy of the table, turns taken
unfoldable pub record_sound : DequeRun → Bool
record_sound r =
    common_sound (bytes_of r.run) r.run.workers r.run.quota r.run.next r.run.status r.run.amounts r.run.worker r.run.busy r.run.held r.run.highest
    && (eqb (length (bytes_of r.run)) r.run.length
    && (same_list r.run.table (filled max_bytes (bytes_of r.run))
    && ltb r.run.turns (2 ^ 64 - 1)))

unfoldable pub deque_sound : DequeRun → Bool
deque_sound r =
    record_sound r
    && (placed_deques (table_in r.run).threads r.run.status r.run.worker (deques_in r)
    && (same_links (links_in r.run) (laid (lines_for (deques_of r)))
    && same_links (bottoms_in r) (laid (bottoms_for (deques_of r)))))

unfoldable pub is_blank_deques : DequeRun → Bool
is_blank_deques r =
    is_blank r.run && (same_list r.under blank_deques.under && (same_list r.over blank_deques.over && eqb r.first 0))
