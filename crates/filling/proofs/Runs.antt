-- All that the requests say of the table that a beginning runs, where the table's own checks, 21 and 44 are silent.
use Rattle.std.specs.Prelude.{Ok}
use Prim.Native.Nat.{ℕ, ◌+◌, ◌≤◌}
use mathlib.Core.Path.{◌≡◌}
use mathlib.Core.List.{List}
use Rattle.table.specs.Sum.{sum_to}
use Rattle.table.specs.Format.{table_of}
use Rattle.table.specs.Pass.{try_pass}
use Rattle.table.specs.Load.{loaded, facts_of}
use Rattle.table.specs.Rules.{Rules}
use Rattle.table.specs.Serial.{S1}
use Rattle.table.proofs.Passes.{accepted_exactly}
use Rattle.order.proofs.Lawful.{Lawful, lawful}
use Rattle.filling.specs.Filled.{new_turns, filled_out, fill_pass, threads_to, actions_to}
use Rattle.order.specs.Turns.{turns_of}
use Rattle.filling.proofs.Delay.{drawn_cost, Delayed}
use Rattle.filling.proofs.Delayed.{fill_delayed}
use Rattle.filling.proofs.FilledTable.{Fits, room_exactly, fill_rules, fill_counts}
use Rattle.filling.proofs.Peak.{fill_peak}
use Rattle.filling.proofs.Turns.{fill_turns}

pub record Runs (s : List ℕ) (K : ℕ) : Type 0 where
  pub rules : Rules (filled_out s K)
  pub accepted : loaded (filled_out s K) ≡ Ok (facts_of (table_of (filled_out s K)))
  pub threads : (table_of (filled_out s K)).threads ≡ threads_to (table_of s) K (table_of s).actions
  pub actions : (table_of (filled_out s K)).actions ≡ actions_to (table_of s) K (table_of s).actions
  pub peak : S1 (table_of (filled_out s K)) ≡ S1 (table_of s)
  pub turns : turns_of (table_of (filled_out s K)) ≡ turns_of (table_of s) + sum_to (new_turns (table_of s) K) (table_of s).actions
  pub delayed : Delayed (table_of (filled_out s K)) (drawn_cost (table_of (filled_out s K)) K)

pub fill_runs : (s : List ℕ) (K : ℕ) → Rules s → 1 ≤ K → try_pass (fill_pass (table_of s) K) ≡ Ok tt → Runs s K
fill_runs s K r k e =
    let l : Lawful (table_of s) = lawful s r in
    let fits : Fits (table_of s) K = (room_exactly (table_of s) K l.few_threads l.few_actions).0 e in
    let (n, m) = fill_counts s K r k in
    let f : Rules (filled_out s K) = fill_rules s K r k fits in
    record {
      rules = f;
      accepted = (accepted_exactly (filled_out s K)).1 f;
      threads = n;
      actions = m;
      peak = fill_peak s K r k fits;
      turns = fill_turns s K r k fits;
      delayed = fill_delayed s K r k fits;
    }
