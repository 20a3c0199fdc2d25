-- The head of what is written: checks 1 to 3.
use Rattle.std.specs.Prelude.{Ok}
use Prim.Native.Nat.{◌+◌, ◌*◌, ◌≤◌, ◌<◌}
use native.Mathlib.Omega.{arith}
use mathlib.Core.Path.{◌≡◌}
use mathlib.Core.List.{List, flatten}
use lib.ListN.{length}
use borrow.Author.Tests.{le-ltb, eq-eqb}
use Rattle.table.specs.Format.{threads_of, actions_of, table_of}
use Rattle.table.specs.Rules.{HeadRules}
use Rattle.table.specs.Load.{loaded, facts_of}
use Rattle.table.proofs.Passes.{accepted_exactly}
use Rattle.table.specs.Written.{Action, written}
use Rattle.parts.specs.Kept.{Keeps}
use Rattle.table.proofs.ReadBack.{threads_back, actions_back, bytes_length}

module _ (bs : List (List Action)) (some : 0 < length bs) (few : length bs ≤ 1024) (some_action : 0 < length (flatten bs)) (few_actions : length (flatten bs) ≤ 8192) where
  pub written_head : HeadRules (written bs)
  unfolding table_of
  written_head =
      let n : threads_of (written bs) ≡ length bs = threads_back bs in
      let m : actions_of (written bs) ≡ length (flatten bs) = actions_back bs in
      record {
        long = le-ltb (length (written bs)) 4 (omega (arith, bytes_length bs));
        ranged = rw (n, m, le-ltb (length bs) 1 some, le-ltb 1024 (length bs) few, le-ltb (length (flatten bs)) 1 some_action, le-ltb 8192 (length (flatten bs)) few_actions);
        sized = rw (n, m, eq-eqb (length (written bs)) (4 + 4 * length bs + 4 * length (flatten bs)) (bytes_length bs));
      }

  -- what is written within the limits is accepted where it keeps the other rules
  pub written_loaded : Keeps (table_of (written bs)) → loaded (written bs) ≡ Ok (facts_of (table_of (written bs)))
  written_loaded k =
      (accepted_exactly (written bs)).1
      (record { head = written_head; contents = k.contents; bodies = k.bodies; nesting = k.nesting; forking = k.forking; balances = k.balances })
