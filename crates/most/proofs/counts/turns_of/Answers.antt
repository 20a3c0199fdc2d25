-- `most::counts::turns_of` meets its contract.
use mathlib.Core.Path.{◌≡◌}
use Prim.Native.Nat.{ℕ, ◌+◌, ◌-◌, ◌≤◌}
use native.Mathlib.Omega.{arith}
use mathlib.Core.List.{List}
use Rattle.table.specs.Sum.{Read}
use Rattle.table.specs.Format.{threads_of, actions_of, table_of}
use Rattle.order.specs.Turns.{turns_of}
use Rattle.most.specs.Code.Steps.{Counted}
use Rattle.most.proofs.counts.turns_of.Goals as goal

module _ (s : List ℕ) (n m : ℕ) (x : Read (threads_of s) 65536 n) (y : Read (actions_of s) 65536 m) where
  read : (n ≡ (table_of s).threads) × (Read (table_of s).actions 65536 m)
  unfolding table_of
  read = (x.value, y)

  module _ (threads actions : ℕ) (k : Counted (table_of s) threads actions) where
    more : (n ≤ threads) × (m ≤ actions)
    more = (omega (arith, read.0, k.more_threads), omega (arith, read.1.value, k.more_actions))

    all : (turns : ℕ) → Read (turns_of (table_of s)) 131072 turns
        → Read (turns_of (table_of s) + (threads - (table_of s).threads) + (actions - (table_of s).actions)) 150000 (turns + (threads - n) + (actions - m))
    all turns r =
        record {
          value = omega (arith, read.0, read.1.value, r.value);
          small = omega (arith, r.small, k.few_threads, k.few_actions);
        }

pub given_turns-requires : goal.given_turns-requires
given_turns-requires c = let both = read _ _ _ c.threads-n.ensures c.actions-m.ensures in record { n_value = both.0; read = both.1 }

pub overflow_sub-result : goal.overflow_sub-result
overflow_sub-result c = (more _ _ _ c.threads-n.ensures c.actions-m.ensures _ _ c.requires).0

pub overflow_sub-result-2 : goal.overflow_sub-result-2
overflow_sub-result-2 c = (more _ _ _ c.threads-n.ensures c.actions-m.ensures _ _ c.requires).1

pub returns : goal.returns
returns c = all _ _ _ c.threads-n.ensures c.actions-m.ensures _ _ c.requires _ c.given_turns.ensures
