-- Batches begun beyond an action: where a turn begins one, how many a row of turns begins, and which actions are enabled. A batch is what a worker does from taking a thread to releasing
-- it.
use mathlib.Core.Path.{◌≡◌}
use Prim.Native.Nat.{ℕ, ◌+◌, ◌<◌}
use mathlib.Core.List.{List, [], ◌∷◌}
use mathlib.Core.Bool.{Bool, not, ◌&&◌}
use mathlib.Core.Logic.{◌⊎◌}
use lib.ListN.{length, get_or}
use lib.Dec.{ltb, eqb}
use Rattle.table.specs.Sum.{pick}
use Rattle.table.specs.Format.{Table, kind}
use Rattle.table.specs.declared.kinds.Kind.TheVariants.{Join as join}
use Rattle.schedule.specs.Machine.{State, ready, held, ended, next_of, status_of, worker_of, leftmost, turn_of}
use Rattle.order.specs.Order.{number_of}

-- the action at which a free worker would begin a batch: the next one of the leftmost ready thread
abbrev pub start_action : State → ℕ
start_action st = next_of st (get_or st.list (leftmost st.status st.list) 0)

-- worker w begins a batch by its turn: it holds nothing and some thread is ready
unfoldable pub begins : ℕ → State → Bool
begins w st = not (worker_of st w).holds && not (eqb (leftmost st.status st.list) (length st.list))

-- 1 where the turn of w begins a batch beyond action v, at one of a higher 1DF-number
unfoldable pub begins_beyond : Table → ℕ → State → ℕ → ℕ
begins_beyond T w st v = pick (begins w st && ltb (number_of T v) (number_of T (start_action st))) 1 0

-- the number of batches that a row of turns begins beyond action v
unfoldable pub batches : Table → ℕ → State → List ℕ → ℕ → ℕ
batches T K st [] v = 0
batches T K st (w ∷ row) v = begins_beyond T w st v + batches T K (turn_of T K w st).state row v

-- An action is enabled: it is the next one of a thread that is ready or held, and where it is a join, its child has ended.
pub record Enabled (T : Table) (st : State) (t : ℕ) : Type 0 where
  pub below : t < T.threads
  pub taken : (status_of st t ≡ ready) ⊎ (status_of st t ≡ held)
  pub joined : kind T (next_of st t) ≡ join → status_of st (T.argument (next_of st t)) ≡ ended
