-- Lists of calls of DFDeques, the record that they leave and the row of pairs that they lay end to end.
use Rattle.std.specs.Prelude.{ℕ, zero, suc, List, [], ◌∷◌, ◌++◌, Err, Ok, Result}
use Rattle.schedule.specs.declared.Reply.{Reply}
use Rattle.table.specs.declared.Refusal.{Refusal}
use Rattle.table.specs.Format.{Table}
use Rattle.schedule.specs.Calls.{turns_in}
use Rattle.deques.specs.declared.DequeRun.{DequeRun}
use Rattle.deques.specs.Deques.{Deques, deque_turn}
use Rattle.deques.specs.DequeTurn.{deque_turned}
use Rattle.deques.specs.DequeRuns.{Pair, pair, pair_at, pairs_run}

-- two calls move a record on: a single turn, a run over a list
pub data DequeCall : Type 0 where
  turn : ℕ → ℕ → DequeCall
  over_pairs : List ℕ → DequeCall

-- the record after a call
unfoldable pub after_deque_call : DequeCall → DequeRun → DequeRun
after_deque_call (turn w c) r = (deque_turned r w c).run
after_deque_call (over_pairs l) r = (pairs_run r l).run

abbrev pub deque_turn_row : Result Reply Refusal → Pair → List Pair
deque_turn_row (Ok x) g = g ∷ []
deque_turn_row (Err x) g = []

-- the pairs of k turns from turn i on
unfoldable pub pairs_from : (ℕ → Pair) → ℕ → ℕ → List Pair
pairs_from who i zero = []
pairs_from who i (suc k) = who i ∷ pairs_from who (suc i) k

-- the turns taken: of a single turn, its pair; of a run over a list, as many from the front as it reports
unfoldable pub pairs_of : DequeCall → DequeRun → List Pair
pairs_of (turn w c) r = deque_turn_row (deque_turned r w c).answer (pair w c)
pairs_of (over_pairs l) r = pairs_from (pair_at l) 0 (turns_in (pairs_run r l).report)

-- a whole list of calls
unfoldable pub after_deque_calls : List DequeCall → DequeRun → DequeRun
after_deque_calls [] r = r
after_deque_calls (c ∷ cs) r = after_deque_calls cs (after_deque_call c r)

unfoldable pub pairs_of_calls : List DequeCall → DequeRun → List Pair
pairs_of_calls [] r = []
pairs_of_calls (c ∷ cs) r = pairs_of c r ++ pairs_of_calls cs (after_deque_call c r)

-- the deques after the turns of a row, each as defined
unfoldable pub row_deques : Table → ℕ → Deques → List Pair → Deques
row_deques T K d [] = d
row_deques T K d (g ∷ row) = row_deques T K (deque_turn T K g.worker g.choice d).after row
