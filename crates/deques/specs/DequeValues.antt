-- The paper's numbers and values for each case of the answers of DFDeques, and the same from a call's checks, its turns and their replies, with no answer between (proofs/DequeAnswers). A
-- beginning's and a report's are AsyncDF's.
use Rattle.std.specs.Prelude.{ℕ, zero, suc, ◌-◌, ◌/◌, ◌^◌, List, [], ◌∷◌, Bool, true, false, ◌||◌, length, eqb, Err, Ok, Result, ⊤}
use Rattle.schedule.specs.declared.Reply.{Reply}
use Rattle.table.specs.declared.Refusal.{Refusal}
use Rattle.table.specs.Sum.{pick}
use Rattle.table.specs.Pass.{Check, or_else, try_at}
use Rattle.table.specs.Load.{if_found}
use Rattle.schedule.specs.Turn.{root_ended, no_worker}
use Rattle.schedule.specs.Answers.{finished, spent, Values, reply_values, refusing}
use Rattle.schedule.specs.Values.{said_values, first_that}
use Rattle.deques.specs.declared.DequeRun.{DequeRun}
use Rattle.deques.specs.DequeTurn.{unsound_deques, no_choice, deque_checks, step_deques}
use Rattle.deques.specs.DequeRuns.{Pair, pair_at, deque_moved}

-- the reply has no number of N7: it stays 0
abbrev pub deque_turning_values : Result Reply Refusal → Values
deque_turning_values (Ok x) = reply_values x
deque_turning_values (Err x) = refusing x 0

-- ---- a turn

-- 32, 30, 31, 49, or what the machine's reply says; a refused turn is not taken
unfoldable pub deque_turn_values : DequeRun → ℕ → ℕ → Values
deque_turn_values r w c =
    let found : Result ⊤ Refusal = try_at (deque_checks r w c) 0 in
    let reply : Values = reply_values (step_deques r w c).reply in
    said_values found reply.said reply.thread reply.value (if_found found 0 1)

-- ---- the turns of a run, of which the one after n turns is of the pair `who n`

-- the record after n turns
unfoldable pub after_pairs : (ℕ → Pair) → ℕ → DequeRun → DequeRun
after_pairs who zero r = r
after_pairs who (suc n) r = deque_moved (after_pairs who n r) (who n)

-- the checks before a turn: 32 where turns taken are 2^64 − 1, 30, 49
unfoldable pub pair_checks : DequeRun → Pair → List Check
pair_checks r g =
    record { number = 32; applies = λ i. eqb r.run.turns (2 ^ 64 - 1) }
    ∷ record { number = 30; applies = λ i. no_worker r.run g.worker }
    ∷ record { number = 49; applies = λ i. no_choice r g.choice }
    ∷ []

-- "a run stops at the root's end, a refusal": before a turn
unfoldable pub stops_before : DequeRun → Pair → Bool
stops_before r g = root_ended r.run || if_found (try_at (pair_checks r g) 0) true false

-- the turns that a run of at most k takes
unfoldable pub pairs_taken : (ℕ → Pair) → ℕ → DequeRun → ℕ
pairs_taken who k r = first_that (λ n. stops_before (after_pairs who n r) (who n)) k

-- what refuses the turn after them, if one is to go and the root has not ended
unfoldable pub pairs_stopped_by : (ℕ → Pair) → ℕ → DequeRun → Result ⊤ Refusal
pairs_stopped_by who k r =
    let n : ℕ = pairs_taken who k r in
    let left : DequeRun = after_pairs who n r in
    pick (eqb n k || root_ended left.run) (Ok tt) (try_at (pair_checks left (who n)) 0)

-- what the checks before the first turn have found is given
unfoldable pub driven_values : Result ⊤ Refusal → (ℕ → Pair) → ℕ → DequeRun → Values
driven_values before who k r =
    let n : ℕ = pairs_taken who k r in
    said_values (or_else before (pairs_stopped_by who k r)) (pick (root_ended (after_pairs who n r).run) finished spent) 0 0 (if_found before 0 n)

-- a run over a list, two bytes a turn
unfoldable pub pairs_values : DequeRun → List ℕ → Values
pairs_values r l = driven_values (try_at (record { number = 32; applies = λ i. unsound_deques r } ∷ []) 0) (pair_at l) (length l / 2) r
