-- The number and the values of each paced call from its checks, its turns and their replies, with no answer between. The answers' values are these: proofs/PacedAnswers.
use Rattle.std.specs.Prelude.{ℕ, zero, suc, List, [], ◌∷◌, ◌++◌, Bool, true, false, not, ◌&&◌, ◌||◌, length, get_or, ltb, leb, eqb, Ok, Result, ⊤}
use Rattle.table.specs.declared.Refusal.{Refusal}
use Rattle.table.specs.Sum.{pick}
use Rattle.table.specs.Pass.{Check, or_else, try_at}
use Rattle.table.specs.Load.{if_found}
use Rattle.schedule.specs.declared.Run.{Run}
use Rattle.schedule.specs.Turn.{unsound, root_ended, turn_checks, step_run, passed_in}
use Rattle.schedule.specs.Runs.{moved}
use Rattle.schedule.specs.Answers.{begun, finished, spent, Values, reply_values, passing}
use Rattle.schedule.specs.Values.{said_values, run_checks, first_that}
use Rattle.pace.specs.Pace.{workers_in, may, next_in}
use Rattle.pacing.specs.declared.Pace.{Pace}
use Rattle.pacing.specs.Pacing.{counted}

-- 20 and 41
unfoldable pub pace_checks : ℕ → ℕ → List Check
pace_checks p b = record { number = 20; applies = λ i. not (ltb 0 p && leb p 16) } ∷ record { number = 41; applies = λ i. not (ltb 0 b && leb b 65535) } ∷ []

unfoldable pub pace_values : ℕ → ℕ → Values
pace_values p b = said_values (try_at (pace_checks p b) 0) begun 0 0 0

-- 30 and 60: the pace has no such worker, or the turn would break the rule with b
abbrev pub lets_checks : Pace → ℕ → List Check
lets_checks P w = record { number = 30; applies = λ i. not (ltb w (workers_in P.numbers)) } ∷ record { number = 60; applies = λ i. not (may P.numbers w) } ∷ []

-- 32, 30, 31, then the pace's 30 and 60, or what the machine's reply says
unfoldable pub paced_turn_values : Run → Pace → ℕ → Values
paced_turn_values r P w =
    let found : Result ⊤ Refusal = try_at (turn_checks r w ++ lets_checks P w) 0 in
    let reply : Values = reply_values (step_run r w).reply in
    passing (if_found found 0 (passed_in r w)) (said_values found reply.said reply.thread reply.value (if_found found 0 1))

-- ---- the turns of a run, of which the one after n turns is that of worker `who n`, from the pace's numbers too

-- a record, and the pace beside it
pub record Beside : Type 0 where
  pub run : Run
  pub pace : Pace

abbrev pub beside : Run → Pace → Beside
beside r P = record { run = r; pace = P }

-- one turn more
abbrev pub turn_more : Beside → ℕ → Beside
turn_more g w = beside (moved g.run w) (counted g.pace w)

-- after n turns
unfoldable pub after_paced : (ℕ → List ℕ → ℕ) → ℕ → Beside → Beside
after_paced who zero g = g
after_paced who (suc n) g = let h : Beside = after_paced who n g in turn_more h (who n h.pace.numbers)

-- what refuses a turn of worker w: 32, 30, then the pace's 30 and 60
unfoldable pub paced_checks : Beside → ℕ → List Check
paced_checks g w = run_checks g.run w ++ lets_checks g.pace w

-- "a run stops at the root's end, a refusal": before a turn of worker w
unfoldable pub paced_stops : Beside → ℕ → Bool
paced_stops g w = root_ended g.run || if_found (try_at (paced_checks g w) 0) true false

-- the turns that a run of at most k takes
unfoldable pub paced_taken : (ℕ → List ℕ → ℕ) → ℕ → Beside → ℕ
paced_taken who k g = first_that (λ n. let h : Beside = after_paced who n g in paced_stops h (who n h.pace.numbers)) k

-- the report of a run of at most k turns: 32 first where the record is not sound; in rounds 30 on the blank one
unfoldable pub paced_run_values : (ℕ → List ℕ → ℕ) → Bool → ℕ → Beside → Values
paced_run_values who rounds k g =
    let n : ℕ = paced_taken who k g in
    let left : Beside = after_paced who n g in
    let before : Result ⊤ Refusal = try_at (record { number = 32; applies = λ i. unsound g.run } ∷ record { number = 30; applies = λ i. rounds && eqb g.run.workers 0 } ∷ []) 0 in
    let after : Result ⊤ Refusal = pick (eqb n k || root_ended left.run) (Ok tt) (try_at (paced_checks left (who n left.pace.numbers)) 0) in
    said_values (or_else before after) (pick (root_ended left.run) finished spent) 0 0 (if_found before 0 n)

unfoldable pub paced_list_values : Run → Pace → List ℕ → Values
paced_list_values r P l = paced_run_values (λ i n. get_or l i 0) false (length l) (beside r P)

unfoldable pub paced_rounds_values : Run → Pace → ℕ → Values
paced_rounds_values r P limit = paced_run_values (λ i n. next_in n) true limit (beside r P)
