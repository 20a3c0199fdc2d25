-- What single turns answer on document 01's worked cases that bear a star, and on a row of our own, as two tables with one theorem over both, computed on the definitions.
use Rattle.std.specs.Prelude.{◌≡◌, refl, ℕ, List, [], ◌∷◌, map, Err, Ok, Result, ⊤}
use Rattle.table.specs.declared.Refusal.{Refusal}
use Rattle.table.specs.Sum.{sum_to, any_below}
use Rattle.table.specs.Format.{code_of, kind_of, is, table_of}
use Rattle.table.specs.Pass.{refusal, try_at, try_from, try_pass, first_found}
use Rattle.table.specs.Checks.{entry_wrong, total_wrong, owner_below, kind_unknown, argument_wrong, end_misplaced, forked_below, forked_before}
use Rattle.table.specs.Checks.{open_before, join_not_latest, end_with_open, never_forked, alloc_of, free_of, whole_within, balance, balance_below0, passes}
use Rattle.table.specs.Level.{fork_below}
use Rattle.table.specs.Cases.{E, two_allocs}
use Rattle.schedule.specs.declared.Run.{Run}
use Rattle.schedule.specs.declared.Turned.{Turned}
use Rattle.schedule.specs.Machine.{left_of, without, waits_for, woken, act_by, act, leftmost, taken, turn_free, turn_of, passed_by}
use Rattle.schedule.specs.Record.{set_of}
use Rattle.schedule.specs.Begin.{start_state, start_run, begin}
use Rattle.filling.specs.Filled.{big, filled_out, overfull}
use Rattle.order.specs.Firsts.{firsts}
use Rattle.schedule.specs.Links.{walk, right_in}
use Rattle.schedule.specs.Turn.{root_ended, no_worker, step_run, passed_in}
use Rattle.schedule.specs.Answers.{idle, done, quota, wait, Values, saying, refusing, passing, turning_values}
use Rattle.schedule.specs.Cases.{turned_sound, order_e, order_wait, order_later}

-- the values of worker w's turn after the turns of an order
abbrev pub said_after : (Run → ℕ → Turned) → Run → List ℕ → ℕ → Values
said_after turn r [] w = turning_values (turn r w).answer
said_after turn r (v ∷ order) w = said_after turn (turn r v).run order w

abbrev pub begin_saying : Result ⊤ Refusal → Values → Values
begin_saying (Ok _) x = x
begin_saying (Err y) x = refusing y 0

-- the table's bytes, p, K, an order of workers, the worker of the turn after it, and what that turn says
pub record TurnCase : Type 0 where
  pub bytes : List ℕ
  pub workers : ℕ
  pub quota : ℕ
  pub order : List ℕ
  pub worker : ℕ
  pub values : Values

abbrev pub says : List ℕ → ℕ → ℕ → List ℕ → ℕ → Values → TurnCase
says s p K order w x = record { bytes = s; workers = p; quota = K; order = order; worker = w; values = x }

abbrev pub said_by : (Run → ℕ → Turned) → TurnCase → Values
said_by turn c =
    begin_saying (begin c.bytes c.workers c.quota).answer (said_after turn (begin c.bytes c.workers c.quota).run c.order c.worker)

-- the rows that bear a star
unfoldable pub turn_cases : List TurnCase
unfolding code_of
turn_cases =
    -- "alloc 4, alloc 4, end, K 6, p 1: the second turn says quota": thread 0, amount wanted 4
    says two_allocs 1 6 (0 ∷ []) 0 (saying quota 0 4 1)
    -- "E, p 2, order 0 1 0 1 1 1 1 0: the last turn says wait. Worker 2 instead: 30. A turn after `done`: 31": thread 0, child 2; thread 2, held, stands left of it
    ∷ says E 2 6 order_wait 0 (passing 1 (saying wait 0 2 1))
    ∷ says E 2 6 order_wait 2 (refusing (refusal 30 0) 0)
    ∷ says E 2 6 order_e 0 (refusing (refusal 31 0) 0)
    ∷ []

-- Our own, with no star. The wait above names child 2 at action 2; here it is child 1 at action 3, so that a reply with the action for the child would show.
unfoldable pub own_turns : List TurnCase
unfolding code_of
own_turns =
    says E 2 6 order_later 0 (saying wait 0 1 1)
    -- N7: worker 0 passes over thread 1, which is held, and its fork of thread 2 does not count; with none ready the turn is idle and passes over none
    ∷ says E 2 6 (0 ∷ 1 ∷ []) 0 (passing 1 (saying done 0 1 1))
    ∷ says E 2 6 (0 ∷ 1 ∷ 0 ∷ 1 ∷ 0 ∷ 1 ∷ 0 ∷ 1 ∷ 0 ∷ 1 ∷ []) 0 (saying idle 0 0 1)
    ∷ []

-- every row's turn says what the row says; turns are those of a sound record, which they are on every row (`said_turned`, proofs/CaseLaws)
abbrev pub Says : (Run → ℕ → Turned) → List TurnCase → Type 0
Says turn l = map (said_by turn) l ≡ map (λ (c : TurnCase). c.values) l

pub said_worked : Says turned_sound turn_cases × Says turned_sound own_turns
unfolding turn_cases own_turns sum_to any_below code_of kind_of is table_of try_at try_from try_pass first_found entry_wrong total_wrong owner_below kind_unknown argument_wrong end_misplaced forked_below forked_before open_before join_not_latest end_with_open never_forked alloc_of free_of whole_within balance balance_below0 passes fork_below left_of without waits_for woken act_by act leftmost taken turn_free turn_of set_of big overfull filled_out firsts walk right_in start_state start_run begin root_ended no_worker step_run passed_by passed_in
said_worked = (refl, refl)
