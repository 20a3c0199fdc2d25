-- Rows of turns of DFDeques on E, computed on the definitions.
use Rattle.std.specs.Prelude.{◌≡◌, refl, ℕ}
use mathlib.Core.List.{List, [], ◌∷◌, map, flatten}
use Rattle.table.specs.Sum.{sum_to, any_below}
use Rattle.table.specs.Format.{code_of, kind_of, is, table_of}
use Rattle.table.specs.Checks.{owner_below, alloc_of}
use Rattle.table.specs.Level.{fork_below}
use Rattle.table.specs.Serial.{serial_within}
use Rattle.table.specs.Written.{entry_rows, action_rows, table_rows, written}
use Rattle.table.specs.Cases.{E}
use Rattle.filling.specs.Filled.{big, dummies, new_threads, tree_of, sum_before, root_of, filled_from, old_bodies, trees_along, filled_bodies, filled_out}
use Rattle.order.specs.Firsts.{firsts}
use Rattle.schedule.specs.declared.Reply.{Reply}
use Rattle.schedule.specs.declared.Reply.TheVariants.{Idle, Done, Quota, Wait}
use Rattle.schedule.specs.Machine.{left_of, without, waits_for, woken, act_by, act, taken}
use Rattle.schedule.specs.Begin.{start_state}
use Rattle.deques.specs.Deques.{Deques, start_deques, DequeStep, bottom, above, place_of, own, robbed, goes_on, let_go, act_deques, steal, deque_turn}

-- what a row of turns says, and what is held and was held at most after it
pub record Said : Type 0 where
  pub replies : List Reply
  pub held : ℕ
  pub highest : ℕ

-- the turns of a list, two numbers a turn, worker and choice
abbrev pub said_from : List ℕ → ℕ → Deques → List ℕ → Said
said_from s K d [] = record { replies = []; held = d.state.held; highest = d.state.highest }
said_from s K d (w ∷ []) = record { replies = []; held = d.state.held; highest = d.state.highest }
said_from s K d (w ∷ c ∷ l) =
    let step : DequeStep = deque_turn (table_of s) K w c d in
    let rest : Said = said_from s K step.after l in
    record { replies = step.reply ∷ rest.replies; held = rest.held; highest = rest.highest }

-- a table as given, K, an order, and what it says on the filled-out table
pub record DequeCase : Type 0 where
  pub bytes : List ℕ
  pub quota : ℕ
  pub order : List ℕ
  pub says : Said

abbrev pub row : ℕ → List ℕ → List Reply → ℕ → DequeCase
row K order replies highest = record { bytes = E; quota = K; order = order; says = record { replies = replies; held = 0; highest = highest } }

unfoldable pub deque_cases : List DequeCase
unfolding code_of
deque_cases =
    -- turn 1 steals the root; 2 finds no deque at place 1; 6 goes on with the top thread, quota 0; 7 and 12 find a deque without a thread; 9 stops; 10 steals the bottom, which waits; 14 wakes thread 0
    row 6 (0 ∷ 0 ∷ 1 ∷ 1 ∷ 0 ∷ 0 ∷ 0 ∷ 0 ∷ 0 ∷ 0 ∷ 0 ∷ 0 ∷ 1 ∷ 0 ∷ 0 ∷ 0 ∷ 0 ∷ 0 ∷ 1 ∷ 0 ∷ 1 ∷ 0 ∷ 0 ∷ 0 ∷ 1 ∷ 0 ∷ 1 ∷ 0 ∷ 1 ∷ 0 ∷ 1 ∷ 0 ∷ 1 ∷ 0 ∷ [])
    (Done 0 0 ∷ Idle ∷ Done 1 5 ∷ Done 1 6 ∷ Done 1 7 ∷ Done 1 8 ∷ Idle ∷ Done 0 1 ∷ Quota 2 6 ∷ Wait 0 2 ∷ Done 2 9 ∷ Idle ∷ Done 2 10 ∷ Done 2 11 ∷ Done 0 2 ∷ Done 0 3 ∷ Done 0 4 ∷ [])
    6
    -- turn 2 robs a deque that is owned
    ∷ row 6 (0 ∷ 0 ∷ 1 ∷ 0 ∷ 0 ∷ 0 ∷ 1 ∷ 0 ∷ 0 ∷ 0 ∷ 1 ∷ 0 ∷ 0 ∷ 0 ∷ 1 ∷ 0 ∷ 0 ∷ 0 ∷ 1 ∷ 0 ∷ 1 ∷ 0 ∷ 1 ∷ 0 ∷ [])
    (Done 0 0 ∷ Done 0 1 ∷ Done 1 5 ∷ Done 2 9 ∷ Done 1 6 ∷ Done 2 10 ∷ Done 1 7 ∷ Done 2 11 ∷ Done 1 8 ∷ Done 0 2 ∷ Done 0 3 ∷ Done 0 4 ∷ [])
    12
    -- allocs above K (N6): the dummies run like any other thread, and the allocs of 6 are done with quota 5
    ∷ row 5
    (0 ∷ 0 ∷ 1 ∷ 0 ∷ 0 ∷ 0 ∷ 1 ∷ 0 ∷ 0 ∷ 0 ∷ 1 ∷ 0 ∷ 0 ∷ 0 ∷ 1 ∷ 0 ∷ 0 ∷ 0 ∷ 1 ∷ 0 ∷ 0 ∷ 0 ∷ 1 ∷ 0 ∷ 0 ∷ 0 ∷ 1 ∷ 0 ∷ 0 ∷ 0 ∷ 1 ∷ 0 ∷ 0 ∷ 0 ∷ 1 ∷ 0 ∷ 0 ∷ 0 ∷ 1 ∷ 0 ∷ 0 ∷ 0 ∷ 1 ∷ 0 ∷ 0 ∷ 0 ∷ 1 ∷ 0 ∷ 0 ∷ 0 ∷ 1 ∷ 0 ∷ 0 ∷ 0 ∷ 1 ∷ 0 ∷ 0 ∷ 0 ∷ 1 ∷ 0 ∷ 0 ∷ 0 ∷ 1 ∷ 0 ∷ 1 ∷ 0 ∷ 1 ∷ 0 ∷ [])
    (Done 0 0 ∷ Done 0 1 ∷ Done 1 5 ∷ Done 2 11 ∷ Done 3 16 ∷ Done 6 25 ∷ Done 4 21 ∷ Done 7 30 ∷ Done 4 22 ∷ Done 7 31 ∷ Done 3 17 ∷ Done 6 26 ∷ Done 5 23 ∷ Done 8 32 ∷ Done 5 24 ∷ Done 8 33 ∷ Done 3 18 ∷ Done 6 27 ∷ Done 3 19 ∷ Done 6 28 ∷ Done 3 20 ∷ Done 6 29 ∷ Done 1 6 ∷ Done 2 12 ∷ Done 1 7 ∷ Done 2 13 ∷ Done 1 8 ∷ Done 2 14 ∷ Done 1 9 ∷ Done 2 15 ∷ Done 1 10 ∷ Done 0 2 ∷ Done 0 3 ∷ Done 0 4 ∷ [])
    12
    ∷ []

abbrev pub said_by : DequeCase → Said
said_by x = said_from (filled_out x.bytes x.quota) x.quota (start_deques (table_of (filled_out x.bytes x.quota))) x.order

pub deques_worked : map said_by deque_cases ≡ map (λ (x : DequeCase). x.says) deque_cases
unfolding deque_cases entry_rows action_rows table_rows written flatten kind_of code_of is table_of serial_within sum_to any_below alloc_of big dummies new_threads tree_of sum_before root_of filled_from old_bodies trees_along filled_bodies filled_out owner_below fork_below left_of without waits_for woken act_by act taken firsts start_state bottom above place_of own robbed goes_on let_go act_deques steal deque_turn
deques_worked = refl
