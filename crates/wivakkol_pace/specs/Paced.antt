-- The paced turn: a turn that the pace does not let through is refused, and one that is taken is counted.
use Rattle.std.specs.Prelude.{ℕ, List, get_or, eqb, ⊤, Result, Ok, Err}
use Rattle.table.specs.Sum.{pick}
use Rattle.schedule.specs.declared.Reply.TheVariants.{Idle}
use Rattle.run_memory.specs.Memory.{Memory, Answer, answer, no_row, reply_row, moved_in, hindrance, Told, told, turn_in, passed_over, unless}
use Rattle.pace.specs.Pace.{may_number, took}

-- what hinders a turn of worker w in a run: 32, 30, 31; 0 where nothing does
abbrev pub hindrance_in : Memory → ℕ → ℕ
hindrance_in M w = hindrance (moved_in M).turns (get_or M.settings 0 0) w (get_or M.arrays.status 0 0)

-- with which number the pace holds back a turn that nothing else hinders: what `wivakkol_may` says of it, 30 where the pace has no such worker and 60 where the turn would break the rule with b.
-- A run that is over says so first
abbrev pub stopped : ℕ → List ℕ → ℕ → ℕ
stopped number P w = pick (eqb number 0) (may_number P w) 0

-- the same of answers: what hinders the turn otherwise, and what the pace says after it
abbrev pub held_after : Result ⊤ ℕ → List ℕ → ℕ → Result ⊤ ℕ
held_after (Ok _) P w = unless (may_number P w)
held_after (Err n) P w = Ok tt

unfoldable pub held_back : ℕ → Memory → List ℕ → ℕ
held_back w M P = stopped (hindrance_in M w) P w

-- number, reply and memory, and the pace
pub record PacedTold : Type 0 where
  pub told : Told
  pub pace : List ℕ

abbrev pub paced_told : Told → List ℕ → PacedTold
paced_told t P = record { told = t; pace = P }

-- the turn (crates/run_memory/specs/Memory), counted where it is taken; or held back, and then nothing changes
unfoldable pub paced_in : List ℕ → ℕ → Memory → List ℕ → PacedTold
paced_in s w M P =
    let t : Told = turn_in s w M in
    let number : ℕ = held_back w M P in
    pick (eqb number 0) (paced_told t (pick (eqb t.number 0) (took P w) P)) (paced_told (told number Idle M) P)

-- the answer, as of a turn, and the pace
pub record Kept : Type 0 where
  pub answer : Answer
  pub pace : List ℕ

abbrev pub kept : Answer → List ℕ → Kept
kept a P = record { answer = a; pace = P }

-- the paced turn as C calls it, with how many threads stood left of one taken
unfoldable pub paced_turn : List ℕ → ℕ → Memory → List ℕ → Kept
paced_turn s w M P =
    let t : PacedTold = paced_in s w M P in
    kept (answer t.told.number (pick (eqb t.told.number 0) (reply_row t.told.reply (passed_over M w)) no_row) t.told.memory) t.pace
