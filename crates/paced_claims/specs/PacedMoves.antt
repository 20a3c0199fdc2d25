-- Lists of paced calls by value, refused ones included: the record and the pace that they leave, and the row of the turns taken.
use Rattle.std.specs.Prelude.{ℕ, List, [], ◌∷◌, ◌++◌, take}
use Rattle.schedule.specs.declared.Run.{Run}
use Rattle.schedule.specs.Calls.{Call, turn, over_list, in_rounds, turns_in, turn_row}
use Rattle.pace.specs.Pace.{next_in}
use Rattle.pacing.specs.declared.Pace.{Pace}
use Rattle.pacing.specs.declared.PacedTurned.{PacedTurned}
use Rattle.pacing.specs.declared.PacedRan.{PacedRan}
use Rattle.pacing.specs.Pacing.{paced_turned, paced_list_run, paced_rounds_run}
use Rattle.pacing.specs.PacedValues.{Beside, beside}
use Rattle.paced_claims.specs.PacedCalls.{workers_of}

abbrev pub after_turn : PacedTurned → Beside
after_turn d = beside d.run d.pace

abbrev pub after_run : PacedRan → Beside
after_run d = beside d.run d.pace

-- what a call leaves
unfoldable pub paced_move : Call → Run → Pace → Beside
paced_move (turn w) r P = after_turn (paced_turned r P w)
paced_move (over_list l) r P = after_run (paced_list_run r P l)
paced_move (in_rounds limit) r P = after_run (paced_rounds_run r P limit)

-- so many turns in rounds, from the worker after that of the latest turn
abbrev pub rounds_row : ℕ → Pace → List ℕ
rounds_row n P = workers_of (λ i l. next_in l) 0 n P.numbers

-- the workers whose turns it took: of a single turn, its worker; of a run, as many as it reports
unfoldable pub move_row : Call → Run → Pace → List ℕ
move_row (turn w) r P = turn_row (paced_turned r P w).answer w
move_row (over_list l) r P = take (turns_in (paced_list_run r P l).report) l
move_row (in_rounds limit) r P = rounds_row (turns_in (paced_rounds_run r P limit).report) P

unfoldable pub paced_moves : List Call → Run → Pace → Beside
paced_moves [] r P = beside r P
paced_moves (c ∷ cs) r P = let z : Beside = paced_move c r P in paced_moves cs z.run z.pace

unfoldable pub moves_row : List Call → Run → Pace → List ℕ
moves_row [] r P = []
moves_row (c ∷ cs) r P = let z : Beside = paced_move c r P in move_row c r P ++ moves_row cs z.run z.pace
