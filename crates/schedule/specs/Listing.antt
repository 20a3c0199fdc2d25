-- The listing of a run, line by line (document 01, "The turn listing"); its text is crates/listing's.
use Rattle.std.specs.Prelude.{ℕ, List, [], ◌∷◌, Bool, Err, Ok, Result}
use Rattle.table.specs.declared.Refusal.{Refusal}
use Rattle.schedule.specs.declared.Taken.{Taken}
use Rattle.table.specs.Sum.{pick}
use Rattle.table.specs.Format.{kind}
use Rattle.table.specs.declared.kinds.Kind.{Kind}
use Rattle.schedule.specs.declared.Run.{Run}
use Rattle.schedule.specs.declared.Turned.{Turned}
use Rattle.schedule.specs.declared.Reply.{Reply}
use Rattle.schedule.specs.declared.Reply.TheVariants.{Idle, Done, Quota, Wait}
use Rattle.schedule.specs.Machine.{next_of}
use Rattle.schedule.specs.Record.{table_in, state_of}
use Rattle.schedule.specs.Turn.{unsound, root_ended, turned}

-- what a turn says: nothing was done; the thread, its action and the action's kind; the thread and its action that was not done
pub data Told : Type 0 where
  idle : Told
  did : ℕ → ℕ → Kind → Told
  quota wait : ℕ → ℕ → Told

-- "Lines: turn from 1, worker, thread, action, the kind's name (or quota, wait, idle), held."
pub record Line : Type 0 where
  pub turn : ℕ
  pub worker : ℕ
  pub told : Told
  pub held : ℕ

abbrev pub line : ℕ → ℕ → Told → ℕ → Line
line i w x h = record { turn = i; worker = w; told = x; held = h }

-- "Last: `done` or, with the root not ended, `open`, with turns and peak; or `refused`, number, place."
pub data Last : Type 0 where
  done not_done refused : ℕ → ℕ → Last

pub record Listing : Type 0 where
  pub lines : List Line
  pub last : Last

abbrev pub listing : List Line → Last → Listing
listing l x = record { lines = l; last = x }

-- the action that a reply says was done, and the thread that it names; 0 where there is none
abbrev pub action_in : Reply → ℕ
action_in Idle = 0
action_in (Done t a) = a
action_in (Quota t x) = 0
action_in (Wait t c) = 0

abbrev pub thread_in : Reply → ℕ
thread_in Idle = 0
thread_in (Done t a) = t
thread_in (Quota t x) = t
thread_in (Wait t c) = t

-- what a reply tells, with the kind of the action done and the thread's next action
abbrev pub told_with : Reply → Kind → ℕ → Told
told_with Idle k a = idle
told_with (Done t d) k a = did t d k
told_with (Quota t x) k a = quota t a
told_with (Wait t c) k a = wait t a

-- "A quota or wait line names the action not done": its thread's next one
abbrev pub told_by : Reply → Run → Told
told_by x r = told_with x (kind (table_in r) (action_in x)) (next_of (state_of r) (thread_in x))

abbrev pub turn_then : Result Taken Refusal → ℕ → Run → Listing → Listing
turn_then (Ok t) w r rest = listing (line r.turns w (told_by t.reply r) r.held ∷ rest.lines) rest.last
turn_then (Err x) w r rest = listing [] (refused x.number x.place)

-- the last line where no turn is refused
abbrev pub last_with : Bool → ℕ → ℕ → Last
last_with ended turns peak = pick ended (done turns peak) (not_done turns peak)

abbrev pub last_of : Run → Last
last_of r = last_with (root_ended r) r.turns r.highest

-- turns of an order's workers, one after the other up to a refusal or to a record at which they stop
abbrev pub turns_by : (Run → Bool) → (Run → ℕ → Turned) → Run → List ℕ → Listing
turns_by stop turn r [] = listing [] (last_of r)
turns_by stop turn r (w ∷ order) = pick (stop r) (listing [] (last_of r)) (turn_then (turn r w).answer w (turn r w).run (turns_by stop turn (turn r w).run order))

-- the listing of turns of an order's workers up to the root's end, on any record whatever: "A call over many turns tests this first."
unfoldable pub list_turns : Run → List ℕ → Listing
list_turns r order = pick (unsound r) (listing [] (refused 32 0)) (turns_by root_ended turned r order)
