-- The paper's numbers and values for each case of the answers.
use Rattle.std.specs.Prelude.{ℕ, Err, Ok, Result, ⊤}
use Rattle.schedule.specs.declared.Taken.{Taken}
use Rattle.table.specs.declared.Refusal.{Refusal}
use Rattle.schedule.specs.declared.Reply.{Reply}
use Rattle.schedule.specs.declared.Reply.TheVariants.{Idle, Done, Quota, Wait}
use Rattle.schedule.specs.declared.Report.{Report}
use Rattle.schedule.specs.declared.Report.TheVariants.{Finished, Spent, Refused}

-- "The turn's reply says idle, done (thread, action), quota (thread, amount wanted) or wait (thread, child)"
pub data Said : Type 0 where
  nothing idle done quota wait begun finished spent : Said

-- number and place of a refusal, 0 and 0 where there is none; what is said; the thread; the action, amount or child; how many threads stood left of one taken; the turns taken, by a single turn or a run
pub record Values : Type 0 where
  pub number : ℕ
  pub place : ℕ
  pub said : Said
  pub thread : ℕ
  pub value : ℕ
  pub passed : ℕ
  pub turns : ℕ

abbrev pub saying : Said → ℕ → ℕ → ℕ → Values
saying x thread value turns = record { number = 0; place = 0; said = x; thread = thread; value = value; passed = 0; turns = turns }

abbrev pub refusing : Refusal → ℕ → Values
refusing x turns = record { number = x.number; place = x.place; said = nothing; thread = 0; value = 0; passed = 0; turns = turns }

abbrev pub reply_values : Reply → Values
reply_values Idle = saying idle 0 0 1
reply_values (Done t a) = saying done t a 1
reply_values (Quota t x) = saying quota t x 1
reply_values (Wait t c) = saying wait t c 1

abbrev pub beginning_values : Result ⊤ Refusal → Values
beginning_values (Ok _) = saying begun 0 0 0
beginning_values (Err x) = refusing x 0

-- with how many threads a turn passed over (N7)
abbrev pub passing : ℕ → Values → Values
passing k v =
    record { number = v.number; place = v.place; said = v.said; thread = v.thread; value = v.value; passed = k; turns = v.turns }

abbrev pub turning_values : Result Taken Refusal → Values
turning_values (Ok t) = passing t.passed (reply_values t.reply)
turning_values (Err x) = refusing x 0

-- "replies finished if the root has then ended, spent if not, with their number"; "A run of either sort stopped by a refusal gives it, the number of turns before it"
abbrev pub report_values : Report → Values
report_values (Finished k) = saying finished 0 0 k
report_values (Spent k) = saying spent 0 0 k
report_values (Refused k x) = refusing x k
